-- The texts of a block: they follow one another and fill the text part, so all of them are valid exactly where that part is valid and each of
-- them begins where a character may (`Pieces`).
--     texts-are       the tests of the definition, and those of the code
--     texts-first     the order of the tests
--     ascends-at, ascends-all   keys one after the other
-- Assumes nothing.
use Prim.Native.Nat.{ℕ, zero, suc, ◌+◌, ◌-◌, ◌≤◌, ◌<◌}
use native.Mathlib.Omega.{arith}
use native.Mathlib.Decide.{dec_lt}
use mathlib.Core.Path.{◌≡◌, refl, sym, ap, subst, ◌∙◌}
use mathlib.Core.List.{List}
use mathlib.Core.Bool.{Bool, true, false, not}
use lib.ListN.{length, get_or, take, drop, length-drop}
use lib.Seq.{get_or-drop}
use borrow.Author.Tests.{lt-ltb, le-ltb}
use Rattle.lists.specs.Pick.{pick}
use Rattle.lists.specs.Test.{Test, ◌equals◌, holds, ◌and◌, each, all_below, flag, claim}
use Rattle.lists.proofs.Laws.{pick_both}
use Rattle.lists.proofs.Tests.{all_more, says, answers}
use Rattle.text.specs.Utf8.{is_next, well_formed_bytes}
use Rattle.text.proofs.Boundaries.{Boundary, at_end}
use Rattle.block.specs.Decode.{headers_in, comments_in, text_place, stored_text, key_offset, key_length, value_offset, value_length, comment_offset, comment_length, key_of, value_of, comment_of}
use Rattle.text.specs.Text.{before}
use Rattle.block.specs.Sound.{valid, header_bytes, comment_bytes, ascends, header_test, comment_test}
use Rattle.block.proofs.Sums.{sum-none, sum_suc, sum_rises}
use Rattle.block.proofs.Cuts.{text-in}
use Rattle.block.proofs.Fitting.{by_truth}
use Rattle.block.proofs.Pieces.{starts_boundary, piece_valid, Whole, whole-starts, whole-end, piece_before}

-- a character may begin at a place
abbrev pub start_test : List ℕ → ℕ → Test
start_test b at = holds (not (is_next (get_or b at 0)))

-- the texts of a header entry, or a comment, stand where those before them end, and begin so
abbrev pub header_stands : List ℕ → ℕ → ℕ → Test
header_stands b t k =
    key_offset b k equals header_bytes b k
    and value_offset b k equals header_bytes b k + key_length b k
    and start_test b (t + header_bytes b k)
    and start_test b (t + (header_bytes b k + key_length b k))

abbrev pub comment_stands : List ℕ → ℕ → ℕ → Test
comment_stands b t k =
    comment_offset b k equals header_bytes b (headers_in b) + comment_bytes b k
    and start_test b (t + (header_bytes b (headers_in b) + comment_bytes b k))

-- ---- keys one after the other

-- a key that has a next one
pub ascends-at : (b : List ℕ) (k : ℕ) {x y : List ℕ} → x ≡ key_of b k → y ≡ key_of b (k + 1) → k + 1 < headers_in b → flag (ascends b k) ≡ before x y
ascends-at b k e f h = rw (lt-ltb (k + 1) (headers_in b) h, e, f)

-- the last key has no next one to come before
pub ascends-all : (b : List ℕ) (n k : ℕ) → n ≡ headers_in b → k ≤ n → n ≤ k + 1 → all_below (λ j. flag (ascends b j)) k ≡ true → flag (each (headers_in b) (ascends b)) ≡ true
ascends-all b n k e h l p = go (dec_lt k (headers_in b))
  where
    go : Dec (k < headers_in b) → flag (each (headers_in b) (ascends b)) ≡ true
    go (yes r) =
        let q : k + 1 ≡ headers_in b = omega arith in
        subst (λ (i : ℕ). all_below (λ j. flag (ascends b j)) i ≡ true) q
        (all_more (λ j. flag (ascends b j)) k p (rw (le-ltb (k + 1) (headers_in b) (omega arith))))
    go (no r) = let q : k ≡ headers_in b = omega arith in subst (λ (i : ℕ). all_below (λ j. flag (ascends b j)) i ≡ true) q p

-- ---- all texts

-- the tests of the texts may go before those of lines and entries
pub texts_first : (h l e c : Test) → flag (h and l and e and c) ≡ flag ((h and c) and l and e)
texts_first h l e c = go (flag h) (flag l) (flag e) (flag c)
  where
    go : (t u v w : Bool) → pick t (pick u (pick v w false) false) false ≡ pick (pick t w false) (pick u v false) false
    go false u v w = refl
    go true false v true = refl
    go true false v false = refl
    go true true true w = by_truth w (pick w true false) (λ e. rw e) (λ e. (pick_both w true e).0)
    go true true false true = refl
    go true true false false = refl

module _ (b : List ℕ) (fills : text_place b + header_bytes b (headers_in b) + comment_bytes b (comments_in b) ≡ length b) where
  -- the text part, and where the texts of header entry k and comment k begin in it
  abbrev S : List ℕ
  S = drop (text_place b) b

  abbrev hs : ℕ → ℕ
  hs = header_bytes b

  abbrev cs : ℕ → ℕ
  cs k = header_bytes b (headers_in b) + comment_bytes b k

  -- how long the part is
  s_length : length S ≡ cs (comments_in b)
  s_length = length-drop (text_place b) b ∙ omega arith

  -- a header entry, or a comment, lies in the part, and the next one follows
  header-within : (k : ℕ) → k < headers_in b → (hs k + key_length b k + value_length b k ≤ length S) × (hs (suc k) ≡ hs k + key_length b k + value_length b k)
  header-within k h =
      let e = sum_suc (λ j. key_length b j + value_length b j) k in
      let r = sum_rises (λ j. key_length b j + value_length b j) (suc k) (headers_in b) h in
      (omega (arith, e, r, s_length), omega (arith, e))

  comment-within : (k : ℕ) → k < comments_in b → (cs k + comment_length b k ≤ length S) × (cs (suc k) ≡ cs k + comment_length b k)
  comment-within k h =
      let e = sum_suc (λ j. comment_length b j) k in
      let r = sum_rises (λ j. comment_length b j) (suc k) (comments_in b) h in
      (omega (arith, e, r, s_length), omega (arith, e))

  -- the comments follow the header entries
  first-comment : cs 0 ≡ hs (headers_in b)
  first-comment = omega (arith, sum-none (λ j. comment_length b j))

  -- a text by its place in the part
  key_is : (k o : ℕ) → key_offset b k ≡ o → key_of b k ≡ take (key_length b k) (drop o S)
  unfolding key_of
  key_is k o e =
      ap (λ (i : ℕ). stored_text b i (key_length b k)) e ∙ sym (text-in b S refl o (key_length b k))

  value_is : (k o : ℕ) → value_offset b k ≡ o → value_of b k ≡ take (value_length b k) (drop o S)
  unfolding value_of
  value_is k o e =
      ap (λ (i : ℕ). stored_text b i (value_length b k)) e ∙ sym (text-in b S refl o (value_length b k))

  comment_is : (k o : ℕ) → comment_offset b k ≡ o → comment_of b k ≡ take (comment_length b k) (drop o S)
  unfolding comment_of
  comment_is k o e =
      ap (λ (i : ℕ). stored_text b i (comment_length b k)) e ∙ sym (text-in b S refl o (comment_length b k))

  -- a text is valid
  abbrev Valid : List ℕ → Type 0
  Valid l = well_formed_bytes l ≡ length l

  -- ---- where all texts are valid

  module _ (hv : claim (each (headers_in b) (header_test b))) (cv : claim (each (comments_in b) (comment_test b))) where
    comment-whole : (j k : ℕ) → k + j ≡ comments_in b → Whole S (cs k)
    comment-whole zero k e = whole-end S (cs k) (let q : k ≡ comments_in b = omega arith in ap cs q ∙ sym s_length)
    comment-whole (suc j) k e =
        let l : k < comments_in b = omega arith in
        let p = cv k l in
        let (w, n) = comment-within k l in
        piece_before S (cs k) (comment_length b k) w (subst Valid (comment_is k (cs k) p.0) p.1)
        (subst (Whole S) n (comment-whole j (suc k) (omega arith)))

    value-whole : (k : ℕ) → k < headers_in b → Whole S (hs (suc k)) → Whole S (hs k + key_length b k)
    value-whole k l w =
        let p = hv k l in
        let (i, n) = header-within k l in
        piece_before S (hs k + key_length b k) (value_length b k) i (subst Valid (value_is k (hs k + key_length b k) p.1.0) p.1.1.1.0) (subst (Whole S) n w)

    header-whole : (j k : ℕ) → k + j ≡ headers_in b → Whole S (hs k)
    header-whole zero k e =
        let q : k ≡ headers_in b = omega arith in
        subst (Whole S) (first-comment ∙ ap hs (sym q)) (comment-whole (comments_in b) 0 (omega arith))
    header-whole (suc j) k e =
        let l : k < headers_in b = omega arith in
        let p = hv k l in
        let (i, n) = header-within k l in
        piece_before S (hs k) (key_length b k) (omega arith) (subst Valid (key_is k (hs k) p.0) p.1.1.0) (value-whole k l (header-whole j (suc k) (omega arith)))

    -- so the part is valid
    all_valid : well_formed_bytes S ≡ length S
    all_valid = subst (Whole S) (sum-none (λ j. key_length b j + value_length b j)) (header-whole (headers_in b) 0 (omega arith))

    -- and a character begins at each
    begins : (at : ℕ) → at ≤ length S → Whole S at → not (is_next (get_or b (text_place b + at) 0)) ≡ true
    begins at h w = subst (λ (x : ℕ). not (is_next x) ≡ true) (get_or-drop (text_place b) b at 0) (whole-starts S at h w)

    headers_stand : claim (each (headers_in b) (header_stands b (text_place b)))
    headers_stand k l =
        let p = hv k l in
        let (i, n) = header-within k l in
        let w = header-whole (headers_in b - suc k) (suc k) (omega arith) in (
          p.0,
          (
            p.1.0,
            (
              begins (hs k) (omega arith) (header-whole (headers_in b - k) k (omega arith)),
              begins (hs k + key_length b k) (omega arith) (value-whole k l w),
            ),
          ),
        )

    comments_stand : claim (each (comments_in b) (comment_stands b (text_place b)))
    comments_stand k l =
        let (i, n) = comment-within k l in
        ((cv k l).0, begins (cs k) (omega arith) (comment-whole (comments_in b - k) k (omega arith)))

  -- ---- where each begins so

  module _ (v : well_formed_bytes S ≡ length S) (hv : claim (each (headers_in b) (header_stands b (text_place b)))) (cv : claim (each (comments_in b) (comment_stands b (text_place b)))) where
    boundary : (at : ℕ) → at ≤ length S → not (is_next (get_or b (text_place b + at) 0)) ≡ true → Boundary S at
    boundary at h e = starts_boundary S at h (subst (λ (x : ℕ). not (is_next x) ≡ true) (sym (get_or-drop (text_place b) b at 0)) e)

    comment_boundary : (k : ℕ) → k ≤ comments_in b → Boundary S (cs k)
    comment_boundary k h = go (dec_lt k (comments_in b))
      where
        go : Dec (k < comments_in b) → Boundary S (cs k)
        go (yes l) = let (w, n) = comment-within k l in boundary (cs k) (omega arith) (cv k l).1
        go (no l) = at_end (let q : k ≡ comments_in b = omega arith in ap cs q ∙ sym s_length)

    header_boundary : (k : ℕ) → k ≤ headers_in b → Boundary S (hs k)
    header_boundary k h = go (dec_lt k (headers_in b))
      where
        go : Dec (k < headers_in b) → Boundary S (hs k)
        go (yes l) = let (w, n) = header-within k l in boundary (hs k) (omega arith) (hv k l).1.1.0
        go (no l) = let q : k ≡ headers_in b = omega arith in subst (Boundary S) (first-comment ∙ ap hs (sym q)) (comment_boundary 0 (omega arith))

    -- so each is valid
    header-valid : (k : ℕ) → k < headers_in b → Valid (key_of b k) × Valid (value_of b k)
    header-valid k l =
        let p = hv k l in
        let (i, n) = header-within k l in
        let middle = boundary (hs k + key_length b k) (omega arith) p.1.1.1 in (
          subst Valid (sym (key_is k (hs k) p.0)) (piece_valid S (hs k) (key_length b k) v (omega arith) (header_boundary k (omega arith)) middle),
          subst Valid (sym (value_is k (hs k + key_length b k) p.1.0))
              (piece_valid S (hs k + key_length b k) (value_length b k) v i middle (subst (Boundary S) n (header_boundary (suc k) l))),
        )

    comment-valid : (k : ℕ) → k < comments_in b → Valid (comment_of b k)
    comment-valid k l =
        let (i, n) = comment-within k l in
        subst Valid (sym (comment_is k (cs k) (cv k l).0))
        (piece_valid S (cs k) (comment_length b k) v i (comment_boundary k (omega arith)) (subst (Boundary S) n (comment_boundary (suc k) l)))

  -- both ways
  pub texts_are : flag (each (headers_in b) (header_test b) and each (comments_in b) (comment_test b))
      ≡ flag (valid S and each (headers_in b) (header_stands b (text_place b)) and each (headers_in b) (ascends b) and each (comments_in b) (comment_stands b (text_place b)))
  texts_are = by_truth (flag tests) (flag stand) there back
    where
      tests : Test
      tests = each (headers_in b) (header_test b) and each (comments_in b) (comment_test b)

      stand : Test
      stand =
          valid S
          and each (headers_in b) (header_stands b (text_place b))
          and each (headers_in b) (ascends b)
          and each (comments_in b) (comment_stands b (text_place b))

      there : flag tests ≡ true → flag stand ≡ true
      there e =
          let (hv, cv) = says tests e in
          answers stand (all_valid hv cv, (headers_stand hv cv, (λ k l. (hv k l).1.1.1.1, comments_stand hv cv)))

      back : flag stand ≡ true → flag tests ≡ true
      back e =
          let (v, (hv, (up, cv))) = says stand e in
          answers tests (
            λ k l. let (p, q) = header-valid v hv cv k l in ((hv k l).0, ((hv k l).1.0, (p, (q, up k l)))),
            λ k l. ((cv k l).0, comment-valid v hv cv k l),
          )
