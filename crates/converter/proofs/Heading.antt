-- The lines of header entries as they grow: by one entry of the block, and by one leading key.
--     concat-rises                    what a run's parts add up to, one more at a time
--     numbered_more, numbered-same    the entries with a number, one entry later
--     lines_more, lines_same          their lines
--     number_in, line-in              an entry whose texts are given
--     lead-none, lead-some            the lines of one leading key more
--     PlacedTo                        the places of the leading keys among the first entries
--     then-fits, room-more            one text more, for which there is room
-- Assumes nothing.
use Prim.Native.Nat.{ℕ, zero, suc, ◌+◌, ◌-◌, ◌≤◌, ◌<◌}
use native.Mathlib.Nat.{zero-add}
use native.Mathlib.Omega.{arith}
use mathlib.Core.Path.{◌≡◌, refl, sym, ap, ◌∙◌}
use mathlib.Core.List.{List, [], ◌∷◌, ◌++◌, append-nil}
use mathlib.Core.Bool.{Bool, true, false}
use lib.ListN.{length, get_or, set, take, drop, replicate, length-append, length-set, get_or-replicate}
use lib.Seq.{get_or-set_same, get_or-set_other}
use lib.Dec.{eqb}
use borrow.Author.Tests.{eq-eqb, ne_eqb, eqb-true, eqb-false}
use Rattle.lists.specs.Pick.{pick}
use Rattle.lent.specs.Bytes.{Wrote}
use Rattle.jkf.specs.Model.{Header}
use Rattle.block.specs.Encode.{concat}
use Rattle.block.specs.Decode.{run, headers_in, header_in, key_of, text_place, key_offset, key_length, value_offset, value_length}
use Rattle.block.proofs.Cuts.{key_in, value_in}
use Rattle.block.proofs.Tabling.{run-add, run_snoc, concat-append, concat_snoc, concat-more}
use Rattle.block.specs.inner.Sounds.{Sound}
use Rattle.converter.specs.Headers.{leading_number, numbered, header_line, lines_of, range}
use Rattle.converter.specs.inner.Places.{placed_at, stored_headers, Placed}
use Rattle.converter.proofs.Keyed.{one_key}
use Rattle.converter.proofs.Ascending.{key-other}

-- ---- writing

-- the same text, buffer and count under other names
pub wrote_as : {t t' o o₁ o₂ : List ℕ} {n m : ℕ} → t' ≡ t → o₂ ≡ o₁ → m ≡ n → Wrote t o o₁ n → Wrote t' o o₂ m
wrote_as e f g w = rw (e, f, g) w

-- ---- an entry whose texts are given

module _ (b : List ℕ) (k : ℕ) {t key : List ℕ} (e : t ≡ drop (text_place b) b) (f : key ≡ take (key_length b k) (drop (key_offset b k) t)) where
  -- the number of its key
  pub number_in : leading_number (key_of b k) ≡ leading_number key
  number_in = ap leading_number (sym (f ∙ key_in b t e k))

  -- its line
  pub line-in : {value : List ℕ} → value ≡ take (value_length b k) (drop (value_offset b k) t) → header_line (record { key = key; value = value }) ≡ header_line (header_in b k)
  line-in {value} g =
      ap (λ (l : List ℕ). header_line (record { key = l; value = value })) (f ∙ key_in b t e k)
      ∙ ap (λ (l : List ℕ). header_line (record { key = key_of b k; value = l })) (g ∙ value_in b t e k)

-- ---- a run's parts

module _ {X Y : Type 0} (part : X → List Y) (f : ℕ → X) (k : ℕ) where
  -- the front of a run is no longer than the run
  pub concat_rises : (n m : ℕ) → n ≤ m → length (concat part (run f k n)) ≤ length (concat part (run f k m))
  concat_rises n m h =
      let e : m ≡ n + (m - n) = omega arith in
      let xs = run f k n in
      let ys = run f (k + n) (m - n) in
      let w = ap (λ (j : ℕ). length (concat part (run f k j))) e in
      let v = ap (λ l. length (concat part l)) (run-add f k n (m - n)) ∙ ap length (concat-append part xs ys) ∙ length-append (concat part xs) (concat part ys) in
      omega arith

-- ---- the entries with a number

-- of two lists of entries
numbered-append : (n : ℕ) (xs ys : List Header) → numbered n (xs ++ ys) ≡ numbered n xs ++ numbered n ys
unfolding numbered
numbered-append n [] ys = refl
numbered-append n (x ∷ xs) ys = go (eqb (leading_number x.key) n) (numbered-append n xs ys)
  where
    go : (u : Bool) → numbered n (xs ++ ys) ≡ numbered n xs ++ numbered n ys
        → pick u (x ∷ numbered n (xs ++ ys)) (numbered n (xs ++ ys)) ≡ pick u (x ∷ numbered n xs) (numbered n xs) ++ numbered n ys
    go true ih = ap (λ (l : List Header). x ∷ l) ih
    go false ih = ih

module _ (b : List ℕ) (n k : ℕ) where
  -- one entry more
  numbered_next : numbered n (run (header_in b) 0 (k + 1)) ≡ numbered n (run (header_in b) 0 k) ++ numbered n (header_in b k ∷ [])
  unfolding run
  numbered_next =
      ap (numbered n) (run-add (header_in b) 0 k 1 ∙ ap (λ (j : ℕ). run (header_in b) 0 k ++ (header_in b j ∷ [])) (zero-add k))
      ∙ numbered-append n (run (header_in b) 0 k) (header_in b k ∷ [])

  -- one with the number
  pub numbered_more : leading_number (key_of b k) ≡ n → numbered n (run (header_in b) 0 (k + 1)) ≡ numbered n (run (header_in b) 0 k) ++ (header_in b k ∷ [])
  unfolding numbered
  numbered_more e = numbered_next ∙ ap (λ (l : List Header). numbered n (run (header_in b) 0 k) ++ l) one
    where
      one : numbered n (header_in b k ∷ []) ≡ header_in b k ∷ []
      one = rw (eq-eqb _ _ e)

  -- one with another number
  pub numbered-same : (leading_number (key_of b k) ≡ n → ⊥) → numbered n (run (header_in b) 0 (k + 1)) ≡ numbered n (run (header_in b) 0 k)
  unfolding numbered
  numbered-same e = numbered_next ∙ ap (λ (l : List Header). numbered n (run (header_in b) 0 k) ++ l) none ∙ append-nil (numbered n (run (header_in b) 0 k))
    where
      none : numbered n (header_in b k ∷ []) ≡ []
      none = rw (ne_eqb _ _ e)

  -- the line of one with the number
  pub lines_more : leading_number (key_of b k) ≡ n → lines_of n (run (header_in b) 0 (k + 1)) ≡ lines_of n (run (header_in b) 0 k) ++ header_line (header_in b k)
  unfolding lines_of
  lines_more e = ap (concat header_line) (numbered_more e) ∙ concat_snoc header_line (numbered n (run (header_in b) 0 k)) (header_in b k)

  -- no line of one with another number
  pub lines_same : (leading_number (key_of b k) ≡ n → ⊥) → lines_of n (run (header_in b) 0 (k + 1)) ≡ lines_of n (run (header_in b) 0 k)
  unfolding lines_of
  lines_same e = ap (concat header_line) (numbered-same e)

  -- those of the first k entries are no longer than those of more
  pub lines-front : (m : ℕ) → k ≤ m → length (lines_of n (run (header_in b) 0 k)) ≤ length (lines_of n (run (header_in b) 0 m))
  unfolding lines_of
  lines-front m h =
      let e : m ≡ k + (m - k) = omega arith in
      let xs = run (header_in b) 0 k in
      let ys = run (header_in b) (0 + k) (m - k) in
      let w = ap (λ (j : ℕ). length (concat header_line (numbered n (run (header_in b) 0 j)))) e in
      let v = ap (λ (l : List Header). length (concat header_line (numbered n l))) (run-add (header_in b) 0 k (m - k))
      ∙ ap (λ (l : List Header). length (concat header_line l)) (numbered-append n xs ys)
      ∙ ap length (concat-append header_line (numbered n xs) (numbered n ys)) ∙ length-append (concat header_line (numbered n xs)) (concat header_line (numbered n ys)) in
      omega arith

-- of no entries
pub lines_none : (b : List ℕ) (n : ℕ) → lines_of n (run (header_in b) 0 0) ≡ []
unfolding lines_of numbered concat run
lines_none b n = refl

-- there is room for the line of one more
pub lines-room : (b : List ℕ) (n k : ℕ) {m : ℕ} → leading_number (key_of b k) ≡ n → k < headers_in b → length (lines_of n (stored_headers b)) ≤ m
    → length (lines_of n (run (header_in b) 0 k) ++ header_line (header_in b k)) ≤ m
lines-room b n k e h r =
    let w = ap length (lines_more b n k e) in
    omega (arith, lines-front b n (k + 1) (headers_in b) (omega arith))

-- no entry has the number
pub numbered-none : (b : List ℕ) (n k : ℕ) → ((i : ℕ) → i < k → leading_number (key_of b i) ≡ n → ⊥) → numbered n (run (header_in b) 0 k) ≡ []
unfolding run numbered
numbered-none b n zero h = refl
numbered-none b n (suc k) h =
    ap (numbered n) (run_snoc (header_in b) k) ∙ numbered-append n (run (header_in b) 0 k) (header_in b k ∷ [])
    ∙ rw (numbered-none b n k (λ i l. h i (omega arith)), ne_eqb _ _ (h k (omega arith)))

-- ---- the places of the leading keys

-- in the first k entries
pub record PlacedTo (b places : List ℕ) (k : ℕ) : Type 0 where
  pub size : length places ≡ 12
  pub low : (n : ℕ) → n < 12 → get_or places n 0 ≤ k
  pub each : (n : ℕ) → n < 12 → numbered (n + 1) (run (header_in b) 0 k) ≡ placed_at b (get_or places n 0)

-- in none
pub placed-start : (b places : List ℕ) → places ≡ replicate 12 0 → PlacedTo b places 0
unfolding run numbered
placed-start b places e =
    let z : (n : ℕ) → n < 12 → get_or places n 0 ≡ 0 = λ n h. ap (λ (l : List ℕ). get_or l n 0) e ∙ get_or-replicate 12 n 0 0 h in
    record {
      size = ap length e;
      low = λ n h. omega (arith, z n h);
      each = λ n h. rw (z n h);
    }

module _ {b places : List ℕ} {k : ℕ} (p : PlacedTo b places k) where
  -- an entry with no leading key
  pub placed-none : leading_number (key_of b k) ≡ 0 → PlacedTo b places (k + 1)
  placed-none e =
      record {
        size = p.size;
        low = λ n h. omega (arith, p.low n h);
        each = λ n h. numbered-same b (n + 1) k (λ q. omega arith) ∙ p.each n h;
      }

  -- an entry with a leading key, that no entry before it has
  pub placed-some : Sound b → k < headers_in b → (v : ℕ) → leading_number (key_of b k) ≡ v → 0 < v → v ≤ 12 → PlacedTo b (set places (v - 1) (k + 1)) (k + 1)
  placed-some s h v e l m =
      let i : v - 1 < length places = omega (arith, p.size) in
      record {
        size = length-set places (v - 1) (k + 1) ∙ p.size;
        low = λ n g. lows n g (eqb n (v - 1)) refl i;
        each = λ n g. eachs n g (eqb n (v - 1)) refl i;
      }
    where
      lows : (n : ℕ) → n < 12 → (u : Bool) → eqb n (v - 1) ≡ u → v - 1 < length places → get_or (set places (v - 1) (k + 1)) n 0 ≤ k + 1
      lows n g true q i = rw (eqb-true n (v - 1) q, get_or-set_same places (v - 1) (k + 1) 0 i) (omega arith)
      lows n g false q i = rw (get_or-set_other places (v - 1) n (k + 1) 0 (eqb-false n (v - 1) q)) (omega (arith, p.low n g))

      eachs : (n : ℕ) → n < 12 → (u : Bool) → eqb n (v - 1) ≡ u → v - 1 < length places
          → numbered (n + 1) (run (header_in b) 0 (k + 1)) ≡ placed_at b (get_or (set places (v - 1) (k + 1)) n 0)
      eachs n g true q i =
          let z : n ≡ v - 1 = eqb-true n (v - 1) q in
          let y : leading_number (key_of b k) ≡ n + 1 = omega arith in
          let x : get_or (set places (v - 1) (k + 1)) n 0 ≡ k + 1 = ap (λ (j : ℕ). get_or (set places (v - 1) (k + 1)) j 0) z ∙ get_or-set_same places (v - 1) (k + 1) 0 i in
          let w : k + 1 - 1 ≡ k = omega arith in
          let none : numbered (n + 1) (run (header_in b) 0 k) ≡ [] = numbered-none b (n + 1) k (λ j f r. key-other b s j k f h (one_key (key_of b j) (key_of b k) (r ∙ sym y) (omega arith))) in
          numbered_more b (n + 1) k y ∙ rw (none, x, ne_eqb (k + 1) 0 (λ r. omega arith), w)
      eachs n g false q i =
          let z : n ≡ v - 1 → ⊥ = eqb-false n (v - 1) q in
          numbered-same b (n + 1) k (λ r. z (omega arith)) ∙ p.each n g
          ∙ ap (placed_at b) (sym (get_or-set_other places (v - 1) n (k + 1) 0 z))

  -- in all of them
  pub placed-all : k ≡ headers_in b → Placed b places
  placed-all e = record { size = p.size; low = λ n h. omega (arith, p.low n h); each = λ n h. ap (λ (j : ℕ). numbered (n + 1) (run (header_in b) 0 j)) (sym e) ∙ p.each n h }

-- ---- the lines of the leading keys

-- of the first n
abbrev pub leads : List ℕ → ℕ → List ℕ
leads b n = concat (λ n. lines_of n (stored_headers b)) (range 1 n)

module _ {b places : List ℕ} (p : Placed b places) (n : ℕ) (h : n < 12) where
  -- one leading key more
  lead_next : leads b (n + 1) ≡ leads b n ++ concat header_line (placed_at b (get_or places n 0))
  unfolding lines_of
  lead_next =
      let z : 1 + n ≡ n + 1 = omega arith in
      concat-more (λ n. lines_of n (stored_headers b)) (λ i. i) 1 n
      ∙ ap (λ (j : ℕ). leads b n ++ lines_of j (stored_headers b)) z
      ∙ ap (λ (l : List Header). leads b n ++ concat header_line l) (p.each n h)

  -- one that the header does not have
  pub lead_none : get_or places n 0 ≡ 0 → leads b (n + 1) ≡ leads b n
  unfolding concat
  lead_none e =
      lead_next ∙ ap (λ (j : ℕ). leads b n ++ concat header_line (placed_at b j)) e ∙ append-nil (leads b n)

  -- one that it has
  pub lead_some : 0 < get_or places n 0 → leads b (n + 1) ≡ leads b n ++ header_line (header_in b (get_or places n 0 - 1))
  unfolding concat
  lead_some e =
      lead_next ∙ ap (λ (u : Bool). leads b n ++ concat header_line (pick u [] (header_in b (get_or places n 0 - 1) ∷ []))) (ne_eqb (get_or places n 0) 0 (λ r. omega arith))
      ∙ ap (λ (l : List ℕ). leads b n ++ l) (append-nil (header_line (header_in b (get_or places n 0 - 1))))

  -- there is room for its line
  pub lead_room : {m : ℕ} → 0 < get_or places n 0 → length (leads b 12) ≤ m → length (leads b n ++ header_line (header_in b (get_or places n 0 - 1))) ≤ m
  lead_room e r =
      let w = ap length (lead_some e) in
      omega (arith, concat_rises (λ n. lines_of n (stored_headers b)) (λ i. i) 1 (n + 1) 12 (omega arith))
