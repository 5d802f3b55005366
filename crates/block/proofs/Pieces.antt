-- Texts that follow one another without a gap: all of them are valid exactly where what they make up is valid and each of them begins where
-- a character may.
--     starts-boundary, whole-starts   the byte at a place, and a boundary there
--     piece-valid                     a part between two boundaries
--     piece-before                    characters up to a place, then characters to the end
-- Assumes nothing.
use Prim.Native.Nat.{ℕ, zero, suc, ◌+◌, ◌-◌, ◌≤◌, ◌<◌}
use native.Mathlib.Omega.{arith}
use native.Mathlib.Decide.{dec_lt}
use mathlib.Core.Path.{◌≡◌, refl, sym, ap, subst, ◌∙◌}
use mathlib.Core.List.{List}
use mathlib.Core.Bool.{Bool, true, false, not, true≢false}
use lib.ListN.{length, get_or, take, drop, length-drop, get_or-eq_default}
use lib.Seq.{length-take-le, get_or-take, get_or-drop}
use lib.Dec.{eqb, ltb}
use borrow.Author.Tests.{ltb-true, ltb-false, lt-ltb, le-ltb}
use Rattle.lists.specs.Pick.{pick}
use Rattle.lists.proofs.Laws.{by_pick}
use Rattle.text.specs.Text.{past_all}
use Rattle.text.specs.Utf8.{size_of, second_of, is_next, char_width, size_if_formed, well_formed_bytes}
use Rattle.text.proofs.Widths.{past_stop, turn, char_within, next_zero}
use Rattle.text.proofs.Boundaries.{Boundary, at_end, at_first, part_well}

-- ---- boundaries

-- a place whose byte continues no character
pub starts_boundary : (s : List ℕ) (at : ℕ) → at ≤ length s → not (is_next (get_or s at 0)) ≡ true → Boundary s at
starts_boundary s at h e = go (dec_lt at (length s))
  where
    off : (t : Bool) → not t ≡ true → t ≡ false
    off true q = absurd (true≢false (sym q))
    off false q = refl

    go : Dec (at < length s) → Boundary s at
    go (yes k) = at_first k (off (is_next (get_or s at 0)) e)
    go (no k) = at_end (omega arith)

-- a part that begins at one boundary and ends at another
pub piece_valid : (s : List ℕ) (at n : ℕ) → well_formed_bytes s ≡ length s → at + n ≤ length s → Boundary s at → Boundary s (at + n)
    → well_formed_bytes (take n (drop at s)) ≡ length (take n (drop at s))
piece_valid s at n w h b c =
    let e : at + n - at ≡ n = omega arith in
    subst (λ (m : ℕ). well_formed_bytes (take m (drop at s)) ≡ length (take m (drop at s))) e (part_well s at (at + n) w b c (omega arith) h)

-- ---- characters

-- what begins a character continues none
size-first : (b : ℕ) → (size_of b ≡ 0 → ⊥) → is_next b ≡ false
unfolding size_of is_next
size-first b =
    by_pick P (ltb b 128) 1 _ (λ e _. rw e)
    (λ e. by_pick P (ltb b 194) 0 _ (λ f h. absurd (h refl)) (λ f h. rw (e, le-ltb b 192 (omega (arith, ltb-false b 194 f)))))
  where
    P : ℕ → Type 0
    P n = (n ≡ 0 → ⊥) → pick (ltb b 128) false (ltb b 192) ≡ false

-- a character has a first byte
width_size : (s : List ℕ) (at : ℕ) → (char_width s at ≡ 0 → ⊥) → size_of (get_or s at 0) ≡ 0 → ⊥
unfolding char_width
width_size s at h z = h (by_pick (λ (n : ℕ). n ≡ 0) (ltb at (length s)) (size_if_formed (size_of (get_or s at 0)) s at) 0 (λ _. rw z) (λ _. refl))

-- from a place on there are characters up to the end
abbrev pub Whole : List ℕ → ℕ → Type 0
Whole s at = past_all char_width s at ≡ length s

-- there a character may begin
pub whole-starts : (s : List ℕ) (at : ℕ) → at ≤ length s → Whole s at → not (is_next (get_or s at 0)) ≡ true
whole-starts s at h w = ap not (go (dec_lt at (length s)))
  where
    go : Dec (at < length s) → is_next (get_or s at 0) ≡ false
    go (yes k) = size-first (get_or s at 0) (width_size s at (λ z. omega (arith, w, past_stop char_width s at z)))
    go (no k) = ap is_next (get_or-eq_default s 0 {n = at} (omega arith)) ∙ next_zero

-- and at the end there are none to come
pub whole-end : (s : List ℕ) (at : ℕ) → at ≡ length s → Whole s at
unfolding char_width
whole-end s at e = past_stop char_width s at (rw (le-ltb at (length s) (omega arith))) ∙ e

-- ---- a part of a text, and the text

module _ (s : List ℕ) (a n : ℕ) (l : a + n ≤ length s) where
  part : List ℕ
  part = take n (drop a s)

  -- its length, and its bytes
  part_length : length part ≡ n
  unfolding part
  part_length = length-take-le n (drop a s) (omega (arith, length-drop a s))

  part_byte : (i j : ℕ) → j ≡ a + i → i < n → get_or part i 0 ≡ get_or s j 0
  unfolding part
  part_byte i j e k = rw e (get_or-take n (drop a s) i 0 k ∙ get_or-drop a s i 0)

  -- a character of the part is one of the text
  part_width : (i : ℕ) → (char_width part i ≡ 0 → ⊥) → char_width s (a + i) ≡ char_width part i
  unfolding char_width
  part_width i z =
      by_pick P (ltb i (length part)) _ 0
      (λ t. let k : i < n = omega (arith, ltb-true i (length part) t, part_length) in
      let at : ltb (a + i) (length s) ≡ true = lt-ltb (a + i) (length s) (omega arith) in
      let b₀ = part_byte i (a + i) refl k in
      by_pick P (ltb m 2) m _ (λ t₁ h _. rw (at, ← b₀, t₁))
      (λ t₁. by_pick P (second_of (get_or part i 0) (get_or part (i + 1) 0)) _ 0
      (λ t₂. by_pick P (eqb m 2) 2 _ (λ t₃ h _. rw (at, ← b₀, ← part_byte (i + 1) (a + i + 1) (omega arith) (omega arith), t₁, t₂, t₃))
      (λ t₃. by_pick P (is_next (get_or part (i + 2) 0)) _ 0
      (λ t₄. by_pick P (eqb m 3) 3 _
      (λ t₅ h _. rw (at, ← b₀, ← part_byte (i + 1) (a + i + 1) (omega arith) (omega arith), ← part_byte (i + 2) (a + i + 2) (omega arith) (omega arith), t₁, t₂, t₃, t₄, t₅))
      (λ t₅. by_pick P (is_next (get_or part (i + 3) 0)) 4 0
      (λ t₆ h _. rw (
        at,
        ← b₀,
        ← part_byte (i + 1) (a + i + 1) (omega arith) (omega arith),
        ← part_byte (i + 2) (a + i + 2) (omega arith) (omega arith),
        ← part_byte (i + 3) (a + i + 3) (omega arith) (omega arith),
        t₁,
        t₂,
        t₃,
        t₄,
        t₅,
        t₆,
      ))
      none))
      none))
      none))
      none
      (omega (arith, z, char_within part i, part_length)) z
    where
      m : ℕ
      m = size_of (get_or part i 0)

      P : ℕ → Type 0
      P v = i + v ≤ n → (v ≡ 0 → ⊥) → char_width s (a + i) ≡ v

      none : {t : Bool} → t ≡ false → P 0
      none e h q = absurd (q refl)

  -- the part's characters are passed one after the other
  passes : (k i : ℕ) → n ≤ i + k → i ≤ n → Whole part i → past_all char_width s (a + i) ≡ past_all char_width s (a + n)
  passes zero i h o w = let e : i ≡ n = omega arith in ap (λ (j : ℕ). past_all char_width s (a + j)) e
  passes (suc k) i h o w = go (dec_lt i n) (passes k)
    where
      go : Dec (i < n) → ((j : ℕ) → n ≤ j + k → j ≤ n → Whole part j → past_all char_width s (a + j) ≡ past_all char_width s (a + n))
          → past_all char_width s (a + i) ≡ past_all char_width s (a + n)
      go (no r) ih = let e : i ≡ n = omega arith in ap (λ (j : ℕ). past_all char_width s (a + j)) e
      go (yes r) ih =
          let c = char_width part i in
          let z : c ≡ 0 → ⊥ = λ q. omega (arith, w, past_stop char_width part i q, part_length) in
          let t = turn char_width char_within part i c refl z in
          let u = turn char_width char_within s (a + i) c (sym (part_width i z)) z in
          let e : a + i + c ≡ a + (i + c) = omega arith in
          u.same ∙ ap (past_all char_width s) e ∙ ih (i + c) (omega (arith, t.on)) (omega (arith, t.within, part_length)) (sym t.same ∙ w)

  -- all of it
  part_passes : well_formed_bytes part ≡ length part → past_all char_width s a ≡ past_all char_width s (a + n)
  part_passes w =
      let e : a ≡ a + 0 = omega arith in
      ap (past_all char_width s) e ∙ passes n 0 (omega arith) (omega arith) w

-- characters up to a place, then characters to the end
pub piece_before : (s : List ℕ) (at n : ℕ) → at + n ≤ length s → well_formed_bytes (take n (drop at s)) ≡ length (take n (drop at s)) → Whole s (at + n) → Whole s at
unfolding part
piece_before s at n h v w = part_passes s at n h v ∙ w
