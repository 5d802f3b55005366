-- A part of well-formed UTF-8 between two boundaries is well formed. Every byte of a character but its first is a continuation byte, so a
-- boundary lies between two characters; and the characters between two boundaries are the same characters in the part.
-- Assumes nothing.
use Rattle.std.specs.Prelude.{Option, Some, None}
use Prim.Native.Nat.{ℕ, zero, suc, ◌+◌, ◌-◌, ◌≤◌, ◌<◌}
use native.Mathlib.Omega.{arith}
use native.Mathlib.Decide.{dec_lt}
use mathlib.Core.Path.{◌≡◌, refl, sym, ap, ap₂, subst, ◌∙◌}
use mathlib.Core.List.{List, [], ◌∷◌}
use mathlib.Core.Bool.{Bool, true, false, true≢false}
use lib.ListN.{length, get_or, take, drop, length-drop, get_or-eq_default}
use lib.Seq.{length-take-le, get_or-take, get_or-drop}
use lib.Dec.{eqb, ltb}
use borrow.Author.Tests.{ltb-true, ltb-false, lt-ltb, le-ltb, eqb-true, eqb-false}
use Rattle.lists.specs.Pick.{pick}
use Rattle.lists.proofs.Laws.{by_pick, pick-none, in_list}
use Rattle.text.specs.Text.{cursor, past_all, stands_at, tag_at, break_at, tail_at, wide_colon, ends_key, key_from, key_at}
use Rattle.text.specs.Utf8.{size_of, lowest_of, highest_of, second_of, is_next, char_width, well_formed_bytes}
use Rattle.text.specs.declared.Cursor.{Cursor}
use Rattle.text.proofs.Laws.{stands_off, no_past, past-at, break_after, tag_back, tag_after}
use Rattle.text.proofs.Widths.{past_stop, turn, char_within, next_zero}

-- a place where a character may begin: the end of the text, or a byte that is no continuation byte
pub data Boundary (s : List ℕ) (at : ℕ) : Type 0 where
  at_end : at ≡ length s → Boundary s at
  at_first : at < length s → is_next (get_or s at 0) ≡ false → Boundary s at

boundary_within : {s : List ℕ} {at : ℕ} → Boundary s at → at ≤ length s
boundary_within (at_end e) = omega arith
boundary_within (at_first h f) = omega arith

boundary_byte : {s : List ℕ} {at : ℕ} → Boundary s at → is_next (get_or s at 0) ≡ false
boundary_byte {s} {at} (at_end e) = ap is_next (get_or-eq_default s 0 {n = at} (omega arith)) ∙ next_zero
boundary_byte (at_first h f) = f

-- ---- the bytes of a character

size_small : (b : ℕ) → size_of b ≤ 4
unfolding size_of
size_small b =
    by_pick P (ltb b 128) 1 _ (λ _. omega arith)
    (λ _. by_pick P (ltb b 194) 0 _ (λ _. omega arith)
    (λ _. by_pick P (ltb b 224) 2 _ (λ _. omega arith)
    (λ _. by_pick P (ltb b 240) 3 _ (λ _. omega arith) (λ _. by_pick P (ltb b 245) 4 0 (λ _. omega arith) (λ _. omega arith)))))
  where
    P : ℕ → Type 0
    P n = n ≤ 4

ascii_size : (b : ℕ) → b < 128 → size_of b ≡ 1
unfolding size_of
ascii_size b h = rw (lt-ltb b 128 h)

ascii_first : (b : ℕ) → b < 128 → is_next b ≡ false
unfolding is_next
ascii_first b h = rw (lt-ltb b 128 h)

-- what begins a character is no continuation byte
size-first : (b : ℕ) → 0 < size_of b → is_next b ≡ false
unfolding size_of is_next
size-first b =
    by_pick P (ltb b 128) 1 _ (λ e _. rw e)
    (λ e. by_pick P (ltb b 194) 0 _ (λ f h. absurd (omega arith)) (λ f h. rw (e, le-ltb b 192 (omega (arith, ltb-false b 194 f)))))
  where
    P : ℕ → Type 0
    P n = 0 < n → pick (ltb b 128) false (ltb b 192) ≡ false

-- a second byte is a continuation byte in every row of the table
second-next : (b d : ℕ) → second_of b d ≡ true → is_next d ≡ true
unfolding second_of is_next
second-next b d t =
    let (p, q) = pick-none (ltb d (lowest_of b)) (ltb d (highest_of b)) t in
    rw (le-ltb d 128 (omega (arith, lowest, ltb-false d (lowest_of b) p)), lt-ltb d 192 (omega (arith, highest, ltb-true d (highest_of b) q)))
  where
    lowest : 128 ≤ lowest_of b
    lowest =
        unfold lowest_of in
        (by_pick (λ (n : ℕ). 128 ≤ n) (eqb b 224) 160 _ (λ _. omega arith) (λ _. by_pick (λ (n : ℕ). 128 ≤ n) (eqb b 240) 144 128 (λ _. omega arith) (λ _. omega arith)))

    highest : highest_of b ≤ 192
    highest =
        unfold highest_of in
        (by_pick (λ (n : ℕ). n ≤ 192) (eqb b 237) 160 _ (λ _. omega arith) (λ _. by_pick (λ (n : ℕ). n ≤ 192) (eqb b 244) 144 192 (λ _. omega arith) (λ _. omega arith)))

-- ---- a character

-- a character of n bytes stands at a place
record Character (s : List ℕ) (at n : ℕ) : Type 0 where
  within : at < length s
  some : 0 < n
  size : size_of (get_or s at 0) ≡ n
  second : 1 < n → second_of (get_or s at 0) (get_or s (at + 1) 0) ≡ true
  third : 2 < n → is_next (get_or s (at + 2) 0) ≡ true
  fourth : 3 < n → is_next (get_or s (at + 3) 0) ≡ true

character_of : (s : List ℕ) (at : ℕ) → (char_width s at ≡ 0 → ⊥) → Character s at (char_width s at)
unfolding char_width
character_of s at =
    by_pick P (ltb at (length s)) _ 0
    (λ h. by_pick P (ltb n 2) n _
    (λ e z. let l = ltb-true n 2 e in
    record {
      within = ltb-true at (length s) h;
      some = omega arith;
      size = refl;
      second = λ k. absurd (omega arith);
      third = λ k. absurd (omega arith);
      fourth = λ k. absurd (omega arith);
    })
    (λ e. by_pick P (second_of (get_or s at 0) (get_or s (at + 1) 0)) _ 0
    (λ e₁. by_pick P (eqb n 2) 2 _
    (λ q z. record {
      within = ltb-true at (length s) h;
      some = omega arith;
      size = eqb-true n 2 q;
      second = λ k. e₁;
      third = λ k. absurd (omega arith);
      fourth = λ k. absurd (omega arith);
    })
    (λ q. by_pick P (is_next (get_or s (at + 2) 0)) _ 0
    (λ e₂. by_pick P (eqb n 3) 3 _
    (λ r z. record {
      within = ltb-true at (length s) h;
      some = omega arith;
      size = eqb-true n 3 r;
      second = λ k. e₁;
      third = λ k. e₂;
      fourth = λ k. absurd (omega arith);
    })
    (λ r. by_pick P (is_next (get_or s (at + 3) 0)) 4 0
    (λ e₃ z. let q' : n ≡ 2 → ⊥ = eqb-false n 2 q in
    let r' : n ≡ 3 → ⊥ = eqb-false n 3 r in
    record {
      within = ltb-true at (length s) h;
      some = omega arith;
      size = omega (arith, size_small (get_or s at 0), ltb-false n 2 e);
      second = λ k. e₁;
      third = λ k. e₂;
      fourth = λ k. e₃;
    })
    none))
    (λ _. none refl)))
    (λ _. none refl)))
    none
  where
    n : ℕ
    n = size_of (get_or s at 0)

    P : ℕ → Type 0
    P w = (w ≡ 0 → ⊥) → Character s at w

    none : {t : Bool} → t ≡ false → P 0
    none e z = absurd (z refl)

character_is : {s : List ℕ} {at n : ℕ} → Character s at n → char_width s at ≡ n
unfolding char_width
character_is {s} {at} {n} c =
    rw (lt-ltb at (length s) c.within, c.size)
    (by_pick P (ltb n 2) n _ (λ _. refl)
    (λ e. by_pick P (second_of (get_or s at 0) (get_or s (at + 1) 0)) _ 0
    (λ _. by_pick P (eqb n 2) 2 _ (λ q. sym (eqb-true n 2 q))
    (λ q. let q' : n ≡ 2 → ⊥ = eqb-false n 2 q in
    let two : 2 < n = omega (arith, ltb-false n 2 e) in
    by_pick P (is_next (get_or s (at + 2) 0)) _ 0
    (λ _. by_pick P (eqb n 3) 3 _ (λ r. sym (eqb-true n 3 r))
    (λ r. let r' : n ≡ 3 → ⊥ = eqb-false n 3 r in
    by_pick P (is_next (get_or s (at + 3) 0)) 4 0
    (λ _. omega (arith, c.size, size_small (get_or s at 0)))
    (λ u. not_both (c.fourth (omega arith)) u)))
    (λ u. not_both (c.third two) u)))
    (λ u. not_both (c.second (ltb-false n 2 e)) u)))
  where
    P : ℕ → Type 0
    P w = w ≡ n

    not_both : {t : Bool} → t ≡ true → t ≡ false → 0 ≡ n
    not_both p q = absurd (true≢false (sym p ∙ q))

-- its bytes after the first
inside : {s : List ℕ} {at n : ℕ} (x : ℕ) → Character s at n → at < x → x < at + n → is_next (get_or s x 0) ≡ true
inside {s} {at} {n} x c h k = go (eqb x (at + 1)) (eqb x (at + 2)) refl refl
  where
    go : (t u : Bool) → eqb x (at + 1) ≡ t → eqb x (at + 2) ≡ u → is_next (get_or s x 0) ≡ true
    go true u p q =
        let e : x ≡ at + 1 = eqb-true _ _ p in
        rw e (second-next (get_or s at 0) (get_or s (at + 1) 0) (c.second (omega arith)))
    go false true p q = let e : x ≡ at + 2 = eqb-true _ _ q in rw e (c.third (omega arith))
    go false false p q =
        let p' : x ≡ at + 1 → ⊥ = eqb-false _ _ p in
        let q' : x ≡ at + 2 → ⊥ = eqb-false _ _ q in
        let e : x ≡ at + 3 = omega (arith, c.size, size_small (get_or s at 0)) in
        rw e (c.fourth (omega arith))

-- ---- characters one after the other

-- from the place on, the text is characters up to its end
abbrev Whole : List ℕ → ℕ → Type 0
Whole s at = past_all char_width s at ≡ length s

-- the character at a place, and those after it
record Next (s : List ℕ) (at : ℕ) : Type 0 where
  n : ℕ
  character : Character s at n
  within : at + n ≤ length s
  whole : Whole s (at + n)

next : {s : List ℕ} {at : ℕ} → Whole s at → at < length s → Next s at
next {s} {at} w h =
    let n = char_width s at in
    let z : n ≡ 0 → ⊥ = λ q. omega (arith, w, past_stop char_width s at q) in
    let t = turn char_width char_within s at n refl z in
    record { n = n; character = character_of s at z; within = t.within; whole = sym t.same ∙ w }

-- it ends at a later boundary, or before it
next-ends : {s : List ℕ} {at : ℕ} (x : ℕ) (w : Next s at) → Boundary s x → at < x → at + w.n ≤ x
next-ends {s} {at} x w b h = go (dec_lt x (at + w.n))
  where
    go : Dec (x < at + w.n) → at + w.n ≤ x
    go (yes k) = absurd (true≢false (sym (inside x w.character h k) ∙ boundary_byte b))
    go (no k) = omega arith

-- so a boundary lies between two characters
reach : {s : List ℕ} (x : ℕ) → Boundary s x → (k at : ℕ) → x ≤ at + k → at ≤ x → Whole s at → Whole s x
reach {s} x b zero at h l w = let e : at ≡ x = omega arith in subst (Whole s) e w
reach {s} x b (suc k) at h l w = go (dec_lt at x) (reach x b k)
  where
    go : Dec (at < x) → ((at' : ℕ) → x ≤ at' + k → at' ≤ x → Whole s at' → Whole s x) → Whole s x
    go (yes m) ih =
        let t = next w (omega (arith, boundary_within b)) in
        ih (at + t.n) (omega (arith, t.character.some)) (next-ends x t b m) t.whole
    go (no m) ih = let e : at ≡ x = omega arith in subst (Whole s) e w

whole-at : {s : List ℕ} {x : ℕ} → well_formed_bytes s ≡ length s → Boundary s x → Whole s x
whole-at {s} {x} w b = reach x b x 0 (omega arith) (omega arith) w

-- and what lies between two characters is a boundary
boundary_of : {s : List ℕ} {at : ℕ} → Whole s at → at ≤ length s → Boundary s at
boundary_of {s} {at} w h = go (dec_lt at (length s))
  where
    go : Dec (at < length s) → Boundary s at
    go (yes k) =
        let c = (next w k).character in
        at_first k (size-first (get_or s at 0) (omega (arith, c.size, c.some)))
    go (no k) = at_end (omega arith)

-- ---- a part

pub no_character : (s : List ℕ) (at : ℕ) → length s ≤ at → char_width s at ≡ 0
unfolding char_width
no_character s at h = rw (le-ltb at (length s) h)

module _ (s : List ℕ) (a e : ℕ) (l : e ≤ length s) (h : a ≤ e) where
  part : List ℕ
  part = take (e - a) (drop a s)

  part_length : length part ≡ e - a
  unfolding part
  part_length = length-take-le (e - a) (drop a s) (omega (arith, length-drop a s))

  part_byte : (x i : ℕ) → x ≡ a + i → i < e - a → get_or part i 0 ≡ get_or s x 0
  unfolding part
  part_byte x i q k = rw q (get_or-take (e - a) (drop a s) i 0 k ∙ get_or-drop a s i 0)

  -- a character that ends in the part stands there
  part_character : (i n : ℕ) → Character s (a + i) n → a + i + n ≤ e → Character part i n
  part_character i n c k =
      let some = c.some in
      let first : get_or part i 0 ≡ get_or s (a + i) 0 = part_byte (a + i) i refl (omega arith) in
      record {
        within = omega (arith, part_length);
        some = some;
        size = ap size_of first ∙ c.size;
        second = λ m. ap₂ second_of first (part_byte (a + i + 1) (i + 1) (omega arith) (omega arith)) ∙ c.second m;
        third = λ m. ap is_next (part_byte (a + i + 2) (i + 2) (omega arith) (omega arith)) ∙ c.third m;
        fourth = λ m. ap is_next (part_byte (a + i + 3) (i + 3) (omega arith) (omega arith)) ∙ c.fourth m;
      }

  -- nothing stands at its end
  part_done : (i : ℕ) → e ≤ a + i → a + i ≤ e → Whole part i
  part_done i k m =
      let q : i ≡ length part = omega (arith, part_length) in
      past_stop char_width part i (no_character part i (omega arith)) ∙ q

  part_whole : Boundary s e → (k i : ℕ) → e ≤ a + i + k → a + i ≤ e → Whole s (a + i) → Whole part i
  part_whole b zero i m o w = part_done i (omega arith) o
  part_whole b (suc k) i m o w = go (dec_lt (a + i) e) (part_whole b k)
    where
      go : Dec (a + i < e) → ((j : ℕ) → e ≤ a + j + k → a + j ≤ e → Whole s (a + j) → Whole part j) → Whole part i
      go (no r) ih = part_done i (omega arith) o
      go (yes r) ih =
          let t = next w (omega arith) in
          let some = t.character.some in
          let ends = next-ends e t b r in
          let is : t.n ≡ char_width part i = sym (character_is (part_character i t.n t.character ends)) in
          let on = turn char_width char_within part i t.n is (λ z. omega arith) in
          let q : a + i + t.n ≡ a + (i + t.n) = omega arith in
          on.same ∙ ih (i + t.n) (omega arith) (omega arith) (subst (Whole s) q t.whole)

pub part_well : (s : List ℕ) (a e : ℕ) → well_formed_bytes s ≡ length s → Boundary s a → Boundary s e → a ≤ e → e ≤ length s
    → well_formed_bytes (take (e - a) (drop a s)) ≡ length (take (e - a) (drop a s))
unfolding part
part_well s a e w b c h l = let q : a ≡ a + 0 = omega arith in part_whole s a e l h c (e - a) 0 (omega arith) (omega arith) (subst (Whole s) q (whole-at w b))

-- ---- boundaries that readers make

pub boundary_start : (s : List ℕ) → well_formed_bytes s ≡ length s → Boundary s 0
boundary_start s w = boundary_of w (omega arith)

pub boundary_ascii : (s : List ℕ) (at : ℕ) → at < length s → get_or s at 0 < 128 → Boundary s at
boundary_ascii s at h k = at_first h (ascii_first (get_or s at 0) k)

-- past the character at a boundary
pub boundary_past : (s : List ℕ) (at : ℕ) → well_formed_bytes s ≡ length s → Boundary s at → at < length s → Boundary s (at + size_of (get_or s at 0))
boundary_past s at w b h =
    let t = next (whole-at w b) h in
    subst (λ (n : ℕ). Boundary s (at + n)) (sym t.character.size) (boundary_of t.whole t.within)

pub boundary_after : (s : List ℕ) (at : ℕ) → well_formed_bytes s ≡ length s → at < length s → get_or s at 0 < 128 → Boundary s (at + 1)
boundary_after s at w h k =
    subst (λ (n : ℕ). Boundary s (at + n)) (ascii_size (get_or s at 0) k) (boundary_past s at w (boundary_ascii s at h k) h)

-- a break begins with an ASCII byte, and its last byte is an LF
record Breaks (s : List ℕ) (at e : ℕ) : Type 0 where
  first : get_or s at 0 < 128
  last : ℕ
  lf : get_or s last 0 ≡ 10
  next : last + 1 ≡ e

breaks : (s : List ℕ) (at : ℕ) (c : Cursor) → break_at s at ≡ Some c → Breaks s at c.at
unfolding break_at
breaks s at c =
    by_pick P (eqb (get_or s at 0) 10) (Some (cursor (at + 1))) _
    (λ p e. let q = eqb-true (get_or s at 0) 10 p in
    record { first = omega arith; last = at; lf = q; next = past-at e })
    (λ _. by_pick P (eqb (get_or s at 0) 13) _ None
    (λ p. by_pick P (eqb (get_or s (at + 1) 0) 10) (Some (cursor (at + 2))) None
    (λ r e. let q = eqb-true (get_or s at 0) 13 p in
    let n = past-at e in
    record { first = omega arith; last = at + 1; lf = eqb-true (get_or s (at + 1) 0) 10 r; next = omega arith })
    (λ _ e. no_past c e))
    (λ _ e. no_past c e))
  where
    P : Option Cursor → Type 0
    P r = r ≡ Some c → Breaks s at c.at

before-break : (s : List ℕ) (at : ℕ) (c : Cursor) → break_at s at ≡ Some c → Boundary s at
before-break s at c e =
    let a = break_after s at c e in
    boundary_ascii s at (omega (arith, a.past, a.within)) (breaks s at c e).first

pub boundary_break : (s : List ℕ) (at : ℕ) (c : Cursor) → well_formed_bytes s ≡ length s → break_at s at ≡ Some c → Boundary s at × Boundary s c.at
boundary_break s at c w e =
    let b = breaks s at c e in
    let i = b.last in
    let lf = b.lf in
    (before-break s at c e, subst (Boundary s) b.next (boundary_after s i w (in_list s i (omega arith)) (omega arith)))

-- the end of a tail that has a break
pub boundary_tail : (s : List ℕ) (at : ℕ) (e n : Cursor) → tail_at s at ≡ Some e → break_at s e.at ≡ Some n → Boundary s e.at
boundary_tail s at e n t q = before-break s e.at n q

-- a byte string of one character
stands_first : (b : ℕ) (t s : List ℕ) (at : ℕ) → at < length s → stands_at (b ∷ t) s at ≡ true → get_or s at 0 ≡ b
stands_first b t s at h e = go (eqb (get_or s at 0) b) refl
  where
    go : (u : Bool) → eqb (get_or s at 0) b ≡ u → get_or s at 0 ≡ b
    go true p = eqb-true (get_or s at 0) b p
    go false p = absurd (true≢false (sym e ∙ stands_off (b ∷ t) s 0 at (omega arith) h (eqb-false (get_or s at 0) b p)))

pub boundary_tag : (b : ℕ) (t s : List ℕ) (at : ℕ) (c : Cursor) → well_formed_bytes s ≡ length s → size_of b ≡ length (b ∷ t) → tag_at (b ∷ t) s at ≡ Some c
    → Boundary s at × Boundary s c.at
boundary_tag b t s at c w n e =
    let a = tag_after (b ∷ t) s at c (omega arith) e in
    let h : at < length s = omega (arith, a.past, a.within) in
    let (stands, end) = tag_back (b ∷ t) s at c e in
    let first : get_or s at 0 ≡ b = stands_first b t s at h stands in
    let here : Boundary s at = at_first h (ap is_next first ∙ size-first b (omega arith)) in
    (here, subst (Boundary s) (ap (λ (m : ℕ). at + m) (ap size_of first ∙ n) ∙ sym end) (boundary_past s at w here h))

-- ：, three bytes
pub boundary_colon : (s : List ℕ) (at : ℕ) (c : Cursor) → well_formed_bytes s ≡ length s → tag_at wide_colon s at ≡ Some c → Boundary s at × Boundary s c.at
unfolding size_of
boundary_colon s at c w e = boundary_tag 239 (188 ∷ 154 ∷ []) s at c w refl e

-- ---- keys

key-front : (l : List ℕ) → key_from l ≡ take (length (key_from l)) l
unfolding key_from
key-front [] = refl
key-front (b ∷ l) = go (ends_key (b ∷ l)) (key-front l)
  where
    go : (t : Bool) → key_from l ≡ take (length (key_from l)) l → pick t [] (b ∷ key_from l) ≡ take (length (pick t [] (b ∷ key_from l))) (b ∷ l)
    go true ih = refl
    go false ih = ap (λ (r : List ℕ). b ∷ r) ih

-- a key is the part of the text that begins at its place
pub key_part : (s : List ℕ) (at : ℕ) → key_at s at ≡ take (length (key_at s at)) (drop at s)
unfolding key_at
key_part s at = key-front (drop at s)

pub key_well : (s : List ℕ) (at : ℕ) (c : Cursor) → well_formed_bytes s ≡ length s → Boundary s at → tag_at wide_colon s (at + length (key_at s at)) ≡ Some c
    → well_formed_bytes (key_at s at) ≡ length (key_at s at)
key_well s at c w b e =
    let n = length (key_at s at) in
    let a = tag_after wide_colon s (at + n) c (omega arith) e in
    let (colon, _) = boundary_colon s (at + n) c w e in
    let q : at + n - at ≡ n = omega arith in
    subst (λ (l : List ℕ). well_formed_bytes l ≡ length l) (ap (λ (m : ℕ). take m (drop at s)) q ∙ sym (key_part s at))
    (part_well s at (at + n) w b colon (omega arith) (omega (arith, a.past, a.within)))
