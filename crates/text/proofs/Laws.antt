-- Laws of what is read at a place, by which callers go.
-- Assumes nothing.
use Rattle.std.specs.Prelude.{Option, Some, None}
use Prim.Native.Nat.{ℕ, suc, ◌+◌, ◌*◌, ◌-◌, ◌≤◌, ◌<◌, max}
use native.Mathlib.Nat.{le_refl}
use native.Mathlib.Omega.{arith}
use mathlib.Core.Path.{◌≡◌, refl, sym, ap, ap₂, ◌∙◌}
use mathlib.Core.List.{List, [], ◌∷◌}
use mathlib.Core.Bool.{Bool, true, false, false≢true}
use lib.ListN.{length, get_or, drop, length-drop, drop_of_length-le}
use lib.Dec.{ltb, leb, eqb}
use borrow.Author.Tests.{ltb-false, leb-true, eqb-true, eq-eqb, ne_eqb}
use Rattle.lists.specs.Pick.{pick}
use Rattle.lists.proofs.Laws.{pick_both, drop_step, head_at, class_in, in_list}
use Rattle.text.specs.Text.{cursor, on_place, is_text, is_digit, span_from, span_at, prefix_from, stands_at, tag_at, same, text_at, break_at, tail_at, line_end_at, number_from, number_at}
use Rattle.text.specs.declared.Cursor.{Cursor}

-- ---- bytes of a class

module _ (f : ℕ → Bool) (s : List ℕ) (at : ℕ) where
  pub span-end : length s ≤ at → span_at f s at ≡ at
  unfolding span_at span_from
  span-end h = rw drop_of_length-le

  pub span-on : at < length s → f (get_or s at 0) ≡ true → span_at f s at ≡ span_at f s (at + 1)
  unfolding span_at span_from
  span-on h t = rw (drop_step s at h, t)

  pub span_off : at < length s → f (get_or s at 0) ≡ false → span_at f s at ≡ at
  unfolding span_at span_from
  span_off h t = rw (drop_step s at h, t)

module _ (f : ℕ → Bool) where
  span-from_ge : (l : List ℕ) (at : ℕ) → at ≤ span_from f l at
  unfolding span_from
  span-from_ge [] at = le_refl at
  span-from_ge (b ∷ l) at = go (f b) (span-from_ge l (at + 1))
    where
      go : (t : Bool) → at + 1 ≤ span_from f l (at + 1) → at ≤ pick t (span_from f l (at + 1)) at
      go true h = omega arith
      go false h = le_refl at

  -- a span goes on from its place, and
  pub span_ge : (s : List ℕ) (at : ℕ) → at ≤ span_at f s at
  unfolding span_at
  span_ge s at = span-from_ge (drop at s) at

  span-from_le : (l : List ℕ) (at : ℕ) → span_from f l at ≤ at + length l
  unfolding span_from
  span-from_le [] at = omega arith
  span-from_le (b ∷ l) at = go (f b) (span-from_le l (at + 1))
    where
      go : (t : Bool) → span_from f l (at + 1) ≤ at + 1 + length l → pick t (span_from f l (at + 1)) at ≤ at + suc (length l)
      go true h = omega arith
      go false h = omega arith

  -- where 0 is not of the class, a byte that is not of it, or none, ends the span
  pub span-stop : (s : List ℕ) (at : ℕ) → f 0 ≡ false → f (get_or s at 0) ≡ false → span_at f s at ≡ at
  unfolding span_at span_from
  span-stop s at z t = go (drop at s) (rw head_at at t)
    where
      go : (l : List ℕ) → f (get_or l 0 0) ≡ false → span_from f l at ≡ at
      go [] e = refl
      go (b ∷ l) e = rw e

  pub span_go : (s : List ℕ) (at : ℕ) → f 0 ≡ false → f (get_or s at 0) ≡ true → span_at f s at ≡ span_at f s (at + 1)
  span_go s at z t = span-on f s at (class_in f s at z t) t

-- ---- a byte string

module _ (t s : List ℕ) (i j : ℕ) where
  -- nothing is left of the string
  pub stands_done : length t ≤ i → stands_at (drop i t) s j ≡ true
  unfolding stands_at prefix_from
  stands_done h = rw drop_of_length-le

  -- nothing is left of the text
  pub stands_short : i < length t → length s ≤ j → stands_at (drop i t) s j ≡ false
  unfolding stands_at prefix_from
  stands_short h k = rw (drop_step t i h, drop_of_length-le s k)

  pub stands_off : i < length t → j < length s → (get_or s j 0 ≡ get_or t i 0 → ⊥) → stands_at (drop i t) s j ≡ false
  unfolding stands_at prefix_from
  stands_off h k e = rw (drop_step t i h, drop_step s j k, ne_eqb _ _ e)

  pub stands_on : i < length t → j < length s → get_or s j 0 ≡ get_or t i 0 → stands_at (drop i t) s j ≡ stands_at (drop (i + 1) t) s (j + 1)
  unfolding stands_at prefix_from
  stands_on h k e = rw (drop_step t i h, drop_step s j k, eq-eqb _ _ e)

prefix_fits : (t l : List ℕ) → prefix_from t l ≡ true → length t ≤ length l
unfolding prefix_from
prefix_fits [] l e = omega arith
prefix_fits (b ∷ t) [] e = absurd (false≢true e)
prefix_fits (b ∷ t) (x ∷ l) e = go (eqb x b) (prefix_fits t l) e
  where
    go : (u : Bool) → (prefix_from t l ≡ true → length t ≤ length l) → pick u (prefix_from t l) false ≡ true → suc (length t) ≤ suc (length l)
    go true h w = omega (arith, h w)
    go false h w = absurd (false≢true w)

-- what stands at a place ends in the text, or is empty
pub stands_fits : (t s : List ℕ) (at : ℕ) → stands_at t s at ≡ true → at + length t ≤ max at (length s)
unfolding stands_at
stands_fits t s at e = omega (arith, simp length-drop at (prefix_fits t (drop at s) e))

-- at the end of the text and past it the empty byte string stands alone
pub stands_empty : (t s : List ℕ) (at : ℕ) → length s ≤ at → stands_at t s at ≡ eqb (length t) 0
stands_empty [] s at h = stands_done [] s 0 at (omega arith)
stands_empty (b ∷ t) s at h = stands_short (b ∷ t) s 0 at (omega arith) h ∙ sym (ne_eqb (length (b ∷ t)) 0 λ e. absurd (omega (arith, e)))

-- a byte string that is longer than the rest does not stand there
pub stands_longer : (t s : List ℕ) (at : ℕ) → length (drop at s) < length t → stands_at t s at ≡ false
unfolding stands_at
stands_longer t s at h = go (prefix_from t (drop at s)) refl
  where
    go : (u : Bool) → prefix_from t (drop at s) ≡ u → prefix_from t (drop at s) ≡ false
    go true e = absurd (omega (arith, prefix_fits t (drop at s) e))
    go false e = e

-- ---- numbers

pub digit_bounds : (b : ℕ) → is_digit b ≡ true → (48 ≤ b) × (b < 58)
digit_bounds b t = go (ltb b 48) refl t
  where
    go : (u : Bool) → ltb b 48 ≡ u → pick u false (leb b 57) ≡ true → (48 ≤ b) × (b < 58)
    go true e w = absurd (false≢true w)
    go false e w = (ltb-false _ _ e, omega (arith, leb-true b 57 w))

module _ (s : List ℕ) (at n : ℕ) where
  pub number-on : is_digit (get_or s at 0) ≡ true → number_at s at n ≡ number_at s (at + 1) (n * 10 + (get_or s at 0 - 48))
  unfolding number_at number_from
  number-on t = rw (drop_step s at (class_in is_digit s at refl t), t)

  pub number-stop : is_digit (get_or s at 0) ≡ false → number_at s at n ≡ n
  unfolding number_at number_from
  number-stop t = go (drop at s) (rw head_at at t)
    where
      go : (l : List ℕ) → is_digit (get_or l 0 0) ≡ false → number_from l n ≡ n
      go [] e = refl
      go (b ∷ l) e = rw e

number-from_ge : (l : List ℕ) (n : ℕ) → n ≤ number_from l n
unfolding number_from
number-from_ge [] n = le_refl n
number-from_ge (b ∷ l) n = go (is_digit b) (number-from_ge l (n * 10 + (b - 48)))
  where
    go : (t : Bool) → n * 10 + (b - 48) ≤ number_from l (n * 10 + (b - 48)) → n ≤ pick t (number_from l (n * 10 + (b - 48))) n
    go true h = omega arith
    go false h = le_refl n

-- further digits make no smaller number
pub number_ge : (s : List ℕ) (at n : ℕ) → n ≤ number_at s at n
unfolding number_at
number_ge s at n = number-from_ge (drop at s) n

-- ---- how far an answer goes

-- `Absent` is no place
pub no_past : {A : Type 0} (c : Cursor) → None ≡ Some c → A
no_past c e = let z : ◌≡◌ {A = ℕ} 0 1 = ap (λ (x : Option Cursor). on_place x (λ d. 1) 0) e in absurd (omega arith)

pub past-at : {c d : Cursor} → Some c ≡ Some d → c.at ≡ d.at
past-at e = ap (λ (x : Option Cursor). on_place x (λ d. d.at) 0) e

-- a place past something of the text, from the place at which it is
pub record After (at n : ℕ) (c : Cursor) : Type 0 where
  pub past : at < c.at
  pub within : c.at ≤ n

pub break_after : (s : List ℕ) (at : ℕ) (c : Cursor) → break_at s at ≡ Some c → After at (length s) c
unfolding break_at
break_after s at c e = go (eqb (get_or s at 0) 10) (eqb (get_or s at 0) 13) (eqb (get_or s (at + 1) 0) 10) refl refl refl e
  where
    go : (t u v : Bool) → eqb (get_or s at 0) 10 ≡ t → eqb (get_or s at 0) 13 ≡ u → eqb (get_or s (at + 1) 0) 10 ≡ v
        → pick t (Some (cursor (at + 1))) (pick u (pick v (Some (cursor (at + 2))) None) None) ≡ Some c → After at (length s) c
    go true u v p q r e =
        let h = past-at e in
        record { past = omega arith; within = omega (arith, in_list s at (omega (arith, eqb-true (get_or s at 0) 10 p))) }
    go false true true p q r e =
        let h = past-at e in
        record { past = omega arith; within = omega (arith, in_list s (at + 1) (omega (arith, eqb-true (get_or s (at + 1) 0) 10 r))) }
    go false true false p q r e = no_past c e
    go false false v p q r e = no_past c e

pub tail_from : (s : List ℕ) (at : ℕ) (c : Cursor) → tail_at s at ≡ Some c → at ≤ c.at
unfolding tail_at
tail_from s at c e = go (eqb (get_or s (text_at s at) 0) 13) (eqb (get_or s (text_at s at + 1) 0) 10) e
  where
    end : Some (cursor (text_at s at)) ≡ Some c → at ≤ c.at
    end e = let h = past-at e in omega (arith, span_ge is_text s at)

    go : (t u : Bool) → pick t (pick u (Some (cursor (text_at s at))) None) (Some (cursor (text_at s at))) ≡ Some c → at ≤ c.at
    go true true e = end e
    go true false e = no_past c e
    go false u e = end e

-- a byte string that was read stands there
pub tag_back : (t s : List ℕ) (at : ℕ) (c : Cursor) → tag_at t s at ≡ Some c → (stands_at t s at ≡ true) × (c.at ≡ at + length t)
unfolding tag_at
tag_back t s at c e = go (stands_at t s at) refl e
  where
    go : (u : Bool) → stands_at t s at ≡ u → pick u (Some (cursor (at + length t))) None ≡ Some c → (stands_at t s at ≡ true) × (c.at ≡ at + length t)
    go true p e = (p, sym (past-at e))
    go false p e = no_past c e

-- a byte string of one byte or more is passed
pub tag_after : (t s : List ℕ) (at : ℕ) (c : Cursor) → 0 < length t → tag_at t s at ≡ Some c → After at (length s) c
tag_after t s at c n e =
    let (p, q) = tag_back t s at c e in
    record { past = omega arith; within = omega (arith, stands_fits t s at p) }

-- where a place is handed on and a place comes back, both are there
pub place_back : (p : Option Cursor) (f : Cursor → Option Cursor) (c : Cursor) → on_place p f None ≡ Some c → (d : Cursor) × (p ≡ Some d) × (f d ≡ Some c)
place_back (Some d) f c e = (d, refl, e)
place_back None f c e = no_past c e

-- a tail and its break
pub line-end_after : (s : List ℕ) (at : ℕ) (c : Cursor) → line_end_at s at ≡ Some c → After at (length s) c
unfolding line_end_at
line-end_after s at c e =
    let (d, p, q) = place_back (tail_at s at) (λ d. break_at s d.at) c e in
    let h = tail_from s at d p in
    let a = break_after s d.at c q in
    let f = a.past in
    record { past = omega arith; within = a.within }

-- where an LF stands the tail is empty
pub line_end_here : (s : List ℕ) (at : ℕ) → get_or s at 0 ≡ 10 → line_end_at s at ≡ Some (cursor (at + 1))
unfolding line_end_at tail_at break_at
line_end_here s at e =
    let h : at < length s = in_list s at (omega arith) in
    rw (span_off is_text s at h (rw (eq-eqb (get_or s at 0) 10 e)), ne_eqb (get_or s at 0) 13 (λ q. omega arith), eq-eqb (get_or s at 0) 10 e)

-- ---- two texts are the same bytes exactly where they are equal

pub same_is : (a b : List ℕ) → same a b ≡ true → a ≡ b
unfolding same
same_is [] [] h = refl
same_is [] (y ∷ b) h = absurd (false≢true h)
same_is (x ∷ a) [] h = absurd (false≢true h)
same_is (x ∷ a) (y ∷ b) h = let (p, q) = pick_both (eqb x y) (same a b) h in ap₂ ◌∷◌ (eqb-true x y p) (same_is a b q)

pub same_refl : (a : List ℕ) → same a a ≡ true
unfolding same
same_refl [] = refl
same_refl (x ∷ a) = rw (eq-eqb x x refl, same_refl a)

-- and not where they are not as long
pub lengths_differ : (a b : List ℕ) → (length a ≡ length b → ⊥) → same a b ≡ false
unfolding same
lengths_differ [] [] h = absurd (h refl)
lengths_differ [] (y ∷ b) h = refl
lengths_differ (x ∷ a) [] h = refl
lengths_differ (x ∷ a) (y ∷ b) h = rw (lengths_differ a b (λ e. h (ap suc e))) (neither (eqb x y))
  where
    neither : (u : Bool) → pick u false false ≡ false
    neither true = refl
    neither false = refl
