-- How far kinds, counts and padding go: past their place, and not past the end of the text. A kind is 1 to 14.
-- Assumes nothing.
use Rattle.std.specs.Prelude.{Option, Some, None}
use Prim.Native.Nat.{ℕ, zero, suc, ◌+◌, ◌≤◌, max}
use native.Mathlib.Omega.{arith}
use mathlib.Core.Path.{◌≡◌, refl}
use mathlib.Core.List.{List}
use mathlib.Core.Bool.{true}
use lib.ListN.{length}
use lib.Dec.{eqb}
use Rattle.lists.specs.Repeat.{Step, more, stop, ended, on_step, repeat_from}
use Rattle.lists.proofs.Laws.{by_pick}
use Rattle.text.specs.Text.{tag_at, pad_width, width_step, past_all, padding_at}
use Rattle.text.specs.declared.Cursor.{Cursor}
use Rattle.text.proofs.Laws.{After, tag_after}
use Rattle.text.proofs.Answers.{by_past}
use Rattle.text.proofs.Widths.{pad_within}
use Rattle.spell.specs.Tables.{Spelling, kinds, numerals}
use Rattle.spell.specs.Spell.{first_of, has_number}
use Rattle.spell.specs.Count.{ten, tens_at, hand_count_at}
use Rattle.spell.proofs.Answers.{OnSpelled, is_as, is_not, as_is, by_spelled, below, first-within, first_known, first_some}

-- ---- repetitions

-- what every step keeps holds where a repetition ends
pub repeat_keeps : {A : Type 0} (f : ℕ → A → Step A) (P : ℕ → A → Type 0)
    → ((at : ℕ) (a : A) (at' : ℕ) (a' : A) → P at a → f at a ≡ more at' a' → P at' a')
    → (k at : ℕ) (a : A) → P at a → P (repeat_from f k at a).at (repeat_from f k at a).state
unfolding repeat_from
repeat_keeps f P h zero at a p = p
repeat_keeps {A} f P h (suc k) at a p = go (f at a) refl (repeat_keeps f P h k)
  where
    go : (r : Step A) → f at a ≡ r
        → ((at' : ℕ) (a' : A) → P at' a' → P (repeat_from f k at' a').at (repeat_from f k at' a').state)
        → P (on_step r (λ at' a'. repeat_from f k at' a') (ended at a)).at (on_step r (λ at' a'. repeat_from f k at' a') (ended at a)).state
    go (more at' a') e ih = ih at' a' (h at a at' a' p e)
    go stop e ih = p

-- ---- padding

-- from a place on, and no further than the end of the text, or no further at all
pub record On (n at to : ℕ) : Type 0 where
  pub from : at ≤ to
  pub within : to ≤ max at n

pub padding_on : (s : List ℕ) (at : ℕ) → On (length s) at (padding_at s at)
unfolding past_all
padding_on s at = repeat_keeps (width_step (pad_width s)) (λ to u. On (length s) at to) step (length s) at tt (record { from = omega arith; within = omega arith })
  where
    step : (to : ℕ) (u : Unit {0}) (to' : ℕ) (u' : Unit {0}) → On (length s) at to → width_step (pad_width s) to u ≡ more to' u' → On (length s) at to'
    step to u to' u' w =
        by_pick (λ (r : Step (Unit {0})). r ≡ more to' u' → On (length s) at to') (eqb (pad_width s to) 0) stop (more (to + pad_width s to) u)
        (λ _ q. let z : ◌≡◌ {A = ℕ} 0 1 = cc in absurd (omega arith))
        (λ _ q. let e : to + pad_width s to ≡ to' = cc in
        let f = w.from in
        let h = w.within in
        record { from = omega arith; within = omega (arith, pad_within s to) })

-- ---- answers

-- what holds of an answer's values, whichever they are
pub spelled-all : {P : ℕ → Cursor → Type 0} (r : Option (ℕ × Cursor)) → ((n : ℕ) (c : Cursor) → r ≡ Some (n, c) → P n c) → OnSpelled P r
spelled-all (Some (n, c)) k = is_as (k n c refl)
spelled-all None k = is_not

pub spelled-map : {P Q : ℕ → Cursor → Type 0} {r : Option (ℕ × Cursor)} → ((n : ℕ) (c : Cursor) → P n c → Q n c) → OnSpelled P r → OnSpelled Q r
spelled-map k (is_as {n} {c} h) = is_as (k n c h)
spelled-map k is_not = is_not

-- ---- tables

-- a spelling of a table without empty ones is passed
pub first_after : (m : ℕ) (es : List Spelling) → below m es ≡ true → (s : List ℕ) (at : ℕ) → OnSpelled (λ n c. After at (length s) c) (first_of es s at)
first_after m es h s at =
    spelled-all (first_of es s at) λ n c e.
    let p = (as_is (first_known m es h s at) e).past in
    record { past = p; within = omega (arith, as_is (first-within es s at) e) }

pub record Kind (s : List ℕ) (at k : ℕ) (c : Cursor) : Type 0 where
  pub least : 1 ≤ k
  pub most : k ≤ 14
  pub after : After at (length s) c

pub kind_known : (s : List ℕ) (at : ℕ) → OnSpelled (Kind s at) (first_of kinds s at)
unfolding has_number
kind_known s at =
    spelled-all (first_of kinds s at) λ n c e.
    let m = (as_is (first_known 15 kinds refl s at) e).small in
    record { least = as_is (first_some kinds refl s at) e; most = omega arith; after = as_is (first_after 15 kinds refl s at) e }

-- ---- counts

-- one after another
pub onward : {n at : ℕ} {c d : Cursor} → After at n c → After c.at n d → After at n d
onward a b =
    let p = a.past in
    let q = b.past in
    record { past = omega arith; within = b.within }

module _ (s : List ℕ) where
  numeral_after : (at : ℕ) → OnSpelled (λ n c. After at (length s) c) (first_of numerals s at)
  numeral_after = first_after 10 numerals refl s

  ten_after : (at : ℕ) (c : Cursor) → tag_at ten s at ≡ Some c → After at (length s) c
  ten_after at c e = tag_after ten s at c (omega arith) e

  tens_after : (at : ℕ) → OnSpelled (λ n c. After at (length s) c) (tens_at s at)
  unfolding tens_at
  tens_after at =
      by_spelled Q (by_past Q is_not (tag_at ten s at) (λ e w. is_as (ten_after at e w))) (numeral_after at)
      (λ d c a. by_past Q is_not (tag_at ten s c.at) (λ e w. is_as (onward a (ten_after c.at e w))))
    where
      Q : Option (ℕ × Cursor) → Type 0
      Q = OnSpelled (λ n c. After at (length s) c)

  -- a count is passed
  pub count_after : (at : ℕ) → OnSpelled (λ n c. After at (length s) c) (hand_count_at s at)
  unfolding hand_count_at
  count_after at =
      by_spelled Q (numeral_after at) (tens_after at)
      (λ t c a. by_spelled Q (is_as a) (numeral_after c.at) (λ d e b. is_as (onward a b)))
    where
      Q : Option (ℕ × Cursor) → Type 0
      Q = OnSpelled (λ n c. After at (length s) c)
