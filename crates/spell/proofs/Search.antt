-- Walking over the rows of a table: what stands in a row, and what is left after it. Every search over rows goes by these laws.
-- Assumes nothing.
use Rattle.std.specs.Prelude.{Some}
use Prim.Native.Nat.{ℕ, zero, suc, ◌+◌, ◌≤◌, ◌<◌}
use native.Mathlib.Omega.{arith}
use mathlib.Core.Path.{◌≡◌, sym, ap}
use mathlib.Core.List.{List, [], ◌∷◌}
use mathlib.Core.Bool.{true, false}
use lib.ListN.{length, get_or, drop, take}
use lib.Dec.{eqb, leb}
use Rattle.std.proofs.Common.{add-one}
use borrow.Author.Tests.{eqb-true, leb-true, eq-eqb, ne_eqb}
use Rattle.lists.proofs.Laws.{pick_both}
use Rattle.text.specs.Text.{cursor, stands_at}
use Rattle.spell.specs.Tables.{Spelling, spelling}
use Rattle.spell.specs.Spell.{first_of, spelled}
use Rattle.spell.specs.inner.Rows.{spellings, fits, all_fit}
use Rattle.spell.specs.declared.Row.{Row}

-- what a row's test says
pub record Fits {w : ℕ} (r : Row w) : Type 0 where
  pub wide : length r.bytes ≡ w
  pub fits : r.length ≤ w

fits_so : {w : ℕ} (r : Row w) → fits r ≡ true → Fits r
fits_so {w} r h =
    let (q, k) = pick_both (eqb (length r.bytes) w) _ h in
    record { wide = eqb-true (length r.bytes) w q; fits = leb-true r.length w (pick_both (leb r.length w) _ k).0 }

pub fits_at : {w : ℕ} (rows : List (Row w)) (i : ℕ) (r : Row w) → all_fit rows ≡ true → i < length rows → r ≡ get_or rows i r → Fits r
fits_at [] i r h l e = absurd (omega arith)
fits_at (x ∷ rows) zero r h l e = rw e (fits_so x (pick_both (fits x) (all_fit rows) h).0)
fits_at (x ∷ rows) (suc i) r h l e = fits_at rows i r (pick_both (fits x) (all_fit rows) h).1 (omega arith) e

left_suc : {w : ℕ} (rows : List (Row w)) (i : ℕ) (r : Row w) → i < length rows → r ≡ get_or rows i r →
    spellings (drop i rows) ≡ spelling r.number (take r.length r.bytes) ∷ spellings (drop (suc i) rows)
left_suc [] i r l e = absurd (omega arith)
left_suc (x ∷ rows) zero r l e = ap (λ (y : Row _). spelling y.number (take y.length y.bytes) ∷ spellings rows) (sym e)
left_suc (x ∷ rows) (suc i) r l e = left_suc rows i r (omega arith) e

-- what is left of a table at a row: the row and what comes after it
pub left_at : {w : ℕ} (rows : List (Row w)) (i : ℕ) (r : Row w) → i < length rows → r ≡ get_or rows i r →
    spellings (drop i rows) ≡ spelling r.number (take r.length r.bytes) ∷ spellings (drop (i + 1) rows)
left_at rows i r l e = rw add-one (left_suc rows i r l e)

-- ---- the two searches: by the row that is met, and past it

pub first_here : (e : Spelling) (es : List Spelling) (s : List ℕ) (at : ℕ) → stands_at e.bytes s at ≡ true →
    first_of (e ∷ es) s at ≡ Some (e.number, cursor (at + length e.bytes))
unfolding first_of
first_here e es s at h = rw h

pub first_past : (e : Spelling) (es : List Spelling) (s : List ℕ) (at : ℕ) → stands_at e.bytes s at ≡ false → first_of (e ∷ es) s at ≡ first_of es s at
unfolding first_of
first_past e es s at h = rw h

pub spelled_here : (e : Spelling) (es : List Spelling) (n : ℕ) → e.number ≡ n → spelled (e ∷ es) n ≡ e.bytes
unfolding spelled
spelled_here e es n h = rw (eq-eqb e.number n h)

pub spelled_past : (e : Spelling) (es : List Spelling) (n : ℕ) → (e.number ≡ n → ⊥) → spelled (e ∷ es) n ≡ spelled es n
unfolding spelled
spelled_past e es n h = rw (ne_eqb e.number n h)
