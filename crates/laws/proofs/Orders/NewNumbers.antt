-- The numbers of lines once there is a new line n: those from n on go up by one, so their order stays, and every number but n is an old line's.
--     renumbered-most, renumbered-least, renumbered-below     a number goes up by at most one, and the order stays
--     by_number                                              what holds of the new line and of each old one holds of all
-- Assumes nothing.
use Prim.Native.Nat.{ℕ, ◌+◌, ◌-◌, ◌≤◌, ◌<◌}
use native.Mathlib.Omega.{arith}
use native.Mathlib.Decide.{dec_lt}
use mathlib.Core.Path.{◌≡◌, ap, ◌∙◌, subst}
use lib.Dec.{leb}
use Rattle.lists.proofs.Laws.{by_pick}
use Rattle.edit.specs.Edit.{renumbered}
use Rattle.edit.proofs.Renumbering.{renumbered-low, renumbered-high}

module _ (n : ℕ) where
  pub renumbered-most : (i : ℕ) → renumbered n i ≤ i + 1
  renumbered-most i = by_pick (λ (q : ℕ). q ≤ i + 1) (leb n i) (i + 1) i (λ _. omega arith) (λ _. omega arith)

  pub renumbered_least : (i : ℕ) → i ≤ renumbered n i
  renumbered_least i = by_pick (λ (q : ℕ). i ≤ q) (leb n i) (i + 1) i (λ _. omega arith) (λ _. omega arith)

  renumbered_rises : (i l : ℕ) → i < l → renumbered n i < renumbered n l
  renumbered_rises i l h = go (dec_lt l n)
    where
      go : Dec (l < n) → renumbered n i < renumbered n l
      go (yes a) = omega (arith, renumbered-low n i (omega arith), renumbered-low n l a)
      go (no a) = omega (arith, renumbered-most i, renumbered-high n l (omega arith))

  pub renumbered_below : (i l : ℕ) → renumbered n i < renumbered n l → i < l
  renumbered_below i l h = go (dec_lt i l) (dec_lt l i)
    where
      go : Dec (i < l) → Dec (l < i) → i < l
      go (yes a) b = a
      go (no a) (yes b) = absurd (omega (arith, renumbered_rises l i b))
      go (no a) (no b) = let e : i ≡ l = omega arith in absurd (omega (arith, ap (renumbered n) e))

  pub by-number : (P : ℕ → Type 0) → P n → ((i : ℕ) → P (renumbered n i)) → (i : ℕ) → P i
  by-number P new old i = go (dec_lt i n) (dec_lt n i)
    where
      go : Dec (i < n) → Dec (n < i) → P i
      go (yes a) b = subst P (renumbered-low n i a) (old i)
      go (no a) (yes b) = let e : i - 1 + 1 ≡ i = omega arith in subst P (renumbered-high n (i - 1) (omega arith) ∙ e) (old (i - 1))
      go (no a) (no b) = let e : n ≡ i = omega arith in subst P e new
