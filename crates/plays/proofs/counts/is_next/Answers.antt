-- The number less n is k just where the number is n and k.
-- Assumes nothing.
use Prim.Native.Nat.{ℕ, ◌+◌, ◌-◌, ◌≤◌}
use native.Mathlib.Omega.{arith}
use mathlib.Core.Path.{◌≡◌, sym, ◌∙◌}
use lib.Dec.{eqb}
use borrow.Author.Tests.{eq-eqb, ne_eqb, eqb-true, eqb-false}
use Rattle.lists.proofs.Laws.{by_pick}
use Rattle.plays.proofs.counts.is_next.Goals as goal

less-is : (m n k : ℕ) → n ≤ m → eqb (m - n) k ≡ eqb m (n + k)
less-is m n k h =
    by_pick (λ (u : Unit {0}). eqb (m - n) k ≡ eqb m (n + k)) (eqb (m - n) k) tt tt
    (λ e. e ∙ sym (eq-eqb m (n + k) (omega (arith, eqb-true (m - n) k e))))
    (λ e. e ∙ sym (ne_eqb m (n + k) (λ q. eqb-false (m - n) k e (omega (arith, q)))))

pub returns-then-number-n : goal.returns-then-number-n
returns-then-number-n c = let a = c.args in sym (ne_eqb a.number (a.n + a.k) (λ e. omega (arith, e, c.if-number-n.true)))

pub returns : goal.returns
returns c = let a = c.args in less-is a.number a.n a.k (omega (arith, c.if-number-n.false))
