-- Before line p a number stays; past it, it is less by what went and more by what came (`shifted-low`, `shifted-high`).
-- Assumes nothing.
use native.Mathlib.Omega.{arith}
use mathlib.Core.Path.{◌≡◌, sym}
use Prim.Native.Nat.{ℕ, ◌+◌, ◌-◌, ◌≤◌, ◌<◌}
use borrow.Author.Tests.{le-leb, lt-leb}
use Rattle.edit.specs.inner.Splicing.{shifted}
use Rattle.edit.proofs.lines.shifted.Goals as goal

shifted-low : (p q n i : ℕ) → i < p → shifted p q n i ≡ i
unfolding shifted
shifted-low p q n i h = rw (lt-leb p i h)

shifted-high : (p q n i : ℕ) → p ≤ i → shifted p q n i ≡ i + n - (q - p)
unfolding shifted
shifted-high p q n i h = rw (le-leb p i h)

pub returns-then-i-x : goal.returns-then-i-x
returns-then-i-x c = let a = c.args in (sym (shifted-low a.x.p a.x.q a.x.added a.i c.if-i-x.true), omega arith)

pub returns-then-i-x-2 : goal.returns-then-i-x-2
returns-then-i-x-2 c = let a = c.args in (omega (arith, shifted-high a.x.p a.x.q a.x.added a.i c.if-i-x.false), omega arith)

pub returns : goal.returns
returns c = let a = c.args in (sym (shifted-high a.x.p a.x.q a.x.added a.i c.if-i-x.false), omega arith)
