-- Whether there is a line before it is told by the place where the rows end.
-- Assumes nothing.
use Prim.Native.Nat.{ℕ, ◌/◌}
use mathlib.Core.Path.{ap, ◌∙◌}
use mathlib.Core.List.{List}
use Rattle.jkf.specs.Following.{hangs_by}
use Rattle.filling.proofs.Hooking.{first-hangs, later-hangs}
use Rattle.filling.proofs.hangs.hanging.Goals as goal

pub returns-then-k-eq0 : goal.returns-then-k-eq0
returns-then-k-eq0 c = let a = c.args in first-hangs a.rows a.start a.w a.out.now (ap (λ (n : ℕ). n / 8) c.saturating_sub-k.ensures) c.if-k-eq0.true

pub returns : goal.returns
returns c = let a = c.args in c.hang_of.ensures ∙ ap (λ (l : List ℕ). hangs_by l a.start (c.saturating_sub-k.result / 8)) c.rest.ensures ∙ later-hangs a.rows a.start a.w a.out.now (ap (λ (n : ℕ). n / 8) c.saturating_sub-k.ensures) c.if-k-eq0.false
