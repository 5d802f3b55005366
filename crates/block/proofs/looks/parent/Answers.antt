-- The refusals come in the definition's order.
-- Assumes nothing.
use Prim.Native.Nat.{ℕ}
use native.Mathlib.Omega.{arith}
use mathlib.Core.Path.{ap}
use borrow.Author.Tests.{lt-ltb, le-ltb}
use Rattle.block.specs.Look.{parent_answer}
use Rattle.block.specs.Decode.{lines_in}
use Rattle.jkf.specs.declared.Answer.TheVariants.{Done}
use Rattle.block.proofs.looks.parent.Goals as goal

pub returns-then-not-sound : goal.returns-then-not-sound
unfolding parent_answer
returns-then-not-sound c = rw (← c.sound.ensures, c.if-not-sound.true)

pub returns-then-lines-k : goal.returns-then-lines-k
unfolding parent_answer
returns-then-lines-k c =
    let a = c.args in
    rw (← c.sound.ensures, c.if-not-sound.false, le-ltb a.k (lines_in a.b.now) (omega (arith, c.lines.ensures.0)))

pub returns : goal.returns
unfolding parent_answer
returns c =
    let a = c.args in
    rw (← c.sound.ensures, c.if-not-sound.false, lt-ltb a.k (lines_in a.b.now) (omega (arith, c.lines.ensures.0))) (ap (λ (n : ℕ). Done n 0) c.parent_of.ensures.0)
