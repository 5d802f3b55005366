-- The refusal and the answer are the definition's.
-- Assumes nothing.
use Prim.Native.Nat.{ℕ}
use mathlib.Core.Path.{ap}
use Rattle.block.specs.Look.{lines_answer}
use Rattle.jkf.specs.declared.Answer.TheVariants.{Done}
use Rattle.block.proofs.looks.lines.Goals as goal

pub returns-then-not-sound : goal.returns-then-not-sound
unfolding lines_answer
returns-then-not-sound c = rw (← c.sound.ensures, c.if-not-sound.true)

pub returns : goal.returns
unfolding lines_answer
returns c = rw (← c.sound.ensures, c.if-not-sound.false) (ap (λ (n : ℕ). Done n 0) c.lines.ensures.0)
