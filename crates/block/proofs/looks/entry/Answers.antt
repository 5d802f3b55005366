-- The refusals come in the definition's order; the row stands 20 bytes for each entry before it past that of the line's first.
-- Assumes nothing.
use Prim.Native.Nat.{ℕ, ◌+◌, ◌*◌}
use native.Mathlib.Omega.{arith}
use mathlib.Core.Path.{◌≡◌, ap}
use borrow.Author.Tests.{lt-ltb, le-ltb}
use Rattle.block.specs.Look.{entry_answer}
use Rattle.block.specs.Decode.{lines_in, move_place, first_entry, entry_count}
use Rattle.jkf.specs.declared.Answer.TheVariants.{Done}
use Rattle.block.proofs.looks.entry.Goals as goal

pub returns-then-not-sound : goal.returns-then-not-sound
unfolding entry_answer
returns-then-not-sound c = rw (← c.sound.ensures, c.if-not-sound.true)

pub returns-then-lines-k : goal.returns-then-lines-k
unfolding entry_answer
returns-then-lines-k c =
    let a = c.args in
    rw (← c.sound.ensures, c.if-not-sound.false, le-ltb a.k (lines_in a.b.now) (omega (arith, c.lines.ensures.0)))

pub returns-then-entry_count-i : goal.returns-then-entry_count-i
unfolding entry_answer
returns-then-entry_count-i c =
    let a = c.args in
    let b = a.b.now in
    rw (← c.sound.ensures, c.if-not-sound.false, lt-ltb a.k (lines_in b) (omega (arith, c.lines.ensures.0)), le-ltb a.i (entry_count b a.k) (omega (arith, c.entry_count.ensures.0)))

pub returns : goal.returns
unfolding entry_answer
returns c =
    let a = c.args in
    let b = a.b.now in
    let place : c.move_place-row.result + 20 * a.i ≡ move_place b (first_entry b a.k + a.i) = omega (arith, c.move_place-row.ensures.0, c.first_entry.ensures.0) in
    rw (← c.sound.ensures, c.if-not-sound.false, lt-ltb a.k (lines_in b) (omega (arith, c.lines.ensures.0)), lt-ltb a.i (entry_count b a.k) (omega (arith, c.entry_count.ensures.0)))
    (ap (λ (n : ℕ). Done n 20) place)
