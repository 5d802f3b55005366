-- Each turn puts one line more.
-- Assumes nothing.
-- the lines that are put
use Prim.Native.Nat.{ℕ}
use mathlib.Core.List.{List}
use Rattle.jkf.specs.Model.{Line}
use Rattle.block.specs.Decode.{run}
use Rattle.filling.proofs.Growing.{Doing}
use Rattle.edit.specs.declared.lines.Splice.{Splice}
use Rattle.edit.specs.inner.Splicing.{shifted, put_whole}
use Rattle.edit.proofs.Rests.{rest}
use Rattle.edit.proofs.Runs.{moved}
use Rattle.edit.proofs.lines.copy_lines.Given as goal

abbrev pub copied : Splice → List ℕ → ℕ → Line
copied x b = moved (shifted x.p x.q x.added) b

abbrev pub invariant-loop-k : goal.invariant-loop-k
invariant-loop-k l = Doing put_whole (run (copied l.x l.b.bytes.now) l.i l.count) (rest (copied l.x l.b.bytes.now) l.i l.count l.k) l.initial.v l.v l.initial.out l.out
