-- The first entry that cannot be written is answered, and else what is written, as the definition says.
-- Assumes nothing.
use mathlib.Core.Path.{refl, sym, ◌∙◌}
use Rattle.block.specs.Decode.{decode}
use Rattle.converter.proofs.Showing.{lines-refused, lines_clear}
use Rattle.jkf.proofs.Answering.{told}
use Rattle.converter.proofs.write_lines.Goals as goal

pub returns-in-Some : goal.returns-in-Some
returns-in-Some c =
    let w = (told (lines-refused c.args.mode (decode c.args.s.block.bytes.now) c.args.out.now _ _ (sym c.lines_obstacle.ensures ∙ c.in-Some.is)) (refl, refl)) in
    record { value = w.0; out_after = w.1 }

pub returns-in-None : goal.returns-in-None
returns-in-None c =
    let w = (told (lines_clear c.args.mode (decode c.args.s.block.bytes.now) c.args.out.now (sym c.lines_obstacle.ensures ∙ c.in-None.is)) (c.write_all.ensures.value, c.write_all.ensures.out_after)) in
    record { value = w.0; out_after = w.1 }
