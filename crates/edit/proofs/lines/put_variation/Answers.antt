-- The entries of the text, and then the row of its line (`whole-made`).
-- Assumes nothing.
use mathlib.Core.Path.{refl}
use Rattle.edit.specs.Edit.{variation_of, line_on}
use Rattle.edit.proofs.Hung.{whole-made}
use Rattle.edit.proofs.lines.put_variation.Goals as goal

pub returns : goal.returns
returns c =
    let w = (let a = c.args in
    let t = a.t.now in
    whole-made (line_on a.k (variation_of t)) a.w a.out.now refl c.requires refl c.fill_moves-own.ensures.walk_value c.fill_moves-own.ensures.out_after c.put_line.ensures.value c.put_line.ensures.out_after) in
    record { value = w.0; out_after = w.1 }
