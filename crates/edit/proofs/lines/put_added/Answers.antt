-- Nothing is put, or the line of the text.
-- Assumes nothing.
use mathlib.Core.Path.{sym, ◌∙◌}
use Rattle.edit.specs.Edit.{variation_of, line_on}
use Rattle.edit.proofs.Hung.{one-put, none-put}
use Rattle.edit.proofs.lines.put_added.Goals as goal

pub put_variation-requires : goal.put_variation-requires
put_variation-requires c = let h = rw c.in-Some.is at c.requires in h.0

pub returns-in-None : goal.returns-in-None
returns-in-None c =
    let w = none-put c.args.w c.args.out.now in
    rw c.in-None.is (record { value = w.0; out_after = w.1 })

pub returns-in-Some : goal.returns-in-Some
returns-in-Some c =
    let a = c.args in
    let one = one-put (line_on c.in-Some.x.line (variation_of a.t.now)) a.w a.out.now in
    rw c.in-Some.is (record { value = c.put_variation.ensures.value ∙ sym one.0; out_after = c.put_variation.ensures.out_after ∙ sym one.1 })
