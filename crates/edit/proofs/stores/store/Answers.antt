-- The block is begun and its lines are put, so it is whole; or it is refused by its length (`begun-stored`, `refused-stored`).
-- Assumes nothing.
use mathlib.Core.Path.{sym, ◌∙◌}
use Rattle.edit.specs.inner.Splicing.{new_lines}
use Rattle.edit.proofs.Measured.{added_small}
use Rattle.edit.proofs.Assembled.{begun_stored, refused_stored}
use Rattle.block.proofs.Sounding.{keeps}
use Rattle.edit.proofs.stores.store.Goals as goal

pub measure-sizes-requires : goal.measure-sizes-requires
measure-sizes-requires c =
    let n = added_small c.args.t.now c.args.a c.requires.2 (c.sizes_added.ensures.1 c.args.t.now c.requires.2) in
    record { range = (c.requires.0, c.requires.1); lines_bound = (c.sizes_added.ensures.0, n.0, n.1, n.2) }

pub put_lines-requires : goal.put_lines-requires
put_lines-requires c = c.requires

pub returns-in-Ok : goal.returns-in-Ok
returns-in-Ok c =
    let w = (let a = c.args in
    let h = c.requires in
    begun_stored a.version a.b.bytes.now (keeps a.b) a.p a.q (new_lines a.a a.t.now) (h.0, h.1) (c.sizes_added.ensures.1 a.t.now h.2) c.measure-sizes.ensures.0 c.measure-sizes.ensures.1 c.position_of.ensures a.second a.out.now
    (sym c.in-Ok.is ∙ c.open.ensures.value) c.open.ensures.out_after c.copy_headers-v.ensures.value c.copy_headers-v.ensures.out_after c.put_lines.ensures) in
    record { value = w.0; out_after = w.1 }

pub returns-in-Err : goal.returns-in-Err
returns-in-Err c =
    let w = (let a = c.args in
    let h = c.requires in
    refused_stored a.version a.b.bytes.now (keeps a.b) a.p a.q (new_lines a.a a.t.now) (h.0, h.1) (c.sizes_added.ensures.1 a.t.now h.2) c.measure-sizes.ensures.0 c.measure-sizes.ensures.1 c.position_of.ensures a.second a.out.now
    (sym c.in-Err.is ∙ c.open.ensures.value) c.open.ensures.out_after) in
    record { value = w.0; out_after = w.1 }
