-- The block is refused by its length, or filled.
-- Assumes nothing.
use mathlib.Core.Path.{sym, ◌∙◌}
use Rattle.parser.proofs.Completing.{prepared_so, refused_so, opened_so, stored_so}
use Rattle.parser.proofs.stores.store.Goals as goal

pub fill_parts-requires : goal.fill_parts-requires
fill_parts-requires c =
    let f = c.requires.ready in
    let m = c.args.v.moves in
    record { prepared = prepared_so c.args.s.now m c.args.headers.now f; opened = opened_so c.args.s.now m c.args.headers.now f c.args.out.now c.requires.sizes c.open.ensures.out_after (sym c.in-Ok.is ∙ c.open.ensures.value) }

pub returns-in-Ok : goal.returns-in-Ok
returns-in-Ok c =
    let w = (stored_so c.args.s.now c.args.v.moves c.args.headers.now c.requires.ready c.args.out.now c.requires.sizes c.open.ensures.out_after (sym c.in-Ok.is ∙ c.open.ensures.value) c.fill_parts.ensures.answer_value c.fill_parts.ensures.out_after c.fill_parts.ensures.lost_value) in
    record { answer_value = w.0; out_after = w.1.0; lost_value = w.1.1 }

pub returns-in-Err : goal.returns-in-Err
returns-in-Err c =
    let x = refused_so c.args.s.now c.args.v.moves c.args.headers.now c.requires.ready c.args.out.now c.requires.sizes c.open.ensures.out_after (sym c.in-Err.is ∙ c.open.ensures.value) in
    record { answer_value = c.refused.ensures.0 ∙ x.0; out_after = x.1.0; lost_value = c.refused.ensures.1 ∙ x.1.1 }
