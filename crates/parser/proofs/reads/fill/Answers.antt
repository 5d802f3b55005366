-- A text that is refused early is answered so, and any other is stored.
-- Assumes nothing.
use Rattle.std.specs.Prelude.{Some, None}
use mathlib.Core.Path.{◌≡◌, refl, sym, ◌∙◌}
use lib.Seq.{length-take-le}
use Rattle.parser.specs.Read.{early_of, fill_of}
use Rattle.parser.proofs.Completing.{early_lost, passed_lost}
use Rattle.parser.proofs.reads.fill.Goals as goal

pub slice_bounds-sorted-end : goal.slice_bounds-sorted-end
slice_bounds-sorted-end c = (c.survey-v.ensures.sorted c.in-None.is).room

pub slice_bounds-store-end : goal.slice_bounds-store-end
slice_bounds-store-end c = sym (length-take-le _ _ (c.survey-v.ensures.sorted c.in-None.is).room)

pub store-requires : goal.store-requires
store-requires c = (c.survey-v.ensures.sorted c.in-None.is).found

pub returns-in-Some : goal.returns-in-Some
unfolding fill_of
returns-in-Some c =
    let q : early_of c.args.text.now ≡ Some c.in-Some.a = sym c.survey-v.ensures.early_value ∙ c.in-Some.is in
    let a = c.args in
    rw q (record { answer_value = c.refused.ensures.0; out_after = refl; lost_value = c.refused.ensures.1 ∙ early_lost a.text.now a.out.now q })

pub returns-in-None : goal.returns-in-None
unfolding fill_of
returns-in-None c =
    let q : early_of c.args.text.now ≡ None = sym c.survey-v.ensures.early_value ∙ c.in-None.is in
    let a = c.args in
    rw q (record { answer_value = c.store.ensures.answer_value; out_after = c.store.ensures.out_after; lost_value = c.store.ensures.lost_value ∙ passed_lost a.text.now a.out.now q })
