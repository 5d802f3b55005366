-- Two tests in their order.
-- Assumes nothing.
use native.Mathlib.Omega.{arith}
use mathlib.Core.Path.{refl, sym, ap, ◌∙◌}
use Rattle.jkf.proofs.Answering.{told}
use Rattle.edit.proofs.Outcomes.{insert-past, no_variation, variation}
use Rattle.plays.specs.Counted.{extent_of}
use Rattle.edit.specs.inner.Splicing.{numbered_in}
use Rattle.edit.proofs.Texts.{numbered-all}
use Rattle.edit.proofs.Measured.{counted, entries_are, end_is}
use Rattle.edit.proofs.insert.Goals as goal

pub returns-then-lines_in-line : goal.returns-then-lines_in-line
returns-then-lines_in-line c =
    let w = (let a = c.args in
    told (insert-past a.b.bytes.now a.line a.out.now a.t.now (omega (arith, c.if-lines_in-line.true, c.lines_in.ensures.0))) (refl, refl)) in
    record { value = w.0; out_after = w.1 }

pub is_variation-requires : goal.is_variation-requires
is_variation-requires c =
    let t = c.args.t.now in
    let e = counted t c.ply-j.ensures c.count_sequence-x.ensures in
    (entries_are (numbered_in t) e, end_is (numbered_in t) e)

pub returns-then-not-is_variation : goal.returns-then-not-is_variation
returns-then-not-is_variation c =
    let w = (let a = c.args in
    told
    (no_variation a.b.bytes.now a.line a.out.now a.t.now (omega (arith, c.if-lines_in-line.false, c.lines_in.ensures.0))
    (sym c.is_variation.ensures ∙ c.if-not-is_variation.true))
    (refl, refl)) in
    record { value = w.0; out_after = w.1 }

pub insert_on-requires : goal.insert_on-requires
insert_on-requires c =
    let t = c.args.t.now in
    let v = sym c.is_variation.ensures ∙ c.if-not-is_variation.false in
    (omega (arith, c.if-lines_in-line.false, c.lines_in.ensures.0), v, c.ply-j.ensures, counted t c.ply-j.ensures c.count_sequence-x.ensures ∙ ap extent_of (numbered-all t v))

pub returns : goal.returns
returns c =
    let w = (let a = c.args in
    told
    (variation a.b.bytes.now a.line a.out.now a.t.now (omega (arith, c.if-lines_in-line.false, c.lines_in.ensures.0))
    (sym c.is_variation.ensures ∙ c.if-not-is_variation.false))
    (c.insert_on.ensures.value, c.insert_on.ensures.out_after)) in
    record { value = w.0; out_after = w.1 }
