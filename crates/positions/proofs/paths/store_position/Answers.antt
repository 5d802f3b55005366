-- A refusal is handed on; a buffer that is short is refused last; else the 100 bytes are put.
-- Assumes nothing.
use mathlib.Core.Path.{◌≡◌, refl, sym, ap, subst, ◌∙◌}
use Rattle.jkf.specs.Answers.{figures}
use Rattle.jkf.specs.declared.Figures.{Figures}
use Rattle.jkf.proofs.Answering.{told}
use Rattle.positions.specs.declared.After.{After}
use Rattle.positions.specs.Paths.{position_stored}
use Rattle.positions.proofs.Walks.{position-stored, stored_refused, stored_short, stored_done}
use Rattle.positions.proofs.Longs.{Long, long_after}
use Rattle.positions.proofs.paths.store_position.Goals as goal

pub returns-then-from-ne0 : goal.returns-then-from-ne0
returns-then-from-ne0 c =
    let w = (let o = c.args.out.now in
    let n : (figures c.position_after-a.result.answer).number ≡ 0 → ⊥ = λ z. c.if-from-ne0.true (ap (λ (f : Figures). f.number) c.from.ensures ∙ z) in
    told (ap (λ (x : After). position_stored x o) (sym c.position_after-a.ensures) ∙ stored_refused c.position_after-a.result o n) (refl, refl)) in
    record { value = w.0; out_after = w.1 }

pub returns-then-out-lt100 : goal.returns-then-out-lt100
returns-then-out-lt100 c =
    let w = (let o = c.args.out.now in
    let n : (figures c.position_after-a.result.answer).number ≡ 0 = sym (ap (λ (f : Figures). f.number) c.from.ensures) ∙ c.if-from-ne0.false in
    told (ap (λ (x : After). position_stored x o) (sym c.position_after-a.ensures) ∙ stored_short c.position_after-a.result o n c.if-out-lt100.true) (refl, refl)) in
    record { value = w.0; out_after = w.1 }

pub returns : goal.returns
returns c =
    let w = (let s = c.args in
    let o = s.out.now in
    let n : (figures c.position_after-a.result.answer).number ≡ 0 = sym (ap (λ (f : Figures). f.number) c.from.ensures) ∙ c.if-from-ne0.false in
    let l : Long c.position_after-a.result.position = subst (λ (x : After). Long x.position) (sym c.position_after-a.ensures) (long_after s.b.now s.line s.entry) in
    told (ap (λ (x : After). position_stored x o) (sym c.position_after-a.ensures) ∙ stored_done c.position_after-a.result o n c.if-out-lt100.false)
    (refl, position-stored c.position_after-a.result.position l.cells l.hands c.if-out-lt100.false c.put_position.ensures)) in
    record { value = w.0; out_after = w.1 }
