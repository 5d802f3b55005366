-- One test, whose block is the one that was given (`made_of`, `none_of`).
-- Assumes nothing.
use Prim.Native.Nat.{ℕ}
use mathlib.Core.Path.{refl, ap, ◌∙◌}
use mathlib.Core.List.{List}
use Rattle.jkf.proofs.Answering.{told}
use Rattle.block.specs.Decode.{decode}
use Rattle.block.proofs.Sounding.{made_of, none_of}
use Rattle.edit.specs.Edit.{insert}
use Rattle.edit.specs.Outcomes.{edited_of}
use Rattle.edit.proofs.Outcomes.{put_unsound, put-sound}
use Rattle.edit.proofs.put_in.Goals as goal

pub returns-in_default : goal.returns-in_default
returns-in_default c =
    let a = c.args in
    let w = told (put_unsound a.block.now a.line a.out.now a.text.now (none_of a.block c.of.ensures c.in_default.not-Some)) (refl, refl) in
    record { value = w.0; out_after = w.1 }

pub returns : goal.returns
returns c =
    let a = c.args in
    let (s, e) = made_of a.block c.of.ensures c.in-Some.b c.in-Some.is in
    let w = told (put-sound a.block.now a.line a.out.now a.text.now s ∙ ap (λ (b : List ℕ). edited_of (insert (decode b) a.line a.text.now) a.out.now) e) (c.insert.ensures.value, c.insert.ensures.out_after) in
    record { value = w.0; out_after = w.1 }
