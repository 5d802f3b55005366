-- A block that is not sound is refused, and a sound one, which is the one that was given (`made_of`), written, as the definition says.
-- Assumes nothing.
use Prim.Native.Nat.{ℕ}
use mathlib.Core.Path.{refl, ap, ◌∙◌}
use mathlib.Core.List.{List}
use Rattle.jkf.proofs.Answering.{told}
use Rattle.block.specs.Decode.{decode}
use Rattle.block.proofs.Sounding.{made_of, none_of}
use Rattle.converter.specs.Show.{show}
use Rattle.converter.specs.Writing.{shown_of}
use Rattle.converter.proofs.Showing.{not_sound, is_sound}
use Rattle.converter.proofs.write_as.Goals as goal

pub returns-in_default : goal.returns-in_default
returns-in_default c =
    let a = c.args in
    let w = told (not_sound a.mode a.block.now a.out.now (none_of a.block c.of.ensures c.in_default.not-Some)) (refl, refl) in
    record { value = w.0; out_after = w.1 }

pub returns : goal.returns
returns c =
    let a = c.args in
    let (s, same) = made_of a.block c.of.ensures c.in-Some.b c.in-Some.is in
    let w = told (is_sound a.mode a.block.now a.out.now s ∙ ap (λ (b : List ℕ). shown_of (show a.mode (decode b)) a.out.now) same) (c.write_sound.ensures.value, c.write_sound.ensures.out_after) in
    record { value = w.0; out_after = w.1 }
