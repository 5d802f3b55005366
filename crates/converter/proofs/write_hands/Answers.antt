-- The first hand count over 99 is answered, and else what comes of the lines, as the definition says.
-- Assumes nothing.
use Rattle.std.specs.Prelude.{None}
use mathlib.Core.Path.{◌≡◌, refl, sym, ap, ◌∙◌}
use Rattle.block.specs.Decode.{decode}
use Rattle.converter.specs.Show.{hands_obstacle}
use Rattle.converter.proofs.Showing.{position_is, hands-refused, hands_clear}
use Rattle.jkf.proofs.Answering.{told}
use Rattle.converter.proofs.write_hands.Goals as goal

pub returns-in-Some : goal.returns-in-Some
returns-in-Some c =
    let w = (let b = c.args.s.block.bytes.now in
    let e : hands_obstacle (decode b).position ≡ _ = ap hands_obstacle (position_is b ∙ sym c.position_of.ensures) ∙ sym c.hands_obstacle.ensures ∙ c.in-Some.is in
    told (hands-refused c.args.mode (decode b) c.args.out.now _ _ e) (refl, refl)) in
    record { value = w.0; out_after = w.1 }

pub returns-in-None : goal.returns-in-None
returns-in-None c =
    let w = (let b = c.args.s.block.bytes.now in
    let e : hands_obstacle (decode b).position ≡ None = ap hands_obstacle (position_is b ∙ sym c.position_of.ensures) ∙ sym c.hands_obstacle.ensures ∙ c.in-None.is in
    told (hands_clear c.args.mode (decode b) c.args.out.now e) (c.write_lines.ensures.value, c.write_lines.ensures.out_after)) in
    record { value = w.0; out_after = w.1 }
