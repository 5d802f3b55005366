-- A variation that starts at 0 is answered where the mode may lose none, and else what comes of the hands and lines, as the definition says.
-- Assumes nothing.
use Prim.Native.Nat.{ℕ}
use mathlib.Core.Path.{refl, sym, ap, ◌∙◌}
use mathlib.Core.List.{List}
use Rattle.block.specs.Decode.{decode}
use Rattle.converter.specs.Show.{show}
use Rattle.converter.specs.Writing.{shown_of}
use Rattle.converter.proofs.Showing.{starts-refused, starts_clear}
use Rattle.jkf.proofs.Answering.{told}
use Rattle.converter.proofs.write_sound.Goals as goal

pub returns-in-Some : goal.returns-in-Some
returns-in-Some c =
    let w = (let a = c.args in
    let same = ap (λ (b : List ℕ). shown_of (show a.mode (decode b)) a.out.now) (sym c.shown_lines-s.ensures) in
    told (same ∙ starts-refused a.mode (decode c.shown_lines-s.result.block.bytes.now) a.out.now _ _ (sym c.start_obstacle.ensures ∙ c.in-Some.is)) (refl, refl)) in
    record { value = w.0; out_after = w.1 }

pub returns-in-None : goal.returns-in-None
returns-in-None c =
    let w = (let a = c.args in
    let same = ap (λ (b : List ℕ). shown_of (show a.mode (decode b)) a.out.now) (sym c.shown_lines-s.ensures) in
    told (same ∙ starts_clear a.mode (decode c.shown_lines-s.result.block.bytes.now) a.out.now (sym c.start_obstacle.ensures ∙ c.in-None.is)) (c.write_hands.ensures.value, c.write_hands.ensures.out_after)) in
    record { value = w.0; out_after = w.1 }
