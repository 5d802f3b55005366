-- The two cases of `turn_text`.
-- Assumes nothing.
use Rattle.lent.proofs.Room.{two_stored}
use native.Mathlib.Omega.{arith}
use mathlib.Core.List.{[], ◌∷◌, ◌++◌, append_assoc}
use mathlib.Core.Path.{sym, ap, ◌∙◌}
use lib.ListN.{length}
use Rattle.spell.specs.Spell.{spelled}
use Rattle.spell.specs.Tables.{sides}
use Rattle.spell.specs.Words.{turn_tag}
use Rattle.converter.proofs.Cased.{turn-none, turn-white}
use Rattle.lent.proofs.Writes.{as_text, nothing}
use Rattle.converter.proofs.starts.put_turn.Goals as goal

pub returns-then-turn-ne1 : goal.returns-then-turn-ne1
returns-then-turn-ne1 c = as_text (sym (turn-none c.args.turn c.if-turn-ne1.true)) (nothing _)

pub returns : goal.returns
returns c =
    let a = c.args in
    let s = spelled sides 1 in
    let t = turn_tag ++ (10 ∷ []) in
    let e = turn-white a.turn c.if-turn-ne1.false ∙ append_assoc s turn_tag (10 ∷ []) in
    as_text (sym e) (two_stored s t (omega (arith, ap length e, c.requires)) c.put_side-n.ensures c.put_at.ensures)
