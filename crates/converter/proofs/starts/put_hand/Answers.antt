-- What is held, where that is not empty; else nothing was written, so なし is written into the buffer as it was.
-- Assumes nothing.
use native.Mathlib.Omega.{arith}
use mathlib.Core.Path.{sym, ap, ◌∙◌}
use lib.ListN.{length}
use Rattle.lent.proofs.Writes.{as_text}
use Rattle.spell.specs.Words.{none_tag}
use Rattle.converter.specs.Diagrams.{all_held}
use Rattle.converter.proofs.Cased.{hand-none, hand-some, hand-room}
use Rattle.lent.proofs.Room.{instead}
use Rattle.converter.proofs.starts.put_hand.Goals as goal

pub put_all_held-n-requires : goal.put_all_held-n-requires
put_all_held-n-requires c =
    let a = c.args in
    (c.requires.0, hand-room (all_held a.hands.now a.side) (length a.out.now) c.requires.1)

pub returns-then-n-eq0 : goal.returns-then-n-eq0
returns-then-n-eq0 c =
    let a = c.args in
    let n = c.if-n-eq0.true in
    let e = hand-none (all_held a.hands.now a.side) (sym c.put_all_held-n.ensures.count ∙ n) in
    as_text (sym e) (instead none_tag c.put_all_held-n.ensures n (omega (arith, ap length e, c.requires.1)) c.put_bytes.ensures)

pub returns : goal.returns
returns c =
    let a = c.args in
    as_text (sym (hand-some (all_held a.hands.now a.side) (λ z. c.if-n-eq0.false (c.put_all_held-n.ensures.count ∙ z)))) c.put_all_held-n.ensures
