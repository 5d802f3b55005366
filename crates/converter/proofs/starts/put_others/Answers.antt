use Prim.Native.Nat.{ℕ}
use native.Mathlib.Omega.{arith}
use mathlib.Core.Path.{◌≡◌, sym, ap, ◌∙◌}
use Rattle.lent.proofs.Writes.{then, nothing, as_text}
use Rattle.block.specs.Decode.{run, header_in, headers_in, key_of}
use Rattle.converter.specs.Headers.{leading_number, lines_of, header_line}
use Rattle.converter.proofs.Heading.{number_in, line-in, lines_none, lines_more, lines_same, lines-room, wrote_as}
use Rattle.lent.proofs.Room.{room_after, room_as}
use Rattle.converter.proofs.starts.put_others.Goals as goal
use Rattle.converter.proofs.starts.put_others.Goals.{then-leading_number-eq0, else-leading_number-eq0}
use Rattle.converter.proofs.starts.put_others.Goals.{After-leading_number}

-- the number of entry k's key
number : (c : After-leading_number) → leading_number (key_of c.args.b.now c.loop-k.k) ≡ c.leading_number.result
number c = number_in c.args.b.now c.loop-k.k c.texts_of-texts.ensures c.key_in-key.ensures ∙ sym c.leading_number.ensures.0

pub loop-k-init : goal.loop-k-init
loop-k-init c = (omega arith, as_text (sym (lines_none _ 0)) (nothing _))

pub put_header-at-requires : goal.put_header-at-requires
put_header-at-requires c =
    let l = c.loop-k in
    let b = c.args.b.now in
    let r = lines-room b 0 l.k (number (goal.at.put_header-at-requires c).After-leading_number ∙ c.if-leading_number-eq0.true) (omega arith) c.requires in
    room_as (line-in b l.k c.texts_of-texts.ensures c.key_in-key.ensures c.value_in.ensures) (room_after (header_line (header_in b l.k)) l.invariant.1 r)

pub loop-k-preserved : goal.loop-k-preserved
loop-k-preserved c =
    let l = c.loop-k in
    let b = c.args.b.now in
    let e = number (goal.at.loop-k-preserved c).After-leading_number in (
      omega arith,
      elim c.if-leading_number-eq0.branch [
        | then-leading_number-eq0 w ↦ wrote_as (lines_more b 0 l.k (e ∙ w.if-leading_number-eq0.true)) w.out-is w.at-is (then l.invariant.1 (as_text (line-in b l.k c.texts_of-texts.ensures c.key_in-key.ensures w.value_in.ensures) w.put_header-at.ensures))
        | else-leading_number-eq0 w ↦ wrote_as (lines_same b 0 l.k (λ q. w.if-leading_number-eq0.false (sym e ∙ q))) w.out-is w.at-is l.invariant.1
      ],
    )

pub returns : goal.returns
returns c =
    let l = c.loop-k in
    let b = c.args.b.now in
    let e : l.k ≡ headers_in b = omega arith in
    as_text (ap (λ (j : ℕ). lines_of 0 (run (header_in b) 0 j)) e) l.invariant.1
