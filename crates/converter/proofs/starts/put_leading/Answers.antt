use Prim.Native.Nat.{◌-◌}
use native.Mathlib.Omega.{arith}
use mathlib.Core.Path.{◌≡◌, sym, ap}
use lib.ListN.{get_or}
use Rattle.lent.proofs.Writes.{then, as_text, nothing}
use Rattle.block.specs.Decode.{header_in}
use Rattle.block.proofs.Tabling.{concat-none}
use Rattle.converter.specs.Headers.{header_line}
use Rattle.converter.proofs.Heading.{line-in, leads, lead_none, lead_some, lead_room, wrote_as}
use Rattle.lent.proofs.Room.{room_after, room_as}
use Rattle.converter.proofs.starts.put_leading.Goals as goal
use Rattle.converter.proofs.starts.put_leading.Goals.{then-place-gt0, else-place-gt0}

pub loop-place-init : goal.loop-place-init
loop-place-init c = as_text (sym (concat-none _ _ 1)) (nothing _)

pub put_header-at-requires : goal.put_header-at-requires
put_header-at-requires c =
    let l = c.loop-place in
    let p = c.requires in
    let b = c.args.b.now in
    let k = get_or c.args.places.now l.place-index 0 - 1 in
    room_as (line-in b k c.texts_of-texts.ensures c.key_in.ensures c.value_in.ensures) (room_after (header_line (header_in b k)) l.invariant (lead_room p.0 l.place-index (omega arith) (omega arith) p.1))

pub loop-place-preserved : goal.loop-place-preserved
loop-place-preserved c =
    let l = c.loop-place in
    let p = c.requires.0 in
    let k = get_or c.args.places.now l.place-index 0 - 1 in
    elim c.if-place-gt0.branch [
      | then-place-gt0 w ↦ wrote_as (lead_some p l.place-index (omega arith) w.if-place-gt0.true) w.out-is w.at-is (then l.invariant (as_text (line-in c.args.b.now k c.texts_of-texts.ensures w.key_in.ensures w.value_in.ensures) w.put_header-at.ensures))
      | else-place-gt0 w ↦ wrote_as (lead_none p l.place-index (omega arith) (omega (arith, w.if-place-gt0.false))) w.out-is w.at-is l.invariant
    ]

pub returns : goal.returns
returns c =
    let l = c.loop-place in
    let s = c.requires.0.size in
    let e : l.place-index ≡ 12 = omega arith in
    as_text (ap (leads c.args.b.now) e) l.invariant
