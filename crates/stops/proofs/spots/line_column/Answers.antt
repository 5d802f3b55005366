use Prim.Native.Nat.{◌+◌}
use native.Mathlib.Omega.{arith}
use mathlib.Core.Path.{refl, sym, ap, ◌∙◌, subst}
use lib.ListN.{length, get_or}
use Rattle.std.proofs.lemmas.List.{length-take}
use Rattle.stops.specs.Stopping.{next_spot, spot_from, spot_at}
use Rattle.stops.proofs.Columns.{Within, spot-next, spot_end, spot-within}
use Rattle.stops.proofs.spots.line_column.Goals as goal

pub loop-b-init : goal.loop-b-init
unfolding spot_at spot_from
loop-b-init c = refl

pub next_spot-x-requires : goal.next_spot-x-requires
next_spot-x-requires c =
    let l = c.loop-b in
    let w = subst (Within (1 + l.b-index)) (sym l.invariant) (spot-within c.front-b-items.result.now l.b-index) in
    let n = ap length c.front-b-items.ensures ∙ length-take c.args.at c.args.text.now in
    (omega arith, omega arith)

pub loop-b-preserved : goal.loop-b-preserved
loop-b-preserved c =
    let l = c.loop-b in
    let s = c.front-b-items.result.now in
    c.next_spot-x.ensures ∙ ap (next_spot (get_or s l.b-index 0)) l.invariant ∙ sym (spot-next s l.b-index c.loop-b-test.true)

pub returns : goal.returns
returns c = c.loop-b.invariant ∙ spot_end c.args.text.now c.front-b-items.result.now c.loop-b.b-index c.args.at c.front-b-items.ensures c.loop-b-test.false
