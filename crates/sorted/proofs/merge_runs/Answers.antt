use native.Mathlib.Omega.{arith}
use mathlib.Core.Path.{refl, ◌∙◌}
use lib.ListN.{length-set, length-take, length-drop}
use Rattle.sorted.specs.inner.Packs.{by_pack}
use Rattle.sorted.proofs.Buffers.{merging_start, merging_step, left_a, left_b, leads-then}
use Rattle.sorted.proofs.merge_runs.Goals as goal

pub loop-i-init : goal.loop-i-init
loop-i-init c =
    (merging_start (by_pack c.args.s.now) c.args.a.now c.args.b.now c.args.out.now c.requires, refl)

pub copy_packs-requires : goal.copy_packs-requires
copy_packs-requires c = simp (length-take, length-drop) (omega arith)

pub returns-then-i-a : goal.returns-then-i-a
returns-then-i-a c =
    let p = c.copy_packs.ensures in
    let l = c.loop-i in
    leads-then _ l.out _ _ _ l.k _ (omega arith) (left_b l.invariant.0 (omega arith)) p.0 p.1

pub copy_packs-requires-then-j-b : goal.copy_packs-requires-then-j-b
copy_packs-requires-then-j-b c = simp (length-take, length-drop) (omega arith)

pub returns-then-j-b : goal.returns-then-j-b
returns-then-j-b c =
    let p = c.copy_packs-then-j-b.ensures in
    let l = c.loop-i in
    leads-then _ l.out _ _ _ l.k _ (omega arith) (left_a l.invariant.0 (omega arith)) p.0 p.1

pub loop-i-preserved : goal.loop-i-preserved
loop-i-preserved c =
    let l = c.loop-i in
    (merging_step l.invariant.0 _ _ c.choose-t.result (omega arith) (omega arith) refl refl c.choose-t.ensures.0, length-set l.out l.k c.choose-t.result.value ∙ l.invariant.1)
