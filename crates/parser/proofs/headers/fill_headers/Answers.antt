use Rattle.parser.proofs.Headed.{heading_start, heading_step, heading_done, place-line}
use mathlib.Core.Path.{refl}
use Rattle.parser.proofs.headers.fill_headers.Goals as goal

pub loop-at-init : goal.loop-at-init
loop-at-init c = heading_start

pub fill_header-v-requires : goal.fill_header-v-requires
fill_header-v-requires c = place-line c.args.s.now c.args.places.now c.loop-at.at-index _ c.requires refl c.loop-at-test.true

pub loop-at-preserved : goal.loop-at-preserved
loop-at-preserved c = heading_step c.loop-at.invariant _ refl c.loop-at-test.true c.fill_header-v.ensures.value c.fill_header-v.ensures.out_after

pub returns : goal.returns
returns c =
    let w = (heading_done c.loop-at.invariant c.loop-at-test.false) in
    record { value = w.0; out_after = w.1 }
