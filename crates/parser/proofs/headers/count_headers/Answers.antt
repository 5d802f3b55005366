use Rattle.parser.proofs.Headed.{place-line, summing_start, summing_more, summing_done}
use native.Mathlib.Omega.{arith}
use mathlib.Core.Path.{refl}
use Rattle.parser.proofs.headers.count_headers.Goals as goal

pub loop-at-init : goal.loop-at-init
loop-at-init c = let a = c.args in summing_start a.s.now a.places.now

pub header_length-bytes-requires : goal.header_length-bytes-requires
header_length-bytes-requires c =
    place-line c.args.s.now c.args.places.now c.loop-at.at-index _ c.requires refl c.loop-at-test.true

pub overflow_add-bytes : goal.overflow_add-bytes
overflow_add-bytes c =
    let l = c.loop-at in
    let m = summing_more c.args.s.now c.args.places.now l.at-index c.requires l.invariant _ c.header_length-bytes.result refl c.loop-at-test.true c.header_length-bytes.ensures in
    omega (arith, m.small, c.loop-at-test.true, c.requires.few)

pub loop-at-preserved : goal.loop-at-preserved
loop-at-preserved c =
    let l = c.loop-at in
    summing_more c.args.s.now c.args.places.now l.at-index c.requires l.invariant _ c.header_length-bytes.result refl c.loop-at-test.true c.header_length-bytes.ensures

pub returns : goal.returns
returns c =
    summing_done c.args.s.now c.args.places.now c.loop-at.at-index c.requires c.loop-at.invariant c.loop-at-test.false
