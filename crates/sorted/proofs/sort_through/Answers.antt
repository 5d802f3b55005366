-- What is sorted and unpacked stands in front, and zeros are put behind it.
-- Assumes nothing.
use native.Mathlib.Omega.{arith}
use Rattle.sorted.proofs.Buffers.{packs_in, unpacked_leads, sorted_is}
use Rattle.sorted.proofs.sort_through.Goals as goal

pub unpack-requires : goal.unpack-requires
unpack-requires c =
    let w = c.sort_places-r.ensures in
    (w.leads.fits, omega (arith, packs_in w))

pub clear_from-requires : goal.clear_from-requires
clear_from-requires c = omega (arith, packs_in c.sort_places-r.ensures)

pub returns : goal.returns
returns c =
    let w = (let a = c.args in
    let w = c.sort_places-r.ensures in
    sorted_is a.s.now a.places.now a.out.now _ _ _ (omega arith) (omega arith) (omega arith)
    (unpacked_leads a.s.now a.places.now _ a.out.now _ _ w (omega (arith, packs_in w)) c.unpack.ensures) c.clear_from.ensures) in
    record { value = w.0; out_after = w.1 }
