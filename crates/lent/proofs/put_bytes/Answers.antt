-- A text that fits is copied to the front; one that does not leaves all as it was.
-- Assumes nothing.
use native.Mathlib.Nat.{le_refl}
use native.Mathlib.Omega.{arith}
use mathlib.Core.Path.{refl}
use lib.ListN.{length}
use lib.Seq.{take_all}
use Rattle.lent.proofs.Writes.{unwritten, written, copied}
use Rattle.lent.proofs.put_bytes.Goals as goal

pub returns-then-out-t : goal.returns-then-out-t
returns-then-out-t c = unwritten _ _ c.if-out-t.true

pub returns : goal.returns
returns c =
    let t = c.args.t.now in
    written (copied t _ _ _ (omega arith) refl (rw (c.copy_from_slice.ensures.after, take_all (length t) t (le_refl _))))
