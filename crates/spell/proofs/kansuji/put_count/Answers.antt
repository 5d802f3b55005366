-- The text is made in nine bytes of its own, and written if it fits.
-- Assumes nothing.
use Prim.Native.Nat.{ℕ}
use native.Mathlib.Omega.{arith}
use mathlib.Core.List.{List}
use mathlib.Core.Path.{sym, ap}
use lib.ListN.{length}
use Rattle.lent.specs.Bytes.{fitting}
use Rattle.spell.proofs.Counts.{count-above}
use Rattle.lent.proofs.Writes.{as_text, nothing, fitting_nothing, wrote_front}
use Rattle.spell.proofs.kansuji.put_count.Goals as goal

pub returns-then-n-gt99 : goal.returns-then-n-gt99
returns-then-n-gt99 c = as_text (sym (fitting_nothing _ (count-above c.args.n c.if-n-gt99.true))) (nothing _)

pub slice_bounds-put_bytes-end : goal.slice_bounds-put_bytes-end
slice_bounds-put_bytes-end c =
    let w = c.put_parts-m.ensures in
    omega (arith, ap length (wrote_front w), w.count)

pub returns : goal.returns
returns c = as_text (ap (λ (t : List ℕ). fitting t c.args.out.now) (wrote_front c.put_parts-m.ensures)) c.put_bytes.ensures
