-- Where there is no room nothing is done, as the definition says; else what is sorted through scratches that have room for all the places is what is promised.
-- Assumes nothing.
use mathlib.Core.Path.{refl}
use borrow.Author.Tests.{lt-ltb, le-ltb}
use Rattle.sorted.specs.Sorted.{kept_count, kept_buffer}
use Rattle.sorted.proofs.sort_keys.Goals as goal

pub returns-then-n-gt13107 : goal.returns-then-n-gt13107
unfolding kept_count kept_buffer
returns-then-n-gt13107 c = simp (lt-ltb _ _ c.if-n-gt13107.true) record { value = refl; out_after = refl }

pub returns-then-out-n : goal.returns-then-out-n
unfolding kept_count kept_buffer
returns-then-out-n c = simp (le-ltb _ _ c.if-n-gt13107.false, lt-ltb _ _ c.if-out-n.true) record { value = refl; out_after = refl }
