-- In each arm the nine bytes are those that `entry_head` gives the entry of that arm, and there is room.
-- Assumes nothing.
use Prim.Native.Nat.{ℕ}
use native.Mathlib.Omega.{arith}
use mathlib.Core.List.{[], ◌∷◌}
use mathlib.Core.Path.{sym, ap, ap₂, ◌∙◌}
use Rattle.block.specs.EntryBytes.{entry_head}
use Rattle.lent.proofs.Writes.{as_text, wrote_all}
use Rattle.block.proofs.entry_bytes.put_head.Goals as goal

pub returns-in-Slot : goal.returns-in-Slot
unfolding entry_head
returns-in-Slot c = as_text (ap entry_head (sym c.in-Slot.is)) (wrote_all {t = 0 ∷ 0 ∷ 0 ∷ 0 ∷ 0 ∷ 0 ∷ 0 ∷ 0 ∷ 0 ∷ []} (omega arith) c.put_bytes.ensures)

pub returns-in-Moved : goal.returns-in-Moved
returns-in-Moved c = as_text (ap entry_head (sym c.in-Moved.is)) c.put_move_head.ensures

pub returns-in-End : goal.returns-in-End
unfolding entry_head
returns-in-End c = as_text (ap₂ (λ (n k : ℕ). 2 ∷ n ∷ 0 ∷ 0 ∷ 0 ∷ 0 ∷ 0 ∷ 0 ∷ k ∷ []) c.from.ensures c.time_mark.ensures.0 ∙ sym (ap entry_head c.in-End.is)) (wrote_all (omega arith) c.put_bytes-in-End.ensures)
