-- Six bytes, for which there is room: zeros without a time, else the three of each clock.
-- Assumes nothing.
use Prim.Native.Nat.{ℕ}
use native.Mathlib.Omega.{arith}
use mathlib.Core.List.{List, [], ◌∷◌, ◌++◌}
use mathlib.Core.Path.{sym, ap, ap₂, ◌∙◌}
use Rattle.block.specs.EntryBytes.{time_bytes}
use Rattle.lent.proofs.Writes.{as_text, wrote_all}
use Rattle.block.proofs.entry_bytes.put_time.Goals as goal

pub returns-in-Untimed : goal.returns-in-Untimed
returns-in-Untimed c = as_text (ap time_bytes (sym c.in-Untimed.is)) (wrote_all {t = 0 ∷ 0 ∷ 0 ∷ 0 ∷ 0 ∷ 0 ∷ []} (omega arith) c.put_bytes.ensures)

pub returns-in-Timed : goal.returns-in-Timed
returns-in-Timed c = as_text (ap₂ (λ (a b : List ℕ). a ++ b) c.clock_figure-a.ensures.2 c.clock_figure-b.ensures.2 ∙ sym (ap time_bytes c.in-Timed.is)) (wrote_all (omega arith) c.put_bytes-in-Timed.ensures)
