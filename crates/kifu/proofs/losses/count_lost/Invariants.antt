-- Each entry passed has at most one mark and one hour, so that both counts stay at or below the entries passed.
-- Assumes nothing.
use Rattle.std.proofs.Common.{◌≤◌}
use Rattle.kifu.proofs.losses.count_lost.Given as goal

abbrev pub invariant-loop-k : goal.invariant-loop-k
invariant-loop-k l = (l.marks ≤ l.k) × (l.hours ≤ l.k)
