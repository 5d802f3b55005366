-- The lines passed start above j, so the place is found among those from n on.
-- Assumes nothing.
use Prim.Native.Nat.{◌+◌, ◌-◌, ◌≤◌, ◌<◌}
use mathlib.Core.Path.{◌≡◌}
use Rattle.block.specs.Decode.{run, decode}
use Rattle.edit.specs.Edit.{plays_in, above, place_of}
use Rattle.edit.proofs.Seeking.{play_in}
use Rattle.edit.proofs.checks.place_of.Given as goal

abbrev pub invariant-loop-n : goal.invariant-loop-n
invariant-loop-n l = (l.k < l.n) × (l.n ≤ l.lines) × (place_of (plays_in (decode l.b).lines) l.k l.j ≡ l.n + above l.j (run (play_in l.b) l.n (l.lines - l.n)))
