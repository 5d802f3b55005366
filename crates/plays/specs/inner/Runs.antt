-- A line of play, whole or as far as its numbers go up by one: both are counted by one loop.
-- Assumes nothing: these are definitions.
use Rattle.std.specs.Prelude.{ℕ, List, Bool, true, eqb}
use Rattle.lists.specs.Pick.{pick}
use Rattle.lists.specs.Repeat.{Ended}
use Rattle.jkf.specs.Model.{Noted}
use Rattle.plays.specs.Plays.{ply_at, entries_at, sequence_at}

-- The move line at a place is the next one: any is, or else only one that is numbered n.
unfoldable pub goes_on : Bool → ℕ → List ℕ → ℕ → Bool
goes_on any n s at = pick any true (eqb (ply_at s at) n)

unfoldable pub run_at : Bool → ℕ → List ℕ → ℕ → Ended (List Noted)
run_at any n s at = pick any (entries_at s at) (sequence_at n s at)
