-- A fault of what stands before the moves is answered; else the moves begin within the text, as the walk asks, and its answer is handed on.
-- Assumes nothing.
use Prim.Native.Nat.{ℕ, ◌≤◌}
use mathlib.Core.Path.{sym, subst}
use lib.ListN.{length, length-replicate}
use Rattle.kakinoki.specs.declared.Start.{Start}
use Rattle.kakinoki.proofs.Bounds.{moves-within}
use Rattle.stops.proofs.stop_text.Goals as goal

pub walk-requires : goal.walk-requires
walk-requires c =
    let s = c.args.s.now in
    (c.requires, subst (λ (x : Start). x.next.at ≤ length s) (sym c.parse_without_moves-start.ensures.value) (moves-within s), length-replicate {A = ℕ} 65536 0)

pub returns-in-Some : goal.returns-in-Some
returns-in-Some c = rw (← c.parse_without_moves-start.ensures.value, c.in-Some.is)

pub returns-in-None : goal.returns-in-None
returns-in-None c = rw (← c.parse_without_moves-start.ensures.value, c.in-None.is) c.walk.ensures
