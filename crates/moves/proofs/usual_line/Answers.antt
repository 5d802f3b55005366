-- The move and the time are read as their bytes say (`usual-played`), and so it is not lost (`usual-lost`).
-- Assumes nothing.
use Rattle.moves.proofs.Usually.{usual_played}
use Rattle.moves.proofs.Losing.{usual_lost}
use Rattle.moves.proofs.usual_line.Goals as goal

pub returns-in_default : goal.returns-in_default
returns-in_default c = let p = c.requires in rw (usual_played _ _ _ _ _ p.0 p.1 p.2, usual_lost _ _ _ _ p.0 p.1 p.2, ← c.line_end.ensures, c.in_default.is, ← c.no_line.ensures)

pub returns : goal.returns
returns c = let p = c.requires in rw (usual_played _ _ _ _ _ p.0 p.1 p.2, usual_lost _ _ _ _ p.0 p.1 p.2, ← c.line_end.ensures, c.in-Some.is, ← c.usual-taken.ensures, ← c.color.ensures, ← c.usual.ensures)
