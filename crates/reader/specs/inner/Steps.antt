-- One step of the count of lines, and its bound.
-- Assumes nothing: these are definitions.
use Rattle.std.specs.Prelude.{ℕ, ◌≤◌, List, Option, Some, None}
use Rattle.lists.specs.Repeat.{on_step}
use Rattle.reader.specs.declared.PassedLines.{PassedLines}
use Rattle.reader.specs.LinesPassed.{count_step}

-- One step of it, from the end of a count on.
unfoldable pub with_line : List ℕ → PassedLines → Option PassedLines
with_line s p = on_step (count_step s p.end p) (λ next q. Some q) None

-- Each line has a byte or more, so that no number of lines is above the place past them.
pub record WithinPlace (p : PassedLines) : Type 0 where
  pub moves : p.moves ≤ p.end
  pub comments : p.comments ≤ p.end
  pub skips : p.skips ≤ p.end
