-- Move lines, comments and skip lines from a place on, counted.                                     (01, Reading rules: move line, skip line)
-- Assumes nothing: these are definitions.
use Rattle.std.specs.Prelude.{ℕ, ◌+◌, List, length, get_or, Option, Some, None}
use Rattle.lists.specs.Pick.{pick}
use Rattle.lists.specs.Repeat.{Step, more, stop, repeat_from}
use Rattle.text.specs.Text.{is_text}
use Rattle.reader.specs.TextLines.{text_line_at}
use Rattle.reader.specs.declared.TextLine.{TextLine}
use Rattle.reader.specs.declared.TextLine.TheVariants.{Played, Remarked, Skipped, Nothing}
use Rattle.reader.specs.declared.PassedLines.{PassedLines}

-- The first skip line that begins with neither an LF nor a CR, with one more at a place: the one found before, or else this one, if it is such.
unfoldable pub first_at : Option ℕ → List ℕ → ℕ → Option ℕ
first_at (Some n) s at = Some n
first_at None s at = pick (is_text (get_or s at 0)) (Some at) None

-- A count with one line more, and its end past that line; where nothing stands the count is over.
abbrev pub count_line : List ℕ → ℕ → PassedLines → TextLine → Step PassedLines
count_line s at p (Played n e next) =
    more next.at (record { moves = p.moves + 1; comments = p.comments; skips = p.skips; first = p.first; end = next.at })
count_line s at p (Remarked from to next) =
    more next.at (record { moves = p.moves; comments = p.comments + 1; skips = p.skips; first = p.first; end = next.at })
count_line s at p (Skipped next) =
    more next.at (record { moves = p.moves; comments = p.comments; skips = p.skips + 1; first = first_at p.first s at; end = next.at })
count_line s at p Nothing = stop

-- One line more, the one that stands at the place.
abbrev pub count_step : List ℕ → ℕ → PassedLines → Step PassedLines
count_step s at p = count_line s at p (text_line_at s at)

-- No line passed, at a place.
abbrev pub none_at : ℕ → PassedLines
none_at at = record { moves = 0; comments = 0; skips = 0; first = None; end = at }

-- All lines that stand one after the other from a place on.
unfoldable pub passed_over : List ℕ → ℕ → PassedLines
passed_over s at = (repeat_from (count_step s) (length s) at (none_at at)).state
