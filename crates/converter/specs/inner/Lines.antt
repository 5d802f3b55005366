-- Entries and lines of a block as a mode says them, and the lines that are shown.
-- Assumes nothing: these are definitions.
use Rattle.std.specs.Prelude.{ℕ, ◌-◌, ◌≤◌, ◌≡◌, List}
use Rattle.jkf.specs.Model.{Noted, Line}
use Rattle.block.specs.Decode.{run, lines_in, noted_in, line_in}
use Rattle.converter.specs.declared.Mode.{Mode}
use Rattle.converter.specs.Said.{said_noted, said_line, shown}

-- Entry k as a mode says it.
abbrev pub noted_said : Mode → List ℕ → ℕ → Noted
noted_said mode b k = said_noted mode (noted_in b k)

-- Line k as a mode says it.
abbrev pub line_said : Mode → List ℕ → ℕ → Line
line_said mode b k = said_line mode (line_in b k)

-- The first n lines of a block are those that are shown.
pub record ShownLines (b : List ℕ) (n : ℕ) : Type 0 where
  pub some : 1 ≤ n
  pub most : n ≤ lines_in b
  pub later : shown (run (line_in b) 1 (lines_in b - 1)) ≡ run (line_in b) 1 (n - 1)
