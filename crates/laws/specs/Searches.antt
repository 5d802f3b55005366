-- The two searches for the line that a variation hangs on: by the parents that stand in a table of lines, and line by line.
-- (01, Attaching rule; 02, request (v))
-- Assumes nothing: these are definitions.
use Rattle.std.specs.Prelude.{ℕ, ◌≤◌, ◌≡◌, true, List, drop}
use Rattle.jkf.specs.Attaching.{near}
use Rattle.jkf.specs.Following.{start_at, Linked, followed}
use Rattle.block.specs.Decode.{version_in, lines_in, line_place}
use Rattle.block.specs.Sound.{soundb}

-- In every table whose parents are right both find the same.
abbrev pub SearchesAgree : Type 0
SearchesAgree = (lines : List ℕ) (k s : ℕ) → Linked lines k → followed lines s k ≡ near (start_at lines) s k

-- The lines of a sound block of version 1 are such a table.
abbrev pub SoundLinked : Type 0
SoundLinked = (b : List ℕ) → soundb b ≡ true → version_in b ≡ 1 → Linked (drop (line_place b 0) b) (lines_in b)

-- And in the lines of every sound block, of version 2 too, both find the same, from every line on.       (02, request (vi))
abbrev pub SoundSearched : Type 0
SoundSearched =
    (b : List ℕ) (s k : ℕ) → soundb b ≡ true → k ≤ lines_in b → followed (drop (line_place b 0) b) s k ≡ near (start_at (drop (line_place b 0) b)) s k
