-- A table of lines: the rows that are put into it, and what it says of a variation that hangs nowhere.
-- Assumes nothing: these are definitions.
use Rattle.std.specs.Prelude.{ℕ, ◌+◌, ◌-◌, ◌*◌, List, length, drop}
use Rattle.lent.specs.Bytes.{fitting}
use Rattle.lent.specs.Stored.{put}
use Rattle.block.specs.Encode.{line_bytes}
use Rattle.plays.specs.Plays.{entries_at, slot_at}
use Rattle.jkf.specs.Attaching.{near}
use Rattle.jkf.specs.Following.{start_at, count_at}
use Rattle.stops.specs.declared.Astray.{Astray}

-- ---- rows

-- The row of the main line.
abbrev pub main_row : List ℕ → ℕ → List ℕ
main_row s b = line_bytes 0 0 (1 + length (entries_at s (slot_at s b).at).state) 0

-- A row that is put as row k of a table, if there is room for it.
abbrev pub row_put : ℕ → List ℕ → List ℕ → List ℕ
row_put k row rows = put rows (8 * k) (fitting row (drop (8 * k) rows))

-- ---- a variation that hangs nowhere

-- The line that it would hang on, and the plies of that line.
unfoldable pub astray_in : List ℕ → ℕ → ℕ → ℕ → Astray
astray_in rows k ply at =
    let p = near (start_at rows) ply k in
    record {
      variation = k;
      ply = ply;
      parent = p;
      first = start_at rows p;
      last = start_at rows p + (count_at rows p - 1);
      at = at;
    }
