-- All lines of play of a text: counted, and what a filling of them answers.
-- Assumes nothing: these are definitions.
use Rattle.std.specs.Prelude.{ℕ, List, [], ◌∷◌, length, Result, Ok, Err}
use Rattle.text.specs.Text.{cursor}
use Rattle.jkf.specs.Attaching.{Hung, all, first, Play}
use Rattle.jkf.specs.Model.{Line}
use Rattle.block.specs.Encode.{comments_of, comment_text}
use Rattle.plays.specs.Plays.{slot_at, past_main, main_at, plays_at}
use Rattle.plays.specs.inner.Entries.{play_entries}
use Rattle.parser.specs.declared.Extents.{Extents}
use Rattle.text.specs.declared.Cursor.{Cursor}

-- Lines of play, counted.
abbrev pub extents : List Play → ℕ → Extents
extents ps at =
    record {
      lines = length ps;
      entries = length (play_entries ps);
      comments = length (comments_of (play_entries ps));
      bytes = length (comment_text (comments_of (play_entries ps)));
      next = cursor at;
    }

-- The main line alone, and all lines from a place on.
unfoldable pub main_extents : List ℕ → ℕ → Extents
main_extents s at = extents (main_at s at ∷ []) (past_main s (slot_at s at).at)

unfoldable pub extents_at : List ℕ → ℕ → Extents
extents_at s at = extents (plays_at s at).state (plays_at s at).at

-- The main line hangs on nothing.
abbrev pub main_line : List ℕ → ℕ → Line
main_line s at = record { start = 0; parent = 0; entries = (main_at s at).entries }

-- Whether every variation hangs, and then the place past the last and how many times were lost.
abbrev pub hanging : Hung → ℕ → ℕ → Result (Cursor × ℕ) (ℕ × ℕ)
hanging (first k ply) at lost = Err (k, ply)
hanging all at lost = Ok (cursor at, lost)
