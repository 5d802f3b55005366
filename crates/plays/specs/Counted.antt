-- Lines of play, counted.
-- Assumes nothing: these are definitions.
use Rattle.std.specs.Prelude.{ℕ, List, length}
use Rattle.lists.specs.Repeat.{Ended}
use Rattle.text.specs.Text.{cursor}
use Rattle.jkf.specs.Model.{Noted}
use Rattle.block.specs.Encode.{comments_of, comment_text}
use Rattle.plays.specs.Plays.{comments_at, entries_at}
use Rattle.plays.specs.declared.Remarks.{Remarks}
use Rattle.plays.specs.declared.Extent.{Extent}

-- Comments from a place on: how many, and how many bytes they have.
unfoldable pub remarks_at : List ℕ → ℕ → Remarks
remarks_at s at =
    record {
      count = length (comments_at s at).state;
      bytes = length (comment_text (comments_at s at).state);
      next = cursor (comments_at s at).at;
    }

-- Entries and the place past them: how many, their comments and the bytes of these.
unfoldable pub extent_of : Ended (List Noted) → Extent
extent_of r =
    record {
      entries = length r.state;
      comments = length (comments_of r.state);
      bytes = length (comment_text (comments_of r.state));
      next = cursor r.at;
    }

-- A line of play from a place on.
abbrev pub extent_at : List ℕ → ℕ → Extent
extent_at s at = extent_of (entries_at s at)
