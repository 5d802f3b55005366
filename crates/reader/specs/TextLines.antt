-- A reader, and what stands at a place of a text: a move line, a comment, a skip line.              (01, The forms we expect; Reading rules)
-- Assumes nothing: these are definitions.
use Rattle.std.specs.Prelude.{ℕ, List}
use Rattle.std.specs.Borrow.{Bor}
use Rattle.text.specs.Text.{on_place}
use Rattle.moves.specs.Moves.{on_move_line, on_remark, move_line_at, comment_line_at, skip_line_at}
use Rattle.reader.specs.declared.Reader.{Reader}
use Rattle.reader.specs.declared.TextLine.{TextLine}
use Rattle.reader.specs.declared.TextLine.TheVariants.{Played, Remarked, Skipped, Nothing}

-- A skip line, or nothing.                                                                          (01, Reading rules: skip line)
unfoldable pub skip_at : List ℕ → ℕ → TextLine
skip_at s at = on_place (skip_line_at s at) Skipped Nothing

-- A move line, or else a comment, or else a skip line, or nothing of these: what may follow a move, in this order. It matters where a & could
-- begin a comment or a skip line, and a tab a move line or a skip line.                             (01, Reading rules: then)
unfoldable pub text_line_at : List ℕ → ℕ → TextLine
text_line_at s at = on_move_line (move_line_at s at) Played (on_remark (comment_line_at s at) Remarked (skip_at s at))

-- The place past a line that stands at a place; where nothing stands, the same place.
abbrev pub place_past : TextLine → ℕ → ℕ
place_past (Played n e next) at = next.at
place_past (Remarked from to next) at = next.at
place_past (Skipped next) at = next.at
place_past Nothing at = at

-- A reader of a text, at a place.                                                                   (01, The forms we expect)
abbrev pub reader_at : Bor (List ℕ) → ℕ → Reader
reader_at text at = record { text = text; at = at }
