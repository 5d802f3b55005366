-- What soundness says of a block, part by part.
-- Assumes nothing: these are definitions.
use Rattle.std.specs.Prelude.{ℕ, List}
use Rattle.lists.specs.Test.{each, claim}
use Rattle.block.specs.Decode.{headers_in, lines_in, moves_in, comments_in}
use Rattle.block.specs.Sound.{head_test, parts_test, totals_test, position_test, header_test, line_test, entry_test, comment_test}

pub record Sound (b : List ℕ) : Type 0 where
  pub head : claim (head_test b)
  pub parts : claim (parts_test b)
  pub totals : claim (totals_test b)
  pub position : claim (position_test b)
  pub headers : claim (each (headers_in b) (header_test b))
  pub lines : claim (each (lines_in b) (line_test b))
  pub entries : claim (each (moves_in b) (entry_test b))
  pub comments : claim (each (comments_in b) (comment_test b))
