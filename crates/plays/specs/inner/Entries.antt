-- The entries of several lines of play.
-- Assumes nothing: these are definitions.
use Rattle.std.specs.Prelude.{List}
use Rattle.jkf.specs.Attaching.{Play}
use Rattle.jkf.specs.Model.{Noted}
use Rattle.block.specs.Encode.{concat}

-- All entries of lines of play.
abbrev pub play_entries : List Play → List Noted
play_entries = concat (λ p. p.entries)
