-- The length that a reading is told before anything is written is that of the block.
-- Assumes nothing.
use Prim.Native.Nat.{ℕ}
use mathlib.Core.Path.{◌≡◌}
use mathlib.Core.List.{List}
use lib.ListN.{length}
use Rattle.block.specs.Encode.{encode}
use Rattle.block.proofs.Lengths.{block-length}
use Rattle.parser.specs.Parse.{parse, record_of, needed}
use Rattle.parser.proofs.Opening.{start-length}

pub needed_is : (s : List ℕ) → length (encode (record_of (parse s))) ≡ needed (parse s)
unfolding needed parse
needed_is s = block-length (record_of (parse s)) (start-length s)
