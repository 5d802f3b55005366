-- What a text says: its header, its position, its lines of play, and how much of it is taken.         (01, Reading rules)
-- Assumes nothing: these are definitions.
use Rattle.std.specs.Prelude.{ℕ, List, []}
use Rattle.jkf.specs.declared.Position.{Position}
use Rattle.jkf.specs.Model.{Header, Record}
use Rattle.jkf.specs.Attaching.{Play, attach}
use Rattle.block.specs.Encode.{formula_length}
use Rattle.sorted.specs.Sorted.{by_bytes, enter_all}
use Rattle.std.specs.declared.cmp.Ordering.{Ordering}
use Rattle.kakinoki.specs.Starts.{start_read, headers_said}
use Rattle.plays.specs.Plays.{plays_at}

pub record Parsed : Type 0 where
  pub headers : List Header
  pub position : Position
  pub plays : List Play
  pub taken : ℕ

abbrev pub by_header : Header → Header → Ordering
by_header a b = by_bytes a.key b.key

-- Header entries ascend by key, and the last value of a key wins.
unfoldable pub headers_of : List ℕ → List Header
headers_of s = enter_all by_header [] (headers_said s)

unfoldable pub parse : List ℕ → Parsed
parse s =
    record {
      headers = headers_of s;
      position = (start_read s).position;
      plays = (plays_at s (start_read s).next.at).state;
      taken = (plays_at s (start_read s).next.at).at;
    }

-- The record: each line hangs where the attaching rule says.
abbrev pub record_of : Parsed → Record
record_of p = record { version = 1; headers = p.headers; position = p.position; lines = attach p.plays }

-- The length of its block, which is known before anything hangs.                                      (01, The block: length)
unfoldable pub needed : Parsed → ℕ
needed p = formula_length (record_of p)
