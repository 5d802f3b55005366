-- What the parts before the moves make, over plain values.
-- Assumes nothing.
use Rattle.std.specs.Prelude.{Option}
use Prim.Native.Nat.{ℕ, ◌+◌, ◌≤◌}
use native.Mathlib.Omega.{arith}
use mathlib.Core.Path.{◌≡◌, sym}
use mathlib.Core.List.{List, ◌++◌}
use lib.ListN.{length, length-append}
use Rattle.lists.specs.Pick.{pick}
use Rattle.text.specs.declared.Cursor.{Cursor}
use Rattle.jkf.specs.declared.Position.{Position}
use Rattle.kakinoki.specs.Informations.{header_places_at, low16}
use Rattle.kakinoki.specs.inner.Blocks.{block_at}
use Rattle.kakinoki.specs.Boards.{board_at}
use Rattle.kakinoki.specs.Starts.{merged, position_said, second_place, header_places, start_read}
use Rattle.kakinoki.specs.declared.Told.{Told}
use Rattle.kakinoki.specs.declared.InformationBlock.{InformationBlock}
use Rattle.kakinoki.specs.declared.Board.{Board}
use Rattle.kakinoki.specs.declared.Start.{Start}
use Rattle.kakinoki.proofs.Places.{block_five, block_within}
use Rattle.kakinoki.proofs.Blocks.{low-append}

abbrev pub starting : Option ℕ → Position → ℕ → Cursor → Start
starting f p n c = record { fault = f; position = p; headers = n; next = c }

-- a block's header lines, which are no more than the bytes of the text
pub block_headers : (s : List ℕ) (at : ℕ) (b : InformationBlock) → b ≡ block_at s at → b.headers ≡ length (header_places_at s at)
unfolding block_at
block_headers s at b e = rw e

pub block_few : (s : List ℕ) (at : ℕ) (b : InformationBlock) → b ≡ block_at s at → b.headers ≤ length s
block_few s at b e = omega (arith, block_headers s at b e, block_five s at, block_within s at)

-- the first block, the diagram, the place past it and the second block, as the code read them
module _ (s : List ℕ) (first : InformationBlock) (b : Board) (at : ℕ) (p : first ≡ block_at s 0) (q : b ≡ board_at s first.next.at)
    (r : at ≡ pick b.there b.next.at first.next.at) where
  second-place : at ≡ second_place s
  unfolding block_at
  second-place = rw (r, q, p)

  pub start-all : (second : InformationBlock) (t : Told) (w : Position) → second ≡ block_at s at → t ≡ merged first.told second.told → w ≡ position_said b t
      → starting second.fault w (first.headers + second.headers) second.next ≡ start_read s
  unfolding start_read header_places block_at
  start-all second t w u f g =
      rw (g, f, u, second-place, q, p, length-append (header_places_at s 0) (header_places_at s (second_place s)))

  pub places_all : low16 (header_places_at s 0) ++ low16 (header_places_at s at) ≡ low16 (header_places s)
  unfolding header_places
  places_all = rw second-place (sym (low-append (header_places_at s 0) (header_places_at s (second_place s))))
