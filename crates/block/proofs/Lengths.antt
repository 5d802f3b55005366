-- How long a block is: its head has 28 bytes, its position 100, and each row of a table as many as every other; the texts are as long as
-- they are.
-- Assumes nothing.
use Prim.Native.Nat.{ℕ, ◌+◌}
use native.Mathlib.Omega.{arith}
use mathlib.Core.Path.{◌≡◌, refl}
use mathlib.Core.List.{List}
use lib.ListN.{length, length-append}
use Rattle.block.specs.PositionBytes.{position_bytes}
use Rattle.jkf.specs.Model.{Header, Noted, Line, Record}
use Rattle.block.specs.Encode.{encode, encode_flat, head_bytes, block_length, header_row, header_step, line_row, line_step, entry_row, entry_step, comment_row, comment_step, header_text, entries_of, comments_of, comment_text}
use Rattle.block.proofs.Tabling.{table-length}
use Rattle.block.proofs.RowPlaces.{header-wide, line-wide, entry-wide, comment-wide}

pub head-length : (v t h l m c : ℕ) → length (head_bytes v t h l m c) ≡ 28
unfolding head_bytes
head-length v t h l m c = refl

pub flat-length : (version : ℕ) (position : List ℕ) (hs : List Header) (ls : List Line) (es : List Noted) (cs : List (List ℕ)) → length position ≡ 100
    → length (encode_flat version position hs ls es cs)
    ≡ block_length (length hs) (length ls) (length es) (length cs) (length (header_text hs) + length (comment_text cs))
flat-length version position hs ls es cs p =
    simp length-append
    (omega (
      arith,
      head-length version (block_length (length hs) (length ls) (length es) (length cs) (length (header_text hs) + length (comment_text cs))) (length hs) (length ls) (length es) (length cs),
      table-length header_row header_step 8 header-wide 0 hs,
      table-length line_row line_step 8 line-wide 0 ls,
      table-length entry_row entry_step 20 entry-wide 0 es,
      table-length comment_row comment_step 4 comment-wide (length (header_text hs)) cs,
    ))

pub block-length : (r : Record) → length (position_bytes r.position) ≡ 100
    → length (encode r)
    ≡ block_length (length r.headers) (length r.lines) (length (entries_of r.lines)) (length (comments_of (entries_of r.lines)))
    (length (header_text r.headers) + length (comment_text (comments_of (entries_of r.lines))))
unfolding encode
block-length r p =
    flat-length r.version (position_bytes r.position) r.headers r.lines (entries_of r.lines) (comments_of (entries_of r.lines)) p
