-- The table of lines in a block, and the same table by itself, have the same numbers.
-- Assumes nothing.
use Prim.Native.Nat.{ℕ, suc, ◌+◌, ◌*◌, ◌<◌}
use native.Mathlib.Omega.{arith}
use mathlib.Core.Path.{◌≡◌, sym, ap, ◌∙◌}
use mathlib.Core.List.{List, [], ◌++◌, append-nil}
use lib.ListN.{length, get_or, take, drop}
use lib.Seq.{get_or-drop}
use Rattle.lent.specs.Bytes.{le16}
use Rattle.jkf.specs.Model.{Line}
use Rattle.jkf.specs.Following.{start_at, parent_at}
use Rattle.block.specs.Decode.{line_place, start_of, parent_of}
use Rattle.block.specs.Encode.{table, line_row, line_step}
use Rattle.block.specs.Formed.{line_of}
use Rattle.block.proofs.Tabling.{after, table-row}
use Rattle.block.proofs.RowPlaces.{line-wide}

-- a number in a part that begins at o
pub le16-drop : (b : List ℕ) (o i : ℕ) → le16 (drop o b) i ≡ le16 b (o + i)
le16-drop b o i =
    let e : o + (i + 1) ≡ o + i + 1 = omega arith in
    omega (arith, get_or-drop o b i 0, get_or-drop o b (i + 1) 0, ap (λ (n : ℕ). get_or b n 0) e)

module _ (b : List ℕ) where
  in_table : (i at : ℕ) → line_place b 0 + i ≡ at → le16 (drop (line_place b 0) b) i ≡ le16 b at
  in_table i at e = le16-drop b (line_place b 0) i ∙ ap (le16 b) e

  pub table-start : (j : ℕ) → start_at (drop (line_place b 0) b) j ≡ start_of b j
  table-start j = in_table (8 * j) (line_place b j) (omega arith)

  pub table-parent : (j : ℕ) → parent_at (drop (line_place b 0) b) j ≡ parent_of b j
  table-parent j = in_table (8 * j + 6) (line_place b j + 6) (omega arith)

-- ---- read back from a table

module _ (n : ℕ) (ls : List Line) (j : ℕ) (h : j < length ls) where
  abbrev here : Line
  here = line_of ls j

  row_here : drop (8 * j) (table line_row line_step n ls ++ []) ≡ line_row (after line_row line_step n (take j ls)) here ++ (table line_row line_step (line_step (after line_row line_step n (take j ls)) here) (drop (suc j) ls) ++ [])
  row_here = table-row line_row line_step 8 line-wide (record { start = 0; parent = 0; entries = [] }) n ls [] j h

  field : (i : ℕ) → le16 (table line_row line_step n ls) (8 * j + i)
      ≡ le16 (line_row (after line_row line_step n (take j ls)) here ++ (table line_row line_step (line_step (after line_row line_step n (take j ls)) here) (drop (suc j) ls) ++ [])) i
  field i =
      ap (λ (l : List ℕ). le16 l (8 * j + i)) (sym (append-nil (table line_row line_step n ls)))
      ∙ sym (le16-drop (table line_row line_step n ls ++ []) (8 * j) i) ∙ ap (λ (l : List ℕ). le16 l i) row_here

  pub start_back : here.start < 65536 → le16 (table line_row line_step n ls) (8 * j) ≡ here.start
  start_back b = let z : 8 * j ≡ 8 * j + 0 = omega arith in ap (le16 (table line_row line_step n ls)) z ∙ field 0 ∙ omega arith

  pub count_back : length here.entries < 65536 → le16 (table line_row line_step n ls) (8 * j + 4) ≡ length here.entries
  count_back b = field 4 ∙ omega arith

  pub parent_back : here.parent < 65536 → le16 (table line_row line_step n ls) (8 * j + 6) ≡ here.parent
  parent_back b = field 6 ∙ omega arith
