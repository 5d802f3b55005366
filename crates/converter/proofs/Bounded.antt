-- How long the texts of a position can be: from the longest spelling of each table up to the whole.
-- Assumes nothing.
use Prim.Native.Nat.{ℕ, zero-le, ◌+◌, ◌*◌, ◌-◌, ◌/◌, ◌%◌, ◌≤◌}
use native.Mathlib.Omega.{arith}
use mathlib.Core.Path.{refl}
use mathlib.Core.Bool.{Bool}
use mathlib.Core.List.{List, [], ◌∷◌, ◌++◌}
use lib.ListN.{length, get_or, length-append}
use lib.Dec.{eqb, leb, ltb}
use Rattle.lists.specs.Pick.{pick}
use Rattle.lists.proofs.Laws.{by_pick}
use Rattle.text.specs.Text.{wide_space}
use Rattle.spell.specs.Tables.{kinds, presets, sides, numerals}
use Rattle.spell.specs.Spell.{spelled}
use Rattle.spell.specs.Count.{tens_text, count_text}
use Rattle.spell.proofs.Counts.{spelled-short, numeral_short, tens-short}
use Rattle.jkf.specs.declared.Position.{Position}
use Rattle.spell.specs.Words.{preset_tag, turn_tag, hands_tag, none_tag, files_tag, rule_tag, empty_tag}
use Rattle.converter.specs.Diagrams.{preset_line, held_text, held, all_held, or_none, hand_line_text, cell_text, cells_text, board_row, board_rows, board_text, turn_text, diagram_text, position_text}
use Rattle.converter.proofs.Ranged.{ranged_short}
use Rattle.converter.proofs.Cased.{held_piece, cell_piece, more_text}

-- a text of at most n bytes
abbrev Within : ℕ → List ℕ → Type 0
Within n t = length t ≤ n

-- whichever of two texts is picked
either : (n : ℕ) (b : Bool) (t u : List ℕ) → Within n t → Within n u → Within n (pick b t u)
either n b t u h k = by_pick (Within n) b t u (λ _. h) (λ _. k)

-- one text after another
both : (n m : ℕ) (t u : List ℕ) → Within n t → Within m u → Within (n + m) (t ++ u)
both n m t u h k = omega (arith, length-append t u)

-- ---- spellings

-- of a kind: 成香
pub kind-short : (n : ℕ) → length (spelled kinds n) ≤ 6
kind-short n = spelled-short 6 kinds refl n

-- of a preset: 左五枚落ち
pub preset-short : (n : ℕ) → length (spelled presets n) ≤ 15
preset-short n = spelled-short 15 presets refl n

-- of a side: 先手
pub side-short : (n : ℕ) → length (spelled sides n) ≤ 6
side-short n = spelled-short 6 sides refl n

-- of a count: 二十一
pub count-short : (n : ℕ) → length (count_text n) ≤ 9
unfolding count_text
count-short n =
    let t = tens_text (n / 10) in
    let u = spelled numerals (n % 10) in
    either 9 (ltb 99 n) [] (t ++ u) zero-le (both 6 3 t u (tens-short (n / 10)) (numeral_short (n % 10)))

-- ---- hands

-- a count where it is written
pub more-short : (n : ℕ) → length (more_text n) ≤ 9
more-short n = either 9 (ltb 1 n) (count_text n) [] (count-short n) zero-le

-- a kind in hand
pub held-short : (kind count : ℕ) → length (held_text kind count) ≤ 18
unfolding held_text
held-short kind count =
    let k = spelled kinds kind in
    let m = more_text count in
    either 18 (eqb count 0) [] ((k ++ m) ++ wide_space) zero-le
    (both 15 3 (k ++ m) wide_space (both 6 9 k m (kind-short kind) (more-short count)) (omega arith))

-- seven of them
pub all-held-short : (hands : List ℕ) (side : ℕ) → length (all_held hands side) ≤ 126
unfolding all_held
all-held-short hands side = ranged_short (held_piece hands side) 18 (λ i. held-short (7 - i) (held hands side (7 - i))) 7

-- the line of a hand; なし is shorter than the longest hand
pub hand-line-short : (hands : List ℕ) (side : ℕ) → length (hand_line_text hands side) ≤ 145
unfolding hand_line_text
hand-line-short hands side =
    let s = spelled sides side in
    let h = all_held hands side in
    let o : Within 126 (or_none h) = either 126 (eqb (length h) 0) none_tag h (omega arith) (all-held-short hands side) in
    both 144 1 ((s ++ hands_tag) ++ or_none h) (10 ∷ []) (both 18 126 (s ++ hands_tag) (or_none h) (both 6 12 s hands_tag (side-short side) (omega arith)) o) (omega arith)

-- ---- the board

-- a cell: a mark and a kind
pub cell_short : (v : ℕ) → length (cell_text v) ≤ 7
unfolding cell_text
cell_short v =
    let b = spelled kinds v in
    let w = spelled kinds (v - 16) in
    either 7 (eqb v 0) empty_tag (pick (leb v 14) ((32 ∷ []) ++ b) ((118 ∷ []) ++ w)) (omega arith)
    (either 7 (leb v 14) ((32 ∷ []) ++ b) ((118 ∷ []) ++ w) (omega (arith, kind-short v)) (omega (arith, kind-short (v - 16))))

-- nine of them
pub cells-short : (cells : List ℕ) (rank : ℕ) → length (cells_text cells rank) ≤ 63
unfolding cells_text
cells-short cells rank = ranged_short (cell_piece cells rank) 7 (λ i. cell_short (get_or cells (9 * (8 - i) + rank) 0)) 9

-- a row: the cells, two bars, a numeral and LF
pub row-short : (cells : List ℕ) (rank : ℕ) → length (board_row cells rank) ≤ 69
unfolding board_row
row-short cells rank =
    let c = cells_text cells rank in
    let n = spelled numerals (rank + 1) in
    both 64 5 ((124 ∷ []) ++ c) (((124 ∷ []) ++ n) ++ (10 ∷ [])) (both 1 63 (124 ∷ []) c (omega arith) (cells-short cells rank))
    (both 4 1 ((124 ∷ []) ++ n) (10 ∷ []) (both 1 3 (124 ∷ []) n (omega arith) (numeral_short (rank + 1))) (omega arith))

-- nine of them
pub rows_short : (cells : List ℕ) → length (board_rows cells) ≤ 621
unfolding board_rows
rows_short cells = ranged_short (board_row cells) 69 (row-short cells) 9

-- with two head lines and a foot line
pub board-short : (cells : List ℕ) → length (board_text cells) ≤ 719
unfolding board_text
board-short cells =
    let h : List ℕ = ((files_tag ++ (10 ∷ [])) ++ rule_tag) ++ (10 ∷ []) in
    let r = board_rows cells in
    both 689 30 (h ++ r) (rule_tag ++ (10 ∷ [])) (both 68 621 h r (omega arith) (rows_short cells)) (omega arith)

-- ---- the whole

-- 手合割：, a preset, LF
pub preset-line-short : (n : ℕ) → length (preset_line n) ≤ 28
unfolding preset_line
preset-line-short n =
    let s = spelled presets n in
    both 27 1 (preset_tag ++ s) (10 ∷ []) (both 12 15 preset_tag s (omega arith) (preset-short n)) (omega arith)

-- 後手番 and LF
pub turn-short : (turn : ℕ) → length (turn_text turn) ≤ 10
unfolding turn_text
turn-short turn =
    let s = spelled sides 1 in
    either 10 (eqb turn 1) ((s ++ turn_tag) ++ (10 ∷ [])) []
    (both 9 1 (s ++ turn_tag) (10 ∷ []) (both 6 3 s turn_tag (side-short 1) (omega arith)) (omega arith)) zero-le

-- a diagram
pub diagram-short : (p : Position) → length (diagram_text p) ≤ 1047
unfolding diagram_text
diagram-short p =
    let t = preset_line 16 in
    let w = hand_line_text p.hands 1 in
    let c = board_text p.cells in
    let b = hand_line_text p.hands 0 in
    both 1037 10 (((t ++ w) ++ c) ++ b) (turn_text p.turn)
    (both 892 145 ((t ++ w) ++ c) b
    (both 173 719 (t ++ w) c (both 28 145 t w (preset-line-short 16) (hand-line-short p.hands 1)) (board-short p.cells))
    (hand-line-short p.hands 0))
    (turn-short p.turn)

-- a position
pub position-short : (p : Position) → length (position_text p) ≤ 2048
unfolding position_text
position-short p =
    either 2048 (eqb p.board 0) (preset_line p.preset) (diagram_text p) (omega (arith, preset-line-short p.preset)) (omega (arith, diagram-short p))
