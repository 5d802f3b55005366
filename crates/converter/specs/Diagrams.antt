-- The position as it is written: a preset, or a diagram with hands and the side to move.              (01, Writing)
-- Assumes nothing: these are definitions.
use Rattle.std.specs.Prelude.{ℕ, ◌+◌, ◌*◌, ◌-◌, List, [], ◌∷◌, ◌++◌, length, get_or, eqb, leb, ltb}
use Rattle.lists.specs.Pick.{pick}
use Rattle.text.specs.Text.{wide_space}
use Rattle.spell.specs.Tables.{kinds, presets, sides, numerals}
use Rattle.spell.specs.Spell.{spelled}
use Rattle.spell.specs.Count.{count_text}
use Rattle.jkf.specs.declared.Position.{Position}
use Rattle.block.specs.Encode.{concat}
use Rattle.spell.specs.Words.{preset_tag, turn_tag, hands_tag, none_tag, files_tag, rule_tag, empty_tag}
use Rattle.converter.specs.Headers.{range}

-- 手合割：, the preset, LF.                                                                           (the Rust's write_initial_preset)
unfoldable pub preset_line : ℕ → List ℕ
preset_line n = (preset_tag ++ spelled presets n) ++ (10 ∷ [])

-- ---- hands

-- A kind in hand: the kind, its count where that is above 1, and U+3000.
unfoldable pub held_text : ℕ → ℕ → List ℕ
held_text kind count = pick (eqb count 0) [] ((spelled kinds kind ++ pick (ltb 1 count) (count_text count) []) ++ wide_space)

-- How many of a kind a side holds.                                                                    (01, The block: hand counts)
abbrev pub held : List ℕ → ℕ → ℕ → ℕ
held hands side kind = get_or hands (7 * side + kind - 1) 0

-- 飛 角 金 銀 桂 香 歩.                                                                               (the Rust's write_hand)
unfoldable pub all_held : List ℕ → ℕ → List ℕ
all_held hands side = concat (λ i. held_text (7 - i) (held hands side (7 - i))) (range 0 7)

-- なし for an empty hand.
abbrev pub or_none : List ℕ → List ℕ
or_none t = pick (eqb (length t) 0) none_tag t

-- Side, の持駒：, what it holds, LF.
unfoldable pub hand_line_text : List ℕ → ℕ → List ℕ
hand_line_text hands side = ((spelled sides side ++ hands_tag) ++ or_none (all_held hands side)) ++ (10 ∷ [])

-- ---- the diagram

-- An empty cell; a space before a piece of Black, v before one of White.
unfoldable pub cell_text : ℕ → List ℕ
cell_text v = pick (eqb v 0) empty_tag (pick (leb v 14) ((32 ∷ []) ++ spelled kinds v) ((118 ∷ []) ++ spelled kinds (v - 16)))

-- The cells of a rank, file 9 first.
unfoldable pub cells_text : List ℕ → ℕ → List ℕ
cells_text cells rank = concat (λ i. cell_text (get_or cells (9 * (8 - i) + rank) 0)) (range 0 9)

-- |, cells, |, the rank, LF.
unfoldable pub board_row : List ℕ → ℕ → List ℕ
board_row cells rank = ((124 ∷ []) ++ cells_text cells rank) ++ (((124 ∷ []) ++ spelled numerals (rank + 1)) ++ (10 ∷ []))

unfoldable pub board_rows : List ℕ → List ℕ
board_rows cells = concat (board_row cells) (range 0 9)

-- Both head lines, the rows, the foot line.
unfoldable pub board_text : List ℕ → List ℕ
board_text cells = ((((files_tag ++ (10 ∷ [])) ++ rule_tag) ++ (10 ∷ [])) ++ board_rows cells) ++ (rule_tag ++ (10 ∷ []))

-- 後手番 for White; nothing for Black.
unfoldable pub turn_text : ℕ → List ℕ
turn_text turn = pick (eqb turn 1) ((spelled sides 1 ++ turn_tag) ++ (10 ∷ [])) []

-- White's hand stands above the board, Black's below it.                                              (the Rust's write_initial_data)
unfoldable pub diagram_text : Position → List ℕ
diagram_text p =
    (((preset_line 16 ++ hand_line_text p.hands 1) ++ board_text p.cells) ++ hand_line_text p.hands 0) ++ turn_text p.turn

-- A preset where there is no diagram.                                                                 (the Rust's write_initial)
unfoldable pub position_text : Position → List ℕ
position_text p = pick (eqb p.board 0) (preset_line p.preset) (diagram_text p)
