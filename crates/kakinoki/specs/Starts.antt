-- What stands before the moves: a block, a board or none, a block.                                    (01, Reading rules: order)
-- Assumes nothing: these are definitions.
use Rattle.std.specs.Prelude.{ℕ, ◌+◌, List, [], ◌∷◌, ◌++◌, length, replicate, ltb, Option, Some, None}
use Rattle.lists.specs.Pick.{pick}
use Rattle.lists.specs.Repeat.{Ended}
use Rattle.text.specs.Text.{cursor}
use Rattle.jkf.specs.declared.Position.{Position}
use Rattle.jkf.specs.Model.{Header}
use Rattle.kakinoki.specs.Informations.{Said, told, untold, tell_all, pairs_of, header_places_at, informations_at, fault_at}
use Rattle.kakinoki.specs.Boards.{board_at, no_cells}
use Rattle.kakinoki.specs.declared.Told.{Told}
use Rattle.kakinoki.specs.declared.Board.{Board}
use Rattle.kakinoki.specs.declared.Start.{Start}

-- What is named, or else a number.
abbrev pub named : Option ℕ → ℕ → ℕ
named (Some n) d = n
named None d = d

-- A fault taken apart.
abbrev pub on_fault : {A : Type 0} → Option ℕ → (ℕ → A) → A → A
on_fault (Some at) f d = f at
on_fault None f d = d

-- The first that is named.
abbrev pub either : Option ℕ → Option ℕ → Option ℕ
either (Some n) b = Some n
either None b = b

-- Counts added one by one, which stop at 255.
abbrev pub add_counts : ℕ → ℕ → ℕ
add_counts x y = pick (ltb 255 (x + y)) 255 (x + y)

unfoldable pub add_hands : List ℕ → List ℕ → List ℕ
add_hands [] b = []
add_hands (x ∷ a) [] = []
add_hands (x ∷ a) (y ∷ b) = add_counts x y ∷ add_hands a b

-- Across the two blocks: the first preset and turn win, hands add.                                    (the Rust's merged)
unfoldable pub merged : Told → Told → Told
merged a b = told (either a.preset b.preset) (either a.turn b.turn) (add_hands a.black b.black) (add_hands a.white b.white)

-- With a board その他 is the preset, and Black is to move if nothing says who is; without one there are no hands and no turn, and the preset is 平手
-- if none stands.
unfoldable pub position_said : Board → Told → Position
position_said b t =
    pick b.there
    (record { preset = 16; board = 1; turn = named t.turn 0; cells = b.cells; hands = t.black ++ t.white })
    (record { preset = named t.preset 0; board = 0; turn = 0; cells = no_cells; hands = replicate 14 0 })

-- ---- in the order of the text

abbrev pub first_block : List ℕ → Ended (List Said)
first_block s = informations_at s 0

abbrev pub diagram : List ℕ → Board
diagram s = board_at s (first_block s).at

-- Where the second block begins.
abbrev pub second_place : List ℕ → ℕ
second_place s = pick (diagram s).there (diagram s).next.at (first_block s).at

abbrev pub second_block : List ℕ → Ended (List Said)
second_block s = informations_at s (second_place s)

-- The header entries of both, in the order of the file.
unfoldable pub headers_said : List ℕ → List Header
headers_said s = pairs_of (first_block s).state ++ pairs_of (second_block s).state

-- The places of their lines.
unfoldable pub header_places : List ℕ → List ℕ
header_places s = header_places_at s 0 ++ header_places_at s (second_place s)

-- A hand line that cannot be read ends its block. No board begins with it, so the second block, which then begins where the first ended,
-- ends there as well.                                                                                 (01, Numbers of refusal: 3)
unfoldable pub start_read : List ℕ → Start
start_read s =
    record {
      fault = fault_at s (second_block s).at;
      position = position_said (diagram s) (merged (tell_all untold (first_block s).state) (tell_all untold (second_block s).state));
      headers = length (header_places s);
      next = cursor (second_block s).at;
    }
