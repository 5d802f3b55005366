-- The position and its 100 bytes in a block.                                                         (01, The block)
-- Assumes nothing: these are definitions.
use Rattle.std.specs.Prelude.{ℕ, zero, suc, ◌+◌, List, [], ◌∷◌, ◌++◌, get_or}
use Rattle.jkf.specs.declared.Position.{Position}

-- Preset, board flag, turn, zero; 81 cells; 14 counts; zero.                                         (01, The block: 100 bytes)
unfoldable pub position_bytes : Position → List ℕ
position_bytes p = p.preset ∷ p.board ∷ p.turn ∷ 0 ∷ [] ++ p.cells ++ p.hands ++ (0 ∷ [])

-- The n bytes from a place on; past the end they are 0.
unfoldable pub bytes_at : List ℕ → ℕ → ℕ → List ℕ
bytes_at l at zero = []
bytes_at l at (suc n) = let r = bytes_at l (at + 1) n in get_or l at 0 ∷ r

-- The way back: what position the bytes from here on say.
unfoldable pub position_in : List ℕ → Position
position_in l =
    record {
      preset = get_or l 0 0;
      board = get_or l 1 0;
      turn = get_or l 2 0;
      cells = bytes_at l 4 81;
      hands = bytes_at l 85 14;
    }
