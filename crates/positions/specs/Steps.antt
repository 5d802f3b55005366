-- One step of play on a position. A place is 9 * (file - 1) + (rank - 1), as the cells lie.            (02, request (i))
-- Assumes nothing: these are definitions.
use Rattle.std.specs.Prelude.{ℕ, ◌+◌, ◌*◌, ◌-◌, ◌%◌, List, [], ◌∷◌, Bool, false, get_or, set, eqb, leb, ltb, Option, Some, None}
use Rattle.lists.specs.Pick.{pick}
use Rattle.jkf.specs.declared.Target.{Target}
use Rattle.jkf.specs.declared.Target.TheVariants.{Same, Square}
use Rattle.jkf.specs.declared.Move.{Move}
use Rattle.jkf.specs.declared.Position.{Position}
use Rattle.positions.specs.declared.Hindrance.{Hindrance}
use Rattle.positions.specs.declared.Hindrance.TheVariants.{NoneBefore, OffBoard, NotThere, NoPromotion, OwnPiece, King, HandFull, NotInHand, OntoPiece}
use Rattle.positions.specs.declared.Stepping.{Stepping}

-- ---- places

-- 81 off the board.
unfoldable pub cell_place : ℕ → ℕ → ℕ
cell_place x y = pick (ltb x 1) 81 (pick (ltb 9 x) 81 (pick (ltb y 1) 81 (pick (ltb 9 y) 81 (9 * (x - 1) + (y - 1)))))

-- 同 lands where the last move did; 81 where there was none.                                        (02, request (i): "同 takes the last destination")
unfoldable pub landing : ℕ → Target → ℕ
landing last Same = last
landing last (Square x y) = cell_place x y

-- 82 for a drop: origin (0,0) or none.                                                              (02, request (i): "A drop is")
unfoldable pub leaving : Option (ℕ × ℕ) → ℕ
leaving None = 82
leaving (Some (x, y)) = pick (eqb x 0) (pick (eqb y 0) 82 (cell_place x y)) (cell_place x y)

-- ---- pieces

-- 0 for Black, n for White.
abbrev pub for_white : ℕ → ℕ → ℕ
for_white turn n = pick (eqb turn 0) 0 n

-- The other side.
abbrev pub other : ℕ → ℕ
other turn = pick (eqb turn 0) 1 0

-- A cell holds a piece of the side to move.
unfoldable pub owned : ℕ → ℕ → Bool
owned turn c = pick (eqb turn 0) (pick (ltb c 1) false (ltb c 16)) (leb 16 c)

-- The kind, of 1 to 14, as it is held, unpromoted, from 0; 7 for a king. 8 for 0, no piece.
unfoldable pub class : ℕ → ℕ
class k = get_or (8 ∷ 0 ∷ 1 ∷ 2 ∷ 3 ∷ 4 ∷ 5 ∷ 6 ∷ 7 ∷ 0 ∷ 1 ∷ 2 ∷ 3 ∷ 5 ∷ 6 ∷ []) k 0

-- The kind that one promotes to; 0 where it has none.
unfoldable pub promoted : ℕ → ℕ
promoted k = get_or (0 ∷ 9 ∷ 10 ∷ 11 ∷ 12 ∷ 0 ∷ 13 ∷ 14 ∷ []) k 0

-- The kind after a move with this mark: 2 is 成.
abbrev pub becomes : ℕ → ℕ → ℕ
becomes k mark = pick (eqb mark 2) (promoted k) k

-- Where a kind that can be held is counted in the hands; it is not asked of a king.
abbrev pub hand_place : ℕ → ℕ → ℕ
hand_place turn k = for_white turn 7 + class k

-- The cell of a kind of the side to move. Kinds are below 16.
unfoldable pub piece_of : ℕ → ℕ → ℕ
piece_of turn k = pick (eqb turn 0) (k % 16) (16 + k % 16)

-- ---- what stops the play                                                                            (02, request (i): "stops the play")

-- "a 同 with no move before it", "a place off the board"
unfoldable pub missing : Target → Hindrance
missing Same = NoneBefore
missing (Square x y) = OffBoard

-- "A piece that is not where the move says"
unfoldable pub is_there : List ℕ → ℕ → ℕ → ℕ → Bool
is_there cells turn o k = pick (owned turn (get_or cells o 0)) (eqb (get_or cells o 0 % 16) k) false

-- "a landing on one's own piece", "the taking of a king", "a hand that would pass 255"
unfoldable pub land_verdict : List ℕ → List ℕ → ℕ → ℕ → Option Hindrance
land_verdict cells hands turn d =
    pick (eqb (get_or cells d 0) 0)
    None
    (pick (owned turn (get_or cells d 0))
    (Some OwnPiece)
    (pick (eqb (get_or cells d 0 % 16) 8)
    (Some King)
    (pick (ltb 254 (get_or hands (hand_place turn (get_or cells d 0 % 16)) 0)) (Some HandFull) None)))

-- A move on the board from o to d; "a promotion .. of a kind that has none".
unfoldable pub move_verdict : List ℕ → List ℕ → ℕ → ℕ → ℕ → ℕ → ℕ → Option Hindrance
move_verdict cells hands turn o d k mark =
    pick (leb 81 o)
    (Some OffBoard)
    (pick (is_there cells turn o k)
    (pick (eqb (becomes k mark) 0) (Some NoPromotion) (land_verdict cells hands turn d))
    (Some NotThere))

-- "a drop without the piece in hand"
unfoldable pub in_hand : List ℕ → ℕ → ℕ → Bool
in_hand hands turn k = pick (ltb k 1) false (pick (ltb 7 k) false (ltb 0 (get_or hands (hand_place turn k) 0)))

-- "a promotion on a drop", "a drop .. onto a piece"
unfoldable pub drop_verdict : List ℕ → List ℕ → ℕ → ℕ → ℕ → ℕ → Option Hindrance
drop_verdict cells hands turn d k mark =
    pick (eqb mark 2)
    (Some NoPromotion)
    (pick (in_hand hands turn k) (pick (eqb (get_or cells d 0) 0) None (Some OntoPiece)) (Some NotInHand))

-- A landing that is no place comes first; then what stops a drop, or a move on the board.
unfoldable pub verdict_of : Position → ℕ → Move → Option Hindrance
verdict_of p last m =
    pick (leb 81 (landing last m.to))
    (Some (missing m.to))
    (pick (eqb (leaving m.from) 82)
    (drop_verdict p.cells p.hands p.turn (landing last m.to) m.piece m.promote)
    (move_verdict p.cells p.hands p.turn (leaving m.from) (landing last m.to) m.piece m.promote))

-- ---- the position after a move that can be played

-- One more in hand; one less. Where the play goes on a hand that gets more has at most 254, and one that gives at least 1.
unfoldable pub one_more : List ℕ → ℕ → List ℕ
one_more hands i = pick (ltb 254 (get_or hands i 0)) hands (set hands i (get_or hands i 0 + 1))

unfoldable pub one_less : List ℕ → ℕ → List ℕ
one_less hands i = pick (ltb (get_or hands i 0) 1) hands (set hands i (get_or hands i 0 - 1))

-- "A capture goes to the mover's hand unpromoted."
unfoldable pub moved : Position → ℕ → ℕ → ℕ → ℕ → Position
moved p o d k mark =
    record {
      preset = p.preset;
      board = p.board;
      turn = other p.turn;
      cells = set (set p.cells o 0) d (piece_of p.turn (becomes k mark));
      hands = pick (eqb (get_or p.cells d 0) 0) p.hands (one_more p.hands (hand_place p.turn (get_or p.cells d 0 % 16)));
    }

-- A drop takes the piece from the mover's hand.
unfoldable pub dropped : Position → ℕ → ℕ → Position
dropped p d k =
    record {
      preset = p.preset;
      board = p.board;
      turn = other p.turn;
      cells = set p.cells d (piece_of p.turn k);
      hands = one_less p.hands (hand_place p.turn k);
    }

-- A drop, or a move on the board.
unfoldable pub played : Position → ℕ → Move → Position
played p last m =
    pick (eqb (leaving m.from) 82)
    (dropped p (landing last m.to) m.piece)
    (moved p (leaving m.from) (landing last m.to) m.piece m.promote)

-- ---- the step

-- Where the play goes on, the new position and where the move landed; where it stops, what was before.
abbrev pub step_in : Option Hindrance → ℕ → Position → ℕ → Position → Stepping
step_in None last p d q = record { how = None; last = d; position = q }
step_in (Some r) last p d q = record { how = Some r; last = last; position = p }

-- One move played on a position, after the place of the last landing.
unfoldable pub stepped : Position → ℕ → Move → Stepping
stepped p last m = step_in (verdict_of p last m) last p (landing last m.to) (played p last m)
