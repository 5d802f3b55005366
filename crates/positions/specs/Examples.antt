-- Games worked out: 平手, ７六歩 ３四歩 ２二角成 同銀 ４五角打, with the hands and cells after each; and each reason to stop.
-- Assumes nothing: these are definitions.
use Rattle.std.specs.Prelude.{ℕ, ◌+◌, ◌*◌, ◌-◌, ◌≡◌, [], ◌∷◌, get_or, replicate, Option, Some, None}
use Rattle.jkf.specs.declared.Target.{Target}
use Rattle.jkf.specs.declared.Target.TheVariants.{Same, Square}
use Rattle.jkf.specs.declared.Time.TheVariants.{Untimed}
use Rattle.jkf.specs.declared.Move.{Move}
use Rattle.jkf.specs.declared.Position.{Position}
use Rattle.positions.specs.declared.Hindrance.TheVariants.{NoneBefore, OffBoard, NotThere, NoPromotion, OwnPiece, King, HandFull, NotInHand, OntoPiece}
use Rattle.positions.specs.declared.Stepping.{Stepping}
use Rattle.positions.specs.Steps.{stepped}
use Rattle.positions.specs.Paths.{hirate}
use Rattle.positions.specs.declared.Hindrance.{Hindrance}

-- a move of a kind with its mark; its colour is wrong on purpose, since it is not used
abbrev pub example_move : ℕ → ℕ → Target → Option (ℕ × ℕ) → Move
example_move k mark to from = record { color = 1; piece = k; promote = mark; to = to; from = from; time = Untimed }

abbrev pub then_played : Stepping → Move → Stepping
then_played s m = stepped s.position s.last m

abbrev pub hirate_start : Stepping
hirate_start = record { how = None; last = 81; position = hirate }

abbrev pub cell_on : Stepping → ℕ → ℕ → ℕ
cell_on s x y = get_or s.position.cells (9 * (x - 1) + (y - 1)) 0

abbrev pub after_three : Stepping
after_three = then_played (then_played (then_played hirate_start (example_move 1 0 (Square 7 6) (Some (7, 7)))) (example_move 1 0 (Square 3 4) (Some (3, 3)))) (example_move 6 2 (Square 2 2) (Some (8, 8)))

abbrev pub after_four : Stepping
after_four = then_played after_three (example_move 4 0 Same (Some (3, 1)))

abbrev pub after_five : Stepping
after_five = then_played after_four (example_move 6 0 (Square 4 5) (Some (0, 0)))

-- after ２二角成: 馬 on 2二, 8八 is empty, a bishop in Black's hand, White to move
abbrev pub ThreeRight : Type 0
ThreeRight =
    (cell_on after_three 2 2 ∷ cell_on after_three 8 8 ∷ after_three.position.turn ∷ after_three.last ∷ after_three.position.hands)
    ≡ 13 ∷ 0 ∷ 1 ∷ 10 ∷ 0 ∷ 0 ∷ 0 ∷ 0 ∷ 0 ∷ 1 ∷ 0 ∷ 0 ∷ 0 ∷ 0 ∷ 0 ∷ 0 ∷ 0 ∷ 0 ∷ []

-- after 同銀: White's 銀 there, and the 馬 in White's hand as a bishop
abbrev pub FourRight : Type 0
FourRight =
    (cell_on after_four 2 2 ∷ cell_on after_four 3 1 ∷ after_four.position.turn ∷ after_four.last ∷ after_four.position.hands)
    ≡ 20 ∷ 0 ∷ 0 ∷ 10 ∷ 0 ∷ 0 ∷ 0 ∷ 0 ∷ 0 ∷ 1 ∷ 0 ∷ 0 ∷ 0 ∷ 0 ∷ 0 ∷ 0 ∷ 1 ∷ 0 ∷ []

-- after ４五角打: a bishop there, and none in Black's hand
abbrev pub FiveRight : Type 0
FiveRight =
    (cell_on after_five 4 5 ∷ after_five.position.turn ∷ after_five.last ∷ after_five.position.hands)
    ≡ 6 ∷ 1 ∷ 31 ∷ 0 ∷ 0 ∷ 0 ∷ 0 ∷ 0 ∷ 0 ∷ 0 ∷ 0 ∷ 0 ∷ 0 ∷ 0 ∷ 0 ∷ 1 ∷ 0 ∷ []

-- what stops: 同 at the start; off the board; from off the board; no piece there, another's, another kind; onto one's own; a gold that promotes;
-- a drop that promotes, of a piece not held, onto a piece; the taking of a king; a hand that is full
abbrev pub bare_board : Position
bare_board = record { preset = 16; board = 1; turn = 0; cells = 7 ∷ 24 ∷ 17 ∷ replicate 78 0; hands = 255 ∷ replicate 13 0 }

abbrev pub verdict_on : Position → ℕ → Move → Option Hindrance
verdict_on p last m = (stepped p last m).how

abbrev pub StopsRight : Type 0
StopsRight =
    (verdict_on hirate 81 (example_move 1 0 Same (Some (7, 7))) ∷ verdict_on hirate 81 (example_move 1 0 (Square 0 6) (Some (7, 7))) ∷ verdict_on hirate 81 (example_move 1 0 (Square 7 6) (Some (0, 7)))
    ∷ verdict_on hirate 81 (example_move 1 0 (Square 7 5) (Some (7, 6))) ∷ verdict_on hirate 81 (example_move 1 0 (Square 3 4) (Some (3, 3))) ∷ verdict_on hirate 81 (example_move 2 0 (Square 7 6) (Some (7, 7)))
    ∷ verdict_on hirate 81 (example_move 7 0 (Square 2 7) (Some (2, 8))) ∷ verdict_on hirate 81 (example_move 5 2 (Square 4 8) (Some (4, 9)))
    ∷ verdict_on bare_board 81 (example_move 1 2 (Square 5 5) None) ∷ verdict_on bare_board 81 (example_move 2 0 (Square 5 5) None) ∷ verdict_on bare_board 81 (example_move 1 0 (Square 1 3) (Some (0, 0)))
    ∷ verdict_on bare_board 81 (example_move 7 0 (Square 1 2) (Some (1, 1))) ∷ verdict_on bare_board 81 (example_move 7 0 (Square 1 3) (Some (1, 1))) ∷ verdict_on bare_board 81 (example_move 1 0 (Square 5 5) None) ∷ [])
    ≡ Some NoneBefore ∷ Some OffBoard ∷ Some OffBoard ∷ Some NotThere ∷ Some NotThere ∷ Some NotThere ∷ Some OwnPiece ∷ Some NoPromotion
    ∷ Some NoPromotion ∷ Some NotInHand ∷ Some OntoPiece ∷ Some King ∷ Some HandFull ∷ None ∷ []
