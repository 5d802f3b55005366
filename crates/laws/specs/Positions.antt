-- What playing keeps, and how one position follows from another.                                        (02, request (i))
-- Assumes nothing: these are definitions.
use Rattle.std.specs.Prelude.{ℕ, ◌+◌, ◌-◌, ◌<◌, ◌≡◌, true, List, ◌++◌, None}
use Rattle.lists.specs.Test.{claim}
use Rattle.jkf.specs.declared.Answer.TheVariants.{Done}
use Rattle.jkf.specs.declared.Move.{Move}
use Rattle.jkf.specs.declared.Position.{Position}
use Rattle.block.specs.Decode.{decode, run, lines_in, parent_of, entry_count}
use Rattle.block.specs.Sound.{soundb, fits_test}
use Rattle.positions.specs.declared.Course.{Course}
use Rattle.positions.specs.Steps.{other, stepped}
use Rattle.positions.specs.Examples.{ThreeRight, FourRight, FiveRight, StopsRight}
use Rattle.positions.specs.Pieces.{FitDiagram, Keeps}
use Rattle.positions.specs.Paths.{start_on, course_of, entry_place, hang_entry, path_to, play_one, play_all, course_answer, position_after}
use Rattle.laws.specs.Blocks.{Bytes}

pub record PositionTheorems : Type 0 where
  -- A step keeps the pieces of each of the seven kinds that can be held, on the board and in both hands together and promotion aside, and the
  -- kings; and what was a sound diagram is one again. So it is for every move and wherever the last one landed.
  pub step_keeps : (p : Position) (last : ℕ) (m : Move) → FitDiagram p → Keeps p (stepped p last m).position
  -- The side to move alternates with each move that is played.
  pub turn_alternates : (p : Position) (last : ℕ) (m : Move) → (stepped p last m).how ≡ None → (stepped p last m).position.turn ≡ other p.turn
  -- A position that is answered has the pieces of the start, and is a sound diagram.
  pub answer_keeps : (b : List ℕ) (k e x y : ℕ) → Bytes b → (position_after b k e).answer ≡ Done x y → Keeps (start_on (decode b).position) (position_after b k e).position
  -- Which is one that a block may hold.
  pub fit_sound : (p : Position) → FitDiagram p → claim (fits_test p)
  -- A record's start is a sound diagram.
  pub start_fits : (b : List ℕ) → Bytes b → soundb b ≡ true → FitDiagram (start_on (decode b).position)
  -- The answer at an entry of a line follows by one step from what was answered at the entry before it: a page may play on.
  pub answer-follows : (b : List ℕ) (k e x y : ℕ) → (position_after b k e).answer ≡ Done x y → e + 1 < entry_count b k
      → position_after b k (e + 1) ≡ course_answer (play_one b k (e + 1) (course_of (position_after b k e).trail (position_after b k e).position))
  -- And that at the first entry of a variation from what was answered at its parent's entry before the one that it hangs on.
  pub variation_follows : (b : List ℕ) (k x y : ℕ) → 0 < k → k < lines_in b → 0 < hang_entry b k → (position_after b (parent_of b k) (hang_entry b k - 1)).answer ≡ Done x y
      → position_after b k 0
      ≡ course_answer (play_one b k 0 (course_of (position_after b (parent_of b k) (hang_entry b k - 1)).trail (position_after b (parent_of b k) (hang_entry b k - 1)).position))
  -- The play to an entry of a line follows by one step from that to the entry before it.
  pub play-follows : (b : List ℕ) (k n : ℕ) (w : Course) → play_all b (path_to b k (n + 1)) w ≡ play_one b k n (play_all b (path_to b k n) w)
  -- The path through a variation is that of its parent before the entry that it hangs on, then its own entries.
  pub path_under : (b : List ℕ) (k n : ℕ) → soundb b ≡ true → 0 < k → k < lines_in b → path_to b k n ≡ path_to b (parent_of b k) (hang_entry b k) ++ run (entry_place k) 0 n
  -- Worked games: captures, 同, a promoted piece taken, a drop; and each reason to stop.
  pub three_right : ThreeRight
  pub four_right : FourRight
  pub five_right : FiveRight
  pub stops_right : StopsRight
