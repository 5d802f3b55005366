-- A position keeps its 81 cells and 14 counts along any play, and one that is read off bytes has them.
-- Assumes nothing.
use Rattle.std.specs.Prelude.{Option, Some, None}
use Prim.Native.Nat.{ℕ, ◌+◌}
use mathlib.Core.Path.{◌≡◌, refl, ◌∙◌}
use mathlib.Core.Bool.{Bool, true, false}
use mathlib.Core.List.{List, [], ◌∷◌}
use lib.ListN.{length, get_or, drop, length-set}
use lib.Dec.{eqb, ltb}
use Rattle.lists.specs.Pick.{pick}
use Rattle.jkf.specs.declared.Entry.{Entry}
use Rattle.jkf.specs.declared.Entry.TheVariants.{Slot, Moved, End}
use Rattle.jkf.specs.declared.Move.{Move}
use Rattle.jkf.specs.declared.Position.{Position}
use Rattle.block.specs.EntryBytes.{entry_in}
use Rattle.block.specs.PositionBytes.{position_in}
use Rattle.block.specs.Decode.{lines_in, move_place, first_entry, entry_count}
use Rattle.positions.specs.declared.Course.{Course}
use Rattle.positions.specs.Steps.{landing, leaving, verdict_of, moved, dropped, played, step_in, stepped}
use Rattle.jkf.specs.declared.Answer.TheVariants.{NotSound, NoSuchPart, NoStart, NoSuchEntry}
use Rattle.block.specs.Sound.{soundb}
use Rattle.positions.specs.Paths.{hirate, no_position, start_on, EntryPlace, path_to, on_goes, entry_on, play_one, play_all, at_start, answer_by, course_answer, not_played, has_start, position_after}
use Rattle.positions.proofs.Kept.{picked_length, raised_length, lowered-length}
use Rattle.block.proofs.ByteArrays.{bytes-length}
use Rattle.positions.specs.declared.Hindrance.{Hindrance}

-- 81 cells and 14 counts
pub record Long (p : Position) : Type 0 where
  pub cells : length p.cells ≡ 81
  pub hands : length p.hands ≡ 14

pub long_in : (o : List ℕ) → Long (position_in o)
unfolding position_in
long_in o = record { cells = bytes-length o 4 81; hands = bytes-length o 85 14 }

long-moved : (p : Position) (o d k mark : ℕ) → Long p → Long (moved p o d k mark)
unfolding moved
long-moved p o d k mark h =
    record {
      cells = simp (length-set, length-set) h.cells;
      hands = picked_length (eqb (get_or p.cells d 0) 0) p.hands _ h.hands (raised_length p.hands _ ∙ h.hands);
    }

long-dropped : (p : Position) (d k : ℕ) → Long p → Long (dropped p d k)
unfolding dropped
long-dropped p d k h = record { cells = simp length-set h.cells; hands = lowered-length p.hands _ ∙ h.hands }

long-played : (p : Position) (last : ℕ) (m : Move) → Long p → Long (played p last m)
unfolding played
long-played p last m h = go (eqb (leaving m.from) 82)
  where
    go : (t : Bool) → Long (pick t (dropped p (landing last m.to) m.piece) (moved p (leaving m.from) (landing last m.to) m.piece m.promote))
    go true = long-dropped p _ _ h
    go false = long-moved p _ _ _ _ h

long-stepped : (p : Position) (last : ℕ) (m : Move) → Long p → Long (stepped p last m).position
unfolding stepped
long-stepped p last m h = go (verdict_of p last m)
  where
    go : (v : Option Hindrance) → Long (step_in v last p (landing last m.to) (played p last m)).position
    go None = long-played p last m h
    go (Some r) = h

long-one : (b : List ℕ) (k i : ℕ) (w : Course) → Long w.position → Long (play_one b k i w).position
unfolding play_one
long-one b k i w h = go w.how (entry_in (drop (move_place b (first_entry b k + i)) b))
  where
    go : (v : Option Hindrance) (e : Entry) → Long (on_goes v w (entry_on e k i w)).position
    go (Some r) e = h
    go None Slot = h
    go None (Moved m) = long-stepped w.position w.last m h
    go None (End s t) = h

pub long-all : (b : List ℕ) (l : List EntryPlace) (w : Course) → Long w.position → Long (play_all b l w).position
unfolding play_all
long-all b [] w h = h
long-all b (s ∷ l) w h = long-all b l (play_one b s.line s.entry w) (long-one b s.line s.entry w h)

-- where play starts
pub long-start : (p : Position) → Long p → Long (start_on p)
unfolding start_on hirate
long-start p h = go (eqb p.board 0)
  where
    go : (t : Bool) → Long (pick t hirate p)
    go true = record { cells = refl; hands = refl }
    go false = h

-- and what is answered
pub long_after : (b : List ℕ) (k e : ℕ) → Long (position_after b k e).position
unfolding position_after course_answer no_position
long_after b k e =
    go (soundb b) (ltb k (lines_in b)) (has_start (position_in (drop 28 b))) (ltb e (entry_count b k)) (play_all b (path_to b k (e + 1)) (at_start (start_on (position_in (drop 28 b)))))
    (long-all b (path_to b k (e + 1)) (at_start (start_on (position_in (drop 28 b)))) (long-start _ (long_in (drop 28 b))))
  where
    by : (v : Option Hindrance) (c : Course) → Long c.position → Long (answer_by v c).position
    by None c h = h
    by (Some r) c h = record { cells = refl; hands = refl }

    go : (s l h n : Bool) (c : Course) → Long c.position
        → Long (pick s (pick l (pick h (pick n (answer_by c.how c) (not_played (NoSuchEntry k e))) (not_played (NoStart (position_in (drop 28 b)).preset))) (not_played (NoSuchPart k))) (not_played NotSound)).position
    go true true true true c h = by c.how c h
    go true true true false c h = record { cells = refl; hands = refl }
    go true true false n c h = record { cells = refl; hands = refl }
    go true false x n c h = record { cells = refl; hands = refl }
    go false l x n c h = record { cells = refl; hands = refl }
