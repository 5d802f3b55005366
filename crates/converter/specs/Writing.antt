-- What `write` and `write_as` answer, and what the lent buffer then holds.                             (01, Numbers of refusal)
-- Assumes nothing: these are definitions.
use Rattle.std.specs.Prelude.{ℕ, List, ◌++◌, length, drop, eqb, ltb}
use Rattle.lists.specs.Pick.{pick}
use Rattle.jkf.specs.Answers.{Outcome, refuse}
use Rattle.jkf.specs.declared.Answer.TheVariants.{Done, BufferShort, NotSound}
use Rattle.block.specs.Decode.{decode}
use Rattle.block.specs.Sound.{soundb}
use Rattle.converter.specs.declared.Mode.{Mode}
use Rattle.converter.specs.declared.Mode.TheVariants.{Plain, Whole, Shared}
use Rattle.converter.specs.Show.{Showing, text, refused, show}

-- A text that fits stands at the front of the buffer, and nothing past it changes.
unfoldable pub text_stored : List ℕ → ℕ → List ℕ → Outcome
text_stored t left o =
    pick (ltb (length o) (length t))
    (refuse (BufferShort (length t)) o)
    (record { answer = Done (length t) left; buffer = t ++ drop (length t) o })

unfoldable pub shown_of : Showing → List ℕ → Outcome
shown_of (text t left) o = text_stored t left o
shown_of (refused a) o = refuse a o

-- Refusal 7, then 20, then 8 and 9, then 5.                                              (01, Numbers of refusal: order; 02, xi)
unfoldable pub write_as_of : Mode → List ℕ → List ℕ → Outcome
write_as_of mode b o = let r = shown_of (show mode (decode b)) o in pick (soundb b) r (refuse NotSound o)

-- As `to_kif` writes.
abbrev pub write_of : List ℕ → List ℕ → Outcome
write_of b o = write_as_of Plain b o

-- The mode with a number: 1 loses nothing, 2 is for other programs too, and any other is as `to_kif` writes.
abbrev pub mode_of : ℕ → Mode
mode_of n = pick (eqb n 1) Whole (pick (eqb n 2) Shared Plain)
