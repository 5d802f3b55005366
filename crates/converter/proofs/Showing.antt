-- What `write_as` answers, case by case, and the text of a block in its three parts.
-- Assumes nothing.
use Rattle.std.specs.Prelude.{Option, Some, None}
use mathlib.Core.Path.{◌≡◌, refl, sym, ap}
use mathlib.Core.List.{List, ◌++◌}
use mathlib.Core.Bool.{true, false}
use Prim.Native.Nat.{ℕ, ◌≤◌, ◌<◌}
use lib.ListN.{length, drop}
use borrow.Author.Tests.{lt-ltb, le-ltb}
use Rattle.jkf.specs.Answers.{refuse}
use Rattle.block.specs.PositionBytes.{position_in}
use Rattle.jkf.specs.declared.Answer.TheVariants.{Done, BufferShort, NotSound, HandCount, CannotWrite, StartsAtZero}
use Rattle.jkf.specs.Model.{Record}
use Rattle.block.specs.Decode.{decode}
use Rattle.block.specs.Sound.{soundb}
use Rattle.converter.specs.Headers.{headers_text}
use Rattle.converter.specs.inner.Places.{stored_headers}
use Rattle.converter.specs.Diagrams.{position_text}
use Rattle.converter.specs.declared.Mode.{Mode}
use Rattle.converter.specs.Said.{said_lines, left_out, said_record}
use Rattle.converter.specs.Show.{text, refused, on_obstacle, hands_obstacle, line_obstacle, start_obstacle, lines_text, record_text, show_lines, show_hands, show}
use Rattle.converter.specs.Writing.{text_stored, shown_of, write_as_of}
use Rattle.lent.proofs.Room.{room_as, room-front}

-- ---- refusals in their order

module _ (mode : Mode) (b o : List ℕ) where
  pub not_sound : soundb b ≡ false → write_as_of mode b o ≡ refuse NotSound o
  unfolding write_as_of
  not_sound h = rw h

  pub is_sound : soundb b ≡ true → write_as_of mode b o ≡ shown_of (show mode (decode b)) o
  unfolding write_as_of
  is_sound h = rw h

module _ (mode : Mode) (r : Record) (o : List ℕ) where
  pub starts-refused : (line n : ℕ) → start_obstacle mode r.lines ≡ Some (line, n) → shown_of (show mode r) o ≡ refuse (StartsAtZero line) o
  unfolding show shown_of
  starts-refused line n e =
      ap (λ (h : Option (ℕ × ℕ)). shown_of (on_obstacle h (λ l _. refused (StartsAtZero l)) (show_hands mode r)) o) e

  pub starts_clear : start_obstacle mode r.lines ≡ None → shown_of (show mode r) o ≡ shown_of (show_hands mode r) o
  unfolding show
  starts_clear e =
      ap (λ (h : Option (ℕ × ℕ)). shown_of (on_obstacle h (λ l _. refused (StartsAtZero l)) (show_hands mode r)) o) e

  pub hands-refused : (side kind : ℕ) → hands_obstacle r.position ≡ Some (side, kind) → shown_of (show_hands mode r) o ≡ refuse (HandCount side kind) o
  unfolding show_hands shown_of
  hands-refused side kind e =
      ap (λ (h : Option (ℕ × ℕ)). shown_of (on_obstacle h (λ s k. refused (HandCount s k)) (show_lines mode r)) o) e

  pub hands_clear : hands_obstacle r.position ≡ None → shown_of (show_hands mode r) o ≡ shown_of (show_lines mode r) o
  unfolding show_hands
  hands_clear e =
      ap (λ (h : Option (ℕ × ℕ)). shown_of (on_obstacle h (λ s k. refused (HandCount s k)) (show_lines mode r)) o) e

  pub lines-refused : (line entry : ℕ) → line_obstacle 0 (said_lines mode r.lines) ≡ Some (line, entry) → shown_of (show_lines mode r) o ≡ refuse (CannotWrite line entry) o
  unfolding show_lines shown_of said_record
  lines-refused line entry e =
      ap (λ (h : Option (ℕ × ℕ)). shown_of (on_obstacle h (λ l n. refused (CannotWrite l n)) (text (record_text (said_record mode r)) (left_out r.lines))) o) e

  pub lines_clear : line_obstacle 0 (said_lines mode r.lines) ≡ None → shown_of (show_lines mode r) o ≡ text_stored (record_text (said_record mode r)) (left_out r.lines) o
  unfolding show_lines shown_of said_record
  lines_clear e =
      ap (λ (h : Option (ℕ × ℕ)). shown_of (on_obstacle h (λ l n. refused (CannotWrite l n)) (text (record_text (said_record mode r)) (left_out r.lines))) o) e

-- ---- a text that is written, or does not fit

module _ (t : List ℕ) (left : ℕ) (o : List ℕ) where
  pub too_short : length o < length t → text_stored t left o ≡ refuse (BufferShort (length t)) o
  unfolding text_stored
  too_short h = rw (lt-ltb _ _ h)

  pub has_room : length t ≤ length o → text_stored t left o ≡ record { answer = Done (length t) left; buffer = t ++ drop (length t) o }
  unfolding text_stored
  has_room h = rw (le-ltb _ _ h)

-- ---- the text

pub record_is : (mode : Mode) (b : List ℕ)
    → record_text (said_record mode (decode b)) ≡ (headers_text (stored_headers b) ++ position_text (position_in (drop 28 b))) ++ lines_text (said_lines mode (decode b).lines)
unfolding record_text said_record decode
record_is mode b = refl

pub position_is : (b : List ℕ) → (decode b).position ≡ position_in (drop 28 b)
unfolding decode
position_is b = refl

-- room for the text is room for its header, for the position after it, and for the lines after both
pub record_room : (mode : Mode) (b : List ℕ) {n : ℕ} → length (record_text (said_record mode (decode b))) ≤ n
    → (length (headers_text (stored_headers b)) ≤ n) × (length (headers_text (stored_headers b) ++ position_text (position_in (drop 28 b))) ≤ n) × (length ((headers_text (stored_headers b) ++ position_text (position_in (drop 28 b))) ++ lines_text (said_lines mode (decode b).lines)) ≤ n)
record_room mode b {n} r =
    let h = headers_text (stored_headers b) in
    let p = position_text (position_in (drop 28 b)) in
    let all = room_as (sym (record_is mode b)) r in
    let two = room-front (h ++ p) (lines_text (said_lines mode (decode b).lines)) all in
    (room-front h p two, two, all)
