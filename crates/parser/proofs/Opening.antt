-- The position that reading gives: 81 cells and 14 counts, a preset and a side of their tables, and all of it bytes. Each number of an
-- information line is a table's, a hand has seven counts of at most 255, and hands of two blocks add up to no more.
-- Assumes nothing.
use Rattle.std.specs.Prelude.{Option, Some, None}
use Prim.Native.Nat.{ℕ, zero, suc, ◌+◌, ◌≤◌, ◌<◌}
use native.Mathlib.Omega.{arith}
use mathlib.Core.Path.{◌≡◌, refl, ap}
use mathlib.Core.List.{List, [], ◌∷◌, ◌++◌}
use mathlib.Core.Bool.{Bool, true, false, false≢true}
use lib.ListN.{length, get_or, replicate, length-append}
use lib.Dec.{eqb, leb, ltb}
use borrow.Author.Tests.{leb-true, ltb-false}
use Rattle.lists.specs.All.{All, none, next}
use Rattle.lists.specs.Test.{◌equals◌, ◌and◌, each, claim}
use Rattle.lists.specs.Repeat.{stop}
use Rattle.lists.proofs.Laws.{by_pick}
use Rattle.lists.proofs.Tests.{answers}
use Rattle.text.specs.Text.{cursor, tag_at}
use Rattle.text.proofs.Answers.{by_place}
use Rattle.spell.specs.Tables.{presets, sides}
use Rattle.spell.proofs.Answers.{OnSpelled, is_as, is_not, by_spelled, first_known}
use Rattle.block.specs.PositionBytes.{position_bytes}
use Rattle.jkf.specs.declared.Position.{Position}
use Rattle.block.proofs.PositionsBack.{position-length}
use Rattle.jkf.specs.Model.{Header}
use Rattle.block.specs.Sound.{fits_test}
use Rattle.moves.proofs.Smalls.{Bytes, each as also, bytes-from, bytes-join, bytes_one, byte, nought, zeros}
use Rattle.kakinoki.specs.Informations.{on_held, on_key_value, padded_end_at, ends_line, preset_line_at, turn_line_at, empty_hand, hand_at, held_at, hand_line_at, key_value_at, header_at, Said, of_preset, of_turn, of_hands, of_pair, information, keyed_at, hands_or_keyed_at, information_at, is_line, said_of, hash_lines_at, information_item, informations_at, untold, tell, tell_all}
use Rattle.spell.specs.Words.{preset_tag, turn_tag, hands_tag}
use Rattle.kakinoki.specs.Boards.{no_cells}
use Rattle.kakinoki.specs.Starts.{named, either, add_hands, merged, position_said, first_block, diagram, second_block, second_place, start_read}
use Rattle.kakinoki.specs.declared.HandSaid.{HandSaid}
use Rattle.kakinoki.specs.declared.Held.{Held}
use Rattle.kakinoki.specs.declared.Held.TheVariants.{By, Unreadable, NoHand}
use Rattle.kakinoki.specs.declared.KeyValue.{KeyValue}
use Rattle.kakinoki.specs.declared.Info.TheVariants.{Hands, Keyed, Refused, Nothing}
use Rattle.kakinoki.specs.declared.Information.{Information}
use Rattle.kakinoki.specs.declared.Told.{Told}
use Rattle.kakinoki.specs.declared.Board.{Board}
use Rattle.kakinoki.proofs.Filled.{Filled, filled_zeros}
use Rattle.kakinoki.proofs.Pieces.{Byte, hand-bytes}
use Rattle.kakinoki.proofs.Cells.{Cell, board-made}
use Rattle.parser.proofs.Alls.{OnStep, goes, stops, many_all}
use Rattle.text.specs.declared.Cursor.{Cursor}

-- ---- what a line says

-- a preset of the table, a side, or counts of a hand
abbrev Small : Said → Type 0
Small (of_preset n) = n ≤ 16
Small (of_turn n) = n ≤ 1
Small (of_hands side counts) = Filled Byte 7 counts
Small (of_pair h) = Unit {0}

no_counts : Filled Byte 7 empty_hand
no_counts = filled_zeros 7 (omega arith)

module _ (s : List ℕ) where
  ends-small : (n k at : ℕ) → n ≤ k → OnSpelled (λ m c. m ≤ k) (ends_line s n at)
  ends-small n k at h = by_place (OnSpelled (λ m c. m ≤ k)) is_not (padded_end_at s at) (λ e. is_as h)

  preset-small : (at : ℕ) → OnSpelled (λ n c. n ≤ 16) (preset_line_at s at)
  unfolding preset_line_at
  preset-small at =
      by_place Q is_not (tag_at preset_tag s at)
      (λ c. by_spelled Q is_not (first_known 17 presets refl s c.at) (λ n d k. let l = k.small in ends-small n 16 d.at (omega arith)))
    where
      Q : Option (ℕ × Cursor) → Type 0
      Q = OnSpelled (λ n c. n ≤ 16)

  turn_small : (at : ℕ) → OnSpelled (λ n c. n ≤ 1) (turn_line_at s at)
  unfolding turn_line_at
  turn_small at =
      by_spelled Q is_not (first_known 2 sides refl s at)
      (λ n c k. let l = k.small in by_place Q is_not (tag_at turn_tag s c.at) (λ d. ends-small n 1 d.at (omega arith)))
    where
      Q : Option (ℕ × Cursor) → Type 0
      Q = OnSpelled (λ n c. n ≤ 1)

  held_small : (side at : ℕ) → Filled Byte 7 (held_at side s at).counts
  unfolding held_at
  held_small side at =
      by_place (λ (l : HandSaid). Filled Byte 7 l.counts) no_counts (padded_end_at s (hand_at s at).next.at) (λ e. hand-bytes s at)

  hands-small : (at : ℕ) → Filled Byte 7 (hand_line_at s at).counts
  unfolding hand_line_at
  hands-small at =
      by_spelled Q no_counts (first_known 2 sides refl s at) (λ side c k. by_place Q no_counts (tag_at hands_tag s c.at) (λ d. held_small side d.at))
    where
      Q : HandSaid → Type 0
      Q l = Filled Byte 7 l.counts

  -- a line, whatever header entry it is
  abbrev LineSmall : Information → Type 0
  LineSmall i = (h : Header) → Small (said_of i.info i.counts h)

  keyed_small : (at : ℕ) → LineSmall (keyed_at s at)
  unfolding keyed_at
  keyed_small at = go (key_value_at s at)
    where
      go : (r : Option KeyValue) → LineSmall (on_key_value r (λ from to next. information Keyed empty_hand next) (information Nothing empty_hand (cursor at)))
      go (Some r) h = tt
      go None h = tt

  held_or_keyed : (at : ℕ) → LineSmall (hands_or_keyed_at s at)
  unfolding hands_or_keyed_at
  held_or_keyed at = go (hand_line_at s at).held
    where
      go : (h : Held) → LineSmall (on_held h (λ side c. information (Hands side) (hand_line_at s at).counts c) (information Refused empty_hand (cursor at)) (keyed_at s at))
      go (By side c) h = hands-small at
      go Unreadable h = tt
      go NoHand h = keyed_small at h

  line_small : (at : ℕ) → LineSmall (information_at s at)
  unfolding information_at
  line_small at = by_spelled LineSmall (by_spelled LineSmall (held_or_keyed at) (turn_small at) (λ n c k h. k)) (preset-small at) (λ n c k h. k)

  item_small : (at : ℕ) → OnStep Small (information_item s at)
  unfolding information_item
  item_small at =
      by_pick (OnStep Small) (is_line (information_at s (hash_lines_at s at)).info) _ stop
      (λ _. goes (line_small (hash_lines_at s at) (header_at s (hash_lines_at s at)))) (λ _. stops)

  block_small : (at : ℕ) → All Small (informations_at s at).state
  unfolding informations_at
  block_small at = many_all item_small (length s) at

-- ---- what blocks say

abbrev Below : ℕ → Option ℕ → Type 0
Below k (Some n) = n ≤ k
Below k None = Unit {0}

record Fine (t : Told) : Type 0 where
  preset : Below 16 t.preset
  turn : Below 1 t.turn
  black : Filled Byte 7 t.black
  white : Filled Byte 7 t.white

tell_fine : (t : Told) (x : Said) → Fine t → Small x → Fine (tell t x)
unfolding tell
tell_fine t (of_preset n) f h = record { preset = h; turn = f.turn; black = f.black; white = f.white }
tell_fine t (of_turn n) f h = record { preset = f.preset; turn = h; black = f.black; white = f.white }
tell_fine t (of_hands side counts) f h =
    by_pick Fine (eqb side 0) _ _ (λ _. record { preset = f.preset; turn = f.turn; black = h; white = f.white })
    (λ _. record { preset = f.preset; turn = f.turn; black = f.black; white = h })
tell_fine t (of_pair h) f k = f

all_fine : (t : Told) {xs : List Said} → Fine t → All Small xs → Fine (tell_all t xs)
unfolding tell_all
all_fine t f none = f
all_fine t f (next {x} h k) = all_fine (tell t x) (tell_fine t x f h) k

block_fine : (s : List ℕ) (at : ℕ) → Fine (tell_all untold (informations_at s at).state)
block_fine s at = all_fine untold (record { preset = tt; turn = tt; black = no_counts; white = no_counts }) (block_small s at)

either_below : (k : ℕ) (a b : Option ℕ) → Below k a → Below k b → Below k (either a b)
either_below k (Some n) b h g = h
either_below k None b h g = g

-- hands that are added
add-length : (n : ℕ) (a b : List ℕ) → length a ≡ n → length b ≡ n → length (add_hands a b) ≡ n
unfolding add_hands
add-length n [] b h g = h
add-length n (x ∷ a) [] h g = g
add-length zero (x ∷ a) (y ∷ b) h g = absurd (omega arith)
add-length (suc n) (x ∷ a) (y ∷ b) h g = ap suc (add-length n a b (omega arith) (omega arith))

add-each : (a b : List ℕ) (i : ℕ) → Byte (get_or (add_hands a b) i 0)
unfolding add_hands
add-each [] b i = omega arith
add-each (x ∷ a) [] i = omega arith
add-each (x ∷ a) (y ∷ b) zero = by_pick Byte (ltb 255 (x + y)) 255 (x + y) (λ _. omega arith) (λ e. omega (arith, ltb-false 255 (x + y) e))
add-each (x ∷ a) (y ∷ b) (suc i) = add-each a b i

add_small : {a b : List ℕ} → Filled Byte 7 a → Filled Byte 7 b → Filled Byte 7 (add_hands a b)
add_small {a} {b} f g = record { long = add-length 7 a b f.long g.long; each = add-each a b }

merged_fine : (a b : Told) → Fine a → Fine b → Fine (merged a b)
unfolding merged
merged_fine a b f g =
    record {
      preset = either_below 16 a.preset b.preset f.preset g.preset;
      turn = either_below 1 a.turn b.turn f.turn g.turn;
      black = add_small f.black g.black;
      white = add_small f.white g.white;
    }

-- ---- the position

-- what is known of a position that was read
record GoodPosition (p : Position) : Type 0 where
  cells : length p.cells ≡ 81
  hands : length p.hands ≡ 14
  fits : claim (fits_test p)
  bytes : Bytes (position_bytes p)

named_below : (k d : ℕ) (n : Option ℕ) → d ≤ k → Below k n → named n d ≤ k
named_below k d (Some n) h g = g
named_below k d None h g = h

cell_byte : (v : ℕ) → Cell v → v < 256
cell_byte v =
    by_pick P (leb v 14) true _ (λ t _. omega (arith, leb-true v 14 t))
    (λ _. by_pick P (leb 17 v) (leb v 30) false (λ _ t. omega (arith, leb-true v 30 t)) (λ _ t. absurd (false≢true t)))
  where
    P : Bool → Type 0
    P b = b ≡ true → v < 256

-- its 100 bytes
made_bytes : (p : Position) → p.preset < 256 → p.board < 256 → p.turn < 256 → Bytes p.cells → Bytes p.hands → Bytes (position_bytes p)
unfolding position_bytes
made_bytes p a b t c h = bytes-join (bytes-join (bytes-join (also a (also b (also t (bytes_one nought)))) c) h) (bytes_one nought)

module _ (b : Board) (t : Told) (c : Filled Cell 81 b.cells) (f : Fine t) where
  there_good : GoodPosition (record { preset = 16; board = 1; turn = named t.turn 0; cells = b.cells; hands = t.black ++ t.white })
  there_good =
      let turn : named t.turn 0 ≤ 1 = named_below 1 0 t.turn (omega arith) f.turn in
      record {
        cells = c.long;
        hands = omega (arith, length-append t.black t.white, f.black.long, f.white.long);
        fits = (omega arith, (omega arith, (turn, (λ i l. c.each i, refl))));
        bytes =
            made_bytes _ (omega arith) (omega arith) (omega arith) (bytes-from b.cells (λ k. cell_byte _ (c.each k)))
            (bytes-join (bytes-from t.black (λ k. byte (f.black.each k))) (bytes-from t.white (λ k. byte (f.white.each k))));
      }

  none_good : GoodPosition (record { preset = named t.preset 0; board = 0; turn = 0; cells = no_cells; hands = replicate 14 0 })
  none_good =
      let preset : named t.preset 0 ≤ 16 = named_below 16 0 t.preset (omega arith) f.preset in
      let cells : Filled (λ v. v ≡ 0) 81 no_cells = filled_zeros 81 refl in
      let counts : Filled (λ v. v ≡ 0) 14 (replicate 14 0) = filled_zeros 14 refl in
      let cells' : Filled Cell 81 no_cells = filled_zeros 81 refl in
      record {
        cells = refl;
        hands = refl;
        fits = (
          preset,
          (
            omega arith,
            (
              omega arith,
              (
                λ i l. cells'.each i,
                answers (0 equals 0 and each 81 (λ i. get_or no_cells i 0 equals 0) and each 14 (λ i. get_or (replicate 14 0) i 0 equals 0))
                    (refl, (λ i l. cells.each i, λ i l. counts.each i)),
              ),
            ),
          ),
        );
        bytes = made_bytes _ (omega arith) (omega arith) (omega arith) (zeros 81) (zeros 14);
      }

  position_good : GoodPosition (position_said b t)
  unfolding position_said
  position_good = by_pick GoodPosition b.there _ _ (λ _. there_good) (λ _. none_good)

module _ (s : List ℕ) where
  start_good : GoodPosition (start_read s).position
  unfolding start_read
  start_good =
      let first : Told = tell_all untold (first_block s).state in
      let second : Told = tell_all untold (second_block s).state in
      position_good (diagram s) (merged first second) (board-made s (first_block s).at)
      (merged_fine first second (block_fine s 0) (block_fine s (second_place s)))

  pub start-cells : length (start_read s).position.cells ≡ 81
  start-cells = start_good.cells

  pub start-hands : length (start_read s).position.hands ≡ 14
  start-hands = start_good.hands

  pub start-length : length (position_bytes (start_read s).position) ≡ 100
  start-length = position-length (start_read s).position start-cells start-hands

  pub start_fits : claim (fits_test (start_read s).position)
  start_fits = start_good.fits

  pub start-bytes : Bytes (position_bytes (start_read s).position)
  start-bytes = start_good.bytes
