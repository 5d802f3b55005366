-- Information lines and the blocks that they make.                                                   (01, Reading rules: information block)
-- Assumes nothing: these are definitions.
use Rattle.std.specs.Prelude.{ℕ, zero, suc, ◌+◌, ◌-◌, ◌%◌, List, [], ◌∷◌, ◌++◌, Bool, true, false, length, take, drop, get_or, set, eqb, ltb, Option, Some, None}
use Rattle.lists.specs.Pick.{pick}
use Rattle.lists.specs.Repeat.{Step, more, stop, Ended, on_step, repeat_from, many_from}
use Rattle.text.specs.Text.{cursor, on_place, tag_at, break_at, tail_at, line_end_at, padding_at, wide_colon, key_at}
use Rattle.text.specs.declared.Cursor.{Cursor}
use Rattle.spell.specs.Words.{preset_tag, turn_tag, hands_tag, none_tag}
use Rattle.spell.specs.Spell.{on_spelled, first_of}
use Rattle.spell.specs.Tables.{kinds, presets, sides}
use Rattle.spell.specs.Count.{hand_count_at}
use Rattle.jkf.specs.Model.{Header}
use Rattle.kakinoki.specs.declared.Piece.{Piece}
use Rattle.kakinoki.specs.declared.Hand.{Hand}
use Rattle.kakinoki.specs.declared.Held.{Held}
use Rattle.kakinoki.specs.declared.Held.TheVariants.{By, Unreadable, NoHand}
use Rattle.kakinoki.specs.declared.HandSaid.{HandSaid}
use Rattle.kakinoki.specs.declared.KeyValue.{KeyValue}
use Rattle.kakinoki.specs.declared.Info.{Info}
use Rattle.kakinoki.specs.declared.Info.TheVariants.{Preset, Turn, Hands, Keyed, Refused, Nothing}
use Rattle.kakinoki.specs.declared.Information.{Information}
use Rattle.kakinoki.specs.declared.Told.{Told}

-- ---- words

-- Answers taken apart: what to do with their values, and what stands for the other cases.
abbrev pub on_piece : {A : Type 0} → Option Piece → (ℕ → ℕ → Cursor → A) → A → A
on_piece (Some r) f d = f r.kind r.count r.next
on_piece None f d = d

abbrev pub on_held : {A : Type 0} → Held → (ℕ → Cursor → A) → A → A → A
on_held (By side c) f u d = f side c
on_held Unreadable f u d = u
on_held NoHand f u d = d

abbrev pub on_key_value : {A : Type 0} → Option KeyValue → (Cursor → Cursor → Cursor → A) → A → A
on_key_value (Some r) f d = f r.from r.to r.next
on_key_value None f d = d

abbrev pub hand : List ℕ → Cursor → Hand
hand counts next = record { counts = counts; next = next }

abbrev pub hand_said : Held → List ℕ → HandSaid
hand_said held counts = record { held = held; counts = counts }

-- ---- lines

-- # and the rest of its line.                                                                        (the Rust's comment_line)
unfoldable pub hash_line_at : List ℕ → ℕ → Option Cursor
hash_line_at s at = on_place (tag_at (35 ∷ []) s at) (λ c. line_end_at s c.at) None

abbrev pub hash_item : List ℕ → ℕ → Step (Unit {0})
hash_item s at = on_place (hash_line_at s at) (λ c. more c.at tt) stop

-- Past as many of them as there are.
unfoldable pub hash_lines_at : List ℕ → ℕ → ℕ
hash_lines_at s at = (many_from (hash_item s) (length s) at).at

-- Padding and a break.
unfoldable pub padded_end_at : List ℕ → ℕ → Option Cursor
padded_end_at s at = break_at s (padding_at s at)

-- A number, and the place past the padding and the break after it.
abbrev pub ends_line : List ℕ → ℕ → ℕ → Option (ℕ × Cursor)
ends_line s n at = on_place (padded_end_at s at) (λ e. Some (n, e)) None

-- 手合割： and one of the names.                                                                       (the Rust's information_line_preset)
unfoldable pub preset_line_at : List ℕ → ℕ → Option (ℕ × Cursor)
preset_line_at s at = on_place (tag_at preset_tag s at) (λ c. on_spelled (first_of presets s c.at) (λ n d. ends_line s n d.at) None) None

-- A side and 番.                                                                                      (the Rust's information_line_color)
unfoldable pub turn_line_at : List ℕ → ℕ → Option (ℕ × Cursor)
turn_line_at s at = on_spelled (first_of sides s at) (λ n c. on_place (tag_at turn_tag s c.at) (λ d. ends_line s n d.at) None) None

-- ---- hands                                                                                          (01, Reading rules: hands)

-- A kind, a count or none for 1, padding.
unfoldable pub piece_at : List ℕ → ℕ → Option Piece
piece_at s at =
    on_spelled (first_of kinds s at)
    (λ k c. on_spelled (hand_count_at s c.at)
    (λ n d. Some (record { kind = k; count = n; next = cursor (padding_at s d.at) }))
    (Some (record { kind = k; count = 1; next = cursor (padding_at s c.at) })))
    None

abbrev pub empty_hand : List ℕ
empty_hand = 0 ∷ 0 ∷ 0 ∷ 0 ∷ 0 ∷ 0 ∷ 0 ∷ []

-- So many more of kind k, which is at most 7, if that is at most 255; a piece that cannot be held stops the hand.
unfoldable pub piece_step : List ℕ → ℕ → List ℕ → Step (List ℕ)
piece_step s at held =
    on_piece (piece_at s at)
    (λ k n c. pick (ltb 7 k) stop
    (pick (ltb (255 - get_or held (k - 1) 0) n) stop (more c.at (set held (k - 1) (get_or held (k - 1) 0 + n)))))
    stop

-- As many pieces as there are: a hand of none too.
unfoldable pub pieces_at : List ℕ → ℕ → Hand
pieces_at s at = let r = repeat_from (piece_step s) (length s) at empty_hand in hand r.state (cursor r.at)

-- なし, or pieces.                                                                                     (the Rust's information_value_hand)
unfoldable pub hand_at : List ℕ → ℕ → Hand
hand_at s at = on_place (tag_at none_tag s at) (λ c. hand empty_hand c) (pieces_at s at)

-- The hand of a side, which must go on to padding and a break: after の持駒： there is no other way to read the line.
unfoldable pub held_at : ℕ → List ℕ → ℕ → HandSaid
held_at side s at =
    on_place (padded_end_at s (hand_at s at).next.at) (λ e. hand_said (By side e) (hand_at s at).counts) (hand_said Unreadable empty_hand)

-- A side, の持駒： and its hand.                                                                        (the Rust's information_line_hands)
unfoldable pub hand_line_at : List ℕ → ℕ → HandSaid
hand_line_at s at =
    on_spelled (first_of sides s at)
    (λ side c. on_place (tag_at hands_tag s c.at) (λ d. held_at side s d.at) (hand_said NoHand empty_hand))
    (hand_said NoHand empty_hand)

-- ---- key and value                                                                                  (01, Reading rules: key and value)

-- ： at a place, the value with its tail, and the break.
unfoldable pub value_at : List ℕ → ℕ → Option KeyValue
value_at s at =
    on_place (tag_at wide_colon s at)
    (λ from. on_place (tail_at s from.at) (λ to. on_place (break_at s to.at) (λ next. Some (record { from = from; to = to; next = next })) None) None)
    None

-- A key that is not empty, and its value.                                                             (the Rust's information_line_keyvalue)
unfoldable pub key_value_at : List ℕ → ℕ → Option KeyValue
key_value_at s at = let r = value_at s (at + length (key_at s at)) in pick (eqb (length (key_at s at)) 0) None r

-- The header entry of the line that begins at a place.
abbrev pub text_between : List ℕ → Cursor → Cursor → List ℕ
text_between s from to = take (to.at - from.at) (drop from.at s)

unfoldable pub header_at : List ℕ → ℕ → Header
header_at s at = record { key = key_at s at; value = on_key_value (key_value_at s at) (λ from to next. text_between s from to) [] }

-- ---- an information line

-- What the lines of a block say.                                                                      (the Rust's Information)
pub data Said : Type 0 where
  of_preset : ℕ → Said
  of_turn : ℕ → Said
  of_hands : ℕ → List ℕ → Said
  of_pair : Header → Said

abbrev pub information : Info → List ℕ → Cursor → Information
information info counts next = record { info = info; counts = counts; next = next }

unfoldable pub keyed_at : List ℕ → ℕ → Information
keyed_at s at =
    on_key_value (key_value_at s at) (λ from to next. information Keyed empty_hand next) (information Nothing empty_hand (cursor at))

-- A hand line that cannot be read is no key and value.
unfoldable pub hands_or_keyed_at : List ℕ → ℕ → Information
hands_or_keyed_at s at =
    on_held (hand_line_at s at).held
    (λ side c. information (Hands side) (hand_line_at s at).counts c)
    (information Refused empty_hand (cursor at))
    (keyed_at s at)

-- Tried in this order: preset, turn, hands, key and value.                                            (01, Reading rules: order tried)
unfoldable pub information_at : List ℕ → ℕ → Information
information_at s at =
    on_spelled (preset_line_at s at)
    (λ n c. information (Preset n) empty_hand c)
    (on_spelled (turn_line_at s at) (λ n c. information (Turn n) empty_hand c) (hands_or_keyed_at s at))

-- One of the four.
abbrev pub is_line : Info → Bool
is_line (Preset n) = true
is_line (Turn n) = true
is_line (Hands side) = true
is_line Keyed = true
is_line Refused = false
is_line Nothing = false

-- What it says; the header entry is a key and value's. The last two cases are not met: they are no line (`is_line`).
abbrev pub said_of : Info → List ℕ → Header → Said
said_of (Preset n) counts h = of_preset n
said_of (Turn n) counts h = of_turn n
said_of (Hands side) counts h = of_hands side counts
said_of Keyed counts h = of_pair h
said_of Refused counts h = of_pair h
said_of Nothing counts h = of_pair h

abbrev pub said_by : Information → Header → Step Said
said_by i h = pick (is_line i.info) (more i.next.at (said_of i.info i.counts h)) stop

-- An information line, with the # lines in front of it.
unfoldable pub information_item : List ℕ → ℕ → Step Said
information_item s at = said_by (information_at s (hash_lines_at s at)) (header_at s (hash_lines_at s at))

-- An information block. # lines at its end belong to no information line, so it ends before them.      (the Rust's informations)
unfoldable pub informations_at : List ℕ → ℕ → Ended (List Said)
informations_at s at = many_from (information_item s) (length s) at

-- What ends a block is a hand line that cannot be read, or it is not.
abbrev pub fault_of : Info → ℕ → Option ℕ
fault_of (Preset n) at = None
fault_of (Turn n) at = None
fault_of (Hands side) at = None
fault_of Keyed at = None
fault_of Refused at = Some at
fault_of Nothing at = None

-- Where a hand line begins that cannot be read, at the end of a block.                                (01, Numbers of refusal: 3)
unfoldable pub fault_at : List ℕ → ℕ → Option ℕ
fault_at s at = fault_of (information_at s (hash_lines_at s at)).info (hash_lines_at s at)

-- ---- what a block says                                                                              (01, Reading rules: in one block the last wins)

abbrev pub told : Option ℕ → Option ℕ → List ℕ → List ℕ → Told
told preset turn black white = record { preset = preset; turn = turn; black = black; white = white }

abbrev pub untold : Told
untold = told None None empty_hand empty_hand

unfoldable pub tell : Told → Said → Told
tell t (of_preset n) = told (Some n) t.turn t.black t.white
tell t (of_turn n) = told t.preset (Some n) t.black t.white
tell t (of_hands side counts) = pick (eqb side 0) (told t.preset t.turn counts t.white) (told t.preset t.turn t.black counts)
tell t (of_pair h) = t

unfoldable pub tell_all : Told → List Said → Told
tell_all t [] = t
tell_all t (x ∷ xs) = tell_all (tell t x) xs

-- The header entries among what is said, in the order of the file.
unfoldable pub pairs_of : List Said → List Header
pairs_of [] = []
pairs_of (of_preset n ∷ xs) = pairs_of xs
pairs_of (of_turn n ∷ xs) = pairs_of xs
pairs_of (of_hands side counts ∷ xs) = pairs_of xs
pairs_of (of_pair h ∷ xs) = h ∷ pairs_of xs

-- ---- where its header lines begin

-- The place of a line, if it is a header line.
abbrev pub keyed_place : Info → ℕ → List ℕ
keyed_place (Preset n) at = []
keyed_place (Turn n) at = []
keyed_place (Hands side) at = []
keyed_place Keyed at = at ∷ []
keyed_place Refused at = []
keyed_place Nothing at = []

-- The places of a block's header lines, with the length of the text for fuel.
unfoldable pub header_places_from : List ℕ → ℕ → ℕ → List ℕ
header_places_from s zero at = []
header_places_from s (suc k) at =
    on_step (information_item s at) (λ next x. keyed_place (information_at s (hash_lines_at s at)).info (hash_lines_at s at) ++ header_places_from s k next) []

unfoldable pub header_places_at : List ℕ → ℕ → List ℕ
header_places_at s at = header_places_from s (length s) at

-- Places as the reader keeps them, in 16 bits.
abbrev pub low16 : List ℕ → List ℕ
low16 [] = []
low16 (p ∷ ps) = p % 65536 ∷ low16 ps
