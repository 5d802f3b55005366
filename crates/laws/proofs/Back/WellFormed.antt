-- The text of a record is well-formed UTF-8 if its keys, values and comments are.
-- Assumes nothing.
use Rattle.std.specs.Prelude.{Option, Some, None}
use Prim.Native.Nat.{ℕ, zero, suc, ◌+◌, ◌*◌, ◌-◌, ◌/◌, ◌%◌}
use mathlib.Core.Path.{◌≡◌, refl, subst}
use mathlib.Core.List.{List, [], ◌∷◌, ◌++◌}
use mathlib.Core.Bool.{Bool, true, false}
use lib.ListN.{length, get_or, drop, replicate}
use lib.Dec.{eqb, leb, ltb}
use borrow.Author.Tests.{eqb-true}
use Rattle.lists.specs.All.{All, none, next}
use Rattle.lists.specs.Pick.{pick}
use Rattle.lists.specs.Repeat.{repeat_from}
use Rattle.lists.proofs.Laws.{by_pick, pick_both}
use Rattle.lent.specs.Numbers.{decimal, padded}
use Rattle.text.specs.Text.{is_digit, past_all, wide_space, wide_colon}
use Rattle.text.specs.Utf8.{size_of, lowest_of, highest_of, second_of, is_next, char_width, well_formed_bytes}
use Rattle.spell.specs.Tables.{kinds, move_kinds, written_specials, presets, sides, numerals, files}
use Rattle.spell.specs.Spell.{spelled}
use Rattle.spell.specs.Count.{ten, tens_text, count_text}
use Rattle.jkf.specs.Entries.{special_number, time_of}
use Rattle.jkf.specs.declared.Clock.{Clock}
use Rattle.jkf.specs.declared.Clock.TheVariants.{Hms, Ms}
use Rattle.jkf.specs.declared.Time.{Time}
use Rattle.jkf.specs.declared.Time.TheVariants.{Untimed, Timed}
use Rattle.jkf.specs.declared.Target.{Target}
use Rattle.jkf.specs.declared.Target.TheVariants.{Same, Square}
use Rattle.jkf.specs.declared.Entry.{Entry}
use Rattle.jkf.specs.declared.Entry.TheVariants.{Slot, Moved, End}
use Rattle.jkf.specs.declared.Position.{Position}
use Rattle.jkf.specs.Model.{Header, Noted, Line, Record}
use Rattle.block.specs.Encode.{concat}
use Rattle.spell.specs.Words.{same_word, promotes, declines, drops, preset_tag, turn_tag, hands_tag, none_tag, files_tag, rule_tag, empty_tag}
use Rattle.parser.proofs.Alls.{all_any}
use Rattle.converter.specs.Headers.{header_line, lines_of, headers_text, range}
use Rattle.converter.specs.Diagrams.{preset_line, held_text, held, all_held, hand_line_text, cell_text, cells_text, board_row, board_rows, board_text, turn_text, diagram_text, position_text}
use Rattle.converter.specs.Entries.{target_text, promote_text, origin_text, move_text, special_text, width_of, clock_text, time_text, play_text, entry_line, star_text, remark_text, remarks_text, noted_text, entries_text}
use Rattle.converter.specs.Show.{number_line, variation_tag, ply_tag, slot_comments, main_text, variation_head, variation_text, lines_text, record_text}
use Rattle.laws.specs.Sayable.{every_byte}
use Rattle.laws.proofs.Back.Leaves.{all_of, all_replicate, digit_is, decimal-digits}
use Rattle.laws.proofs.Back.Characters.{Chars, empty, chars_append, chars_concat, well_chars, ascii_chars, spelled_chars}
use Rattle.laws.proofs.Back.Starts.{numbered-all}

-- ---- words, tables and numbers

-- these words are well formed: a test that antt computes
abbrev words : List (List ℕ)
words =
    wide_colon ∷ wide_space ∷ preset_tag ∷ turn_tag ∷ hands_tag ∷ none_tag ∷ files_tag ∷ rule_tag ∷ empty_tag ∷ same_word ∷ promotes ∷ declines ∷ drops ∷ ten ∷ number_line ∷ variation_tag ∷ ply_tag ∷ []

abbrev each : List (List ℕ) → Bool
each [] = true
each (t ∷ ts) = pick (eqb (well_formed_bytes t) (length t)) (each ts) false

words_well : each words ≡ true
unfolding past_all repeat_from char_width size_of second_of lowest_of highest_of is_next
words_well = refl

each_chars : (ts : List (List ℕ)) → each ts ≡ true → (k : ℕ) → Chars (get_or ts k [])
each_chars [] h k = empty
each_chars (t ∷ ts) h zero = well_chars t (eqb-true _ _ (pick_both (eqb (well_formed_bytes t) (length t)) (each ts) h).0)
each_chars (t ∷ ts) h (suc k) = each_chars ts (pick_both (eqb (well_formed_bytes t) (length t)) (each ts) h).1 k

word : (k : ℕ) → Chars (get_or words k [])
word = each_chars words words_well

module _ (n : ℕ) where
  kind_chars : Chars (spelled kinds n)
  unfolding past_all repeat_from char_width size_of second_of lowest_of highest_of is_next
  kind_chars = spelled_chars kinds refl n

  move-kind_chars : Chars (spelled move_kinds n)
  unfolding past_all repeat_from char_width size_of second_of lowest_of highest_of is_next
  move-kind_chars = spelled_chars move_kinds refl n

  special_chars : Chars (spelled written_specials n)
  unfolding past_all repeat_from char_width size_of second_of lowest_of highest_of is_next
  special_chars = spelled_chars written_specials refl n

  preset_chars : Chars (spelled presets n)
  unfolding past_all repeat_from char_width size_of second_of lowest_of highest_of is_next
  preset_chars = spelled_chars presets refl n

  side_chars : Chars (spelled sides n)
  unfolding past_all repeat_from char_width size_of second_of lowest_of highest_of is_next
  side_chars = spelled_chars sides refl n

  numeral_chars : Chars (spelled numerals n)
  unfolding past_all repeat_from char_width size_of second_of lowest_of highest_of is_next
  numeral_chars = spelled_chars numerals refl n

  file_chars : Chars (spelled files n)
  unfolding past_all repeat_from char_width size_of second_of lowest_of highest_of is_next
  file_chars = spelled_chars files refl n

  decimal_ascii : every_byte (λ b. ltb b 128) (decimal n) ≡ true
  decimal_ascii = all_of is_digit (λ b. ltb b 128) (digit_is (λ b. ltb b 128) refl) (decimal n) (decimal-digits n).digits

  decimal_chars : Chars (decimal n)
  decimal_chars = ascii_chars (decimal n) decimal_ascii

spaces : (n : ℕ) → Chars (replicate n 32)
spaces n = ascii_chars (replicate n 32) (all_replicate (λ b. ltb b 128) n 32 refl)

zeros : (n : ℕ) → Chars (replicate n 48)
zeros n = ascii_chars (replicate n 48) (all_replicate (λ b. ltb b 128) n 48 refl)

padded_spaces : (w n : ℕ) → Chars (padded w 32 n)
unfolding padded
padded_spaces w n = chars_append (spaces (w - length (decimal n))) (decimal_chars n)

padded_zeros : (w n : ℕ) → Chars (padded w 48 n)
unfolding padded
padded_zeros w n = chars_append (zeros (w - length (decimal n))) (decimal_chars n)

byte : (b : ℕ) → ltb b 128 ≡ true → Chars (b ∷ [])
byte b h = ascii_chars (b ∷ []) (by_pick (λ (t : Bool). t ≡ true) (ltb b 128) true false (λ _. refl) (λ e. subst (λ (t : Bool). t ≡ true) e h))

line_feed : Chars (10 ∷ [])
line_feed = byte 10 refl

-- ---- entries

target_chars : (t : Target) → Chars (target_text t)
unfolding target_text
target_chars Same = chars_append (word 9) (word 1)
target_chars (Square x y) = chars_append (file_chars x) (numeral_chars y)

mark_chars : (p : ℕ) → Chars (promote_text p)
unfolding promote_text
mark_chars p = by_pick Chars (eqb p 2) promotes _ (λ _. word 10) (λ _. by_pick Chars (eqb p 1) declines [] (λ _. word 11) (λ _. empty))

origin_chars : (o : Option (ℕ × ℕ)) → Chars (origin_text o)
unfolding origin_text
origin_chars None = word 12
origin_chars (Some (x, y)) = chars_append (chars_append (chars_append (byte 40 refl) (decimal_chars x)) (decimal_chars y)) (byte 41 refl)

play_chars : (e : Entry) → Chars (play_text e)
unfolding play_text move_text special_text
play_chars Slot = empty
play_chars (Moved m) = chars_append (chars_append (chars_append (target_chars m.to) (move-kind_chars m.piece)) (mark_chars m.promote)) (origin_chars m.from)
play_chars (End s t) = special_chars (special_number s)

now_chars : (c : Clock) → Chars (clock_text 32 47 c)
unfolding clock_text
now_chars (Hms h m s) =
    chars_append (chars_append (chars_append (padded_spaces 2 h) (byte 58 refl)) (chars_append (padded_zeros 2 m) (byte 58 refl))) (chars_append (padded_zeros 2 s) (byte 47 refl))
now_chars (Ms m s) = chars_append (chars_append (padded_spaces 2 m) (byte 58 refl)) (chars_append (padded_zeros 2 s) (byte 47 refl))

total_chars : (c : Clock) → Chars (clock_text 48 41 c)
unfolding clock_text
total_chars (Hms h m s) =
    chars_append (chars_append (chars_append (padded_zeros 2 h) (byte 58 refl)) (chars_append (padded_zeros 2 m) (byte 58 refl))) (chars_append (padded_zeros 2 s) (byte 41 refl))
total_chars (Ms m s) = chars_append (chars_append (padded_zeros 2 m) (byte 58 refl)) (chars_append (padded_zeros 2 s) (byte 41 refl))

time_chars : (w : ℕ) (t : Time) → Chars (time_text w t)
unfolding time_text
time_chars w Untimed = empty
time_chars w (Timed now total) = chars_append (chars_append (chars_append (spaces (13 - w)) (byte 40 refl)) (now_chars now)) (total_chars total)

line_chars : (ply : ℕ) (e : Entry) → Chars (entry_line ply e)
unfolding entry_line
line_chars ply e = chars_append (chars_append (chars_append (chars_append (padded_spaces 4 ply) (byte 32 refl)) (play_chars e)) (time_chars (width_of e) (time_of e))) line_feed

remark_chars : (c : List ℕ) → Chars c → Chars (remark_text c)
unfolding remark_text star_text
remark_chars c h = chars_append (chars_append (by_pick Chars (eqb (get_or c 0 0) 38) [] (42 ∷ []) (λ _. empty) (λ _. byte 42 refl)) h) line_feed

remarks_chars : {cs : List (List ℕ)} → All Chars cs → Chars (remarks_text cs)
unfolding remarks_text concat
remarks_chars none = empty
remarks_chars (next {x = c} p h) = chars_append (remark_chars c p) (remarks_chars h)

abbrev pub NotesValid : List Noted → Type 0
NotesValid = All (λ e. All Chars e.comments)

entries_chars : (ply : ℕ) {es : List Noted} → NotesValid es → Chars (entries_text ply es)
unfolding entries_text noted_text
entries_chars ply none = empty
entries_chars ply (next {x = e} p h) = chars_append (chars_append (line_chars ply e.what) (remarks_chars p)) (entries_chars (ply + 1) h)

-- ---- lines

main_chars : (l : Line) → NotesValid l.entries → Chars (main_text l)
unfolding main_text
main_chars l v = go v
  where
    go : {es : List Noted} → NotesValid es → Chars (remarks_text (slot_comments es) ++ entries_text 1 (drop 1 es))
    go none = chars_append (remarks_chars none) (entries_chars 1 none)
    go (next p h) = chars_append (remarks_chars p) (entries_chars 1 h)

variation_chars : (l : Line) → NotesValid l.entries → Chars (variation_text l)
unfolding variation_text variation_head
variation_chars l v = chars_append (chars_append (chars_append (chars_append line_feed (word 15)) (decimal_chars l.start)) (word 16)) (entries_chars l.start v)

abbrev pub LinesValid : List Line → Type 0
LinesValid = All (λ l. NotesValid l.entries)

variations_chars : {ls : List Line} → LinesValid ls → Chars (concat variation_text ls)
unfolding concat
variations_chars none = empty
variations_chars (next {x = l} p h) = chars_append (variation_chars l p) (variations_chars h)

lines_chars : {ls : List Line} → LinesValid ls → Chars (lines_text ls)
unfolding lines_text
lines_chars none = empty
lines_chars (next {x = l} p h) = chars_append (chars_append (word 14) (main_chars l p)) (variations_chars h)

-- ---- what stands before them

pub record HeaderValid (h : Header) : Type 0 where
  pub key : Chars h.key
  pub value : Chars h.value

header_chars : (h : Header) → HeaderValid h → Chars (header_line h)
unfolding header_line
header_chars h v = chars_append (chars_append (chars_append v.key (word 0)) v.value) line_feed

numbered_chars : (n : ℕ) {hs : List Header} → All HeaderValid hs → Chars (lines_of n hs)
unfolding lines_of concat
numbered_chars n v = go (numbered-all n v)
  where
    go : {hs : List Header} → All HeaderValid hs → Chars (concat header_line hs)
    go none = empty
    go (next {x = h} p g) = chars_append (header_chars h p) (go g)

headers_chars : {hs : List Header} → All HeaderValid hs → Chars (headers_text hs)
unfolding headers_text
headers_chars {hs} v = chars_append (chars_concat (λ n. lines_of n hs) (all_any (λ n. numbered_chars n v) (range 1 12))) (numbered_chars 0 v)

preset-line_chars : (n : ℕ) → Chars (preset_line n)
unfolding preset_line
preset-line_chars n = chars_append (chars_append (word 2) (preset_chars n)) line_feed

count_chars : (n : ℕ) → Chars (count_text n)
unfolding count_text tens_text
count_chars n =
    by_pick Chars (ltb 99 n) [] _ (λ _. empty)
    (λ _. chars_append (by_pick Chars (ltb 0 (n / 10)) _ [] (λ _. chars_append (by_pick Chars (ltb 1 (n / 10)) _ [] (λ _. numeral_chars (n / 10)) (λ _. empty)) (word 13)) (λ _. empty)) (numeral_chars (n % 10)))

held_chars : (k n : ℕ) → Chars (held_text k n)
unfolding held_text
held_chars k n =
    by_pick Chars (eqb n 0) [] _ (λ _. empty)
    (λ _. chars_append (chars_append (kind_chars k) (by_pick Chars (ltb 1 n) (count_text n) [] (λ _. count_chars n) (λ _. empty))) (word 1))

hand_chars : (hands : List ℕ) (side : ℕ) → Chars (hand_line_text hands side)
unfolding hand_line_text all_held
hand_chars hands side =
    chars_append (chars_append (chars_append (side_chars side) (word 4))
    (by_pick Chars (eqb (length (all_held hands side)) 0) none_tag (all_held hands side) (λ _. word 5)
    (λ _. chars_concat (λ i. held_text (7 - i) (held hands side (7 - i))) (all_any (λ i. held_chars (7 - i) (held hands side (7 - i))) (range 0 7))))) line_feed

cell_chars : (v : ℕ) → Chars (cell_text v)
unfolding cell_text
cell_chars v =
    by_pick Chars (eqb v 0) empty_tag _ (λ _. word 8)
    (λ _. by_pick Chars (leb v 14) _ _ (λ _. chars_append (byte 32 refl) (kind_chars v)) (λ _. chars_append (byte 118 refl) (kind_chars (v - 16))))

row_chars : (cells : List ℕ) (rank : ℕ) → Chars (board_row cells rank)
unfolding board_row cells_text
row_chars cells rank =
    chars_append (chars_append (byte 124 refl) (chars_concat (λ i. cell_text (get_or cells (9 * (8 - i) + rank) 0)) (all_any (λ i. cell_chars (get_or cells (9 * (8 - i) + rank) 0)) (range 0 9))))
    (chars_append (chars_append (byte 124 refl) (numeral_chars (rank + 1))) line_feed)

board_chars : (cells : List ℕ) → Chars (board_text cells)
unfolding board_text board_rows
board_chars cells =
    chars_append (chars_append (chars_append (chars_append (chars_append (word 6) line_feed) (word 7)) line_feed)
    (chars_concat (board_row cells) (all_any (row_chars cells) (range 0 9)))) (chars_append (word 7) line_feed)

turn_chars : (turn : ℕ) → Chars (turn_text turn)
unfolding turn_text
turn_chars turn = by_pick Chars (eqb turn 1) _ [] (λ _. chars_append (chars_append (side_chars 1) (word 3)) line_feed) (λ _. empty)

position_chars : (p : Position) → Chars (position_text p)
unfolding position_text diagram_text
position_chars p =
    by_pick Chars (eqb p.board 0) _ _ (λ _. preset-line_chars p.preset)
    (λ _. chars_append (chars_append (chars_append (chars_append (preset-line_chars 16) (hand_chars p.hands 1)) (board_chars p.cells)) (hand_chars p.hands 0)) (turn_chars p.turn))

-- ---- the whole

pub text_chars : (r : Record) → All HeaderValid r.headers → LinesValid r.lines → Chars (record_text r)
unfolding record_text
text_chars r h l = chars_append (chars_append (headers_chars h) (position_chars r.position)) (lines_chars l)
