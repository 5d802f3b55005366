-- The text of a record reads back where nothing is lost: its header, its position and its lines of play, to the last byte.
-- Assumes nothing.
use Rattle.std.specs.Prelude.{None}
use Prim.Native.Nat.{ℕ, ◌≤◌}
use native.Mathlib.Omega.{arith}
use mathlib.Core.Path.{◌≡◌, refl}
use mathlib.Core.List.{List, [], ◌∷◌, ◌++◌, map, append_assoc}
use mathlib.Core.Bool.{true}
use lib.ListN.{length, get_or}
use Rattle.lists.specs.All.{All}
use Rattle.converter.specs.Entries.{remarks_text, entries_text}
use Rattle.lists.proofs.Stand.{Stands, came, stands_same}
use Rattle.jkf.specs.declared.Position.{Position}
use Rattle.jkf.specs.declared.Entry.TheVariants.{Slot}
use Rattle.jkf.specs.Model.{Header, Noted, Line, Record}
use Rattle.jkf.specs.Attaching.{play}
use Rattle.block.specs.Encode.{concat}
use Rattle.block.specs.Sound.{is_cell}
use Rattle.kakinoki.specs.Starts.{start_read}
use Rattle.sorted.specs.inner.Orders.{Ascending}
use Rattle.plays.specs.Plays.{noted}
use Rattle.parser.specs.Parse.{by_header, parse}
use Rattle.converter.specs.Headers.{headers_text}
use Rattle.converter.specs.Diagrams.{preset_line, board_text, turn_text, diagram_text, position_text, hand_line_text}
use Rattle.converter.specs.Show.{number_line, main_text, variation_text, lines_text, record_text}
use Rattle.converter.specs.declared.Mode.{Mode}
use Rattle.converter.specs.Said.{said_entry, said_noted, said_line, said_lines, said_record}
use Rattle.laws.specs.Back.{parsed_of}
use Rattle.laws.specs.Modes.{text_in, LosesNothing}
use Rattle.laws.specs.Sayable.{OneLine, HeaderSayable}
use Rattle.laws.proofs.Back.Entries.{EntriesFit}
use Rattle.laws.proofs.Back.Lines.{LineFits, as_play, plays_came}
use Rattle.laws.proofs.Back.Information.{Side}
use Rattle.laws.proofs.Back.Starts.{Starts, preset_at, diagram_of, preset-starts, diagram-starts}
use Rattle.laws.proofs.Back.Leaves.{at-end}
use Rattle.laws.proofs.Firsts.{all_so}
use Rattle.laws.proofs.Back.Shown.{shown-same}

-- a preset, or a diagram with at most 99 of a kind in a hand
pub data PositionFits : Position → Type 0 where
  named : {n : ℕ} → n ≤ 16 → PositionFits (preset_at n)
  drawn : {turn : ℕ} {cells hands : List ℕ} → Side turn → length cells ≡ 81 → ((k : ℕ) → is_cell (get_or cells k 0) ≡ true) → length hands ≡ 14
      → ((k : ℕ) → get_or hands k 0 ≤ 99) → PositionFits (diagram_of turn cells hands)

-- the main line, which begins with the slot, and the variations; without a move in the main line there are none
pub data LinesFit : List Line → Type 0 where
  fit : {cs : List (List ℕ)} {es : List Noted} {ls : List Line} → All OneLine cs → EntriesFit 1 es → All LineFits ls → (length es ≡ 0 → ls ≡ [])
      → LinesFit (record { start = 0; parent = 0; entries = noted Slot cs ∷ es } ∷ ls)

pub record RecordFits (r : Record) : Type 0 where
  pub ascending : Ascending by_header r.headers
  pub headers : All HeaderSayable r.headers
  pub position : PositionFits r.position
  pub lines : LinesFit r.lines

all_there : (s : List ℕ) → Stands s 0 s
all_there s = record { rest = refl; within = omega arith }

parts : (a p w b h t l : List ℕ) → (a ++ ((((p ++ w) ++ b) ++ h) ++ t)) ++ l ≡ (a ++ (p ++ w)) ++ (b ++ ((h ++ t) ++ l))
parts a p w b h t l = simp append_assoc

start_came : (hs : List Header) → Ascending by_header hs → All HeaderSayable hs → {p : Position} → PositionFits p → (s r : List ℕ) → Stands s 0 ((headers_text hs ++ position_text p) ++ (number_line ++ r)) → Starts s hs p r
unfolding position_text diagram_text
start_came hs up g (named {n} h) s r st = preset-starts hs up g n h s r st
start_came hs up g (drawn {turn} {cells} {hands} d c cs n few) s r st =
    diagram-starts hs up g cells hands c cs n few d s r
    (stands_same (parts (headers_text hs) (preset_line 16) (hand_line_text hands 1) (board_text cells) (hand_line_text hands 0) (turn_text turn) (number_line ++ r)) st)

-- a text that begins as a record's does and has its lines
parse_came : {mode : Mode} → LosesNothing mode → (hs : List Header) (p : Position) (cs : List (List ℕ)) (es : List Noted) (ls : List Line)
    → Ascending by_header hs → All HeaderSayable hs → PositionFits p → All OneLine cs → EntriesFit 1 es → All LineFits ls → (length es ≡ 0 → ls ≡ []) → (s : List ℕ)
    → Stands s 0 ((headers_text hs ++ position_text p) ++ (number_line ++ ((remarks_text cs ++ entries_text 1 (map (said_noted mode) es)) ++ concat variation_text (map (said_line mode) ls))))
    → (parse s ≡ record { headers = hs; position = p; plays = play 0 (noted Slot cs ∷ es) ∷ map as_play ls; taken = length s }) × ((start_read s).fault ≡ None)
unfolding parse
parse_came n hs p cs es ls up g f o h k alone s st =
    let b = start_came hs up g f s _ st in
    came (plays_came n cs es ls o h k alone b.left) λ e i l.
    (rw (b.headers, b.position, b.next, i, at-end l), b.fault)

lines_back : {mode : Mode} → LosesNothing mode → (hs : List Header) (p : Position) {ls : List Line} → Ascending by_header hs → All HeaderSayable hs → PositionFits p → LinesFit ls
    → (parse ((headers_text hs ++ position_text p) ++ lines_text (said_lines mode ls))
    ≡ record { headers = hs; position = p; plays = map as_play ls; taken = length ((headers_text hs ++ position_text p) ++ lines_text (said_lines mode ls)) })
    × ((start_read ((headers_text hs ++ position_text p) ++ lines_text (said_lines mode ls))).fault ≡ None)
unfolding lines_text main_text said_lines said_line said_noted said_entry
lines_back n hs p up g f (fit {cs} {es} {ls} o h k alone) = rw (shown-same (all_so (λ l g. g.later) k)) (parse_came n hs p cs es ls up g f o h k alone _ (all_there _))

pub parse_back : {mode : Mode} → LosesNothing mode → (r : Record) → RecordFits r
    → (parse (text_in mode r) ≡ parsed_of r (length (text_in mode r))) × ((start_read (text_in mode r)).fault ≡ None)
unfolding record_text said_record
parse_back n r f = lines_back n r.headers r.position f.ascending f.headers f.position f.lines
