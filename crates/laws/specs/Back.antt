-- Reading back: what was written is read as the same record, but for what its text loses. Each statement is a type, and the theorem of its
-- name is proved in proofs/Back.                                                                      (01, Writing, and what is lost)
-- Assumes nothing: these are definitions.
use Rattle.std.specs.Prelude.{ℕ, ◌≤◌, ◌<◌, ◌≡◌, true, List, ◌++◌, length, drop, None}
use Rattle.jkf.specs.Answers.{Outcome}
use Rattle.jkf.specs.Attaching.{all, parent_in, attach, all_hung}
use Rattle.jkf.specs.declared.Answer.TheVariants.{Done}
use Rattle.jkf.specs.Model.{Line, Record}
use Rattle.block.specs.Encode.{encode}
use Rattle.block.specs.Decode.{version_in, decode}
use Rattle.block.specs.Sound.{soundb}
use Rattle.block.specs.Formed.{line_of, Formed}
use Rattle.kakinoki.specs.Starts.{start_read}
use Rattle.parser.specs.Parse.{Parsed, parse}
use Rattle.parser.specs.Read.{fill_of}
use Rattle.converter.specs.declared.Mode.{Mode}
use Rattle.converter.specs.declared.Mode.TheVariants.{Plain, Whole}
use Rattle.converter.specs.Said.{said_record}
use Rattle.converter.specs.Show.{hands_obstacle}
use Rattle.converter.specs.Writing.{write_as_of, write_of}
use Rattle.edit.specs.Edit.{plays_in}
use Rattle.edit.specs.Outcomes.{put_in_of, cut_of, restate_of}
use Rattle.laws.specs.Blocks.{Bytes, front_of}
use Rattle.laws.specs.Sayable.{Sayable, ColorsFollow}
use Rattle.laws.specs.Edits.{with_version}
use Rattle.laws.specs.Modes.{text_in, kept_in, SingleIn, LosesNothing, AllWritten, ByHand}

-- ---- a record once read, then written

-- An edit of a block that was done: a variation put in by its text, a line cut out, or the block restated.
pub data EditOf (b : List ℕ) : List ℕ → Type 0 where
  put : (k : ℕ) (t o : List ℕ) (n i : ℕ) → Bytes t → (put_in_of b k t o).answer ≡ Done n i → EditOf b (front_of n (put_in_of b k t o))
  cut : (k : ℕ) (o : List ℕ) (n m : ℕ) → (cut_of b k o).answer ≡ Done n m → EditOf b (front_of n (cut_of b k o))
  restate : (o : List ℕ) (n m : ℕ) → (restate_of b o).answer ≡ Done n m → EditOf b (front_of n (restate_of b o))

-- Any number of edits, one after the other.
pub data EditsOf (b : List ℕ) : List ℕ → Type 0 where
  none : EditsOf b b
  then : {c d : List ℕ} → EditsOf b c → EditOf c d → EditsOf b d

-- The blocks of which reading back is promised: one that the reader answered, and what an edit made of such a block.
pub data OnceRead : List ℕ → Type 0 where
  read : (s o : List ℕ) (t n : ℕ) → Bytes s → (fill_of s o).answer ≡ Done t n → OnceRead (front_of n (fill_of s o))
  then : {b c : List ℕ} → OnceRead b → EditOf b c → OnceRead c

-- A reading that takes n bytes and finds r in them: the block of r at the front of the lent buffer, and the rest as it was.
abbrev pub read_into : ℕ → Record → List ℕ → Outcome
read_into n r o = record { answer = Done n (length (encode r)); buffer = encode r ++ drop (length (encode r)) o }

-- Where `write` is done with a text of at most 65,535 bytes, `fill` takes all of that text and answers the block of what the text says of the
-- record, for every buffer that has room for it; and that block holds what is said.
abbrev pub TextReadsBack : List ℕ → Type 0
TextReadsBack b =
    (o : List ℕ) (n l : ℕ) → (write_of b o).answer ≡ Done n l → n ≤ 65535
    → (o' : List ℕ) → length (encode (kept_in Plain (decode b))) ≤ length o'
    → (fill_of (front_of n (write_of b o)) o' ≡ read_into n (kept_in Plain (decode b)) o') × (decode (encode (kept_in Plain (decode b))) ≡ kept_in Plain (decode b))

-- So for each block that was once read, in which the colours follow their plies and no entry that is written has two variations.
abbrev pub ReadsBack : Type 0
ReadsBack = (b : List ℕ) → OnceRead b → ColorsFollow (decode b) → SingleIn Plain (decode b) → TextReadsBack b

-- Which none has in a block of version 1.                                                              (02, request (vi))
abbrev pub SingleInOne : Type 0
SingleInOne = (mode : Mode) (r : Record) → Formed r → r.version ≡ 1 → SingleIn mode r

-- Where each colour follows its ply, it does so after any number of edits.                            (02, request (iii))
abbrev pub ColorsStay : Type 0
ColorsStay = (b c : List ℕ) → Bytes b → EditsOf b c → ColorsFollow (decode b) → ColorsFollow (decode c)

-- So for edits of a record that was read nothing more is asked than of the record itself.             (02, request (iii))
abbrev pub EditsReadBack : Type 0
EditsReadBack = (b c : List ℕ) → OnceRead b → ColorsFollow (decode b) → EditsOf b c → SingleIn Plain (decode c) → TextReadsBack c

-- Nothing more is lost the second time.
abbrev pub LosesOnce : Type 0
LosesOnce = (r : Record) → said_record Plain (said_record Plain r) ≡ said_record Plain r

-- And what is left has the same text in the mode `Whole`.
abbrev pub PlainIsWhole : Type 0
PlainIsWhole = (r : Record) → text_in Whole (said_record Plain r) ≡ text_in Plain r

-- ---- in every mode

-- What a reading finds in n bytes that say a record: its header entries, its position, its lines of play without their parents.
abbrev pub parsed_of : Record → ℕ → Parsed
parsed_of r n = record { headers = r.headers; position = r.position; plays = plays_in r.lines; taken = n }

-- A text says, to its last byte, the header entries, the position and the lines of play of what it leaves, and no hand line of it fails.
abbrev pub SaysBack : Type 0
SaysBack =
    (mode : Mode) (r : Record) → Formed r → Sayable r → ColorsFollow r → hands_obstacle r.position ≡ None → AllWritten mode r
    → (parse (text_in mode r) ≡ parsed_of (kept_in mode r) (length (text_in mode r))) × ((start_read (text_in mode r)).fault ≡ None)

-- The parents, in a step of its own: these lines of play all hang, and where they did, if no entry of them has two. (01, Attaching rule; 02,
-- request (vi))
abbrev pub HangsBack : Type 0
HangsBack =
    (mode : Mode) (r : Record) → Formed r → SingleIn mode r
    → (all_hung (plays_in (kept_in mode r).lines) ≡ all) × (attach (plays_in (kept_in mode r).lines) ≡ (kept_in mode r).lines)

-- No line before line k hangs on its entry.
abbrev pub FirstThere : List Line → ℕ → Type 0
FirstThere ls k = (i : ℕ) → 0 < i → i < k → (line_of ls i).parent ≡ (line_of ls k).parent → (line_of ls i).start ≡ (line_of ls k).start → ⊥

-- Where an entry has two, the lines of play still all hang, and reading never meets refusal 6; a line with no equal before it has its parent again;
-- and where all lines have theirs, no entry has two.                                                                                               (02, request (vi))
abbrev pub StillHangs : Type 0
StillHangs =
    (mode : Mode) (r : Record) → Formed r
    → (all_hung (plays_in (kept_in mode r).lines) ≡ all) × (attach (plays_in (kept_in mode r).lines) ≡ (kept_in mode r).lines → SingleIn mode r)
    × ((k : ℕ) → 0 < k → k < length (kept_in mode r).lines → FirstThere (kept_in mode r).lines k → parent_in (plays_in (kept_in mode r).lines) k ≡ (line_of (kept_in mode r).lines k).parent)

-- So the text is read to the block of what it leaves.
abbrev pub ReadsBackIn : Type 0
ReadsBackIn =
    (mode : Mode) (r : Record) → Formed r → Sayable r → ColorsFollow r → SingleIn mode r → hands_obstacle r.position ≡ None → AllWritten mode r
    → length (text_in mode r) ≤ 65535 → (o : List ℕ) → length (encode (kept_in mode r)) ≤ length o
    → fill_of (text_in mode r) o ≡ read_into (length (text_in mode r)) (kept_in mode r) o

-- ---- where nothing is lost                                                                           (02, xi)

-- Where writing in a mode is done with a text of at most 65,535 bytes, where refusal 20 keeps out a variation that starts at 0,
-- `fill` takes all of that text and answers the block itself as version 1, byte for byte, for every buffer that has room for it.
abbrev pub Restores : Mode → List ℕ → Type 0
Restores mode b =
    (o : List ℕ) (n l : ℕ) → (write_as_of mode b o).answer ≡ Done n l → n ≤ 65535 → (o' : List ℕ) → length b ≤ length o'
    → fill_of (front_of n (write_as_of mode b o)) o' ≡ record { answer = Done n (length b); buffer = with_version 1 b ++ drop (length b) o' }

-- Which a block of version 1 is.
abbrev pub OneKept : Type 0
OneKept = (b : List ℕ) → soundb b ≡ true → version_in b ≡ 1 → with_version 1 b ≡ b

-- So for a record that was read, and for any edits of one, where each colour follows its ply in what was read.
abbrev pub ReadRestored : Type 0
ReadRestored =
    (mode : Mode) → LosesNothing mode → (b c : List ℕ) → OnceRead b → ColorsFollow (decode b) → EditsOf b c → SingleIn mode (decode c) → Restores mode c

-- And for a sound block that was made by hand, where 02's conditions hold.                              (02, xi: records made by hand)
abbrev pub HandRestored : Type 0
HandRestored =
    (mode : Mode) → LosesNothing mode → (b : List ℕ) → Bytes b → soundb b ≡ true → ByHand (decode b) → ColorsFollow (decode b) → SingleIn mode (decode b)
    → Restores mode b

-- No line is left out.
abbrev pub LeavesNone : Type 0
LeavesNone = (mode : Mode) → LosesNothing mode → (b o : List ℕ) (n l : ℕ) → (write_as_of mode b o).answer ≡ Done n l → l ≡ 0
