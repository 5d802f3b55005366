-- What reading a text back gives in each mode, and which records made by hand read back.                 (01, Writing, and what is lost; 02, xi)
-- Assumes nothing: these are definitions.
use Rattle.std.specs.Prelude.{ℕ, ◌<◌, ◌≡◌, List, [], ◌∷◌, ◌++◌, Bool, true, false, length, drop, get_or, eqb, None}
use Rattle.lists.specs.All.{All}
use Rattle.lists.specs.Pick.{pick}
use Rattle.text.specs.Text.{prefix_from, wide_colon}
use Rattle.spell.specs.Tables.{specials, sides}
use Rattle.spell.specs.Spell.{has_number}
use Rattle.jkf.specs.Entries.{special_number}
use Rattle.jkf.specs.declared.Special.{Special}
use Rattle.jkf.specs.declared.Time.{Time}
use Rattle.jkf.specs.declared.Move.{Move}
use Rattle.jkf.specs.declared.Entry.{Entry}
use Rattle.jkf.specs.declared.Entry.TheVariants.{Slot, Moved, End}
use Rattle.jkf.specs.Model.{Record}
use Rattle.jkf.specs.Trees.{NoTwo}
use Rattle.block.specs.Formed.{line_of}
use Rattle.kakinoki.specs.Informations.{preset_line_at}
use Rattle.moves.specs.Fits.{OriginFits}
use Rattle.converter.specs.declared.Mode.{Mode}
use Rattle.converter.specs.declared.Mode.TheVariants.{Plain, Whole, Shared}
use Rattle.converter.specs.Headers.{header_line}
use Rattle.converter.specs.Said.{said_record}
use Rattle.converter.specs.Show.{record_text}
use Rattle.laws.specs.Sayable.{OneLine, begins_hand}

-- The text of a record.
abbrev pub text_in : Mode → Record → List ℕ
text_in mode r = record_text (said_record mode r)

-- A record as reading gives it: version 1.                                                              (02, request (vi))
abbrev pub as_read : Record → Record
as_read r = record { version = 1; headers = r.headers; position = r.position; lines = r.lines }

-- What reading that text back gives: of the plain text what it says, of the others the record itself.
abbrev pub kept_in : Mode → Record → Record
kept_in Plain r = as_read (said_record Plain r)
kept_in Whole r = as_read r
kept_in Shared r = as_read r

-- No entry of the lines that are written has two variations: where one has, reading nests the second in the first. (02, request (vi): the premise
-- that joins demand 2)
abbrev pub SingleIn : Mode → Record → Type 0
SingleIn mode r = NoTwo (λ j. (line_of (kept_in mode r).lines j).start) (λ j. (line_of (kept_in mode r).lines j).parent) (length (kept_in mode r).lines)

-- The modes whose text keeps all of a record.
pub data LosesNothing : Mode → Type 0 where
  whole : LosesNothing Whole
  shared : LosesNothing Shared

-- Every line stands in the text, where nothing is to be lost: no variation starts at 0.                 (02, xi: refusal 20)
abbrev pub AllWritten : Mode → Record → Type 0
AllWritten Plain r = Unit {0}
AllWritten Whole r = All (λ l. 0 < l.start) (drop 1 r.lines)
AllWritten Shared r = All (λ l. 0 < l.start) (drop 1 r.lines)

-- ---- by hand                                                                                         (02, xi: records made by hand)

-- An origin or a special that the reader can give.
pub data EntryByHand : Entry → Type 0 where
  slot : EntryByHand Slot
  move : {m : Move} → OriginFits m.from → EntryByHand (Moved m)
  ending : {x : Special} {t : Time} → has_number specials (special_number x) ≡ true → EntryByHand (End x t)

-- A text stands somewhere in another.
abbrev pub holds_text : List ℕ → List ℕ → Bool
holds_text t [] = false
holds_text t (b ∷ l) = pick (prefix_from t (b ∷ l)) true (holds_text t l)

-- What 02 asks of a record that was made by hand: origins and specials that the reader can give; no header line that would be read as a
-- preset, a hand or a # line; no key that is empty or holds ：; and no CR or LF in a key, a value or a comment.
pub record ByHand (r : Record) : Type 0 where
  pub entries : All (λ l. All (λ e. EntryByHand e.what) l.entries) r.lines
  pub no_preset : All (λ h. preset_line_at (header_line h) 0 ≡ None) r.headers
  pub no_hand : All (λ h. begins_hand sides ((h.key ++ wide_colon) ++ h.value) ≡ false) r.headers
  pub no_hash : All (λ h. eqb (get_or h.key 0 0) 35 ≡ false) r.headers
  pub some_key : All (λ h. 0 < length h.key) r.headers
  pub no_colon : All (λ h. holds_text wide_colon h.key ≡ false) r.headers
  pub keys : All (λ h. OneLine h.key) r.headers
  pub values : All (λ h. OneLine h.value) r.headers
  pub comments : All (λ l. All (λ e. All OneLine e.comments) l.entries) r.lines
