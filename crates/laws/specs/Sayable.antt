-- What a text can say of a record's header and lines, so that it is read as it was written; and colours that follow their plies. A reading
-- gives what can be said, and edits by text keep it so.                                               (01, Reading rules; 02, xi)
-- Assumes nothing: these are definitions.
use Rattle.std.specs.Prelude.{ℕ, ◌+◌, ◌<◌, ◌≡◌, List, [], ◌∷◌, ◌++◌, Bool, true, false, length, get_or, eqb, None}
use Rattle.lists.specs.All.{All, Led}
use Rattle.lists.specs.Pick.{pick}
use Rattle.text.specs.Text.{is_text, prefix_from, wide_colon, key_from}
use Rattle.spell.specs.Tables.{Spelling, sides}
use Rattle.jkf.specs.declared.Special.{Special}
use Rattle.jkf.specs.declared.Time.{Time}
use Rattle.jkf.specs.declared.Move.{Move}
use Rattle.jkf.specs.declared.Entry.{Entry}
use Rattle.jkf.specs.declared.Entry.TheVariants.{Slot, Moved, End}
use Rattle.jkf.specs.Model.{Header, Noted, Record}
use Rattle.jkf.specs.Attaching.{Play}
use Rattle.moves.specs.Moves.{color_of}
use Rattle.moves.specs.Fits.{EntryFits}
use Rattle.edit.specs.Edit.{plays_in}
use Rattle.kakinoki.specs.Informations.{preset_line_at}
use Rattle.spell.specs.Words.{hands_tag}
use Rattle.converter.specs.Headers.{header_line}

-- ---- header entries

-- Every byte of a text is of a class.
abbrev pub every_byte : (ℕ → Bool) → List ℕ → Bool
every_byte f [] = true
every_byte f (b ∷ t) = pick (f b) (every_byte f t) false

-- No CR and no LF.
abbrev pub OneLine : List ℕ → Type 0
OneLine t = every_byte is_text t ≡ true

-- A text begins with a side and の持駒：.
abbrev pub begins_hand : List Spelling → List ℕ → Bool
begins_hand [] t = false
begins_hand (e ∷ es) t = pick (prefix_from (e.bytes ++ hands_tag) t) true (begins_hand es t)

-- A header entry whose line is read as that entry: its key is not empty, has no ： and no break, and does not begin with #, its value has
-- no break, and the line is no preset and no hand.                                            (01, Reading rules: key and value)
pub record HeaderSayable (h : Header) : Type 0 where
  pub some : 0 < length h.key
  pub key : key_from (h.key ++ wide_colon) ≡ h.key
  pub value : OneLine h.value
  pub no_hash : eqb (get_or h.key 0 0) 35 ≡ false
  pub no_hand : begins_hand sides ((h.key ++ wide_colon) ++ h.value) ≡ false
  pub no_preset : preset_line_at (header_line h) 0 ≡ None

-- ---- entries

-- A move or a special that can be read, with comments of one line.
pub record NotedSayable (e : Noted) : Type 0 where
  pub entry : EntryFits e.what
  pub comments : All OneLine e.comments

-- The initial slot, with comments of one line.
pub record SlotSayable (e : Noted) : Type 0 where
  pub slot : e.what ≡ Slot
  pub comments : All OneLine e.comments

-- The main line begins with the slot; every other entry of it and of the later lines is a move or a special that can be read.
abbrev pub PlaysSayable : List Play → Type 0
PlaysSayable = Led (λ p. Led SlotSayable NotedSayable p.entries) (λ p. All NotedSayable p.entries)

-- Header entries and lines of play that a text can say.
pub record Sayable (r : Record) : Type 0 where
  pub headers : All HeaderSayable r.headers
  pub plays : PlaysSayable (plays_in r.lines)

-- ---- colours

-- A move's colour follows its ply: odd plies are Black's. The slot and specials have none.               (01, Reading rules: move line)
pub data Follows (ply : ℕ) : Entry → Type 0 where
  slot : Follows ply Slot
  move : {m : Move} → m.color ≡ color_of ply → Follows ply (Moved m)
  ending : {x : Special} {t : Time} → Follows ply (End x t)

-- The first of some entries has this ply, and each later one the next.
pub data Colored : ℕ → List Noted → Type 0 where
  end : {ply : ℕ} → Colored ply []
  then : {ply : ℕ} {e : Noted} {es : List Noted} → Follows ply e.what → Colored (ply + 1) es → Colored ply (e ∷ es)

-- In every line of a record, from its start on.
abbrev pub ColorsFollow : Record → Type 0
ColorsFollow r = All (λ p. Colored p.start p.entries) (plays_in r.lines)
