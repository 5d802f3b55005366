-- What the plain text says loses nothing more: it is said the same in every mode that says origins as they are, since its marks, its times and
-- its lines are already as that mode has them.
-- Assumes nothing.
use Rattle.std.specs.Prelude.{Option}
use Prim.Native.Nat.{ℕ, ◌<◌}
use mathlib.Core.Path.{◌≡◌, refl, ap, ap₂, ◌∙◌}
use mathlib.Core.List.{List, [], ◌∷◌, map}
use mathlib.Core.Bool.{Bool, true, false}
use lib.Dec.{eqb}
use Rattle.lists.specs.Pick.{pick}
use Rattle.lists.specs.All.{All}
use Rattle.jkf.specs.declared.Time.{Time}
use Rattle.jkf.specs.declared.Time.TheVariants.{Untimed, Timed}
use Rattle.jkf.specs.declared.Entry.{Entry}
use Rattle.jkf.specs.declared.Entry.TheVariants.{Slot, Moved, End}
use Rattle.jkf.specs.Model.{Noted, Line, Record}
use Rattle.parser.proofs.Alls.{all_map}
use Rattle.converter.specs.declared.Mode.{Mode}
use Rattle.converter.specs.declared.Mode.TheVariants.{Plain, Whole, Shared}
use Rattle.converter.specs.Said.{said_mark, said_now, said_total, said_origin, said_time, said_move, said_entry, said_noted, said_line, shown, said_lines, said_record}
use Rattle.converter.specs.Show.{record_text}
use Rattle.laws.specs.Back.{LosesOnce, PlainIsWhole}
use Rattle.laws.proofs.Back.Shown.{shown-later, shown-same}

mark_again : (mode : Mode) (p : ℕ) → said_mark mode (said_mark Plain p) ≡ said_mark Plain p
unfolding said_mark
mark_again Plain p = go (eqb p 1) refl
  where
    go : (t : Bool) → eqb p 1 ≡ t → ◌≡◌ {A = ℕ} (pick (eqb (pick t 0 p) 1) 0 (pick t 0 p)) (pick t 0 p)
    go true e = refl
    go false e = rw e
mark_again Whole p = refl
mark_again Shared p = refl

time_again : (mode : Mode) (t : Time) → said_time mode (said_time Plain t) ≡ said_time Plain t
unfolding said_time said_now said_total
time_again mode Untimed = refl
time_again Plain (Timed now total) = refl
time_again Whole (Timed now total) = refl
time_again Shared (Timed now total) = refl

map_again : {A : Type 0} (f g : A → A) → ((x : A) → f (g x) ≡ g x) → (l : List A) → map f (map g l) ≡ map g l
map_again f g h [] = refl
map_again {A} f g h (x ∷ l) = ap₂ (λ (y : A) (k : List A). y ∷ k) (h x) (map_again f g h l)

-- no line that was shown is left out again
shown_again : (ls : List Line) → shown (map (said_line Plain) (shown ls)) ≡ map (said_line Plain) (shown ls)
unfolding said_line
shown_again ls = let z : All (λ l. 0 < l.start) (map (said_line Plain) (shown ls)) = all_map (said_line Plain) (shown-later ls) in shown-same z

module _ (mode : Mode) (known : (o : Option (ℕ × ℕ)) → said_origin mode o ≡ o) where
  entry_again : (e : Entry) → said_entry mode (said_entry Plain e) ≡ said_entry Plain e
  unfolding said_entry said_move
  entry_again Slot = refl
  entry_again (Moved m) = rw (mark_again mode m.promote, known (said_origin Plain m.from), time_again mode m.time)
  entry_again (End s t) = ap (End s) (time_again mode t)

  noted_again : (e : Noted) → said_noted mode (said_noted Plain e) ≡ said_noted Plain e
  unfolding said_noted
  noted_again e = ap (λ (x : Entry). record { what = x; comments = e.comments }) (entry_again e.what)

  line_again : (l : Line) → said_line mode (said_line Plain l) ≡ said_line Plain l
  unfolding said_line
  line_again l = ap (λ (es : List Noted). record { start = l.start; parent = l.parent; entries = es }) (map_again (said_noted mode) (said_noted Plain) noted_again l.entries)

  lines_again : (ls : List Line) → said_lines mode (said_lines Plain ls) ≡ said_lines Plain ls
  unfolding said_lines
  lines_again [] = refl
  lines_again (l ∷ ls) =
      ap₂ (λ (x : Line) (k : List Line). x ∷ k) (line_again l)
      (ap (map (said_line mode)) (shown_again ls) ∙ map_again (said_line mode) (said_line Plain) line_again (shown ls))

  said_again : (r : Record) → said_record mode (said_record Plain r) ≡ said_record Plain r
  unfolding said_record
  said_again r = ap (λ (ls : List Line). record { version = r.version; headers = r.headers; position = r.position; lines = ls }) (lines_again r.lines)

pub loses_once : LosesOnce
unfolding said_origin
loses_once = said_again Plain (λ o. refl)

pub plain_is_whole : PlainIsWhole
unfolding said_origin
plain_is_whole r = ap record_text (said_again Whole (λ o. refl) r)
