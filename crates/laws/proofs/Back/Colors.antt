-- Where each colour follows its ply, it does so after an edit: the numbers of a text that is put in are its plies, and each line of its move lines
-- has the colour of its number; all other lines keep their starts and their entries.                   (02, request (iii))
-- Assumes nothing.
use Rattle.std.specs.Prelude.{Option, Some, None, Result, Ok, Err}
use Prim.Native.Nat.{ℕ, zero, suc, ◌+◌}
use native.Mathlib.Omega.{arith}
use mathlib.Core.Path.{◌≡◌, refl, sym, ◌∙◌, subst}
use mathlib.Core.List.{List, ◌∷◌}
use mathlib.Core.Bool.{true}
use lib.ListN.{length}
use lib.Dec.{eqb}
use borrow.Author.Tests.{eqb-true}
use Rattle.lists.specs.All.{All, next}
use Rattle.lists.specs.Repeat.{many_from}
use Rattle.lists.proofs.Laws.{by_pick}
use Rattle.text.specs.declared.Cursor.{Cursor}
use Rattle.text.specs.declared.FigureError.{FigureError}
use Rattle.text.specs.declared.FigureError.TheVariants.{Absent, TooLarge}
use Rattle.jkf.specs.declared.Entry.{Entry}
use Rattle.jkf.specs.declared.Entry.TheVariants.{Slot, Moved, End}
use Rattle.jkf.specs.declared.Time.{Time}
use Rattle.jkf.specs.Model.{Noted, Line, Record}
use Rattle.jkf.specs.Attaching.{Play}
use Rattle.block.specs.Encode.{encode}
use Rattle.block.specs.Decode.{version_in, decode}
use Rattle.block.specs.Formed.{Formed}
use Rattle.text.specs.Text.{on_place, on_number, blanks_at, digits_at, line_end_at}
use Rattle.moves.specs.Moves.{color_of, finished, on_what, what_at, time_at, played_line, move_line_at}
use Rattle.moves.specs.declared.MoveLine.{MoveLine}
use Rattle.plays.specs.Plays.{noted, comments_at, entry_item, entries_at, number_item, numbers_at, in_sequence, ply_at}
use Rattle.plays.proofs.Sequences.{numbers_many}
use Rattle.edit.specs.Edit.{plays_in, is_variation, variation_of}
use Rattle.edit.specs.inner.Splicing.{relined}
use Rattle.edit.proofs.Listing.{plays-put}
use Rattle.edit.proofs.Texts.{variation_says}
use Rattle.laws.specs.Blocks.{Bytes}
use Rattle.laws.specs.Sayable.{Follows, slot, move, ending, Colored, end, then, ColorsFollow}
use Rattle.laws.specs.Back.{EditOf, put, cut, restate, EditsOf, none, then as after, ColorsStay}
use Rattle.laws.proofs.Decoded.{decode-encode}
use Rattle.laws.proofs.Firsts.{all_take, all_drop}
use Rattle.parser.proofs.Alls.{all_append}
use Rattle.laws.proofs.EditsDone.{put_place, put_lines, put_done, cut_many, cut_lines, cut_done, restate_done}
use Rattle.laws.proofs.Back.Keeps.{cut_all}
use Rattle.moves.proofs.Answers.{OnMoveLine, numbered, no_line, line_is}

-- ---- a move line

finished-follows : (n : ℕ) (x : Time) (e : Entry) → Follows n (finished (color_of n) x e)
unfolding finished
finished-follows n x Slot = slot
finished-follows n x (Moved m) = move refl
finished-follows n x (End s u) = ending

-- its entry has the colour of its number
abbrev Told : Option MoveLine → Type 0
Told = OnMoveLine (λ n e c. Follows n e)

line-follows : (s : List ℕ) (at : ℕ) → Told (move_line_at s at)
unfolding move_line_at
line-follows s at = go (digits_at 18446744073709551615 s (blanks_at s at))
  where
    go : (x : Result (ℕ × Cursor) FigureError) → Told (on_number x (λ n c. played_line n s (blanks_at s c.at)) None)
    go (Ok (n, c)) = over (what_at s (blanks_at s c.at))
      where
        over : (w : Option (Entry × Cursor)) → Told (on_what w (λ e d. on_place (line_end_at s (time_at s (blanks_at s d.at)).next.at)
            (λ f. Some (record { number = n; entry = (finished (color_of n) (time_at s (blanks_at s d.at)).time e); next = f })) None) None)
        over (Some (e, d)) = ends (line_end_at s (time_at s (blanks_at s d.at)).next.at)
          where
            ends : (p : Option Cursor) → Told (on_place p (λ f. Some (record { number = n; entry = (finished (color_of n) (time_at s (blanks_at s d.at)).time e); next = f })) None)
            ends (Some f) = numbered (finished-follows n (time_at s (blanks_at s d.at)).time e)
            ends None = no_line
        over None = no_line
    go (Err Absent) = no_line
    go (Err TooLarge) = no_line

-- ---- a text

-- numbers that go up by one from n are the plies from n on
one_colored : (n m : ℕ) (e : Noted) (ns : List ℕ) (es : List Noted) → Follows m e.what → (in_sequence (n + 1) ns ≡ length ns → Colored (n + 1) es)
    → in_sequence n (m ∷ ns) ≡ length (m ∷ ns) → Colored n (e ∷ es)
unfolding in_sequence
one_colored n m e ns es f ih =
    by_pick (λ (x : ℕ). x ≡ suc (length ns) → Colored n (e ∷ es)) (eqb m n) (suc (in_sequence (n + 1) ns)) 0
    (λ t h. then (subst (λ (p : ℕ). Follows p e.what) (eqb-true m n t) f) (ih (omega (arith, h)))) (λ _ h. absurd (omega (arith, h)))

module _ (t : List ℕ) where
  abbrev numbers : ℕ → ℕ → List ℕ
  numbers k at = (many_from (number_item t) k at).state

  abbrev entries : ℕ → ℕ → List Noted
  entries k at = (many_from (entry_item t) k at).state

  abbrev past : Cursor → ℕ
  past c = (comments_at t c.at).at

  -- what is read first, and the rest
  numbers_next : (k at m : ℕ) (e : Entry) (c : Cursor) → move_line_at t at ≡ Some (record { number = m; entry = e; next = c })
      → (numbers (suc k) at ≡ m ∷ numbers k (past c)) × (entries (suc k) at ≡ noted e (comments_at t c.at).state ∷ entries k (past c))
  unfolding many_from number_item entry_item
  numbers_next k at m e c q = (rw (numbers, q), rw (entries, q))

  counted_colored : (k n at : ℕ) → in_sequence n (numbers k at) ≡ length (numbers k at) → Colored n (entries k at)
  unfolding many_from entry_item
  counted_colored zero n at = λ _. end
  counted_colored (suc k) n at = go (move_line_at t at) refl (counted_colored k)
    where
      go : (r : Option MoveLine) → move_line_at t at ≡ r → ((n at : ℕ) → in_sequence n (numbers k at) ≡ length (numbers k at) → Colored n (entries k at))
          → in_sequence n (numbers (suc k) at) ≡ length (numbers (suc k) at) → Colored n (entries (suc k) at)
      go (Some r) q ih =
          let (a, b) = numbers_next k at r.number r.entry r.next q in
          let one = one_colored n r.number (noted r.entry (comments_at t r.next.at).state) (numbers k (past r.next)) (entries k (past r.next)) (line_is (line-follows t at) q) (ih (n + 1) (past r.next)) in
          λ h. subst (Colored n) (sym b) (one (subst (λ (ns : List ℕ). in_sequence n ns ≡ length ns) a h))
      go None q ih = λ _. rw (entries, q) end

  text_colored : is_variation t ≡ true → Colored (ply_at t 0) (entries_at t 0).state
  unfolding entries_at numbers_at
  text_colored v = counted_colored (length t) (ply_at t 0) 0 ((variation_says t v).numbered ∙ sym (numbers_many t 0))

-- ---- a record

abbrev InColor : List Play → Type 0
InColor = All (λ p. Colored p.start p.entries)

relined_colors : (v : ℕ) (r : Record) (ls : List Line) → InColor (plays_in ls) → ColorsFollow (relined v r ls)
unfolding relined
relined_colors v r ls h = h

-- what is kept along the way
record ColoredBlock (b : List ℕ) : Type 0 where
  pub bytes : Bytes b
  pub colors : ColorsFollow (decode b)

colored_encode : (r : Record) → Formed r → ColorsFollow r → ColoredBlock (encode r)
colored_encode r g h = record { bytes = g.bytes; colors = subst ColorsFollow (sym (decode-encode r g)) h }

edit_colored : {b c : List ℕ} → ColoredBlock b → EditOf b c → ColoredBlock c
edit_colored {b} w (put k t o n i ts e) =
    let d = put_done b t o w.bytes ts k n i e in
    let p = put_place b k t in
    subst ColoredBlock (sym d.front)
    (colored_encode _ d.formed (relined_colors (version_in b) (decode b) (put_lines b k t)
    (subst InColor (sym (plays-put p k (variation_of t) (decode b).lines)) (all_append (all_take p w.colors) (next (text_colored t d.text) (all_drop p w.colors))))))
edit_colored {b} w (cut k o n m e) =
    let d = cut_done b o w.bytes k n m e in
    subst ColoredBlock (sym d.front)
    (colored_encode _ d.formed (relined_colors (version_in b) (decode b) (cut_lines b k) (cut_all k (cut_many b k) (decode b).lines w.colors)))
edit_colored {b} w (restate o n m e) =
    let d = restate_done b o w.bytes n m e in
    subst ColoredBlock (sym d.front) (colored_encode _ d.formed w.colors)

edits_colored : {b c : List ℕ} → ColoredBlock b → EditsOf b c → ColoredBlock c
edits_colored w none = w
edits_colored w (after es e) = edit_colored (edits_colored w es) e

pub colors_stay : ColorsStay
colors_stay b c u es h = (edits_colored (record { bytes = u; colors = h }) es).colors
