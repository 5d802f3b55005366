-- Comments, and move lines with their comments, read back one after the other.
-- Assumes nothing.
use Rattle.std.specs.Prelude.{Some, None}
use Prim.Native.Nat.{ℕ, ◌+◌, ◌-◌, ◌≤◌}
use mathlib.Core.Path.{◌≡◌, refl, ◌∙◌}
use mathlib.Core.List.{List, [], ◌∷◌, ◌++◌, map, append_assoc}
use mathlib.Core.Bool.{Bool, true, false, false≢true, not}
use lib.ListN.{get_or, take, drop}
use lib.Dec.{eqb}
use borrow.Author.Tests.{eqb-true}
use Rattle.lists.specs.All.{All, none, next}
use Rattle.lists.specs.Pick.{pick}
use Rattle.lists.specs.Repeat.{ended}
use Rattle.lists.proofs.Laws.{pick_both, range}
use Rattle.lists.proofs.Stand.{Stands, Came, Reads, Off, then, came, stands_between}
use Rattle.text.specs.Text.{cursor, is_text, is_blank, is_digit}
use Rattle.spell.proofs.Counts.{tag_reads}
use Rattle.jkf.specs.Model.{Noted}
use Rattle.block.specs.Encode.{concat}
use Rattle.moves.specs.Moves.{remark_from, kept_at, comment_line_at, move_line_at}
use Rattle.moves.specs.declared.Remark.{Remark}
use Rattle.moves.specs.declared.MoveLine.{MoveLine}
use Rattle.moves.specs.Fits.{EntryFits}
use Rattle.plays.specs.Plays.{comments_at, entries_at, ply_at}
use Rattle.plays.proofs.Items.{comments-more, comments-none, entries-more, entries_none}
use Rattle.converter.specs.Entries.{entry_line, star_text, remark_text, remarks_text, noted_text, entries_text}
use Rattle.converter.specs.declared.Mode.{Mode}
use Rattle.converter.specs.Said.{said_noted}
use Rattle.laws.specs.Modes.{LosesNothing}
use Rattle.laws.specs.Sayable.{every_byte, OneLine, Follows}
use Rattle.laws.proofs.Back.Leaves.{pick_neither, byte_fails, blanks_none, digits_fail, tail_reads, break-reads, decimal-reads, padded_blanks, padded_off}
use Rattle.laws.proofs.Back.MoveLines.{line_reads}

-- ---- comments

-- what begins a comment line
abbrev pub is_mark : ℕ → Bool
is_mark b = pick (eqb b 42) true (eqb b 38)

-- a comment line and where it ends
remark_came : (t : List ℕ) → OneLine t → {s : List ℕ} {at : ℕ} (r : List ℕ) → Stands s at (remark_text t ++ r) → {B : Type 0}
    → ((from to next : ℕ) → comment_line_at s at ≡ Some (record { from = (cursor from); to = (cursor to); next = (cursor next) }) → take (to - from) (drop from s) ≡ t → Stands s next r → B) → B
unfolding remark_text star_text comment_line_at remark_from kept_at
remark_came t h {s} {at} r st k = go t (eqb (get_or t 0 0) 38) refl h st k
  where
    go : (t : List ℕ) (u : Bool) → eqb (get_or t 0 0) 38 ≡ u → OneLine t → Stands s at (((pick u [] (42 ∷ []) ++ t) ++ (10 ∷ [])) ++ r) → {B : Type 0}
        → ((from to next : ℕ) → comment_line_at s at ≡ Some (record { from = (cursor from); to = (cursor to); next = (cursor next) }) → take (to - from) (drop from s) ≡ t → Stands s next r → B) → B
    go t false e h st k =
        then (tag_reads (42 ∷ [])) (simp append_assoc at st) tt λ e₁ i₁ l₁.
        then (tail_reads t h) l₁ refl λ e₂ i₂ l₂.
        then break-reads l₂ tt λ e₃ i₃ l₃.
        k e₁ e₂ e₃ (rw (i₁, i₂, i₃)) (stands_between t l₁ l₂) l₃
    go [] true e h st k = absurd (false≢true e)
    go (b ∷ t) true e h st k =
        let q : b ≡ 38 = eqb-true b 38 e in
        let st' = simp append_assoc at st in
        let z : eqb b 42 ≡ false = rw q in
        then (tag_reads (38 ∷ [])) (rw q at st') tt λ e₁ i₁ l₁.
        then (tail_reads t (pick_both (is_text b) (every_byte is_text t) h).1) l₁ refl λ e₂ i₂ l₂.
        then break-reads l₂ tt λ e₃ i₃ l₃.
        k at e₂ e₃ (rw (byte_fails 42 [] st' z, i₁, i₂, i₃)) (stands_between (b ∷ t) st' l₂) l₃

remark_stops : {s : List ℕ} {at : ℕ} (r : List ℕ) → Stands s at r → Off is_mark r → comment_line_at s at ≡ None
unfolding comment_line_at kept_at
remark_stops r st o = let (p, q) = pick_neither (eqb (get_or r 0 0) 42) (eqb (get_or r 0 0) 38) o in rw (byte_fails 42 [] st p, byte_fails 38 [] st q)

pub comments-read : (cs : List (List ℕ)) → All OneLine cs → Reads comments_at (λ e. ended e cs) (remarks_text cs) (Off is_mark)
unfolding remarks_text concat
comments-read [] none = record { run = λ s at r st c. record { end = at; is = comments-none s at (remark_stops r st c); left = st } }
comments-read (t ∷ cs) (next h hs) = record {
  run = λ s at r st c.
      remark_came t h _ (simp append_assoc at st) λ from to n i j l.
      then (comments-read cs hs) l c λ e₂ i₂ l₂.
      record { end = e₂; is = comments-more s at (cursor from) (cursor to) (cursor n) i ∙ rw (j, i₂); left = l₂ };
}

-- ---- entries

-- an entry that can be read back where it is printed at a ply
pub record NotedFits (ply : ℕ) (e : Noted) : Type 0 where
  pub number : ply ≤ 18446744073709551615
  pub entry : EntryFits e.what
  pub color : Follows ply e.what
  pub comments : All OneLine e.comments

pub data EntriesFit : ℕ → List Noted → Type 0 where
  done : {ply : ℕ} → EntriesFit ply []
  also : {ply : ℕ} {e : Noted} {es : List Noted} → NotedFits ply e → EntriesFit (ply + 1) es → EntriesFit ply (e ∷ es)

-- what follows the last: no comment, and neither a blank nor a digit
pub record After (r : List ℕ) : Type 0 where
  pub marks : Off is_mark r
  pub blanks : Off is_blank r
  pub digits : Off is_digit r

line_off : (f : ℕ → Bool) → f 32 ≡ false → range (λ b. not (f b)) 48 10 ≡ true → (ply : ℕ) (e : Noted) (r : List ℕ) → Off f (noted_text ply e ++ r)
unfolding noted_text entry_line
line_off f h k ply e r = simp append_assoc (padded_off f 4 ply _ h k)

-- entries begin with a blank or a digit
pub entries_off : (f : ℕ → Bool) → f 32 ≡ false → range (λ b. not (f b)) 48 10 ≡ true → (ply : ℕ) (es : List Noted) (r : List ℕ) → Off f r → Off f (entries_text ply es ++ r)
unfolding entries_text
entries_off f h k ply [] r o = o
entries_off f h k ply (e ∷ es) r o = rw append_assoc (line_off f h k ply e (entries_text (ply + 1) es ++ r))

line_stops : {s : List ℕ} {at : ℕ} (r : List ℕ) → Stands s at r → After r → move_line_at s at ≡ None
unfolding move_line_at
line_stops r st a = rw (blanks_none st a.blanks, digits_fail 18446744073709551615 st a.digits)

pub entries-read : {mode : Mode} → LosesNothing mode → (ply : ℕ) (es : List Noted) → EntriesFit ply es
    → Reads entries_at (λ e. ended e es) (entries_text ply (map (said_noted mode) es)) After
unfolding entries_text noted_text said_noted
entries-read n ply [] done = record { run = λ s at r st a. record { end = at; is = entries_none s at (line_stops r st a); left = st } }
entries-read {mode} n ply (e ∷ es) (also f fs) = record {
  run = λ s at r st a. first f fs s at r st a (entries-read n (ply + 1) es fs);
}
  where
    first : NotedFits ply e → EntriesFit (ply + 1) es → (s : List ℕ) (at : ℕ) (r : List ℕ)
        → Stands s at ((noted_text ply (said_noted mode e) ++ entries_text (ply + 1) (map (said_noted mode) es)) ++ r) → After r
        → Reads entries_at (λ n. ended n es) (entries_text (ply + 1) (map (said_noted mode) es)) After → Came (entries_at s at) (λ n. ended n (e ∷ es)) s r
    first f fs s at r st a ih =
        then (line_reads n ply e.what f.number f.entry f.color) (simp append_assoc at st) tt λ e₁ i₁ l₁.
        then (comments-read e.comments f.comments) l₁ (entries_off is_mark refl refl (ply + 1) (map (said_noted mode) es) r a.marks) λ e₂ i₂ l₂.
        then ih l₂ a λ e₃ i₃ l₃.
        record { end = e₃; is = entries-more s at ply e.what (cursor e₁) i₁ ∙ rw (i₂, i₃); left = l₃ }

-- the number that is printed first
pub ply_came : (ply : ℕ) (e : Noted) (es : List Noted) → ply ≤ 18446744073709551615 → {s : List ℕ} {at : ℕ} (r : List ℕ) → Stands s at (entries_text ply (e ∷ es) ++ r) → ply_at s at ≡ ply
unfolding ply_at entries_text noted_text entry_line
ply_came ply e es n r st =
    came (padded_blanks 4 ply _ (simp append_assoc at st)) λ e₀ i₀ l₀.
    then (decimal-reads ply n) l₀ refl λ e₁ i₁ l₁.
    rw (i₀, i₁)
