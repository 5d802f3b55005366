-- A writing that is done, in any mode, met none of the things that stand in its way: its text stands at the front of the buffer, and of a mode
-- that loses nothing no line is left out.
-- Assumes nothing.
use Rattle.std.specs.Prelude.{Option, Some, None}
use Prim.Native.Nat.{ℕ, ◌+◌, ◌<◌}
use native.Mathlib.Omega.{arith}
use mathlib.Core.Path.{◌≡◌, refl, sym, ap, ◌∙◌, subst}
use mathlib.Core.List.{List, [], ◌∷◌}
use mathlib.Core.Bool.{Bool, true, false}
use lib.ListN.{length, take, drop}
use lib.Seq.{take_at}
use lib.Dec.{eqb, ltb}
use borrow.Author.Tests.{eqb-false}
use Rattle.lists.specs.All.{All, none, next}
use Rattle.lists.specs.Pick.{pick}
use Rattle.lists.proofs.Laws.{by_pick}
use Rattle.jkf.specs.Answers.{figures, Outcome}
use Rattle.jkf.specs.declared.Answer.{Answer}
use Rattle.jkf.specs.declared.Answer.TheVariants.{Done, BufferShort, NotSound, HandCount, CannotWrite, StartsAtZero}
use Rattle.jkf.specs.Model.{Line, Record}
use Rattle.block.specs.Decode.{decode}
use Rattle.block.specs.Sound.{soundb}
use Rattle.converter.specs.declared.Mode.{Mode}
use Rattle.converter.specs.declared.Mode.TheVariants.{Plain, Whole, Shared}
use Rattle.converter.specs.Said.{left_out, said_record}
use Rattle.converter.specs.Show.{on_obstacle, hands_obstacle, line_obstacle, zero_start, start_obstacle, Showing, text, refused, show_lines, show_hands, show}
use Rattle.converter.specs.Writing.{text_stored, shown_of, write_as_of}
use Rattle.laws.specs.Modes.{text_in, LosesNothing, whole, shared, AllWritten}
use Rattle.laws.specs.Back.{LeavesNone}
use Rattle.laws.proofs.Forming.{refused as not_done}
use Rattle.laws.proofs.Back.Shown.{shown-same}

-- ---- no variation starts at 0

starts_clear : (k : ℕ) (ls : List Line) → zero_start k ls ≡ None → All (λ l. 0 < l.start) ls
unfolding zero_start
starts_clear k [] h = none
starts_clear k (l ∷ ls) h = go (eqb l.start 0) refl h (starts_clear (k + 1) ls)
  where
    go : (t : Bool) → eqb l.start 0 ≡ t → pick t (Some (k, 0)) (zero_start (k + 1) ls) ≡ None → (zero_start (k + 1) ls ≡ None → All (λ l. 0 < l.start) ls) → All (λ l. 0 < l.start) (l ∷ ls)
    go true q h ih = let z : ◌≡◌ {A = ℕ} 0 1 = cc in absurd (omega arith)
    go false q h ih = let n = eqb-false l.start 0 q in next {x = l} (omega arith) (ih h)

all_written : (mode : Mode) (r : Record) → start_obstacle mode r.lines ≡ None → AllWritten mode r
unfolding start_obstacle
all_written Plain r h = tt
all_written Whole r h = starts_clear 1 (drop 1 r.lines) h
all_written Shared r h = starts_clear 1 (drop 1 r.lines) h

-- ---- what a writing that is done says

pub record Wrote (mode : Mode) (r : Record) (n l : ℕ) (after : List ℕ) : Type 0 where
  pub starts : AllWritten mode r
  pub hands : hands_obstacle r.position ≡ None
  pub lines : line_obstacle 0 (said_record mode r).lines ≡ None
  pub front : take n after ≡ text_in mode r
  pub count : n ≡ length (text_in mode r)
  pub left : l ≡ left_out r.lines

module _ (o : List ℕ) (n l : ℕ) where
  abbrev IsDone : Showing → Type 0
  IsDone s = (shown_of s o).answer ≡ Done n l

  -- what stands in the way refuses, so it was not met
  passed : (x : Option (ℕ × ℕ)) (f : ℕ → ℕ → Answer) (s : Showing) → ((i j : ℕ) → 0 < (figures (f i j)).number) → IsDone (on_obstacle x (λ i j. refused (f i j)) s)
      → (x ≡ None) × (on_obstacle x (λ i j. refused (f i j)) s ≡ s)
  unfolding shown_of
  passed (Some (i, j)) f s h e = not_done (f i j) n l (h i j) e
  passed None f s h e = (refl, refl)

  -- a text that fits
  stored_says : (t : List ℕ) (m : ℕ) → (text_stored t m o).answer ≡ Done n l → (take n (text_stored t m o).buffer ≡ t) × (n ≡ length t) × (l ≡ m)
  unfolding text_stored figures
  stored_says t m =
      by_pick (λ (x : Outcome). x.answer ≡ Done n l → (take n x.buffer ≡ t) × (n ≡ length t) × (l ≡ m)) (ltb (length o) (length t)) _ _
      (λ _ e. not_done (BufferShort (length t)) n l (omega arith) e)
      (λ _ e. let q : length t ≡ n = ap (λ (x : Answer). (figures x).first) e in
      (take_at t (drop (length t) o) n q, sym q, sym (ap (λ (x : Answer). (figures x).second) e)))

  shown_says : (mode : Mode) (r : Record) → IsDone (show mode r) → Wrote mode r n l (shown_of (show mode r) o).buffer
  unfolding show show_hands show_lines shown_of figures
  shown_says mode r e =
      let (z, p) = passed (start_obstacle mode r.lines) (λ i j. StartsAtZero i) (show_hands mode r) (λ i j. omega arith) e in
      let e₁ : IsDone (show_hands mode r) = subst IsDone p e in
      let (h, q) = passed (hands_obstacle r.position) HandCount (show_lines mode r) (λ i j. omega arith) e₁ in
      let e₂ : IsDone (show_lines mode r) = subst IsDone q e₁ in
      let (k, s) = passed (line_obstacle 0 (said_record mode r).lines) CannotWrite (text (text_in mode r) (left_out r.lines)) (λ i j. omega arith) e₂ in
      let t = stored_says (text_in mode r) (left_out r.lines) (subst IsDone s e₂) in
      let b = ap (λ (x : Showing). take n (shown_of x o).buffer) (p ∙ q ∙ s) in
      record { starts = all_written mode r z; hands = h; lines = k; front = b ∙ t.0; count = t.1; left = t.2 }

  pub write_says : (mode : Mode) (b : List ℕ) → (write_as_of mode b o).answer ≡ Done n l → Wrote mode (decode b) n l (write_as_of mode b o).buffer
  unfolding write_as_of figures
  write_says mode b =
      by_pick (λ (x : Outcome). x.answer ≡ Done n l → Wrote mode (decode b) n l x.buffer) (soundb b) _ _
      (λ _. shown_says mode (decode b)) (λ _ e. not_done NotSound n l (omega arith) e)

-- ---- no line is left out

-- where nothing is to be lost, every variation starts past 0
pub all-later : {mode : Mode} → LosesNothing mode → (r : Record) → AllWritten mode r → All (λ l. 0 < l.start) (drop 1 r.lines)
all-later whole r z = z
all-later shared r z = z

none_left : (ls : List Line) → All (λ l. 0 < l.start) (drop 1 ls) → left_out ls ≡ 0
unfolding left_out
none_left [] z = refl
none_left (l ∷ ls) z = omega (arith, ap length (shown-same z))

pub leaves_none : LeavesNone
leaves_none mode m b o n l e =
    let w = write_says o n l mode b e in
    w.left ∙ none_left (decode b).lines (all-later m (decode b) w.starts)
