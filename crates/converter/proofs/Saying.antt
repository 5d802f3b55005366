-- What a mode says of the entries and lines of a block: an entry and a line each by itself, the lines that are shown in their order, and the
-- first that would not be.
-- Assumes nothing.
use Rattle.std.specs.Prelude.{Some, None}
use Prim.Native.Nat.{ℕ, ◌+◌, ◌-◌, ◌≤◌, ◌<◌}
use native.Mathlib.Omega.{arith}
use mathlib.Core.Path.{◌≡◌, refl, sym, ap, ap₂, ◌∙◌}
use mathlib.Core.Bool.{Bool, true, false}
use mathlib.Core.List.{List, [], ◌∷◌, map}
use lib.ListN.{length}
use lib.Dec.{eqb}
use borrow.Author.Tests.{eqb-true}
use Rattle.lists.specs.Pick.{pick}
use Rattle.jkf.specs.declared.Clock.{Clock}
use Rattle.jkf.specs.declared.Clock.TheVariants.{Hms, Ms}
use Rattle.jkf.specs.declared.Time.{Time}
use Rattle.jkf.specs.declared.Time.TheVariants.{Untimed, Timed}
use Rattle.jkf.specs.Model.{Line}
use Rattle.block.specs.Decode.{decode, run, lines_in, first_entry, entry_count, noted_in, line_in}
use Rattle.block.specs.inner.Sounds.{Sound}
use Rattle.block.proofs.Tabling.{length_run, run-first, map-run}
use Rattle.block.proofs.Within.{some-line, some-entry, first-none}
use Rattle.converter.specs.declared.Mode.{Mode}
use Rattle.converter.specs.declared.Mode.TheVariants.{Plain, Whole, Shared}
use Rattle.converter.specs.Said.{hour, minute, second, said_mark, said_now, said_total, said_time, said_noted, said_line, shown, said_lines}
use Rattle.converter.specs.Show.{zero_start}
use Rattle.converter.specs.inner.Lines.{noted_said, line_said, ShownLines}

-- ---- an entry

-- whether it promotes is said in every mode
pub mark-promotes : (mode : Mode) (p : ℕ) → eqb (said_mark mode p) 2 ≡ eqb p 2
unfolding said_mark
mark-promotes Plain p = go (eqb p 1) refl
  where
    go : (t : Bool) → eqb p 1 ≡ t → eqb (pick t 0 p) 2 ≡ eqb p 2
    go true e = rw (eqb-true p 1 e)
    go false e = refl
mark-promotes Whole p = refl
mark-promotes Shared p = refl

-- a time without an hour and a total with one are said in every mode as they are
pub usual_time : (mode : Mode) (m s h n z : ℕ) → said_time mode (Timed (Ms m s) (Hms h n z)) ≡ Timed (Ms m s) (Hms h n z)
unfolding said_time said_now said_total
usual_time Plain m s h n z = refl
usual_time Whole m s h n z = refl
usual_time Shared m s h n z = refl

-- the plain text says minutes and seconds of now, and three figures of the total
pub plain-clocks : (now total : Clock) {m s h n z : ℕ} → m ≡ minute now → s ≡ second now → h ≡ hour total → n ≡ minute total → z ≡ second total
    → Timed (Ms m s) (Hms h n z) ≡ said_time Plain (Timed now total)
unfolding said_time said_now said_total
plain-clocks now total {z = z} e f g i k = ap₂ Timed (ap₂ Ms e f) (ap₂ (λ (a b : ℕ). Hms a b z) g i ∙ ap (Hms (hour total) (minute total)) k)

-- those that lose nothing say every time as it is
pub whole-time : (t : Time) → t ≡ said_time Whole t
unfolding said_time said_now said_total
whole-time Untimed = refl
whole-time (Timed now total) = refl

pub shared-time : (t : Time) → t ≡ said_time Shared t
unfolding said_time said_now said_total
shared-time Untimed = refl
shared-time (Timed now total) = refl

-- ---- lines

module _ (mode : Mode) (b : List ℕ) where
  -- the entries of a line, each as it is said
  pub entries-said : (k : ℕ) → (line_said mode b k).entries ≡ run (noted_said mode b) (first_entry b k) (entry_count b k)
  unfolding said_line
  entries-said k = map-run (noted_in b) (said_noted mode) (first_entry b k) (entry_count b k)

  -- of line 0 the slot first
  pub slot-first : Sound b → (line_said mode b 0).entries ≡ noted_said mode b 0 ∷ run (noted_said mode b) 1 (entry_count b 0 - 1)
  slot-first s =
      entries-said 0 ∙ ap (λ (i : ℕ). run (noted_said mode b) i (entry_count b 0)) (first-none b s)
      ∙ run-first (noted_said mode b) 0 (entry_count b 0) (some-entry b s 0 (some-line b s))

  -- the lines that are shown
  pub lines-said : {n : ℕ} → ShownLines b n → said_lines mode (decode b).lines ≡ run (line_said mode b) 0 n
  unfolding decode said_lines
  lines-said {n} v =
      ap (said_lines mode) (run-first (line_in b) 0 (lines_in b) (omega (arith, v.some, v.most)))
      ∙ ap (λ (ls : List Line). line_said mode b 0 ∷ map (said_line mode) ls) v.later
      ∙ ap (λ (ls : List Line). line_said mode b 0 ∷ ls) (map-run (line_in b) (said_line mode) 1 (n - 1))
      ∙ sym (run-first (line_said mode b) 0 n v.some)

-- ---- a variation that starts at 0

-- there is none where all are shown
all_shown : (k : ℕ) (ls : List Line) → length (shown ls) ≡ length ls → zero_start k ls ≡ None
unfolding zero_start shown
all_shown k [] e = refl
all_shown k (l ∷ ls) e = go (eqb l.start 0) e (all_shown (k + 1) ls)
  where
    go : (t : Bool) → length (pick t [] (l ∷ shown ls)) ≡ length (l ∷ ls) → (length (shown ls) ≡ length ls → zero_start (k + 1) ls ≡ None)
        → pick t (Some (k, 0)) (zero_start (k + 1) ls) ≡ None
    go true e ih = absurd (omega arith)
    go false e ih = ih (omega arith)

-- and else it stands behind those that are shown
not_shown : (k : ℕ) (ls : List Line) → length (shown ls) < length ls → zero_start k ls ≡ Some (k + length (shown ls), 0)
unfolding zero_start shown
not_shown k [] h = absurd (omega arith)
not_shown k (l ∷ ls) h = go (eqb l.start 0) h (not_shown (k + 1) ls)
  where
    go : (t : Bool) → length (pick t [] (l ∷ shown ls)) < length (l ∷ ls)
        → (length (shown ls) < length ls → zero_start (k + 1) ls ≡ Some (k + 1 + length (shown ls), 0))
        → pick t (Some (k, 0)) (zero_start (k + 1) ls) ≡ Some (k + length (pick t [] (l ∷ shown ls)), 0)
    go true h ih = let e : k ≡ k + 0 = omega arith in ap (λ (i : ℕ). Some (i, 0)) e
    go false h ih =
        let e : k + 1 + length (shown ls) ≡ k + length (l ∷ shown ls) = omega arith in
        ih (omega arith) ∙ ap (λ (i : ℕ). Some (i, 0)) e

module _ {b : List ℕ} {n : ℕ} (v : ShownLines b n) where
  later-shown : length (shown (run (line_in b) 1 (lines_in b - 1))) ≡ n - 1
  later-shown = ap length v.later ∙ length_run (line_in b) 1 (n - 1)

  pub zero_none : lines_in b ≤ n → zero_start 1 (run (line_in b) 1 (lines_in b - 1)) ≡ None
  zero_none h = all_shown 1 _ (omega (arith, later-shown, length_run (line_in b) 1 (lines_in b - 1), v.most))

  pub zero_at : n < lines_in b → zero_start 1 (run (line_in b) 1 (lines_in b - 1)) ≡ Some (n, 0)
  zero_at h =
      let e : 1 + length (shown (run (line_in b) 1 (lines_in b - 1))) ≡ n = omega (arith, later-shown, v.some) in
      not_shown 1 _ (omega (arith, later-shown, length_run (line_in b) 1 (lines_in b - 1), v.some)) ∙ ap (λ (i : ℕ). Some (i, 0)) e
