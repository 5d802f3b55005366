-- A line goes past its place and no further than the text, so that a count goes by its steps alone, and no number in it passes its place.
-- Assumes nothing.
use Rattle.std.specs.Prelude.{Option, Some, None}
use Prim.Native.Nat.{ℕ, ◌+◌, ◌≤◌, ◌<◌}
use native.Mathlib.Omega.{arith}
use mathlib.Core.Path.{◌≡◌, refl, sym, ap, subst, ◌∙◌}
use mathlib.Core.List.{List}
use lib.ListN.{length}
use Rattle.lists.specs.Repeat.{Step, more, stop, Ended, on_step, repeat_from}
use Rattle.lists.proofs.Repeats.{Goes, repeat_more, repeat_stop}
use Rattle.text.specs.Text.{on_place}
use Rattle.text.specs.declared.Cursor.{Cursor}
use Rattle.text.proofs.Laws.{After}
use Rattle.moves.specs.Moves.{on_move_line, on_remark, move_line_at, comment_line_at, skip_line_at}
use Rattle.moves.specs.declared.MoveLine.{MoveLine}
use Rattle.moves.specs.declared.Remark.{Remark}
use Rattle.moves.proofs.Goings.{move_goes, remark_goes, skip_goes}
use Rattle.reader.specs.TextLines.{skip_at, text_line_at}
use Rattle.reader.specs.LinesPassed.{count_line, count_step, none_at, passed_over}
use Rattle.reader.specs.inner.Steps.{with_line, WithinPlace}
use Rattle.reader.specs.declared.TextLine.{TextLine}
use Rattle.reader.specs.declared.TextLine.TheVariants.{Played, Remarked, Skipped, Nothing}
use Rattle.reader.specs.declared.PassedLines.{PassedLines}

-- ---- how far a line goes

abbrev pub LineGoes : ℕ → ℕ → TextLine → Type 0
LineGoes at n (Played ply e next) = After at n next
LineGoes at n (Remarked from to next) = After at n next
LineGoes at n (Skipped next) = After at n next
LineGoes at n Nothing = Unit {0}

line_goes : (s : List ℕ) (at : ℕ) → LineGoes at (length s) (text_line_at s at)
unfolding text_line_at skip_at
line_goes s at = by-move (move_line_at s at) refl
  where
    by-skip : (r : Option Cursor) → skip_line_at s at ≡ r → LineGoes at (length s) (on_place r Skipped Nothing)
    by-skip (Some next) q = skip_goes s at next q
    by-skip None q = tt

    by_remark : (r : Option Remark) → comment_line_at s at ≡ r → LineGoes at (length s) (on_remark r Remarked (on_place (skip_line_at s at) Skipped Nothing))
    by_remark (Some r) q = let (a, b, d, e) = remark_goes s at r.from r.to r.next q in record { past = omega arith; within = e }
    by_remark None q = by-skip (skip_line_at s at) refl

    by-move : (r : Option MoveLine) → move_line_at s at ≡ r → LineGoes at (length s) (on_move_line r Played (on_remark (comment_line_at s at) Remarked (on_place (skip_line_at s at) Skipped Nothing)))
    by-move (Some r) q = move_goes s at r.number r.entry r.next q
    by-move None q = by_remark (comment_line_at s at) refl

-- the same of an answer, where it is known which it is
pub answer_goes : (s : List ℕ) (at : ℕ) (r l : TextLine) → r ≡ text_line_at s at → r ≡ l → LineGoes at (length s) l
answer_goes s at r l e f = subst (LineGoes at (length s)) (sym e ∙ f) (line_goes s at)

step_goes : (s : List ℕ) → Goes (count_step s) (length s)
step_goes s at p at' q = go (text_line_at s at) (line_goes s at)
  where
    on : (next : Cursor) (r : PassedLines) → After at (length s) next → more next.at r ≡ more at' q → (at < at') × (at' ≤ length s)
    on next r h k = let z : next.at ≡ at' = cc in (omega (arith, h.past), omega (arith, h.within))

    go : (l : TextLine) → LineGoes at (length s) l → count_line s at p l ≡ more at' q → (at < at') × (at' ≤ length s)
    go (Played n e next) h k = on next _ h k
    go (Remarked from to next) h k = on next _ h k
    go (Skipped next) h k = on next _ h k
    go Nothing h k = let z : ◌≡◌ {A = ℕ} 0 1 = cc in absurd (omega arith)

-- ---- the loop that counts

-- a count that goes on
abbrev pub on_from : List ℕ → PassedLines → PassedLines
on_from s p = (repeat_from (count_step s) (length s) p.end p).state

-- what the loop keeps: the count goes on to the same, and its numbers are small
pub record GoesOn (s : List ℕ) (at : ℕ) (p : PassedLines) : Type 0 where
  pub same : passed_over s at ≡ on_from s p
  pub small : WithinPlace p

pub goes_first : (s : List ℕ) (at : ℕ) → GoesOn s at (none_at at)
unfolding passed_over
goes_first s at = record { same = refl; small = record { moves = omega arith; comments = omega arith; skips = omega arith } }

-- a turn of it
pub record Turned (s : List ℕ) (p q : PassedLines) : Type 0 where
  pub on : p.end < q.end
  pub within : q.end ≤ length s
  pub same : on_from s p ≡ on_from s q
  pub small : WithinPlace p → WithinPlace q

pub turned : (s : List ℕ) (p q : PassedLines) → with_line s p ≡ Some q → Turned s p q
unfolding with_line
turned s p q = go (text_line_at s p.end) refl
  where
    made : (r : PassedLines) → count_step s p.end p ≡ more r.end r → r.moves ≤ p.moves + 1 → r.comments ≤ p.comments + 1 → r.skips ≤ p.skips + 1 → Some r ≡ Some q → Turned s p q
    made r e m c k f =
        let h = step_goes s p.end p r.end r e in
        let z : r ≡ q = cc in
        subst (Turned s p) z (record {
          on = h.0;
          within = h.1;
          same = ap (λ (x : Ended PassedLines). x.state) (repeat_more (count_step s) (length s) (step_goes s) p.end p r.end r e);
          small = λ w. record { moves = omega (arith, h.0, w.moves); comments = omega (arith, h.0, w.comments); skips = omega (arith, h.0, w.skips) };
        })

    go : (l : TextLine) → text_line_at s p.end ≡ l → on_step (count_line s p.end p l) (λ next r. Some r) None ≡ Some q → Turned s p q
    go (Played n e next) f k = made _ (rw f) (omega arith) (omega arith) (omega arith) k
    go (Remarked from to next) f k = made _ (rw f) (omega arith) (omega arith) (omega arith) k
    go (Skipped next) f k = made _ (rw f) (omega arith) (omega arith) (omega arith) k
    go Nothing f k = let z : ◌≡◌ {A = ℕ} 0 1 = cc in absurd (omega arith)

pub goes_turn : (s : List ℕ) (at : ℕ) (p q : PassedLines) → GoesOn s at p → Turned s p q → GoesOn s at q
goes_turn s at p q k t = record { same = k.same ∙ t.same; small = t.small k.small }

-- the last
pub goes_last : (s : List ℕ) (at : ℕ) (p : PassedLines) → GoesOn s at p → with_line s p ≡ None → passed_over s at ≡ p
unfolding with_line
goes_last s at p k e = k.same ∙ go (count_step s p.end p) refl e
  where
    go : (r : Step PassedLines) → count_step s p.end p ≡ r → on_step r (λ next q. Some q) None ≡ None → on_from s p ≡ p
    go (more next q) f h = let z : ◌≡◌ {A = ℕ} 0 1 = cc in absurd (omega arith)
    go stop f h = ap (λ (x : Ended PassedLines). x.state) (repeat_stop (count_step s) (length s) p.end p f)
