use Prim.Native.Nat.{ℕ, ◌≤◌, ◌<◌}
use native.Mathlib.Omega.{arith}
use mathlib.Core.List.{List}
use mathlib.Core.Path.{◌≡◌, refl, sym, ◌∙◌, ap}
use mathlib.Core.Bool.{true}
use lib.ListN.{length}
use Rattle.text.specs.inner.Runs.{Reading}
use Rattle.text.specs.Text.{is_digit}
use Rattle.lists.proofs.Laws.{class_in}
use Rattle.text.proofs.Laws.{digit_bounds}
use Rattle.text.proofs.Readings.{reading-more, reading_large, reading_done, reading-none}
use Rattle.text.proofs.digits_on.Goals as goal
use Rattle.text.proofs.digits_on.Goals.{After-peek-in-loop-d, then-tens-n-via-then-tens-n, then-tens-n-via-else-tens-n+then-largest-n}

-- in a turn, once the byte was read again: what was read, that it is a digit, and that it stands in the text
abbrev At : Type 0
At = After-peek-in-loop-d

abbrev S : At → List ℕ
S c = c.args.s.now

abbrev I : At → ℕ
I c = c.loop-d.at

abbrev inv : (c : At) → Reading c.args.largest (S c) c.args.start (I c) c.loop-d.n
inv c = c.loop-d.invariant

digit : (c : At) → is_digit c.peek-in-loop-d.result ≡ true
digit c =
    ap is_digit (c.peek-in-loop-d.ensures ∙ sym c.peek.ensures) ∙ sym c.is_digit.ensures ∙ c.loop-d-test.true

bounds : (c : At) → (48 ≤ c.peek-in-loop-d.result) × (c.peek-in-loop-d.result < 58)
bounds c = digit_bounds _ (digit c)

inside : (c : At) → I c < length (S c)
inside c = class_in is_digit (S c) (I c) refl (ap is_digit (sym c.peek-in-loop-d.ensures) ∙ digit c)

pub loop-d-init : goal.loop-d-init
loop-d-init c = c.requires

pub overflow_sub-d : goal.overflow_sub-d
overflow_sub-d c = (bounds c).0

pub overflow_cast-d : goal.overflow_cast-d
overflow_cast-d c = omega (arith, bounds c)

pub returns-then-tens-n : goal.returns-then-tens-n
returns-then-tens-n c =
    let at = (goal.at.returns-then-tens-n c).After-peek-in-loop-d in
    let b = bounds at in
    let large = reading_large (inv at) c.peek-in-loop-d.ensures (digit at) in
    elim c.then-tens-n.branch [ then-tens-n-via-then-tens-n w ↦ sym (large (omega arith)) | then-tens-n-via-else-tens-n+then-largest-n w ↦ sym (large (omega arith)) ]

pub overflow_sub-largest : goal.overflow_sub-largest
overflow_sub-largest c = omega (arith, bounds (goal.at.overflow_sub-largest c).After-peek-in-loop-d)

pub overflow_add-n : goal.overflow_add-n
overflow_add-n c = omega (arith, bounds (goal.at.overflow_add-n c).After-peek-in-loop-d)

pub overflow_add-at : goal.overflow_add-at
overflow_add-at c = omega (arith, inside (goal.at.overflow_add-at c).After-peek-in-loop-d)

pub loop-d-smaller : goal.loop-d-smaller
loop-d-smaller c = omega (arith, inside (goal.at.loop-d-smaller c).After-peek-in-loop-d)

pub loop-d-preserved : goal.loop-d-preserved
loop-d-preserved c = reading-more (inv (goal.at.loop-d-preserved c).After-peek-in-loop-d) c.peek-in-loop-d.ensures (digit (goal.at.loop-d-preserved c).After-peek-in-loop-d) (omega (arith, bounds (goal.at.loop-d-preserved c).After-peek-in-loop-d))

pub returns-then-at-start : goal.returns-then-at-start
returns-then-at-start c =
    sym (reading-none c.loop-d.invariant c.peek.ensures (sym c.is_digit.ensures ∙ c.loop-d-test.false) c.if-at-start.true)

pub returns : goal.returns
returns c =
    sym (reading_done c.loop-d.invariant c.peek.ensures (sym c.is_digit.ensures ∙ c.loop-d-test.false) c.if-at-start.false)
