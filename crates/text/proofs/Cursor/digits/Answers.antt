-- One digit and two make their number (`one-digit`, `two_digits`); from a third one on, or up to a small number, `digits_on` goes on.
-- Assumes nothing.
-- the first byte is a digit, and the second
use native.Mathlib.Omega.{arith}
use mathlib.Core.Path.{◌≡◌, sym, ◌∙◌}
use mathlib.Core.Bool.{true}
use Rattle.text.specs.Text.{is_digit}
use Rattle.text.proofs.Laws.{digit_bounds}
use Rattle.text.proofs.Readings.{reading-start, no-digit, one-digit, two, two-digits, digit_in}
use Rattle.text.proofs.Cursor.digits.Goals as goal
use Rattle.text.proofs.Cursor.digits.Goals.{Else-not-is_digit, Else-not-is_digit-2}

first : (c : Else-not-is_digit) → is_digit c.peek-a.result ≡ true
first c = sym c.is_digit.ensures ∙ c.if-not-is_digit.false

second : (c : Else-not-is_digit-2) → is_digit c.peek-b.result ≡ true
second c = sym c.is_digit-2.ensures ∙ c.if-not-is_digit-2.false

pub digits_on-requires : goal.digits_on-requires
digits_on-requires c = reading-start _ _ _

pub returns-then-largest-lt99 : goal.returns-then-largest-lt99
returns-then-largest-lt99 c = c.digits_on.ensures

pub returns-then-not-is_digit : goal.returns-then-not-is_digit
returns-then-not-is_digit c = sym (no-digit _ _ _ _ c.peek-a.ensures (sym c.is_digit.ensures ∙ c.if-not-is_digit.true))

pub overflow_add-start : goal.overflow_add-start
overflow_add-start c = omega (arith, digit_in c.args.s.now c.args.self.at _ c.peek-a.ensures (first c))

pub overflow_sub-result : goal.overflow_sub-result
overflow_sub-result c = omega (arith, digit_bounds c.peek-a.result (first (goal.at.overflow_sub-result c).Else-not-is_digit))

pub overflow_cast-result : goal.overflow_cast-result
overflow_cast-result c = omega (arith, digit_bounds c.peek-a.result (first (goal.at.overflow_cast-result c).Else-not-is_digit))

pub overflow_add-result : goal.overflow_add-result
overflow_add-result c = omega (arith, digit_in c.args.s.now c.args.self.at _ c.peek-a.ensures (first (goal.at.overflow_add-result c).Else-not-is_digit))

pub returns-then-not-is_digit-2 : goal.returns-then-not-is_digit-2
returns-then-not-is_digit-2 c = sym (one-digit c.args.largest c.args.s.now c.args.self.at _ _ (omega arith) c.peek-a.ensures (first (goal.at.returns-then-not-is_digit-2 c).Else-not-is_digit) c.peek-b.ensures (sym c.is_digit-2.ensures ∙ c.if-not-is_digit-2.true))

pub overflow_sub-n : goal.overflow_sub-n
overflow_sub-n c = omega (arith, digit_bounds c.peek-a.result (first (goal.at.overflow_sub-n c).Else-not-is_digit))

pub overflow_mul-n : goal.overflow_mul-n
overflow_mul-n c = omega (arith, digit_bounds c.peek-a.result (first (goal.at.overflow_mul-n c).Else-not-is_digit))

pub overflow_sub-n-2 : goal.overflow_sub-n-2
overflow_sub-n-2 c = omega (arith, digit_bounds c.peek-b.result (second c))

pub overflow_add-n : goal.overflow_add-n
overflow_add-n c = omega (arith, digit_bounds c.peek-a.result (first (goal.at.overflow_add-n c).Else-not-is_digit), digit_bounds c.peek-b.result (second c))

pub overflow_cast-n : goal.overflow_cast-n
overflow_cast-n c = omega (arith, digit_bounds c.peek-a.result (first (goal.at.overflow_cast-n c).Else-not-is_digit), digit_bounds c.peek-b.result (second c))

pub overflow_add-start-2 : goal.overflow_add-start-2
overflow_add-start-2 c = omega (arith, digit_in c.args.s.now c.args.self.at _ c.peek-a.ensures (first (goal.at.overflow_add-start-2 c).Else-not-is_digit))

pub overflow_add-start-then-is_digit : goal.overflow_add-start-then-is_digit
overflow_add-start-then-is_digit c = omega (arith, digit_in c.args.s.now c.args.self.at _ c.peek-a.ensures (first (goal.at.overflow_add-start-then-is_digit c).Else-not-is_digit))

pub digits_on-requires-then-is_digit : goal.digits_on-requires-then-is_digit
digits_on-requires-then-is_digit c = two c.args.largest c.args.s.now c.args.self.at _ _ (omega arith) c.peek-a.ensures (first (goal.at.digits_on-requires-then-is_digit c).Else-not-is_digit) c.peek-b.ensures (second (goal.at.digits_on-requires-then-is_digit c).Else-not-is_digit-2)

pub returns-then-is_digit : goal.returns-then-is_digit
returns-then-is_digit c = c.digits_on-then-is_digit.ensures

pub overflow_add-result-2 : goal.overflow_add-result-2
overflow_add-result-2 c = omega (arith, digit_in c.args.s.now c.args.self.at _ c.peek-a.ensures (first (goal.at.overflow_add-result-2 c).Else-not-is_digit))

pub returns : goal.returns
returns c = sym (two-digits c.args.largest c.args.s.now c.args.self.at _ _ (omega arith) c.peek-a.ensures (first (goal.at.returns c).Else-not-is_digit) c.peek-b.ensures (second (goal.at.returns c).Else-not-is_digit-2) _ c.peek.ensures (sym c.is_digit-3.ensures ∙ c.if-is_digit.false))
