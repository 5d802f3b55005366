-- The bytes of the code are the spelling (`digit-spelled`).
-- Assumes nothing.
use Prim.Native.Nat.{ℕ, ◌-◌}
use native.Mathlib.Omega.{arith}
use mathlib.Core.List.{List}
use mathlib.Core.Path.{◌≡◌, sym, ◌∙◌, ap}
use lib.ListN.{length, get_or}
use Rattle.spell.proofs.Codes.{keys_length, digit-spelled, digit_unspelled}
use Rattle.spell.specs.inner.Codes.{bytes_of, codes}
use Rattle.lent.proofs.Writes.{as_text, nothing, fitting_nothing, low_byte}
use Rattle.lent.specs.Bytes.{fitting}
use Rattle.spell.proofs.digits.put_digit.Goals as goal

pub returns-then-i-lt1 : goal.returns-then-i-lt1
returns-then-i-lt1 c =
    let a = c.args in
    λ es d.
    let l : length a.codes.now ≡ length es = ap length d.whole ∙ keys_length es in
    as_text (sym (fitting_nothing _ (digit_unspelled 1 es d.fits a.n (λ p q. omega arith)))) (nothing _)

pub overflow_cast-x : goal.overflow_cast-x
overflow_cast-x c = low_byte _

pub overflow_cast-x-2 : goal.overflow_cast-x-2
overflow_cast-x-2 c = low_byte _

pub overflow_cast-x-3 : goal.overflow_cast-x-3
overflow_cast-x-3 c = low_byte _

pub returns : goal.returns
returns c =
    let a = c.args in
    let o = a.out.now in
    let i : c.wide-i.result - 1 ≡ a.n - 1 = omega arith in
    λ es d.
    let l : length a.codes.now ≡ length es = ap length d.whole ∙ keys_length es in
    let k : get_or a.codes.now (c.wide-i.result - 1) 0 ≡ get_or (codes es) (a.n - 1) 0 = ap (λ (m : ℕ). get_or a.codes.now m 0) i ∙ ap (λ (s : List ℕ). get_or s (a.n - 1) 0) d.whole in
    let e = digit-spelled 1 es d.fits a.n (omega arith) (omega arith) in
    as_text (ap (λ (x : ℕ). fitting (bytes_of x) o) k ∙ ap (λ (t : List ℕ). fitting t o) (sym e)) c.put_bytes.ensures
