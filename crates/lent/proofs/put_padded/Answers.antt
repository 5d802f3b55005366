-- A number as wide as asked stands alone; else the run that is missing is written, and the digits after it.
-- Assumes nothing.
use Prim.Native.Nat.{ℕ, ◌-◌}
use native.Mathlib.Omega.{arith}
use mathlib.Core.List.{List, ◌++◌}
use mathlib.Core.Path.{sym, ap, ◌∙◌}
use lib.ListN.{replicate, length-replicate}
use Rattle.lent.proofs.Digits.{padded-none, padded-some, padded-length}
use Rattle.lent.proofs.Writes.{as_text, unwritten, written, wrote_all, wrote_length, rest_length, then}
use Rattle.lent.specs.Numbers.{decimal}
use Rattle.lent.specs.Bytes.{fitting}
use Rattle.lent.proofs.put_padded.Goals as goal

pub returns-then-width-digits : goal.returns-then-width-digits
returns-then-width-digits c =
    let a = c.args in
    as_text (ap (λ (t : List ℕ). fitting t a.out.now) (sym (padded-none a.width a.fill a.v (omega arith)))) c.put_decimal.ensures

pub returns-then-out-width : goal.returns-then-out-width
returns-then-out-width c =
    let a = c.args in
    unwritten _ _ (omega (arith, padded-length a.width a.fill a.v))

pub put_digits-requires : goal.put_digits-requires
put_digits-requires c =
    let a = c.args in
    let k = c.decimal_len-digits.result in
    let n = length-replicate (a.width - k) a.fill in
    let r = wrote_all {t = replicate (a.width - k) a.fill} (omega arith) c.put_run-n.ensures in
    omega (arith, rest_length c.put_run-n.new.out c.put_run-n.result, wrote_length r, r.count)

pub returns : goal.returns
returns c =
    let a = c.args in
    let k = c.decimal_len-digits.result in
    let n = length-replicate (a.width - k) a.fill in
    let r = wrote_all {t = replicate (a.width - k) a.fill} (omega arith) c.put_run-n.ensures in
    written (as_text (ap (λ (m : ℕ). replicate (a.width - m) a.fill ++ decimal a.v) c.decimal_len-digits.ensures ∙ sym (padded-some a.width a.fill a.v)) (then r c.put_digits.ensures))
