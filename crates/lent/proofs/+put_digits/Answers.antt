-- The digits before the last are those of the tens, written by the call; the last one follows. The number falls at each call.
-- Assumes nothing.
use Prim.Native.Nat.{◌+◌, ◌%◌}
use native.Mathlib.Omega.{arith}
use mathlib.Core.Path.{sym}
use Rattle.lent.proofs.Digits.{decimal-one, decimal-more, decimal-length-one, decimal-length-more}
use Rattle.lent.proofs.Writes.{as_text, then_byte, nothing, wrote_length}
use Rattle.lent.proofs.+put_digits.Goals as goal

pub bounds-out-0 : goal.bounds-out-0
bounds-out-0 t c = omega (arith, decimal-length-one c.args.v (omega arith))

pub returns-then-v-lt10 : goal.returns-then-v-lt10
returns-then-v-lt10 t c = as_text (sym (decimal-one c.args.v c.if-v-lt10.true)) (then_byte (48 + c.args.v) (nothing c.args.out.now) (omega (arith, decimal-length-one c.args.v (omega arith))))

pub put_digits-n-requires : goal.put_digits-n-requires
put_digits-n-requires t c = omega (arith, decimal-length-more c.args.v (omega arith))

pub bounds-out-n : goal.bounds-out-n
bounds-out-n t c = omega (arith, wrote_length c.put_digits-n.ensures, decimal-length-more c.args.v (omega arith), c.put_digits-n.ensures.count)

pub returns : goal.returns
returns t c =
    let v = c.args.v in
    as_text (sym (decimal-more v c.if-v-lt10.false))
    (then_byte (48 + v % 10) c.put_digits-n.ensures (omega (arith, decimal-length-more v (omega arith), c.put_digits-n.ensures.count)))
