-- Bytes that are surely plain are of the key, and their number is made of them digit by digit; else the answer is 0, which promises nothing.
-- Assumes nothing.
use native.Mathlib.Omega.{arith}
use native.Mathlib.Nat.{not-suc-le-zero}
use Rattle.sorted.proofs.Keys.{is_four}
use Rattle.sorted.proofs.four.Goals as goal

pub returns-then-not-calm : goal.returns-then-not-calm
returns-then-not-calm c h = absurd (not-suc-le-zero h)

pub returns-then-not-calm-2 : goal.returns-then-not-calm-2
returns-then-not-calm-2 c h = absurd (not-suc-le-zero h)

pub returns-then-not-calm-3 : goal.returns-then-not-calm-3
returns-then-not-calm-3 c h = absurd (not-suc-le-zero h)

pub returns-then-not-calm-4 : goal.returns-then-not-calm-4
returns-then-not-calm-4 c h = absurd (not-suc-le-zero h)

pub returns : goal.returns
returns c h =
    let a = c.args in
    is_four a.s.now a.at _ _ _ _ (omega arith) (c.calm.ensures (c.if-not-calm.false)) (c.calm-2.ensures (c.if-not-calm-2.false)) (c.calm-3.ensures (c.if-not-calm-3.false)) (c.calm-4.ensures (c.if-not-calm-4.false)) c.wide.ensures c.wide-2.ensures c.wide-3.ensures c.wide-4.ensures
