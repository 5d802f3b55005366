-- The digits are counted before anything is written: a number below 2^64 has at most 20.
-- Assumes nothing.
use native.Mathlib.Omega.{arith}
use Rattle.lent.proofs.Writes.{unwritten, written}
use Rattle.lent.proofs.Digits.{digits_twenty}
use Rattle.shown.proofs.Texts.{refusal_length}
use Rattle.shown.proofs.rows.put_refusal.Goals as goal

pub overflow_add-digits : goal.overflow_add-digits
overflow_add-digits c =
    let a = c.args in
    omega (arith, digits_twenty a.number (omega arith), digits_twenty a.first (omega arith))

pub overflow_add-digits-2 : goal.overflow_add-digits-2
overflow_add-digits-2 c =
    let a = c.args in
    omega (arith, digits_twenty a.number (omega arith), digits_twenty a.first (omega arith), digits_twenty a.second (omega arith))

pub overflow_add-digits-3 : goal.overflow_add-digits-3
overflow_add-digits-3 c =
    let a = c.args in
    omega (arith, digits_twenty a.number (omega arith), digits_twenty a.first (omega arith), digits_twenty a.second (omega arith))

pub returns-then-out-digits : goal.returns-then-out-digits
returns-then-out-digits c =
    let a = c.args in
    unwritten _ _ (omega (arith, refusal_length a.number a.first a.second))

pub put_figures-requires : goal.put_figures-requires
put_figures-requires c =
    let a = c.args in
    omega (arith, refusal_length a.number a.first a.second)

pub returns : goal.returns
returns c = written c.put_figures.ensures
