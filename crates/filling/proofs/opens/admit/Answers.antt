-- Too long, or too little room, or begun.
-- Assumes nothing.
use Rattle.std.specs.Prelude.{Ok, Err}
use Prim.Native.Nat.{ℕ}
use native.Mathlib.Omega.{arith}
use mathlib.Core.Path.{ap, ◌∙◌}
use Rattle.jkf.specs.declared.Answer.TheVariants.{BlockTooLong, BufferShort}
use Rattle.filling.proofs.Putting.{short-small, admit_long, admit_short, admit_done}
use Rattle.filling.proofs.opens.admit.Goals as goal

pub returns-then-total-gt65535 : goal.returns-then-total-gt65535
returns-then-total-gt65535 c =
    let a = c.args in
    let e = c.length_of-total.ensures in
    ap (λ (n : ℕ). Err (BlockTooLong n)) e ∙ admit_long a.z a.room (omega (arith, e, c.if-total-gt65535.true))

pub returns-then-room-total : goal.returns-then-room-total
returns-then-room-total c =
    let a = c.args in
    let e = c.length_of-total.ensures in
    ap (λ (n : ℕ). Err (BufferShort n)) e ∙ admit_short a.z a.room (omega (arith, e, c.if-total-gt65535.false)) (omega (arith, e, c.if-room-total.true))

pub begin-requires : goal.begin-requires
begin-requires c =
    let e = c.length_of-total.ensures in
    short-small c.args.z (omega (arith, e, c.if-total-gt65535.false))

pub returns : goal.returns
returns c =
    let a = c.args in
    let e = c.length_of-total.ensures in
    ap (λ (n : ℕ). Ok (c.begin.result, n)) e ∙ admit_done a.z a.room (omega (arith, e, c.if-total-gt65535.false)) (omega (arith, e, c.if-room-total.false)) c.begin.ensures
