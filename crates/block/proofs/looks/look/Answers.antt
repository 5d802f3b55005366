-- The refusals come in the definition's order; a row below the count is below 65,536, so the sums fit.
-- Assumes nothing.
use Prim.Native.Nat.{ℕ, ◌+◌, ◌*◌}
use native.Mathlib.Nat.{mul-le-mul_right}
use native.Mathlib.Omega.{arith}
use mathlib.Core.Path.{sym, ◌∙◌, ap}
use lib.ListN.{drop}
use borrow.Author.Tests.{lt-ltb, le-ltb}
use Rattle.block.proofs.Cuts.{text-in}
use Rattle.block.proofs.LookUps.{told}
use Rattle.block.specs.Decode.{text_place}
use Rattle.jkf.specs.declared.Answer.TheVariants.{Done}
use Rattle.lent.specs.Bytes.{le16}
use Rattle.block.proofs.looks.look.Goals as goal

pub returns-then-not-sound : goal.returns-then-not-sound
returns-then-not-sound c =
    let s = sym c.sound.ensures ∙ c.if-not-sound.true in
    rw s record { result_value = c.front.ensures; answered = c.tell.ensures }

pub returns-then-n-k : goal.returns-then-n-k
returns-then-n-k c =
    let a = c.args in
    let s = sym c.sound.ensures ∙ c.if-not-sound.false in
    rw (s, le-ltb a.k a.n c.if-n-k.true) record { result_value = c.front-then-n-k.ensures; answered = c.tell-then-n-k.ensures }

pub overflow_mul-row : goal.overflow_mul-row
overflow_mul-row c =
    let a = c.args in
    omega (arith, mul-le-mul_right {m = a.w} {n = 8} a.k c.requires.2)

pub overflow_add-row : goal.overflow_add-row
overflow_add-row c =
    let a = c.args in
    omega (arith, mul-le-mul_right {m = a.w} {n = 8} a.k c.requires.2)

pub overflow_add-row-2 : goal.overflow_add-row-2
overflow_add-row-2 c =
    let a = c.args in
    omega (arith, mul-le-mul_right {m = a.w} {n = 8} a.k c.requires.2)

pub text_in-requires : goal.text_in-requires
text_in-requires c =
    let a = c.args in
    omega (arith, mul-le-mul_right {m = a.w} {n = 8} a.k c.requires.2, c.requires.0, c.requires.1, c.if-n-k.false)

pub returns : goal.returns
returns c =
    let a = c.args in
    let b = a.b.now in
    let row = a.place + a.w * a.k in
    let s = sym c.sound.ensures ∙ c.if-not-sound.false in
    let o = c.get16-offset.ensures.0 in
    let l = c.get16-len.ensures.0 in
    let t = c.text_place-t.ensures.0 in
    rw (s, lt-ltb a.k a.n c.if-n-k.false) record { result_value = c.text_in.ensures ∙ text-in b _ (c.rest.ensures ∙ ap (λ (p : ℕ). drop p b) t) (le16 b row) (le16 b (row + 2)); answered = told (ap (λ (x : ℕ). Done (x + c.get16-offset.result) c.get16-len.result) t ∙ ap (λ (x : ℕ). Done (text_place b + x) c.get16-len.result) o ∙ ap (Done (text_place b + le16 b row)) l) c.tell-2.ensures }
