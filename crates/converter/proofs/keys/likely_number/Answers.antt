-- Each arm has one key whose first character ends in its bytes, and antt computes that no other has (`only`).
-- Assumes nothing.
use native.Mathlib.Omega.{arith}
use mathlib.Core.Bool.{true}
use mathlib.Core.Path.{◌≡◌, refl, sym, ◌∙◌}
use lib.ListN.{get_or}
use borrow.Author.Tests.{ne_eqb}
use Rattle.converter.proofs.Keyed.{others, only}
use Rattle.converter.proofs.keys.likely_number.Goals as goal

pub returns-in-150 : goal.returns-in-150
returns-in-150 c = (omega arith, only c.args.t.now 150 _ 1 (sym c.peek.ensures ∙ c.in-150.is) refl (omega arith) refl)

pub returns-in-181 : goal.returns-in-181
returns-in-181 c = (omega arith, only c.args.t.now 181 _ 2 (sym c.peek.ensures ∙ c.in-181.is) refl (omega arith) refl)

pub returns-in-161 : goal.returns-in-161
returns-in-161 c = (omega arith, only c.args.t.now 161 _ 3 (sym c.peek.ensures ∙ c.in-161.is) refl (omega arith) refl)

pub returns-in-163 : goal.returns-in-163
returns-in-163 c = (omega arith, only c.args.t.now 163 _ 4 (sym c.peek.ensures ∙ c.in-163.is) refl (omega arith) refl)

pub returns-in-136 : goal.returns-in-136
returns-in-136 c = (omega arith, only c.args.t.now 136 _ 5 (sym c.peek.ensures ∙ c.in-136.is) refl (omega arith) refl)

pub returns-in-140 : goal.returns-in-140
returns-in-140 c = (omega arith, only c.args.t.now 140 _ 6 (sym c.peek.ensures ∙ c.in-140.is) refl (omega arith) refl)

pub returns-in-167 : goal.returns-in-167
returns-in-167 c = (omega arith, only c.args.t.now 167 _ 7 (sym c.peek.ensures ∙ c.in-167.is) refl (omega arith) refl)

pub returns-in-160 : goal.returns-in-160
returns-in-160 c = (omega arith, only c.args.t.now 160 _ 8 (sym c.peek.ensures ∙ c.in-160.is) refl (omega arith) refl)

pub returns-in-133 : goal.returns-in-133
returns-in-133 c = (omega arith, only c.args.t.now 133 _ 9 (sym c.peek.ensures ∙ c.in-133.is) refl (omega arith) refl)

pub returns-then-peek-eq139 : goal.returns-then-peek-eq139
returns-then-peek-eq139 c = (omega arith, only c.args.t.now 184 139 10 (sym c.peek.ensures ∙ c.in-184.is) (sym c.peek-in-184.ensures ∙ c.if-peek-eq139.true) (omega arith) refl)

pub returns-else-peek-eq139 : goal.returns-else-peek-eq139
returns-else-peek-eq139 c =
    let r = c.peek-in-184.result in
    let o : others 184 r 12 ≡ true = rw (ne_eqb r 139 c.if-peek-eq139.false) in
    (omega arith, only c.args.t.now 184 r 12 (sym c.peek.ensures ∙ c.in-184.is) (sym c.peek-in-184.ensures) (omega arith) o)

pub returns-in-190 : goal.returns-in-190
returns-in-190 c = (omega arith, only c.args.t.now 190 _ 11 (sym c.peek.ensures ∙ c.in-190.is) refl (omega arith) refl)

pub returns-in_default : goal.returns-in_default
returns-in_default c =
    let b = c.peek.result in
    let n = c.in_default.in_default-own.rest in
    let o : others b (get_or c.args.t.now 2 0) 0 ≡ true = rw (ne_eqb b 150 n.0.0.0.0.0.0.0.0.0.0.1, ne_eqb b 181 n.0.0.0.0.0.0.0.0.0.1, ne_eqb b 161 n.0.0.0.0.0.0.0.0.1, ne_eqb b 163 n.0.0.0.0.0.0.0.1, ne_eqb b 136 n.0.0.0.0.0.0.1, ne_eqb b 140 n.0.0.0.0.0.1, ne_eqb b 167 n.0.0.0.0.1, ne_eqb b 160 n.0.0.0.1, ne_eqb b 133 n.0.0.1, ne_eqb b 184 n.0.1, ne_eqb b 190 n.1) in
    (omega arith, only c.args.t.now b _ 0 (sym c.peek.ensures) refl (omega arith) o)
