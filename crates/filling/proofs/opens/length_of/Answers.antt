-- Small sizes add up without overflow.
-- Assumes nothing.
use Prim.Native.Nat.{◌+◌}
use mathlib.Core.Path.{◌≡◌, sym, ap, ◌∙◌}
use native.Mathlib.Omega.{arith}
use Rattle.filling.proofs.Putting.{small-sizes, length-past, length_is, begun-length}
use Rattle.filling.specs.Filling.{length_of}
use Rattle.filling.specs.declared.Walk.{Walk}
use Rattle.filling.proofs.opens.length_of.Goals as goal
use Rattle.filling.proofs.opens.length_of.Goals.{After-struct_known-2-1}

-- where the texts begin, and these
whole : (c : After-struct_known-2-1) → c.begin.result.text + c.args.z.bytes ≡ length_of c.args.z
whole c = ap (λ (w : Walk). w.text + c.args.z.bytes) c.begin.ensures ∙ begun-length c.args.z (sym c.are_small.ensures ∙ c.if-not-are_small.false)

pub returns-then-not-are_small : goal.returns-then-not-are_small
returns-then-not-are_small c = length-past c.args.z (sym c.are_small.ensures ∙ c.if-not-are_small.true)

pub begin-requires : goal.begin-requires
begin-requires c = sym c.are_small.ensures ∙ c.if-not-are_small.false

pub overflow_add-result : goal.overflow_add-result
overflow_add-result c =
    let r = small-sizes c.args.z (sym c.are_small.ensures ∙ c.if-not-are_small.false) in
    omega (arith, r.headers, r.lines, r.entries, r.comments, r.bytes, whole c, length_is c.args.z (sym c.are_small.ensures ∙ c.if-not-are_small.false))

pub returns : goal.returns
returns c = whole c
