-- Two tests; where they pass, the block, which is the one that was given (`made_of`), is stored as version 2, and no line of it gives way.
-- Assumes nothing.
use Prim.Native.Nat.{ℕ}
use native.Mathlib.Omega.{arith}
use mathlib.Core.Path.{refl, sym, ap, ◌∙◌}
use mathlib.Core.List.{List, []}
use Rattle.jkf.proofs.Answering.{told}
use Rattle.block.specs.Encode.{encode}
use Rattle.block.specs.Decode.{lines_in}
use Rattle.block.proofs.Sounding.{made_of, none_of}
use Rattle.edit.specs.Outcomes.{edit_stored}
use Rattle.edit.specs.inner.Splicing.{record_after}
use Rattle.edit.proofs.Outcomes.{restate_unsound, restate-other, restate_stored}
use Rattle.edit.proofs.restate.Goals as goal

pub returns-in_default : goal.returns-in_default
returns-in_default c =
    let a = c.args in
    let w = told (restate_unsound a.block.now a.out.now (none_of a.block c.of.ensures c.in_default.not-Some)) (refl, refl) in
    record { value = w.0; out_after = w.1 }

pub returns-then-version_in-ne1 : goal.returns-then-version_in-ne1
returns-then-version_in-ne1 c =
    let a = c.args in
    let (s, same) = made_of a.block c.of.ensures c.in-Some.b c.in-Some.is in
    let w = told (restate-other a.block.now a.out.now s (λ e. c.if-version_in-ne1.true (c.version_in.ensures.0 ∙ e))) (refl, refl) in
    record { value = w.0; out_after = w.1 }

pub store-requires : goal.store-requires
store-requires c =
    let (s, same) = made_of c.args.block c.of.ensures c.in-Some.b c.in-Some.is in
    (omega arith, omega (arith, c.lines_in-n.ensures.0, ap lines_in same), tt)

pub returns : goal.returns
returns c =
    let a = c.args in
    let (s, same) = made_of a.block c.of.ensures c.in-Some.b c.in-Some.is in
    let v = sym c.version_in.ensures.0 ∙ c.if-version_in-ne1.false in
    let n = c.lines_in-n.result in
    let w = told (restate_stored a.block.now a.out.now s v n ∙ ap (λ (b : List ℕ). edit_stored (encode (record_after 2 b n n [])) 0 a.out.now) same) (c.store.ensures.value, c.store.ensures.out_after) in
    record { value = w.0; out_after = w.1 }
