-- The tests of the definition in its order; where they pass, the block with the new line is stored.
-- Assumes nothing.
use Prim.Native.Nat.{ℕ}
use native.Mathlib.Omega.{arith}
use mathlib.Core.Path.{refl, sym, ap, ◌∙◌}
use mathlib.Core.List.{[], ◌∷◌}
use Rattle.jkf.proofs.Answering.{told}
use Rattle.block.specs.Encode.{encode}
use Rattle.block.specs.Decode.{decode}
use Rattle.edit.specs.Edit.{variation_of, line_on}
use Rattle.edit.specs.Outcomes.{edit_stored}
use Rattle.edit.specs.inner.Splicing.{record_after}
use Rattle.edit.proofs.Outcomes.{outside, entry-taken, put_stored}
use Rattle.edit.proofs.Texts.{variation_says}
use Rattle.block.proofs.Sounding.{keeps}
use Rattle.edit.proofs.insert_on.Goals as goal

pub returns-then-not-is_ply_of : goal.returns-then-not-is_ply_of
returns-then-not-is_ply_of c =
    let w = (let a = c.args in
    let (h, v, j, e) = c.requires in
    let f = sym c.is_ply_of.ensures ∙ c.if-not-is_ply_of.true in
    told (outside (decode a.b.bytes.now) a.out.now a.k (variation_of a.t.now) j f) (refl, refl)) in
    record { value = w.0; out_after = w.1 }

pub returns-then-is_taken : goal.returns-then-is_taken
unfolding decode
returns-then-is_taken c =
    let w = (let a = c.args in
    let (h, v, j, e) = c.requires in
    let f = sym c.is_ply_of.ensures ∙ c.if-not-is_ply_of.false in
    let g = sym c.is_taken.ensures ∙ c.if-is_taken.true in
    told (entry-taken (decode a.b.bytes.now) a.out.now a.k (variation_of a.t.now) j f g) (refl, refl)) in
    record { value = w.0; out_after = w.1 }

pub store-requires : goal.store-requires
store-requires c =
    let a = c.args in
    let (h, v, j, e) = c.requires in
    (omega arith, c.place_of-n.ensures.2, (j, e, (variation_says a.t.now v).short))

pub returns : goal.returns
returns c =
    let w = (let a = c.args in
    let (h, v, j, e) = c.requires in
    let f = sym c.is_ply_of.ensures ∙ c.if-not-is_ply_of.false in
    let g = sym c.is_taken.ensures ∙ c.if-is_taken.false in
    let new = line_on a.k (variation_of a.t.now) in
    told
    (put_stored a.b.bytes.now (keeps a.b) a.out.now a.k (variation_of a.t.now) j h f g c.place_of-n.ensures.0
    ∙ ap (λ (w : ℕ). edit_stored (encode (record_after w a.b.bytes.now c.place_of-n.result c.place_of-n.result (new ∷ []))) c.place_of-n.result a.out.now) (sym c.version_in-version.ensures.0))
    (c.store.ensures.value, c.store.ensures.out_after)) in
    record { value = w.0; out_after = w.1 }
