-- The tests of the definition in its order; where they pass, the block without the lines is stored.
-- Assumes nothing.
use Prim.Native.Nat.{ℕ, ◌+◌}
use native.Mathlib.Omega.{arith}
use mathlib.Core.Path.{refl, sym, ap, ◌∙◌}
use mathlib.Core.List.{[]}
use Rattle.jkf.proofs.Answering.{told}
use Rattle.block.specs.Encode.{encode}
use Rattle.edit.specs.Outcomes.{edit_stored}
use Rattle.edit.specs.inner.Splicing.{record_after}
use Rattle.edit.proofs.Outcomes.{main-line, remove-past, cut_stored}
use Rattle.block.proofs.Sounding.{keeps}
use Rattle.edit.proofs.remove.Goals as goal
use Rattle.edit.proofs.remove.Goals.{then-line-eq0-via-then-line-eq0, then-line-eq0-via-else-line-eq0+then-lines_in-line}

pub returns-then-line-eq0 : goal.returns-then-line-eq0
returns-then-line-eq0 c =
    let a = c.args in
    elim c.then-line-eq0.branch [
      | then-line-eq0-via-then-line-eq0 w ↦ let v = told (main-line a.b.bytes.now a.line a.out.now w.if-line-eq0.true) (refl, refl) in record { value = v.0; out_after = v.1 }
      | then-line-eq0-via-else-line-eq0+then-lines_in-line w ↦ let v = told (remove-past a.b.bytes.now a.line a.out.now w.if-line-eq0.false (omega (arith, w.if-lines_in-line.true, w.lines_in.ensures.0))) (refl, refl) in record { value = v.0; out_after = v.1 }
    ]

pub returns : goal.returns
returns c =
    let w = (let a = c.args in
    let s = keeps a.b in
    let z = c.if-line-eq0.false in
    told
    (cut_stored a.b.bytes.now a.line a.out.now s z (omega (arith, c.if-lines_in-line.false, c.lines_in.ensures.0)) c.removed_from-n.ensures.0
    ∙ ap (λ (w : ℕ). edit_stored (encode (record_after w a.b.bytes.now a.line (a.line + c.removed_from-n.result) [])) c.removed_from-n.result a.out.now) (sym c.version_in-version.ensures.0))
    (c.store.ensures.value, c.store.ensures.out_after)) in
    record { value = w.0; out_after = w.1 }
