-- A code between those of １ and ９ is the code of a file, and no other is (`file-first`, `file-not`).
-- Assumes nothing.
use Prim.Native.Nat.{◌+◌}
use native.Mathlib.Omega.{arith}
use mathlib.Core.Path.{refl, sym, ◌∙◌}
use lib.ListN.{length}
use borrow.Author.Tests.{ltb-true, ltb-false}
use Rattle.spell.specs.Tables.{files}
use Rattle.spell.proofs.Codes.{near}
use Rattle.spell.proofs.Lookups.{short-first, file-first, file_not}
use Rattle.spell.proofs.digits.file.Goals as goal

pub returns-then-is_short : goal.returns-then-is_short
returns-then-is_short c = sym (short-first files refl _ _ (ltb-true _ _ (sym c.is_short.ensures ∙ c.if-is_short.true)))

pub code_at-requires : goal.code_at-requires
code_at-requires c = ltb-false _ _ (sym c.is_short.ensures ∙ c.if-is_short.false)

pub returns-in_default : goal.returns-in_default
returns-in_default c =
    let a = c.args in
    let near₁ = near a.s.now a.c.at (λ i. omega (arith, c.shared_slice_known-1.given i)) in
    sym (file_not a.s.now a.c.at near₁ _ c.code_at.ensures (λ l u. omega arith))

pub returns-in_default-2 : goal.returns-in_default-2
returns-in_default-2 c =
    let a = c.args in
    let near₁ = near a.s.now a.c.at (λ i. omega (arith, c.shared_slice_known-1.given i)) in
    sym (file_not a.s.now a.c.at near₁ _ c.code_at.ensures (λ l u. omega arith))

pub overflow_add-result : goal.overflow_add-result
overflow_add-result c = omega (arith, ltb-false (length c.args.s.now) (c.args.c.at + 3) (sym c.is_short.ensures ∙ c.if-is_short.false))

pub returns-in-15711377-to-15711385 : goal.returns-in-15711377-to-15711385
returns-in-15711377-to-15711385 c =
    let a = c.args in
    let near₁ = near a.s.now a.c.at (λ i. omega (arith, c.shared_slice_known-1.given i)) in
    sym (file-first a.s.now a.c.at near₁ _ c.code_at.ensures (omega arith) (omega arith))
