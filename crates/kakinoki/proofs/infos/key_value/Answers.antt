-- The key is empty exactly where it ends at its own place.
-- Assumes nothing.
use native.Mathlib.Omega.{arith}
use lib.ListN.{length}
use borrow.Author.Tests.{eq-eqb, ne_eqb}
use Rattle.text.specs.Text.{key_at}
use Rattle.kakinoki.specs.Informations.{key_value_at}
use Rattle.kakinoki.proofs.infos.key_value.Goals as goal

pub returns-then-end-c : goal.returns-then-end-c
unfolding key_value_at
returns-then-end-c c =
    let a = c.args in
    rw (eq-eqb (length (key_at a.s.now a.c.at)) 0 (omega (arith, c.key_end-end.ensures, c.if-end-c.true)))

pub returns : goal.returns
unfolding key_value_at
returns c =
    let a = c.args in
    rw (ne_eqb (length (key_at a.s.now a.c.at)) 0 (λ e. c.if-end-c.false (omega (arith, c.key_end-end.ensures))), ← c.key_end-end.ensures) c.value.ensures
