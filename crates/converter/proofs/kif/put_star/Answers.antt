-- A comment that begins with & gets nothing before it, any other a star: what `peek` says of its first byte decides.
-- Assumes nothing.
use mathlib.Core.List.{[], ◌∷◌}
use mathlib.Core.Path.{sym, ◌∙◌}
use borrow.Author.Tests.{eq-eqb, ne_eqb}
use Rattle.lent.proofs.Writes.{nothing, wrote_all}
use Rattle.converter.specs.Entries.{star_text}
use Rattle.converter.proofs.kif.put_star.Goals as goal

pub returns-then-peek-eq38 : goal.returns-then-peek-eq38
unfolding star_text
returns-then-peek-eq38 c =
    rw (eq-eqb _ 38 (sym c.peek.ensures ∙ c.if-peek-eq38.true)) (nothing _)

pub returns : goal.returns
unfolding star_text
returns c =
    let e = ne_eqb _ _ (λ z. c.if-peek-eq38.false (c.peek.ensures ∙ z)) in
    rw e (wrote_all {t = 42 ∷ []} (rw e at c.requires) c.put_bytes.ensures)
