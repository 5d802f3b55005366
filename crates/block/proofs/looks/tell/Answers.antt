-- The three numbers are those of `figures`.
-- Assumes nothing.
use mathlib.Core.Path.{ap}
use Rattle.jkf.specs.declared.Figures.{Figures}
use Rattle.block.proofs.looks.tell.Goals as goal

pub returns : goal.returns
returns c =
    let e = c.from-f.ensures in
    record { number = ap (λ (f : Figures). f.number) e; first = ap (λ (f : Figures). f.first) e; second = ap (λ (f : Figures). f.second) e }
