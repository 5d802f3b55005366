-- All bytes are cells exactly where each is.
-- Assumes nothing.
use lib.ListN.{length, get_or}
use borrow.Author.Rules.{rules}
use Rattle.lists.specs.Test.{holds, each}
use Rattle.block.specs.Sound.{is_cell}
use Rattle.block.proofs.Alls.{as_claimed}
use Rattle.block.proofs.places.all_cells.Goals as goal

pub returns : goal.returns
returns c =
    let s = c.args.s.now in
    as_claimed (each (length s) (λ i. holds (is_cell (get_or s i 0)))) c.all.result (search rules) (search rules)
