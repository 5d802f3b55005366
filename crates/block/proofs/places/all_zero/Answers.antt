-- All bytes are 0 exactly where each is.
-- Assumes nothing.
use lib.ListN.{length, get_or}
use borrow.Author.Rules.{rules}
use Rattle.lists.specs.Test.{◌equals◌, each}
use Rattle.block.proofs.Alls.{as_claimed}
use Rattle.block.proofs.places.all_zero.Goals as goal

pub returns : goal.returns
returns c =
    let s = c.args.s.now in
    as_claimed (each (length s) (λ i. get_or s i 0 equals 0)) c.all.result (search rules) (search rules)
