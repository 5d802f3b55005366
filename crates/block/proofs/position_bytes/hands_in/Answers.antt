-- Each byte is read from its place.
-- Assumes nothing.
use Prim.Native.Nat.{◌+◌}
use mathlib.Core.Path.{◌≡◌, refl}
use lib.ListN.{get_or}
use borrow.Author.Rules.{rules}
use Rattle.block.proofs.ByteArrays.{bytes_as, given}
use Rattle.block.proofs.position_bytes.hands_in.Goals as goal

pub returns : goal.returns
returns c =
    let s = c.args.s.now in
    bytes_as s c.from_fn.result 85 14 c.from_fn.ensures.items.long
    (given (λ p. p.0.now ≡ s) (λ i. get_or s (85 + i) 0) (λ p q i y w k. (search rules, search rules)) c.from_fn.result 14 refl c.from_fn.ensures.items.each)
