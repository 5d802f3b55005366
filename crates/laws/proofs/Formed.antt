-- The record of a sound block is well formed.
-- Assumes nothing.
use Prim.Native.Nat.{ℕ, ◌≤◌}
use native.Mathlib.Omega.{arith}
use mathlib.Core.Path.{sym, ap, subst}
use mathlib.Core.List.{List}
use lib.ListN.{length}
use Rattle.jkf.specs.Model.{Record}
use Rattle.block.specs.Encode.{encode}
use Rattle.block.specs.Decode.{version_in, decode}
use Rattle.block.specs.inner.Sounds.{Sound}
use Rattle.block.specs.Formed.{Formed}
use Rattle.edit.proofs.Blocks.{lines_as}
use Rattle.laws.specs.Blocks.{Bytes}
use Rattle.laws.proofs.Encoded.{encode-decode}
use Rattle.laws.proofs.Relining.{relined_formed, block_lines}
use Rattle.laws.proofs.Fewer.{same_record}

pub decode_formed : (b : List ℕ) → Bytes b → Sound b → Formed (decode b)
decode_formed b bs s =
    subst Formed (same_record b)
    (relined_formed b s bs (version_in b) (decode b).lines (block_lines b s bs) s.head.1.1.1.1.0 (lines_as b s)
    (subst (λ (r : Record). length (encode r) ≤ 65535) (sym (same_record b)) (omega (arith, ap length (encode-decode b s bs), s.head.1.0))))
