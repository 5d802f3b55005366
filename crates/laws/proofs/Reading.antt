-- A reading that is not refused answers a sound block.                                               (01, The block; Numbers of refusal)
-- Assumes nothing.
use Prim.Native.Nat.{ℕ, ◌<◌}
use mathlib.Core.Path.{◌≡◌, sym, subst}
use mathlib.Core.List.{List}
use lib.ListN.{take, get_or}
use Rattle.jkf.specs.declared.Answer.TheVariants.{Done}
use Rattle.block.specs.inner.Sounds.{Sound}
use Rattle.parser.specs.Parse.{parse, record_of}
use Rattle.parser.specs.Read.{fill_of}
use Rattle.laws.proofs.Made.{sound-encode}
use Rattle.laws.proofs.Forming.{read_done}

pub read-sound : (s o : List ℕ) → ((k : ℕ) → get_or s k 0 < 256) → (t m : ℕ) → (fill_of s o).answer ≡ Done t m → Sound (take m (fill_of s o).buffer)
read-sound s o b t m e =
    let (front, formed) = read_done s o b t m e in
    subst Sound (sym front) (sound-encode (record_of (parse s)) formed)
