-- Laws of texts one after another.
--     then-all   a text that fits was written after another
--     joined     four texts, from either end
-- Assumes nothing.
use Prim.Native.Nat.{ℕ, ◌+◌, ◌-◌, ◌≤◌}
use native.Mathlib.Omega.{arith}
use mathlib.Core.Path.{◌≡◌}
use mathlib.Core.List.{List, ◌++◌, append_assoc}
use lib.ListN.{length}
use borrow.Rule.Slice.PartMut.{mid_of, put_mid}
use Rattle.lent.specs.Bytes.{Wrote, fitting}
use Rattle.lent.proofs.Writes.{wrote_all, wrote_length, rest_length, then}

pub then-all : {t₁ o o₁ p : List ℕ} {n₁ n₂ : ℕ} (t₂ : List ℕ) → Wrote t₁ o o₁ n₁ → n₁ + length t₂ ≤ length o
    → Wrote (fitting t₂ (mid_of n₁ (length o₁ - n₁) o₁)) (mid_of n₁ (length o₁ - n₁) o₁) p n₂
    → Wrote (t₁ ++ t₂) o (put_mid n₁ (length o₁ - n₁) o₁ p) (n₁ + n₂)
then-all {o₁ = o₁} {n₁ = n₁} t₂ w h v = then w (wrote_all {t = t₂} (omega (arith, h, wrote_length w, rest_length o₁ n₁)) v)

pub joined : (a b c d : List ℕ) → a ++ b ++ c ++ d ≡ a ++ (b ++ (c ++ d))
joined a b c d = simp append_assoc
