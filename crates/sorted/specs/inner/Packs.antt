-- Places packed with the leads of their keys, and their order.
-- Assumes nothing: these are definitions.
use Rattle.std.specs.Prelude.{ℕ, zero, suc, ◌+◌, ◌*◌, ◌<◌, ◌/◌, ◌%◌, ◌≡◌, List, [], ◌∷◌, map, eqb}
use Rattle.lists.specs.All.{All}
use Rattle.lists.specs.Pick.{pick}
use Rattle.text.specs.Text.{key_at}
use Rattle.std.specs.declared.cmp.Ordering.{Ordering}
use Rattle.sorted.specs.declared.MergeStep.{MergeStep}
use Rattle.sorted.specs.Sorted.{on_order, by_bytes, enter_all}
use Rattle.sorted.specs.inner.Orders.{Leads}

-- The first n bytes of a key as the digits that follow those of a number; zeros where it is shorter.
unfoldable pub lead_from : ℕ → ℕ → List ℕ → ℕ
lead_from zero v k = v
lead_from (suc n) v [] = lead_from n (v * 256) []
lead_from (suc n) v (b ∷ k) = lead_from n (v * 256 + b) k

-- Each of the first n is a byte.
unfoldable pub KeyBytes : ℕ → List ℕ → Type 0
KeyBytes zero k = Unit {0}
KeyBytes (suc n) [] = Unit {0}
KeyBytes (suc n) (b ∷ k) = (b < 256) × KeyBytes n k

-- The first six bytes of a key as one number.
pub record Lead (k : List ℕ) (r : ℕ) : Type 0 where
  pub value : r ≡ lead_from 6 0 k
  pub bytes : KeyBytes 6 k
  pub small : r < 281474976710656

-- A place behind the lead of its key, and what is in such a pack.
unfoldable pub packed : List ℕ → ℕ → ℕ
packed s p = lead_from 6 0 (key_at s p) * 65536 + p

abbrev pub pack_lead : ℕ → ℕ
pack_lead x = x / 65536

abbrev pub pack_place : ℕ → ℕ
pack_place x = x % 65536

-- How many bytes of its key a lead tells: all six, unless the last is zero, which may stand for a byte that is not there.
unfoldable pub lead_told : ℕ → ℕ
lead_told l = pick (eqb (l % 256) 0) 0 6

-- Packs by lead, and where these are equal by what the key has behind it: a lead is one byte more, before the others.
abbrev pub by_pack : List ℕ → ℕ → ℕ → Ordering
by_pack s x y = by_bytes (pack_lead x ∷ key_at s (pack_place x + lead_told (pack_lead x))) (pack_lead y ∷ key_at s (pack_place y + lead_told (pack_lead y)))

-- A place that a pack has room for, of a key of bytes.
pub record Packable (s : List ℕ) (p : ℕ) : Type 0 where
  pub narrow : p < 65536
  pub bytes : KeyBytes 6 (key_at s p)

-- The kept places, packed.
unfoldable pub packs : List ℕ → List ℕ → List ℕ
packs s ps = enter_all (by_pack s) [] (map (packed s) ps)

-- The first n of a buffer are these.
pub record Packs (s ps after : List ℕ) (n : ℕ) : Type 0 where
  pub leads : Leads (packs s ps) after n
  pub each : All (Packable s) ps

-- The step of a merge that finds x and y, by how x stands to y.
abbrev pub step_of : Ordering → ℕ → ℕ → MergeStep
step_of o x y =
    on_order o (record { left = 1; right = 0; value = x }) (record { left = 1; right = 1; value = y }) (record { left = 0; right = 1; value = y })
