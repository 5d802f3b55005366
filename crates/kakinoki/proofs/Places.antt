-- The places of the header lines of a block, one line after the other.
-- Assumes nothing.
use Prim.Native.Nat.{ℕ, zero, suc, ◌+◌, ◌*◌, ◌≤◌, max}
use native.Mathlib.Omega.{arith}
use mathlib.Core.Path.{◌≡◌, refl, ap}
use mathlib.Core.List.{List, [], ◌∷◌, ◌++◌}
use lib.ListN.{length, length-append}
use Rattle.lists.specs.Repeat.{Step, more, stop, ended, on_step, many_from}
use Rattle.lists.proofs.Repeats.{many_within}
use Rattle.kakinoki.specs.Informations.{Said, hash_lines_at, information_item, informations_at, keyed_place, header_places_from, header_places_at}
use Rattle.kakinoki.proofs.Items.{line_at, item, item_goes}

module _ (s : List ℕ) where
  -- the place of the item at a place, if it is a header line
  abbrev pub place_at : ℕ → List ℕ
  place_at at = keyed_place (line_at s at).info (hash_lines_at s at)

  -- one more unit of fuel changes nothing where the fuel reaches to the end of the text
  places_enough : (k at : ℕ) → length s ≤ k + at → header_places_from s k at ≡ header_places_from s (suc k) at
  unfolding header_places_from
  places_enough zero at h = go (information_item s at) refl
    where
      go : (r : Step Said) → information_item s at ≡ r → [] ≡ on_step r (λ next x. place_at at ++ []) []
      go (more next x) e = absurd (omega (arith, item_goes s at next x e))
      go stop e = refl
  places_enough (suc k) at h = go (information_item s at) refl (places_enough k)
    where
      go : (r : Step Said) → information_item s at ≡ r → ((next : ℕ) → length s ≤ k + next → header_places_from s k next ≡ header_places_from s (suc k) next)
          → on_step r (λ next x. place_at at ++ header_places_from s k next) [] ≡ on_step r (λ next x. place_at at ++ header_places_from s (suc k) next) []
      go (more next x) e ih = ap (λ (l : List ℕ). place_at at ++ l) (ih next (omega (arith, item_goes s at next x e)))
      go stop e ih = refl

  -- one item, and those after it
  pub places_more : (at next : ℕ) (x : Said) → information_item s at ≡ more next x → header_places_at s at ≡ place_at at ++ header_places_at s next
  unfolding header_places_at
  places_more at next x e = go (length s) refl
    where
      go : (m : ℕ) → length s ≡ m → header_places_from s m at ≡ place_at at ++ header_places_from s m next
      go zero q = absurd (omega (arith, item_goes s at next x e))
      go (suc k) q = unfold header_places_from in (rw e (ap (λ (l : List ℕ). place_at at ++ l) (places_enough k next (omega (arith, item_goes s at next x e)))))

  pub places_stop : (at : ℕ) → information_item s at ≡ stop → header_places_at s at ≡ []
  unfolding header_places_at
  places_stop at e = go (length s)
    where
      go : (m : ℕ) → header_places_from s m at ≡ []
      go zero = unfold header_places_from in refl
      go (suc k) = unfold header_places_from in (rw e)

  -- each takes five bytes or more
  places_five : (k at : ℕ) → at + 5 * length (header_places_from s k at) ≤ (many_from (information_item s) k at).at
  unfolding header_places_from many_from
  places_five zero at = omega arith
  places_five (suc k) at = go (information_item s at) refl (places_five k)
    where
      go : (r : Step Said) → information_item s at ≡ r → ((next : ℕ) → next + 5 * length (header_places_from s k next) ≤ (many_from (information_item s) k next).at)
          → at + 5 * length (on_step r (λ next x. place_at at ++ header_places_from s k next) [])
          ≤ (on_step r (λ next x. let m = many_from (information_item s) k next in ended m.at (x ∷ m.state)) (ended at [])).at
      go (more next x) e ih =
          let f = (item s at next x e).five in
          omega (arith, ih next, length-append (place_at at) (header_places_from s k next))
      go stop e ih = omega arith

  -- the block ends past them, and within the text or where it began
  pub block_five : (at : ℕ) → at + 5 * length (header_places_at s at) ≤ (informations_at s at).at
  unfolding header_places_at informations_at
  block_five at = places_five (length s) at

  pub block_within : (at : ℕ) → (informations_at s at).at ≤ max at (length s)
  unfolding informations_at
  block_within at = many_within (information_item s) (length s) (item_goes s) (length s) at
