-- A repetition whose steps go on within n takes n for its fuel, and then goes by its steps alone.
-- Assumes nothing.
use Prim.Native.Nat.{ℕ, zero, suc, ◌+◌, ◌≤◌, ◌<◌, max}
use native.Mathlib.Omega.{arith}
use mathlib.Core.Path.{◌≡◌, refl, ap}
use mathlib.Core.List.{List, [], ◌∷◌}
use Rattle.lists.specs.Repeat.{Step, more, stop, Ended, ended, on_step, repeat_from, many_from}

-- each step that goes on goes on past its place, and no further than n
abbrev pub Goes : {A : Type 0} → (ℕ → A → Step A) → ℕ → Type 0
Goes {A} f n = (at : ℕ) (a : A) (at' : ℕ) (a' : A) → f at a ≡ more at' a' → (at < at') × (at' ≤ n)

module _ {A : Type 0} (f : ℕ → A → Step A) (n : ℕ) (goes : Goes f n) where
  -- one more unit of fuel changes nothing where the fuel reaches to n
  enough : (k at : ℕ) (a : A) → n ≤ k + at → repeat_from f k at a ≡ repeat_from f (suc k) at a
  unfolding repeat_from
  enough zero at a h = go (f at a) refl
    where
      go : (r : Step A) → f at a ≡ r → ended at a ≡ on_step r ended (ended at a)
      go (more at' a') e = absurd (omega (arith, goes at a at' a' e))
      go stop e = refl
  enough (suc k) at a h = go (f at a) refl (enough k)
    where
      go : (r : Step A) → f at a ≡ r → ((at' : ℕ) (a' : A) → n ≤ k + at' → repeat_from f k at' a' ≡ repeat_from f (suc k) at' a')
          → on_step r (λ at' a'. repeat_from f k at' a') (ended at a) ≡ on_step r (λ at' a'. repeat_from f (suc k) at' a') (ended at a)
      go (more at' a') e ih = ih at' a' (omega (arith, goes at a at' a' e))
      go stop e ih = refl

  pub repeat_more : (at : ℕ) (a : A) (at' : ℕ) (a' : A) → f at a ≡ more at' a' → repeat_from f n at a ≡ repeat_from f n at' a'
  repeat_more at a at' a' e = go n refl
    where
      go : (m : ℕ) → n ≡ m → repeat_from f m at a ≡ repeat_from f m at' a'
      go zero q = absurd (omega (arith, goes at a at' a' e))
      go (suc k) q = unfold repeat_from in (rw e (enough k at' a' (omega (arith, goes at a at' a' e))))

pub repeat_stop : {A : Type 0} (f : ℕ → A → Step A) (n at : ℕ) (a : A) → f at a ≡ stop → repeat_from f n at a ≡ ended at a
unfolding repeat_from
repeat_stop f zero at a e = refl
repeat_stop f (suc k) at a e = rw e

-- ---- items one after the other

-- each item goes on past its place, and no further than n
abbrev pub ItemGoes : {A : Type 0} → (ℕ → Step A) → ℕ → Type 0
ItemGoes {A} item n = (at next : ℕ) (a : A) → item at ≡ more next a → (at < next) × (next ≤ n)

abbrev added : {A : Type 0} → A → Ended (List A) → Ended (List A)
added a r = ended r.at (a ∷ r.state)

module _ {A : Type 0} (item : ℕ → Step A) (n : ℕ) (goes : ItemGoes item n) where
  many_enough : (k at : ℕ) → n ≤ k + at → many_from item k at ≡ many_from item (suc k) at
  unfolding many_from
  many_enough zero at h = go (item at) refl
    where
      go : (r : Step A) → item at ≡ r → ended at [] ≡ on_step r (λ next a. ended next (a ∷ [])) (ended at [])
      go (more next a) e = absurd (omega (arith, goes at next a e))
      go stop e = refl
  many_enough (suc k) at h = go (item at) refl (many_enough k)
    where
      go : (r : Step A) → item at ≡ r → ((next : ℕ) → n ≤ k + next → many_from item k next ≡ many_from item (suc k) next)
          → on_step r (λ next a. added a (many_from item k next)) (ended at [])
          ≡ on_step r (λ next a. added a (many_from item (suc k) next)) (ended at [])
      go (more next a) e ih = ap (added a) (ih next (omega (arith, goes at next a e)))
      go stop e ih = refl

  -- one item, and those after it
  pub many_more : (at next : ℕ) (a : A) → item at ≡ more next a → many_from item n at ≡ added a (many_from item n next)
  many_more at next a e = go n refl
    where
      go : (m : ℕ) → n ≡ m → many_from item m at ≡ added a (many_from item m next)
      go zero q = absurd (omega (arith, goes at next a e))
      go (suc k) q = unfold many_from in (rw e (ap (added a) (many_enough k next (omega (arith, goes at next a e)))))

  -- they go on and end within n, or where they began
  pub many-from : (k at : ℕ) → at ≤ (many_from item k at).at
  unfolding many_from
  many-from zero at = omega arith
  many-from (suc k) at = go (item at) refl (many-from k)
    where
      go : (r : Step A) → item at ≡ r → ((next : ℕ) → next ≤ (many_from item k next).at)
          → at ≤ (on_step r (λ next a. added a (many_from item k next)) (ended at [])).at
      go (more next a) e ih = omega (arith, goes at next a e, ih next)
      go stop e ih = omega arith

  pub many_within : (k at : ℕ) → (many_from item k at).at ≤ max at n
  unfolding many_from
  many_within zero at = omega arith
  many_within (suc k) at = go (item at) refl (many_within k)
    where
      go : (r : Step A) → item at ≡ r → ((next : ℕ) → (many_from item k next).at ≤ max next n)
          → (on_step r (λ next a. added a (many_from item k next)) (ended at [])).at ≤ max at n
      go (more next a) e ih = omega (arith, goes at next a e, ih next)
      go stop e ih = omega arith

pub many_stop : {A : Type 0} (item : ℕ → Step A) (n at : ℕ) → item at ≡ stop → many_from item n at ≡ ended at []
unfolding many_from
many_stop item zero at e = refl
many_stop item (suc k) at e = rw e
