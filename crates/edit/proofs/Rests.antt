-- What is left of a run after some of it: the next one, then the others.
-- Assumes nothing.
use Prim.Native.Nat.{ℕ, ◌+◌, ◌-◌, ◌≤◌, ◌<◌}
use native.Mathlib.Omega.{arith}
use mathlib.Core.Path.{◌≡◌, sym, ap₂, ◌∙◌}
use mathlib.Core.List.{List, [], ◌∷◌}
use Rattle.block.specs.Decode.{run}
use Rattle.block.proofs.Tabling.{run-next, run_end}

module _ {X : Type 0} (g : ℕ → X) (k n : ℕ) where
  -- after i of n from k on
  abbrev pub rest : ℕ → List X
  rest i = run g (k + i) (n - i)

  -- at the end, nothing
  pub rest_none : (i : ℕ) → n ≤ i → rest i ≡ []
  rest_none i h = run_end g (k + i) n i h

  -- the next one, under its name, then the others
  pub rest_next : (i : ℕ) → i < n → (x : X) → x ≡ g (k + i) → rest i ≡ x ∷ rest (i + 1)
  rest_next i h x e =
      let b : k + i + 1 ≡ k + (i + 1) = omega arith in
      run-next g (k + i) n i h ∙ ap₂ (λ (y : X) (j : ℕ). y ∷ run g j (n - (i + 1))) (sym e) b
