-- A test and what it says: one text gives both the Bool that the code computes and the facts that a caller has.
-- Assumes nothing: these are definitions.
use Rattle.std.specs.Prelude.{ℕ, zero, suc, ◌≤◌, ◌<◌, ◌≡◌, Bool, true, false, eqb, leb}
use Rattle.lists.specs.Pick.{pick}

infix 50 ◌equals◌ ◌at_most◌
infixr 35 ◌and◌
-- Two numbers are equal; one is at most another; a Bool is true; two tests; a test of each number below n.
pub data Test : Type 0 where
  ◌equals◌ : ℕ → ℕ → Test
  ◌at_most◌ : ℕ → ℕ → Test
  holds : Bool → Test
  ◌and◌ : Test → Test → Test
  each : ℕ → (ℕ → Test) → Test

-- Whether f is true of each number below n.
unfoldable pub all_below : (ℕ → Bool) → ℕ → Bool
all_below f zero = true
all_below f (suc n) = let r = all_below f n in pick (f n) r false

-- What the test answers.
abbrev pub flag : Test → Bool
flag (a equals b) = eqb a b
flag (a at_most b) = leb a b
flag (holds t) = t
flag (s and t) = pick (flag s) (flag t) false
flag (each n f) = all_below (λ k. flag (f k)) n

-- What it says.
abbrev pub claim : Test → Type 0
claim (a equals b) = a ≡ b
claim (a at_most b) = a ≤ b
claim (holds t) = t ≡ true
claim (s and t) = claim s × claim t
claim (each n f) = (k : ℕ) → k < n → claim (f k)
