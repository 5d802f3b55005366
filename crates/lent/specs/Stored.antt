-- A text stored from a place on in a lent buffer.
-- Assumes nothing: these are definitions.
use Rattle.std.specs.Prelude.{ℕ, ◌+◌, ◌≡◌, List, length}
use Rattle.std.proofs.lemmas.List.Edits.{sets}

-- The text t stored over o from place p on; what would lie past the end is left out.
unfoldable pub put : List ℕ → ℕ → List ℕ → List ℕ
put o p t = sets o p t

-- One text stored from a place on, and the place past it: what `put_at` promises.
pub record Stored (t o o' : List ℕ) (at r : ℕ) : Type 0 where
  pub bytes : o' ≡ put o at t
  pub end : r ≡ at + length t
