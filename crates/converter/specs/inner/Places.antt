-- The places of the leading keys among the header entries of a block.
-- Assumes nothing: these are definitions.
use Rattle.std.specs.Prelude.{ℕ, ◌+◌, ◌-◌, ◌≤◌, ◌<◌, ◌≡◌, List, [], ◌∷◌, length, get_or, eqb}
use Rattle.lists.specs.Pick.{pick}
use Rattle.jkf.specs.Model.{Header}
use Rattle.block.specs.Decode.{run, headers_in, header_in}
use Rattle.converter.specs.Headers.{numbered}

-- The header entry that a place says: one less than it; none for 0.
abbrev pub placed_at : List ℕ → ℕ → List Header
placed_at b place = pick (eqb place 0) [] (header_in b (place - 1) ∷ [])

abbrev pub stored_headers : List ℕ → List Header
stored_headers b = run (header_in b) 0 (headers_in b)

-- The places of the 12 leading keys in a block.
pub record Placed (b places : List ℕ) : Type 0 where
  pub size : length places ≡ 12
  pub low : (n : ℕ) → n < 12 → get_or places n 0 ≤ headers_in b
  pub each : (n : ℕ) → n < 12 → numbered (n + 1) (stored_headers b) ≡ placed_at b (get_or places n 0)
