-- Header lines at several places of a text, and their header entries.
-- Assumes nothing: these are definitions.
use Rattle.std.specs.Prelude.{ℕ, ◌≤◌, ◌<◌, ◌≡◌, List, map, Bool, true, false, length, get_or}
use Rattle.jkf.specs.Model.{Header}
use Rattle.kakinoki.specs.Informations.{on_key_value, key_value_at, header_at}

-- A header line begins at a place, and at each of several.
abbrev pub is_header_line : List ℕ → ℕ → Bool
is_header_line s at = on_key_value (key_value_at s at) (λ from to next. true) false

pub record HeaderLines (s ps : List ℕ) : Type 0 where
  pub short : length s ≤ 65535
  pub few : length ps ≤ 13107
  pub each : (i : ℕ) → i < length ps → is_header_line s (get_or ps i 0) ≡ true

-- The header entries of their lines.
abbrev pub headers_at : List ℕ → List ℕ → List Header
headers_at s ps = map (header_at s) ps
