-- What a comparison reads of a key at a time.
-- Assumes nothing: these are definitions.
use Rattle.std.specs.Prelude.{ℕ, ◌+◌, ◌*◌, ◌<◌, ◌≡◌, List, [], ◌∷◌, ◌++◌, Bool, false, not, get_or, eqb}
use Rattle.lists.specs.All.{All}
use Rattle.lists.specs.Pick.{pick}
use Rattle.text.specs.Text.{is_text, key_at}

-- No byte at which a key may end: a CR, an LF, or the first byte of ：.
abbrev pub is_plain : ℕ → Bool
is_plain b = pick (is_text b) (not (eqb b 239)) false

-- One more than the first byte, and 0 where there is none.
abbrev pub head_of : List ℕ → ℕ
head_of [] = 0
head_of (b ∷ l) = b + 1

-- Bytes as the lead_digits that follow those of a number.
abbrev pub lead_digits : ℕ → List ℕ → ℕ
lead_digits v [] = v
lead_digits v (b ∷ l) = lead_digits (v * 256 + b) l

abbrev pub four_at : List ℕ → ℕ → List ℕ
four_at s at = get_or s at 0 ∷ get_or s (at + 1) 0 ∷ get_or s (at + 2) 0 ∷ get_or s (at + 3) 0 ∷ []

-- The key at a place begins with the four bytes there, and r is these as one number.
pub record Four (s : List ℕ) (at r : ℕ) : Type 0 where
  pub parts : key_at s at ≡ four_at s at ++ key_at s (at + 4)
  pub value : r ≡ lead_digits 0 (four_at s at)
  pub bytes : All (λ b. b < 256) (four_at s at)
