-- Bytes in lent memory: what a function reads at a place, and what it leaves in a buffer that it fills.
-- Assumes nothing: these are definitions.
use Rattle.std.specs.Prelude.{ℕ, ◌+◌, ◌*◌, ◌/◌, ◌%◌, ◌≤◌, ◌≡◌, List, [], ◌∷◌, ◌++◌, length, drop, get_or, leb}
use Rattle.lists.specs.Pick.{pick}

-- The number of two bytes at a place, the low one first. Past the end every byte is 0.      (01, The block)
abbrev pub le16 : List ℕ → ℕ → ℕ
le16 b at = get_or b at 0 + 256 * get_or b (at + 1) 0

-- The two bytes of a number, the low one first. What is above 16 bits is left out.           (01, The block)
abbrev pub bytes16 : ℕ → List ℕ
bytes16 v = v % 256 ∷ v / 256 % 256 ∷ []

-- A text of n bytes stands at the front of a buffer, and the rest is as it was.
-- (01, Numbers of refusal: success changes only the bytes of the result)
pub record Wrote (text before after : List ℕ) (n : ℕ) : Type 0 where
  pub count : n ≡ length text
  pub bytes : after ≡ text ++ drop n before
  pub fits : n ≤ length before

-- A text that fits a buffer, and else nothing: what a leaf writes where it has not been told that there is room.
unfoldable pub fitting : List ℕ → List ℕ → List ℕ
fitting t o = pick (leb (length t) (length o)) t []
