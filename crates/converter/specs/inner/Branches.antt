-- What is needed to say that the lines in their order are the Rust's way through them: the lines on a line, and the text of a line with all that hangs from
-- it. Lines are given by their numbers, n of them in all.                                               (the Rust's write_move_lines)
-- Assumes nothing: these are definitions.
use Rattle.std.specs.Prelude.{ℕ, zero, suc, ◌+◌, ◌-◌, List, [], ◌∷◌, eqb}
use Rattle.lists.specs.Pick.{pick}
use Rattle.jkf.specs.Model.{Line}
use Rattle.jkf.specs.Trees.{not_before}
use Rattle.block.specs.Encode.{concat}
use Rattle.block.specs.Decode.{run}
use Rattle.converter.specs.Show.{variation_text}

-- The lines directly on line p, of m lines from line x on, in their order.
unfoldable pub lines_on : (ℕ → Line) → ℕ → ℕ → ℕ → List ℕ
lines_on line p x zero = []
lines_on line p x (suc m) = let r = lines_on line p (x + 1) m in pick (eqb (line x).parent p) (x ∷ r) r

-- The variations of line p, of all lines.
abbrev pub variations_on : (ℕ → Line) → ℕ → ℕ → List ℕ
variations_on line n p = lines_on line p (p + 1) (n - (p + 1))

-- Line k and all that hangs from it, which follows it without a gap: how many they are.
abbrev pub reach_of : (ℕ → Line) → ℕ → ℕ → ℕ
reach_of line n k = 1 + not_before k (run line (k + 1) (n - (k + 1)))

-- Their text.
abbrev pub line_text : (ℕ → Line) → ℕ → ℕ → List ℕ
line_text line n k = concat variation_text (run line k (reach_of line n k))
