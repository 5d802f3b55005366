-- How many pieces of a kind a position has, promotion aside; and what a sound diagram keeps.            (02, request (i): "must stay equal in number")
-- Assumes nothing: these are definitions.
use Rattle.std.specs.Prelude.{ℕ, ◌+◌, ◌≤◌, ◌<◌, ◌%◌, ◌≡◌, List, [], ◌∷◌, true, length, get_or, eqb}
use Rattle.lists.specs.Pick.{pick}
use Rattle.jkf.specs.declared.Position.{Position}
use Rattle.block.specs.Sound.{is_cell}
use Rattle.positions.specs.Steps.{class}

-- f over a list, added up.
unfoldable pub sum_over : (ℕ → ℕ) → List ℕ → ℕ
sum_over f [] = 0
sum_over f (x ∷ l) = f x + sum_over f l

-- 1 where a cell holds a piece of class j, of either side, promoted or not: 0 to 6 the kinds that can be held, 7 the kings.
unfoldable pub is_of : ℕ → ℕ → ℕ
is_of j c = pick (eqb (class (c % 16)) j) 1 0

unfoldable pub count_on_board : ℕ → Position → ℕ
count_on_board j p = sum_over (is_of j) p.cells

-- In both hands.
abbrev pub in_both : List ℕ → ℕ → ℕ
in_both hands j = get_or hands j 0 + get_or hands (7 + j) 0

abbrev pub count_in_hands : ℕ → Position → ℕ
count_in_hands j p = in_both p.hands j

-- A sound diagram: flag and preset say so, cells, counts and turn are in range.
pub record FitDiagram (p : Position) : Type 0 where
  pub preset : p.preset ≡ 16
  pub board : p.board ≡ 1
  pub turn : p.turn ≤ 1
  pub squares : length p.cells ≡ 81
  pub cells : (i : ℕ) → is_cell (get_or p.cells i 0) ≡ true
  pub held : length p.hands ≡ 14
  pub counts : (i : ℕ) → get_or p.hands i 0 ≤ 255

-- What a step keeps of p in q: the pieces of each of the seven kinds, the kings, and that it is a sound diagram.
pub record Keeps (p q : Position) : Type 0 where
  pub kinds : (j : ℕ) → j < 7 → count_on_board j q + count_in_hands j q ≡ count_on_board j p + count_in_hands j p
  pub kings : count_on_board 7 q ≡ count_on_board 7 p
  pub fits : FitDiagram q
