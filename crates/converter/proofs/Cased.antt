-- The texts of a position by the cases that a writer tells apart, and the pieces that its loops write.
-- Assumes nothing.
use Prim.Native.Nat.{ℕ, zero-le, ◌+◌, ◌*◌, ◌-◌, ◌≤◌, ◌<◌}
use native.Mathlib.Omega.{arith}
use mathlib.Core.Path.{◌≡◌, ap}
use mathlib.Core.List.{List, [], ◌∷◌, ◌++◌}
use lib.ListN.{length, get_or}
use lib.Dec.{ltb}
use borrow.Author.Tests.{eq-eqb, ne_eqb, lt-ltb, le-ltb, le-leb, lt-leb}
use Rattle.lists.specs.Pick.{pick}
use Rattle.text.specs.Text.{wide_space}
use Rattle.spell.specs.Tables.{kinds, sides}
use Rattle.spell.specs.Spell.{spelled}
use Rattle.spell.specs.Count.{count_text}
use Rattle.jkf.specs.declared.Position.{Position}
use Rattle.spell.specs.Words.{turn_tag, none_tag, empty_tag}
use Rattle.converter.specs.Diagrams.{preset_line, held_text, held, or_none, cell_text, turn_text, diagram_text, position_text}

-- ---- what a turn of a loop writes

-- the kind that comes i-th in a hand
abbrev pub held_piece : List ℕ → ℕ → ℕ → List ℕ
held_piece hands side i = held_text (7 - i) (held hands side (7 - i))

-- the cell that comes i-th in a rank
abbrev pub cell_piece : List ℕ → ℕ → ℕ → List ℕ
cell_piece cells rank i = cell_text (get_or cells (9 * (8 - i) + rank) 0)

-- ---- cases

-- a count is written above 1
abbrev pub more_text : ℕ → List ℕ
more_text count = pick (ltb 1 count) (count_text count) []

-- above 1 it is the count
pub more_many : (count : ℕ) → 1 < count → more_text count ≡ count_text count
more_many count h = rw (lt-ltb _ _ h)

-- at 1 it is nothing
pub more-one : (count : ℕ) → count ≤ 1 → more_text count ≡ []
more-one count h = rw (le-ltb _ _ h)

-- a kind of which there is none is not written
pub held_none : (kind count : ℕ) → count ≡ 0 → held_text kind count ≡ []
unfolding held_text
held_none kind count h = rw (eq-eqb _ _ h)

-- one of which there is some: the kind, the count above 1, U+3000
pub held-some : (kind count : ℕ) → (count ≡ 0 → ⊥) → held_text kind count ≡ (spelled kinds kind ++ more_text count) ++ wide_space
unfolding held_text
held-some kind count h = rw (ne_eqb _ _ h)

-- なし for an empty hand
pub hand-none : (t : List ℕ) → length t ≡ 0 → or_none t ≡ none_tag
hand-none t h = rw (eq-eqb _ _ h)

-- a hand that is not empty is what it holds
pub hand-some : (t : List ℕ) → (length t ≡ 0 → ⊥) → or_none t ≡ t
hand-some t h = rw (ne_eqb _ _ h)

-- what a hand holds is no longer than what is written of it
pub hand-room : (t : List ℕ) (n : ℕ) → length (or_none t) ≤ n → length t ≤ n
hand-room [] n h = zero-le
hand-room (b ∷ t) n h = omega (arith, ap length (hand-some (b ∷ t) (λ z. omega arith)))

-- an empty cell
pub cell_empty : (v : ℕ) → v ≡ 0 → cell_text v ≡ empty_tag
unfolding cell_text
cell_empty v h = rw (eq-eqb _ _ h)

-- a space before a piece of Black
pub cell_black : (v : ℕ) → (v ≡ 0 → ⊥) → v ≤ 14 → cell_text v ≡ (32 ∷ []) ++ spelled kinds v
unfolding cell_text
cell_black v h k = rw (ne_eqb _ _ h, le-leb _ _ k)

-- v before one of White
pub cell_white : (v w : ℕ) → 14 < v → w ≡ v - 16 → cell_text v ≡ (118 ∷ []) ++ spelled kinds w
unfolding cell_text
cell_white v w h e = let k : v ≡ 0 → ⊥ = λ z. omega arith in rw (ne_eqb _ _ k, lt-leb _ _ h, e)

-- nothing where White is not to move
pub turn-none : (turn : ℕ) → (turn ≡ 1 → ⊥) → turn_text turn ≡ []
unfolding turn_text
turn-none turn h = rw (ne_eqb _ _ h)

-- White's line
pub turn-white : (turn : ℕ) → turn ≡ 1 → turn_text turn ≡ (spelled sides 1 ++ turn_tag) ++ (10 ∷ [])
unfolding turn_text
turn-white turn h = rw (eq-eqb _ _ h)

-- a preset where there is no board
pub position-preset : (p : Position) → p.board ≡ 0 → position_text p ≡ preset_line p.preset
unfolding position_text
position-preset p h = rw (eq-eqb _ _ h)

-- a diagram where there is a board
pub position-diagram : (p : Position) → (p.board ≡ 0 → ⊥) → position_text p ≡ diagram_text p
unfolding position_text
position-diagram p h = rw (ne_eqb _ _ h)
