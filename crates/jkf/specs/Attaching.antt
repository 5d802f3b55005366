-- Where a variation hangs. The starts and entry counts of the lines are functions, so that a table's rows, a block's and a list's share the
-- rule; and a list of lines of play, each hung by it.                                                                                    (01, Attaching rule)
-- Assumes nothing: these are definitions.
use Rattle.std.specs.Prelude.{ℕ, zero, suc, ◌+◌, ◌-◌, List, [], ◌∷◌, length, get_or, leb, ltb, Option, Some, None}
use Rattle.lists.specs.Pick.{pick}
use Rattle.jkf.specs.Model.{Noted, Line}

-- Of lines 0 to k - 1 the last whose start is at or below s; line 0 where there is none.
unfoldable pub near : (ℕ → ℕ) → ℕ → ℕ → ℕ
near start s zero = 0
near start s (suc j) = let r = near start s j in pick (leb (start j) s) j r

-- On the line p with start t and n entries: the entry is the start less the line's, if there is that entry.
abbrev pub hang_on : ℕ → ℕ → ℕ → ℕ → Option (ℕ × ℕ)
hang_on s p t n = pick (leb t s) (pick (ltb (s - t) n) (Some (p, s - t)) None) None

-- Where line k with start s hangs.
unfoldable pub hangs : (ℕ → ℕ) → (ℕ → ℕ) → ℕ → ℕ → Option (ℕ × ℕ)
hangs start count s k = hang_on s (near start s k) (start (near start s k)) (count (near start s k))

abbrev pub on_hang : {A : Type 0} → Option (ℕ × ℕ) → (ℕ → ℕ → A) → A → A
on_hang (Some (p, e)) f d = f p e
on_hang None f d = d

-- All of n lines from k on hang, or the first that does not, with its start: refusal 6's figures.
pub data Hung : Type 0 where
  all : Hung
  first : ℕ → ℕ → Hung

abbrev pub on_hung : {A : Type 0} → Hung → (ℕ → ℕ → A) → A → A
on_hung (first k ply) f d = f k ply
on_hung all f d = d

unfoldable pub hung_from : (ℕ → ℕ) → (ℕ → ℕ) → ℕ → ℕ → Hung
hung_from start count k zero = all
hung_from start count k (suc n) =
    on_hang (hangs start count (start k) k) (λ p e. hung_from start count (k + 1) n) (first k (start k))

-- ---- lines of play

-- A line of play: the ply that it starts at, and its entries.
pub record Play : Type 0 where
  pub start : ℕ
  pub entries : List Noted

abbrev pub play : ℕ → List Noted → Play
play start entries = record { start = start; entries = entries }

abbrev pub play_of : List Play → ℕ → Play
play_of ps k = get_or ps k (play 0 [])

abbrev pub starts : List Play → ℕ → ℕ
starts ps k = (play_of ps k).start

abbrev pub counts : List Play → ℕ → ℕ
counts ps k = length (play_of ps k).entries

-- Line k's parent; 0 where it hangs nowhere.
unfoldable pub parent_in : List Play → ℕ → ℕ
parent_in ps k = on_hang (hangs (starts ps) (counts ps) (starts ps k) k) (λ p e. p) 0

-- The lines from line k on, each with its parent among all.
unfoldable pub attach_from : List Play → ℕ → List Play → List Line
attach_from ps k [] = []
attach_from ps k (p ∷ rest) = record { start = p.start; parent = parent_in ps k; entries = p.entries } ∷ attach_from ps (k + 1) rest

unfoldable pub attach : List Play → List Line
attach ps = attach_from ps 0 ps

-- Whether every variation hangs, or the first that does not and its ply.                             (01, Attaching rule: refusal 6)
unfoldable pub all_hung : List Play → Hung
all_hung ps = hung_from (starts ps) (counts ps) 1 (length ps - 1)
