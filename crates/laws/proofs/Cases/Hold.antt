-- Every row of the table of cases holds: antt computes what the definitions say of each text.
-- Assumes nothing.
use mathlib.Core.Path.{refl, subst}
use Prim.Native.Nat.{ℕ}
use mathlib.Core.List.{List, ◌∷◌}
use lib.ListN.{take, drop, take-append-drop}
use Rattle.lists.specs.All.{All, none, next}
use Rattle.parser.proofs.Alls.{all_append}
use Rattle.laws.specs.Cases.{cases, CasesHold}
use Rattle.laws.proofs.Cases.Roomy.{Computed, rows}
use Rattle.laws.proofs.Cases.Opened.{opened}

-- a row and those after it
infixr 4 ◌&◌
◌&◌ : {A : Type 0} {P : A → Type 0} {x : A} {l : List A} → P x → All P l → All P (x ∷ l)
p & ps = next p ps

-- row by row, in the order of the table: the readings, then the edits and the others
readings_computed : (o : List ℕ) → All (Computed o) (take 7 cases)
unfolding opened
readings_computed o =
    (refl, (refl, refl))
    & (refl, (refl, refl))
    & (refl, (refl, refl))
    & (refl, (refl, refl))
    & (refl, (refl, refl))
    & (refl, (refl, refl))
    & (refl, (refl, refl))
    & none

edits_computed : (o : List ℕ) → All (Computed o) (drop 7 cases)
unfolding opened
edits_computed o =
    (refl, (refl, (refl, refl, refl)))
    & (refl, (refl, (refl, refl)))
    & (refl, (refl, (refl, refl)))
    & (refl, (refl, (refl, refl, refl)))
    & refl
    & refl
    & refl
    & (refl, refl)
    & none

pub cases_hold : CasesHold
cases_hold o h = rows o h (subst (All (Computed o)) (take-append-drop 7 cases) (all_append (readings_computed o) (edits_computed o)))
