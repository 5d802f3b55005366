-- The variations that are shown are the first ones, and all of them where none starts at 0: a start of 0 alone ends them.
-- Assumes nothing.
use Prim.Native.Nat.{suc, ◌≤◌, ◌<◌}
use native.Mathlib.Omega.{arith}
use mathlib.Core.Path.{◌≡◌, refl, sym, ap, subst}
use mathlib.Core.List.{List, [], ◌∷◌}
use lib.ListN.{length, take}
use lib.Dec.{eqb}
use borrow.Author.Tests.{ne_eqb, eqb-false}
use Rattle.lists.specs.All.{All, none, next}
use Rattle.lists.proofs.Laws.{by_pick}
use Rattle.jkf.specs.Model.{Line}
use Rattle.converter.specs.Said.{shown}
use Rattle.laws.proofs.Firsts.{all_take}

-- none that is shown starts at 0
pub shown-later : (ls : List Line) → All (λ l. 0 < l.start) (shown ls)
unfolding shown
shown-later [] = none
shown-later (l ∷ ls) =
    by_pick (λ (k : List Line). All (λ l. 0 < l.start) k) (eqb l.start 0) [] (l ∷ shown ls) (λ _. none)
    (λ e. let n = eqb-false l.start 0 e in next (omega arith) (shown-later ls))

pub shown-same : {ls : List Line} → All (λ l. 0 < l.start) ls → shown ls ≡ ls
unfolding shown
shown-same none = refl
shown-same (next {x = l} {l = ls} p h) = rw (ne_eqb l.start 0 (λ e. omega arith), shown-same h)

pub shown-take : (ls : List Line) → shown ls ≡ take (length (shown ls)) ls
unfolding shown
shown-take [] = refl
shown-take (l ∷ ls) = by_pick (λ (k : List Line). k ≡ take (length k) (l ∷ ls)) (eqb l.start 0) [] (l ∷ shown ls) (λ _. refl) (λ _. ap (λ (k : List Line). l ∷ k) (shown-take ls))

-- what holds of each line holds of each that is shown
pub shown-all : {P : Line → Type 0} {ls : List Line} → All P ls → All P (shown ls)
shown-all {P} {ls} h = subst (λ (k : List Line). All P k) (sym (shown-take ls)) (all_take (length (shown ls)) h)

pub shown-few : (ls : List Line) → length (shown ls) ≤ length ls
unfolding shown
shown-few [] = omega arith
shown-few (l ∷ ls) = by_pick (λ (k : List Line). length k ≤ suc (length ls)) (eqb l.start 0) [] (l ∷ shown ls) (λ _. omega arith) (λ _. omega (arith, shown-few ls))
