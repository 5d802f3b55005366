-- A hand is its seven counts.
-- Assumes nothing.
use Prim.Native.Nat.{ℕ, zero, suc}
use mathlib.Core.Path.{◌≡◌, refl, sym, ap, ◌∙◌}
use mathlib.Core.List.{List, [], ◌∷◌, ◌++◌}
use lib.ListN.{length, get_or}
use Rattle.kakinoki.specs.Starts.{add_counts, add_hands}

-- what f says of the numbers below n
abbrev pub listed : ℕ → (ℕ → ℕ) → List ℕ
listed zero f = []
listed (suc n) f = f 0 ∷ listed n (λ i. f (suc i))

abbrev pub seven_of : List ℕ → List ℕ
seven_of a = listed 7 (λ i. get_or a i 0)

all_listed : (a : List ℕ) → a ≡ listed (length a) (λ i. get_or a i 0)
all_listed [] = refl
all_listed (x ∷ a) = ap (λ (l : List ℕ). x ∷ l) (all_listed a)

pub seven : (a : List ℕ) → length a ≡ 7 → a ≡ seven_of a
seven a e = all_listed a ∙ ap (λ (n : ℕ). listed n (λ i. get_or a i 0)) e

pub append_sevens : (a b : List ℕ) → length a ≡ 7 → length b ≡ 7 → seven_of a ++ seven_of b ≡ a ++ b
append_sevens a b e f = ap (λ (l : List ℕ). l ++ seven_of b) (sym (seven a e)) ∙ ap (λ (l : List ℕ). a ++ l) (sym (seven b f))

pub add_sevens : (a b : List ℕ) → length a ≡ 7 → length b ≡ 7 → add_hands a b ≡ listed 7 (λ i. add_counts (get_or a i 0) (get_or b i 0))
unfolding add_hands
add_sevens a b e f = ap (λ (l : List ℕ). add_hands l b) (seven a e) ∙ ap (add_hands (seven_of a)) (seven b f)
