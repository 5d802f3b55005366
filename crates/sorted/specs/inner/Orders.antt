-- Lists in order, and two of them merged.
-- Assumes nothing: these are definitions.
use Rattle.std.specs.Prelude.{ℕ, ◌≤◌, ◌≡◌, List, [], ◌∷◌, length, take}
use Rattle.lists.specs.All.{All}
use Rattle.std.specs.declared.cmp.Ordering.{Ordering}
use Rattle.std.specs.declared.cmp.Ordering.TheVariants.{Less}
use Rattle.sorted.specs.Sorted.{on_order}

-- One element put into an ascending list before what f makes of the rest; of equal ones the list's stays.
unfoldable pub into : {A : Type 0} → (A → A → Ordering) → A → (List A → List A) → List A → List A
into o x f [] = x ∷ f []
into o x f (y ∷ ys) = on_order (o x y) (x ∷ f (y ∷ ys)) (y ∷ f ys) (y ∷ into o x f ys)

-- Two ascending lists in one; of equal ones the second's stays.
unfoldable pub merge : {A : Type 0} → (A → A → Ordering) → List A → List A → List A
merge o [] ys = ys
merge o (x ∷ xs) ys = into o x (merge o xs) ys

-- The first n of a buffer are l.
pub record Leads (l after : List ℕ) (n : ℕ) : Type 0 where
  pub count : n ≡ length l
  pub front : take n after ≡ l
  pub fits : n ≤ length after

abbrev pub Ascending : {A : Type 0} → (A → A → Ordering) → List A → Type 0
Ascending o [] = Unit {0}
Ascending o (x ∷ l) = All (λ y. o x y ≡ Less) l × Ascending o l
