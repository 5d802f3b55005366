-- Several texts that grow in one lent buffer, each at an end of its own.
-- Assumes nothing: these are definitions.
use Rattle.std.specs.Prelude.{ℕ, ◌≤◌, ◌+◌, ◌≡◌, List, [], ◌∷◌, ◌++◌, length}
use Rattle.lent.specs.Stored.{put}

-- Each text at its place; where a text is missing, none.
abbrev pub puts : List ℕ → List ℕ → List (List ℕ) → List ℕ
puts o [] ts = o
puts o (p ∷ ps) [] = o
puts o (p ∷ ps) (t ∷ ts) = puts (put o p t) ps ts

-- The places past those texts.
abbrev pub ends_past : List ℕ → List (List ℕ) → List ℕ
ends_past [] ts = []
ends_past (p ∷ ps) [] = p ∷ ps
ends_past (p ∷ ps) (t ∷ ts) = (p + length t) ∷ ends_past ps ts

-- Each text followed by a further one.
abbrev pub join : List (List ℕ) → List (List ℕ) → List (List ℕ)
join [] us = us
join (t ∷ ts) [] = t ∷ ts
join (t ∷ ts) (u ∷ us) = (t ++ u) ∷ join ts us

-- Where the next region begins: n past the last.
abbrev pub first : ℕ → List ℕ → ℕ
first n [] = n
first n (p ∷ ps) = p

-- No more texts than places, and each ends before the next place, the last before n.
abbrev pub Room : ℕ → List ℕ → List (List ℕ) → Type 0
Room n [] [] = Unit {0}
Room n [] (t ∷ ts) = ⊥
Room n (p ∷ ps) [] = (p ≤ first n ps) × Room n ps []
Room n (p ∷ ps) (t ∷ ts) = (p + length t ≤ first n ps) × Room n ps ts

-- The same numbers, one by one.
abbrev pub SameMany : List ℕ → List ℕ → Type 0
SameMany [] [] = Unit {0}
SameMany [] (q ∷ qs) = ⊥
SameMany (p ∷ ps) [] = ⊥
SameMany (p ∷ ps) (q ∷ qs) = (p ≡ q) × SameMany ps qs

-- The texts were appended at their ends, and nothing else changed.
pub record Filled (ts : List (List ℕ)) (o o' : List ℕ) (ps ps' : List ℕ) : Type 0 where
  pub bytes : o' ≡ puts o ps ts
  pub ends : SameMany ps' (ends_past ps ts)

abbrev pub all : List (List ℕ) → List ℕ
all [] = []
all (t ∷ ts) = t ++ all ts

-- Where the texts begin that follow one another from p on.
abbrev pub places_of : ℕ → List (List ℕ) → List ℕ
places_of p [] = []
places_of p (t ∷ ts) = p ∷ places_of (p + length t) ts
