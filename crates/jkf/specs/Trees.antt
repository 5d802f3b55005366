-- Which lines may stand as a block's, each on its parent: in version 1 where the attaching rule finds it, in version 2 by choice. Starts, entry
-- counts and parents are functions, so that a block's table and a list of lines share the rule.             (01, Attaching rule; 02, request (vi))
-- Assumes nothing: these are definitions.
use Rattle.std.specs.Prelude.{ℕ, zero, suc, ◌+◌, ◌-◌, ◌≤◌, ◌<◌, ◌≡◌, Bool, true, false, List, [], ◌∷◌, drop, eqb, leb, ltb}
use Rattle.lists.specs.Pick.{pick}
use Rattle.lists.specs.Test.{Test, ◌equals◌, ◌at_most◌, holds, ◌and◌, each, flag, claim}
use Rattle.jkf.specs.Model.{Line}
use Rattle.jkf.specs.Attaching.{hangs, on_hang}

-- ---- the test of a line

-- The versions that there are.                                                                         (02, request (vi))
abbrev pub is_version : ℕ → Bool
is_version v = pick (eqb v 1) true (eqb v 2)

-- A line with start t and n entries has ply s.
abbrev pub has_ply : ℕ → ℕ → ℕ → Bool
has_ply t n s = pick (leb t s) (ltb (s - t) n) false

-- Line i is line a, or the line that it hangs on leads to line a; in at most n steps.
unfoldable pub leads_to : (ℕ → ℕ) → ℕ → ℕ → ℕ → Bool
leads_to parent a zero i = eqb i a
leads_to parent a (suc n) i = let r = leads_to parent a n (parent i) in pick (eqb i a) true r

-- Version 1: the parent is the one that the attaching rule finds.                                      (01, Attaching rule)
abbrev pub searched : (ℕ → ℕ) → (ℕ → ℕ) → (ℕ → ℕ) → ℕ → Test
searched start count parent k = holds (on_hang (hangs start count (start k) k) (λ p e. eqb (parent k) p) false)

-- Version 2: the parent is an earlier line; it has the entry; the line before comes from it, so that all that hangs from a line follows it
-- without a gap; and no line that hangs there already starts below.                                    (02, request (vi))
abbrev pub chosen : (ℕ → ℕ) → (ℕ → ℕ) → (ℕ → ℕ) → ℕ → Test
chosen start count parent k =
    parent k + 1 at_most k
    and holds (has_ply (start (parent k)) (count (parent k)) (start k))
    and holds (leads_to parent (parent k) k (k - 1))
    and each k (λ i. holds (pick (eqb i 0) true (pick (eqb (parent i) (parent k)) (leb (start k) (start i)) true)))

-- Line 0 starts at 0 and has no parent; any other hangs as its version asks.
abbrev pub hang_test : ℕ → (ℕ → ℕ) → (ℕ → ℕ) → (ℕ → ℕ) → ℕ → Test
hang_test version start count parent k =
    holds
    (pick (eqb k 0)
    (flag (start 0 equals 0 and parent 0 equals 0))
    (pick (eqb version 1) (flag (searched start count parent k)) (flag (chosen start count parent k))))

-- n lines hang as that version asks.
abbrev pub HangAs : ℕ → (ℕ → ℕ) → (ℕ → ℕ) → (ℕ → ℕ) → ℕ → Type 0
HangAs version start count parent n = (k : ℕ) → k < n → claim (hang_test version start count parent k)

-- ---- what hangs from a line

-- How many of these lines stand before the first that hangs on a line before line k.
unfoldable pub not_before : ℕ → List Line → ℕ
not_before k [] = 0
not_before k (l ∷ ls) = let r = not_before k ls in pick (leb k l.parent) (suc r) 0

-- Line k and all that hangs from it, which follows it without a gap: how many they are.
abbrev pub reach : List Line → ℕ → ℕ
reach ls k = 1 + not_before k (drop (k + 1) ls)

-- ---- what the test says of all lines

-- Line i is line a, or its parent hangs from line a: the chain of its parents leads to line a.
pub data HangsFrom (parent : ℕ → ℕ) (a : ℕ) : ℕ → Type 0 where
  itself : {i : ℕ} → i ≡ a → HangsFrom parent a i
  through : {i : ℕ} → HangsFrom parent a (parent i) → HangsFrom parent a i

-- A tree of n lines: what is asked of version 2, of all lines at once.                                  (02, request (vi))
pub record Tree (start count parent : ℕ → ℕ) (n : ℕ) : Type 0 where
  pub origin : start 0 ≡ 0
  pub root : parent 0 ≡ 0
  -- A line hangs on an earlier line,
  pub earlier : (k : ℕ) → 0 < k → k < n → parent k < k
  -- which has the entry.
  pub entry : (k : ℕ) → 0 < k → k < n → has_ply (start (parent k)) (count (parent k)) (start k) ≡ true
  -- All that hangs from a line, directly or through others, follows it without a gap.
  pub no_gap : (a m x : ℕ) → m < n → HangsFrom parent a m → a ≤ x → x ≤ m → HangsFrom parent a x
  -- Lines directly under one line stand in descending ply; equals in any order: a move's forks in the Rust are these lines from the last to the first.
  pub descends : (i k : ℕ) → 0 < i → i < k → k < n → parent i ≡ parent k → start k ≤ start i

-- No entry of n lines has two variations.
abbrev pub NoTwo : (ℕ → ℕ) → (ℕ → ℕ) → ℕ → Type 0
NoTwo start parent n = (i k : ℕ) → 0 < i → i < k → k < n → parent i ≡ parent k → start i ≡ start k → ⊥
