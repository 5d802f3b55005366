-- How the code tests a line where those before it are known sound: from the line before, up the parents, to the sibling before it.
-- Assumes nothing: these are definitions.
use Rattle.std.specs.Prelude.{ℕ, zero, suc, ◌+◌, ◌-◌, ◌<◌, ◌≡◌, Bool, true, false, eqb, leb, ltb}
use Rattle.lists.specs.Pick.{pick}
use Rattle.jkf.specs.Trees.{has_ply}

-- From line q up the parents, in at most n steps, to the first whose parent is not past line p.
unfoldable pub climb : (ℕ → ℕ) → ℕ → ℕ → ℕ → ℕ
climb parent p zero q = q
climb parent p (suc n) q = let r = climb parent p n (parent q) in pick (ltb p (parent q)) r q

-- Line q hangs where line k does, and line k starts below it (version 1), or not above it.
abbrev pub follows : ℕ → (ℕ → ℕ) → (ℕ → ℕ) → ℕ → ℕ → Bool
follows version start parent k q =
    pick (eqb (parent q) (parent k)) (pick (eqb version 1) (ltb (start k) (start q)) (leb (start k) (start q))) false

-- Line k hangs right, as the code finds.
abbrev pub hangs_right : ℕ → (ℕ → ℕ) → (ℕ → ℕ) → (ℕ → ℕ) → ℕ → Bool
hangs_right version start count parent k =
    pick (ltb (parent k) k)
    (pick (has_ply (start (parent k)) (count (parent k)) (start k))
    (pick (eqb (parent k + 1) k) true (follows version start parent k (climb parent (parent k) k (k - 1))))
    false)
    false

-- No line before line k is on its entry.
abbrev pub NoEqual : (ℕ → ℕ) → (ℕ → ℕ) → ℕ → Type 0
NoEqual start parent k = (i : ℕ) → 0 < i → i < k → parent i ≡ parent k → start i ≡ start k → ⊥
