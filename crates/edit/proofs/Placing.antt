-- The place of a line put in is the only one where the lines are a tree and it is the first on its entry.
--     place-least      no place on line k where they are a tree is earlier
--     place-only       and no later one leaves it first
-- Assumes nothing.
use Prim.Native.Nat.{ℕ, ◌+◌, ◌-◌, ◌≤◌, ◌<◌}
use native.Mathlib.Omega.{arith}
use native.Mathlib.Decide.{dec_lt}
use mathlib.Core.Path.{◌≡◌, sym, ◌∙◌, subst}
use Rattle.jkf.specs.Trees.{HangsFrom, itself, through}
use Rattle.jkf.proofs.Chains.{Falls, from_low, on_way, from_start}
use Rattle.jkf.proofs.Branching.{Chosen, Branched, branched_falls, starts_fall, no_gap}
use Rattle.edit.specs.Edit.{renumbered}
use Rattle.edit.proofs.Renumbering.{Put, renumbered-low}
use Rattle.edit.proofs.Putting.{Place, between}

module _ (start count parent : ℕ → ℕ) {lines : ℕ} (g : Branched start count parent lines) {k j n : ℕ} (place : Place start count lines k j n)
    (start' count' parent' : ℕ → ℕ) {m : ℕ} (ps : Put start start' m j) (pp : Put (λ i. renumbered m (parent i)) parent' m k)
    (past : k < m) (fits : m ≤ lines) (h : Branched start' count' parent' (lines + 1)) where
  abbrev w : Falls parent lines
  w = branched_falls start count parent g

  abbrev w' : Falls parent' (lines + 1)
  w' = branched_falls start' count' parent' h

  -- a line that comes from line k and is not line k hangs on line k or after
  under_k : {i : ℕ} → HangsFrom parent k i → k < i → HangsFrom parent k (parent i)
  under_k (itself e) l = absurd (omega arith)
  under_k (through f) l = f

  new_chain : {p : ℕ} → HangsFrom parent' p m → p < m → HangsFrom parent' p k
  new_chain (itself e) l = absurd (omega arith)
  new_chain {p} (through f) l = subst (HangsFrom parent' p) pp.new f

  pub place_least : n ≤ m
  place_least = go (dec_lt m n)
    where
      go : Dec (m < n) → n ≤ m
      go (no d) = omega arith
      go (yes d) = absurd (side (dec_lt k p))
        where
          l : m < lines
          l = omega (arith, place.fits)

          p : ℕ
          p = parent m

          b : p < m
          b = (g.each m (omega arith) l).before

          above : j < start m
          above = place.above m past d

          -- the old line m stands after the new one
          r : Chosen start' count' parent' (m + 1)
          r = h.each (m + 1) (omega arith) (omega arith)

          e : parent' (m + 1) ≡ p
          e = pp.after m (omega arith) ∙ renumbered-low m p b

          side : Dec (k < p) → ⊥
          side (yes c) =
              let q : m + 1 - 1 ≡ m = omega arith in
              let f : HangsFrom parent' p m = subst (λ (a : ℕ). HangsFrom parent' a m) e (subst (HangsFrom parent' (parent' (m + 1))) q r.chain) in
              omega (arith, from_low w' (new_chain f b) (omega arith))
          side (no c) =
              let t : k ≤ p = from_low w (under_k (between start count parent g place m (omega arith) d) past) (omega arith) in
              let q : p ≡ k = omega arith in
              let u : parent' m ≡ parent' (m + 1) = pp.new ∙ sym (e ∙ q) in
              omega (arith, above, ps.new, ps.after m (omega arith), r.descends m (omega arith) (omega arith) u)

  pub place_only : ((i : ℕ) → 0 < i → i < lines + 1 → parent' i ≡ k → start' i ≡ j → m ≤ i) → m ≡ n
  place_only first = go (dec_lt n m)
    where
      go : Dec (n < m) → m ≡ n
      go (no d) = omega (arith, place_least)
      go (yes d) =
          let a : k < n = place.past in
          let f : HangsFrom parent' k n = no_gap start' count' parent' h m n (omega arith) (through (itself pp.new)) (omega arith) (omega arith) in
          let c = on_way w' f (omega arith) a in
          let b = from_low w' c.on (omega arith) in
          let s = from_start w' start' (starts_fall start' count' parent' h) c.on (omega arith) in
          let u : parent' c.child ≡ parent' m = c.under ∙ sym pp.new in
          let t = (h.each m (omega arith) (omega arith)).descends c.child (omega (arith, c.past)) (omega arith) u in
          let v : start' c.child ≡ j = omega (arith, ps.new, ps.before n d, place.next (omega arith)) in
          absurd (omega (arith, first c.child (omega (arith, c.past)) (omega arith) c.under v))
