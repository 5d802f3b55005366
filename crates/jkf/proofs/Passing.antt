-- Soundness of a line in one pass: from the line before, up the parents, to the first whose parent is not past the parent that is given.
-- That line is the sibling before, if there is one.
--     Climbed              where the loop ends
--     direct-right         the line before is the parent
--     climbed-right        version 2: the sibling before hangs there too, and does not start below
--     climbed-single       version 1: it starts above
-- Assumes nothing.
use Prim.Native.Nat.{ℕ, ◌+◌, ◌-◌, ◌≤◌, ◌<◌}
use native.Mathlib.Omega.{arith}
use native.Mathlib.Decide.{dec_lt}
use mathlib.Core.Logic.{◌↔◌}
use mathlib.Core.Path.{◌≡◌, sym, ap, ◌∙◌}
use Rattle.jkf.specs.Trees.{HangsFrom, itself, through}
use Rattle.jkf.specs.inner.Climbing.{NoEqual}
use Rattle.jkf.proofs.Chains.{from_then, Falls, from_low, from_both}
use Rattle.jkf.proofs.Branching.{Chosen, Branched, branched_falls, no_gap}

pub record Climbed (parent : ℕ → ℕ) (k q : ℕ) : Type 0 where
  pub on : HangsFrom parent q (k - 1)
  pub past : parent k < q
  pub end : parent q ≤ parent k

-- the lines before line k are sound; its parent stands before it and has the entry
module _ (start count parent : ℕ → ℕ) {k : ℕ} (g : Branched start count parent k) (before : parent k < k)
    (from : start (parent k) ≤ start k) (within : start k - start (parent k) < count (parent k)) where
  abbrev w : Falls parent k
  w = branched_falls start count parent g

  -- none hangs on it before line k
  none_under : parent k + 1 ≡ k → (i : ℕ) → 0 < i → i < k → parent i ≡ parent k → ⊥
  none_under h i z l e = omega (arith, (g.each i z l).before)

  pub direct_right : parent k + 1 ≡ k → Chosen start count parent k
  direct_right h =
      let e : k - 1 ≡ parent k = omega arith in
      record { before = before; from = from; within = within; chain = itself e; descends = λ i z l d. absurd (none_under h i z l d) }

  pub direct_single : parent k + 1 ≡ k → NoEqual start parent k
  direct_single h i z l d s = none_under h i z l d

  module _ {q : ℕ} (c : Climbed parent k q) where
    low : q < k
    low = omega (arith, from_low w c.on (omega arith))

    sib : Chosen start count parent q
    sib = g.each q (omega (arith, c.past)) low

    step_up : HangsFrom parent (parent k) q → HangsFrom parent (parent k) (parent q)
    step_up (itself e) = absurd (omega (arith, c.past))
    step_up (through f) = f

    -- a line on the parent stands at or before the sibling
    last : parent q ≡ parent k → (i : ℕ) → 0 < i → i < k → parent i ≡ parent k → i ≤ q
    last e i z l d = go (dec_lt q i)
      where
        above : HangsFrom parent q i → q < i → HangsFrom parent q (parent i)
        above (itself x) y = absurd (omega arith)
        above (through f) y = f

        go : Dec (q < i) → i ≤ q
        go (no x) = omega arith
        go (yes x) =
            let b = (g.each i z l).before in
            let f = above (no_gap start count parent g (k - 1) i (omega arith) c.on (omega arith) (omega arith)) x in
            absurd (omega (arith, from_low w f (omega arith), c.past))

    -- and does not start below the sibling
    not-below : parent q ≡ parent k → (i : ℕ) → 0 < i → i < k → parent i ≡ parent k → start q ≤ start i
    not-below e i z l d = go (dec_lt i q)
      where
        go : Dec (i < q) → start q ≤ start i
        go (yes x) = let u : parent i ≡ parent q = d ∙ sym e in sib.descends i z x u
        go (no x) = let y : i ≡ q = omega (arith, last e i z l d) in omega (arith, ap start y)

    pub climbed_right : Chosen start count parent k ↔ ((parent q ≡ parent k) × (start k ≤ start q))
    climbed_right = (there, back)
      where
        there : Chosen start count parent k → (parent q ≡ parent k) × (start k ≤ start q)
        there r =
            let f = step_up (from_both w c.on r.chain (omega arith) (omega (arith, c.past))) in
            let e : parent q ≡ parent k = omega (arith, c.end, from_low w f (omega (arith, sib.before, low))) in
            (e, r.descends q (omega (arith, c.past)) low e)

        back : (parent q ≡ parent k) × (start k ≤ start q) → Chosen start count parent k
        back (e, s) =
            record {
              before = before;
              from = from;
              within = within;
              chain = from_then (through (itself e)) c.on;
              descends = λ i z l d. omega (arith, not-below e i z l d);
            }

    pub climbed_single : parent q ≡ parent k → (start k ≤ start q) → NoEqual start parent k ↔ (start k < start q)
    climbed_single e s = (there, λ x i z l d y. omega (arith, not-below e i z l d))
      where
        there : NoEqual start parent k → start k < start q
        there f = let ne : start q ≡ start k → ⊥ = f q (omega (arith, c.past)) low e in omega arith
