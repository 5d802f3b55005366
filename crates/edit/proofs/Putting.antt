-- A line put in on line k of a tree: the lines are a tree again.
--     Place            line k has the ply, and n is the place: the lines between start above the ply, the next does not
--     between          so the lines between come from line k
--     put-branched        and all lines are a tree again
--     put_first        of the lines on that entry the new one stands first
--     put-single       and where none was there, no entry has two
-- Assumes nothing.
use Prim.Native.Nat.{ℕ, zero, suc, ◌+◌, ◌-◌, ◌≤◌, ◌<◌}
use native.Mathlib.Omega.{arith}
use native.Mathlib.Decide.{dec_lt}
use mathlib.Core.Path.{◌≡◌, sym, ap, ◌∙◌, subst}
use Rattle.edit.specs.Edit.{renumbered}
use Rattle.edit.proofs.Alike.{chosen-same}
use Rattle.edit.proofs.Renumbering.{Put, put-kept, renumbered-low, renumbered-high, renumbered-one, renumbered-before}
use Rattle.jkf.specs.Trees.{HangsFrom, itself, through, NoTwo}
use Rattle.jkf.proofs.Chains.{Falls, parent-low, from_low, from_both, on_way, from_start, from-same}
use Rattle.jkf.proofs.Branching.{Chosen, Branched, branched_falls, starts_fall, no_gap}

-- line k of these has ply j, and n is the place of a line put in there
pub record Place (start count : ℕ → ℕ) (lines k j n : ℕ) : Type 0 where
  pub line : k < lines
  pub from : start k ≤ j
  pub within : j - start k < count k
  pub past : k < n
  pub fits : n ≤ lines
  pub above : (i : ℕ) → k < i → i < n → j < start i
  pub next : n < lines → start n ≤ j

module _ (start count parent : ℕ → ℕ) {lines : ℕ} (g : Branched start count parent lines) {k j n : ℕ} (at : Place start count lines k j n) where
  abbrev w : Falls parent lines
  w = branched_falls start count parent g

  sf : (q : ℕ) → 0 < q → q < lines → start (parent q) ≤ start q
  sf = starts_fall start count parent g

  -- a line after line k, none of whose like stood between, comes from line k
  pub between : (i : ℕ) → k ≤ i → i < n → HangsFrom parent k i
  between zero a b = let e : 0 ≡ k = omega arith in itself e
  between (suc i) a b = go (dec_lt i k) (between i)
    where
      go : Dec (i < k) → (k ≤ i → i < n → HangsFrom parent k i) → HangsFrom parent k (suc i)
      go (yes c) ih = let e : suc i ≡ k = omega arith in itself e
      go (no c) ih = through (side (dec_lt (parent (suc i)) k))
        where
          l : suc i < lines
          l = omega (arith, at.fits)

          prev : HangsFrom parent k i
          prev = ih (omega arith) (omega arith)

          r : Chosen start count parent (suc i)
          r = g.each (suc i) (omega arith) l

          chain : HangsFrom parent (parent (suc i)) i
          chain = let e : suc i - 1 ≡ i = omega arith in subst (HangsFrom parent (parent (suc i))) e r.chain

          side : Dec (parent (suc i) < k) → HangsFrom parent k (parent (suc i))
          side (no d) = from_both w chain prev (omega arith) (omega arith)
          side (yes d) =
              let f = from_both w prev chain (omega arith) (omega arith) in
              let q = on_way w f at.line d in
              let u = from_low w q.on at.line in
              absurd
              (omega (
                arith,
                at.above (suc i) (omega arith) b,
                at.from,
                from_start w start sf q.on at.line,
                r.descends q.child (omega (arith, q.past)) (omega arith) q.under,
              ))

  -- the line after the place does not hang below line k, so its parent is on line k's chain
  next-on : n < lines → HangsFrom parent (parent n) k
  next-on h = go (dec_lt k (parent n))
    where
      p : k < n
      p = at.past

      r : Chosen start count parent n
      r = g.each n (omega arith) h

      go : Dec (k < parent n) → HangsFrom parent (parent n) k
      go (yes c) = absurd (omega (arith, at.above (parent n) c r.before, r.from, at.next h))
      go (no c) = from_both w (between (n - 1) (omega arith) (omega arith)) r.chain (omega arith) (omega arith)

  -- a later line on line k starts at or below the ply
  later-low : (i : ℕ) → n ≤ i → i < lines → parent i ≡ k → start i ≤ j
  later-low i h l e = go (dec_lt n i)
    where
      p : k < n
      p = at.past

      go : Dec (n < i) → start i ≤ j
      go (no c) = let q : i ≡ n = omega arith in omega (arith, ap start q, at.next (omega arith))
      go (yes c) =
          let f : HangsFrom parent k n = no_gap start count parent g i n l (through (itself e)) (omega arith) h in
          let q = on_way w f (omega arith) p in
          let u = from_low w q.on (omega arith) in
          let s = from_start w start sf q.on (omega arith) in
          let x = at.next (omega arith) in
          one q.child q.under q.past u s (dec_lt q.child n)
        where
          one : (o : ℕ) → parent o ≡ k → k < o → o ≤ n → start o ≤ start n → Dec (o < n) → start i ≤ j
          one o a b d s (yes y) = absurd (omega (arith, at.above o b y, at.next (omega arith)))
          one o a b d s (no y) =
              let v : parent o ≡ parent i = a ∙ sym e in
              omega (arith, at.next (omega arith), (g.each i (omega arith) l).descends o (omega arith) (omega arith) v)

  -- ---- the new lines

  module _ (start' count' parent' : ℕ → ℕ) {c : ℕ} (ps : Put start start' n j) (pc : Put count count' n c)
      (pp : Put (λ i. renumbered n (parent i)) parent' n k) where
    same-parent : (i : ℕ) → i < n → parent' i ≡ parent i
    same-parent i h = pp.before i h ∙ renumbered-low n (parent i) (omega (arith, parent-low w i (omega (arith, at.fits))))

    moved-from : {a b : ℕ} → HangsFrom parent a b → HangsFrom parent' (renumbered n a) (renumbered n b)
    moved-from (itself e) = itself (ap (renumbered n) e)
    moved-from {a} (through {i = i} f) = through (subst (HangsFrom parent' (renumbered n a)) (sym (put-kept pp i)) (moved-from f))

    new_line : Chosen start' count' parent' n
    new_line =
        let e = pp.new in
        let p = at.past in
        let f = at.fits in
        let x : start' (parent' n) ≡ start k = ap start' e ∙ ps.before k p in
        let y : count' (parent' n) ≡ count k = ap count' e ∙ pc.before k p in
        let v = ps.new in
        record {
          before = omega arith;
          from = omega (arith, at.from);
          within = omega (arith, at.within);
          chain =
              subst (λ (a : ℕ). HangsFrom parent' a (n - 1)) (sym e)
              (from-same w n same-parent (between (n - 1) (omega arith) (omega arith)) (omega arith) (omega arith));
          descends = λ o z h d.
              let u : parent o ≡ k = sym (same-parent o h) ∙ d ∙ e in
              omega (arith, ps.before o h, at.above o (omega (arith, (g.each o z (omega arith)).before)) h);
        }

    -- an old line after it, by its new number
    old_line : (i : ℕ) → n ≤ i → i < lines → Chosen start' count' parent' (i + 1)
    old_line i h l =
        record {
          before = omega (arith, e, renumbered-before n (parent i) i r.before h);
          from = omega (arith, x, v, r.from);
          within = omega (arith, x, y, v, r.within);
          chain =
              let q : i + 1 - 1 ≡ i = omega arith in
              subst (λ (a : ℕ). HangsFrom parent' a (i + 1 - 1)) (sym e) (subst (HangsFrom parent' (renumbered n (parent i))) (sym q) (chain (dec_lt n i)));
          descends = descends;
        }
      where
        p : k < n
        p = at.past

        r : Chosen start count parent i
        r = g.each i (omega arith) l

        e : parent' (i + 1) ≡ renumbered n (parent i)
        e = pp.after i h

        x : start' (parent' (i + 1)) ≡ start (parent i)
        x = ap start' e ∙ put-kept ps (parent i)

        y : count' (parent' (i + 1)) ≡ count (parent i)
        y = ap count' e ∙ put-kept pc (parent i)

        v : start' (i + 1) ≡ start i
        v = ps.after i h

        chain : Dec (n < i) → HangsFrom parent' (renumbered n (parent i)) i
        chain (yes m) =
            let q : i - 1 + 1 ≡ i = omega arith in
            subst (HangsFrom parent' (renumbered n (parent i))) (renumbered-high n (i - 1) (omega arith) ∙ q) (moved-from r.chain)
        chain (no m) =
            let q : n ≡ i = omega arith in
            let f : HangsFrom parent (parent i) k = subst (λ (o : ℕ). HangsFrom parent (parent o) k) q (next-on (omega arith)) in
            let t : renumbered n k ≡ parent' i = renumbered-low n k p ∙ sym (sym (ap parent' q) ∙ pp.new) in
            through (subst (HangsFrom parent' (renumbered n (parent i))) t (moved-from f))

        descends : (o : ℕ) → 0 < o → o < i + 1 → parent' o ≡ parent' (i + 1) → start' (i + 1) ≤ start' o
        descends o z m d = go (dec_lt o n) (dec_lt n o)
          where
            go : Dec (o < n) → Dec (n < o) → start' (i + 1) ≤ start' o
            go (yes a) b =
                let u : parent o ≡ parent i = renumbered-one n _ _ (sym (pp.before o a) ∙ d ∙ e) in
                omega (arith, v, ps.before o a, r.descends o z (omega arith) u)
            go (no a) (yes b) =
                let q : o - 1 + 1 ≡ o = omega arith in
                let u : parent (o - 1) ≡ parent i = renumbered-one n _ _ (sym (pp.after (o - 1) (omega arith)) ∙ ap parent' q ∙ d ∙ e) in
                omega (arith, v, ap start' q, ps.after (o - 1) (omega arith), r.descends (o - 1) (omega arith) (omega arith) u)
            go (no a) (no b) =
                let q : n ≡ o = omega arith in
                let t : renumbered n k ≡ renumbered n (parent i) = renumbered-low n k p ∙ sym pp.new ∙ ap parent' q ∙ d ∙ e in
                omega (arith, v, ap start' q, ps.new, later-low i h l (sym (renumbered-one n _ _ t)))

    pub put_branched : Branched start' count' parent' (lines + 1)
    put_branched =
        let p = at.past in
        record { origin = ps.before 0 (omega arith) ∙ g.origin; root = same-parent 0 (omega arith) ∙ g.root; each = each }
      where
        each : (i : ℕ) → 0 < i → i < lines + 1 → Chosen start' count' parent' i
        each i z l = go (dec_lt i n) (dec_lt n i)
          where
            go : Dec (i < n) → Dec (n < i) → Chosen start' count' parent' i
            go (yes a) b =
                let f = at.fits in
                chosen-same start count parent start' count' parent' w n ps.before pc.before same-parent i z a (omega arith) (g.each i z (omega arith))
            go (no a) (yes b) =
                let q : i - 1 + 1 ≡ i = omega arith in
                subst (Chosen start' count' parent') q (old_line (i - 1) (omega arith) (omega arith))
            go (no a) (no b) = let q : n ≡ i = omega arith in subst (Chosen start' count' parent') q new_line

    -- "written first among them"
    pub put_first : (i : ℕ) → 0 < i → i < lines + 1 → parent' i ≡ k → start' i ≡ j → n ≤ i
    put_first i z l e s = go (dec_lt i n)
      where
        go : Dec (i < n) → n ≤ i
        go (no a) = omega arith
        go (yes a) =
            let f = at.fits in
            let u = same-parent i a in
            absurd (omega (arith, ps.before i a, at.above i (omega (arith, (g.each i z (omega arith)).before)) a))

-- ---- no entry has two

-- a line put in where none is leaves every entry with one
module _ (start parent start' parent' : ℕ → ℕ) {n k j lines : ℕ} (ps : Put start start' n j) (pp : Put (λ i. renumbered n (parent i)) parent' n k)
    (past : k < n) (fits : n ≤ lines) (low : (i : ℕ) → 0 < i → i < lines → parent i < i)
    (free : (i : ℕ) → 0 < i → i < lines → parent i ≡ k → start i ≡ j → ⊥) (single : NoTwo start parent lines) where
  old_pair : (a b : ℕ) → 0 < a → a < b → b < lines → parent' (renumbered n a) ≡ parent' (renumbered n b) → start' (renumbered n a) ≡ start' (renumbered n b) → ⊥
  old_pair a b z h l e s =
      single a b z h l (renumbered-one n _ _ (sym (put-kept pp a) ∙ e ∙ put-kept pp b)) (sym (put-kept ps a) ∙ s ∙ put-kept ps b)

  with_new : (a : ℕ) → 0 < a → a < lines → parent' (renumbered n a) ≡ parent' n → start' (renumbered n a) ≡ start' n → ⊥
  with_new a z l e s =
      free a z l (renumbered-one n _ _ (sym (put-kept pp a) ∙ e ∙ pp.new ∙ sym (renumbered-low n k past))) (sym (put-kept ps a) ∙ s ∙ ps.new)

  pub put_single : NoTwo start' parent' (lines + 1)
  put_single i m z h l e s = go (dec_lt i n) (dec_lt n i) (dec_lt m n) (dec_lt n m)
    where
      past_new : (q : ℕ) → n < q → renumbered n (q - 1) ≡ q
      past_new q x = let t : q - 1 + 1 ≡ q = omega arith in renumbered-high n (q - 1) (omega arith) ∙ t

      go : Dec (i < n) → Dec (n < i) → Dec (m < n) → Dec (n < m) → ⊥
      go (yes a) b (yes c) d =
          let x = renumbered-low n i a in
          let y = renumbered-low n m c in
          old_pair i m z h (omega arith) (ap parent' x ∙ e ∙ sym (ap parent' y)) (ap start' x ∙ s ∙ sym (ap start' y))
      go (yes a) b (no c) (yes d) =
          let x = renumbered-low n i a in
          let y = past_new m d in
          old_pair i (m - 1) z (omega arith) (omega arith) (ap parent' x ∙ e ∙ sym (ap parent' y)) (ap start' x ∙ s ∙ sym (ap start' y))
      go (yes a) b (no c) (no d) =
          let x = renumbered-low n i a in
          let y : n ≡ m = omega arith in
          with_new i z (omega arith) (ap parent' x ∙ e ∙ sym (ap parent' y)) (ap start' x ∙ s ∙ sym (ap start' y))
      go (no a) (yes b) (yes c) d = omega arith
      go (no a) (yes b) (no c) (no d) = omega arith
      go (no a) (yes b) (no c) (yes d) =
          let x = past_new i b in
          let y = past_new m d in
          old_pair (i - 1) (m - 1) (omega arith) (omega arith) (omega arith) (ap parent' x ∙ e ∙ sym (ap parent' y)) (ap start' x ∙ s ∙ sym (ap start' y))
      go (no a) (no b) (yes c) d = omega arith
      go (no a) (no b) (no c) (no d) = omega arith
      go (no a) (no b) (no c) (yes d) =
          let x : n ≡ i = omega arith in
          let y = past_new m d in
          with_new (m - 1) (omega arith) (omega arith) (ap parent' y ∙ sym e ∙ sym (ap parent' x)) (ap start' y ∙ sym s ∙ sym (ap start' x))
