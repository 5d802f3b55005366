-- Line k and what hangs from it cut out of a tree: the lines are a tree again.
--     kept-parent      a line that stays hangs on one that stays
--     cut-branched        all lines that stay are a tree
--     cut-single       and where no entry had two, none has
-- Assumes nothing.
use Prim.Native.Nat.{ℕ, ◌+◌, ◌-◌, ◌≤◌, ◌<◌}
use native.Mathlib.Omega.{arith}
use native.Mathlib.Decide.{dec_lt}
use mathlib.Core.Path.{◌≡◌, sym, ap, ◌∙◌, subst}
use Rattle.edit.specs.Edit.{lowered, IsKept}
use Rattle.edit.proofs.Renumbering.{Cut, cut-kept, lowered-low, lowered-high, lowered-one, lowered-before}
use Rattle.jkf.specs.Trees.{HangsFrom, itself, through, NoTwo}
use Rattle.jkf.proofs.Chains.{from_then, Falls, parent-low}
use Rattle.jkf.proofs.Branching.{Chosen, Branched, branched_falls}
use Rattle.jkf.proofs.Reaching.{Reaches, reach_is, next-parent}
use Rattle.edit.proofs.Alike.{chosen-same}

module _ (start count parent : ℕ → ℕ) {lines : ℕ} (g : Branched start count parent lines) {k m : ℕ} (run : Reaches parent lines k m) (later : 0 < k) where
  abbrev w : Falls parent lines
  w = branched_falls start count parent g

  pub kept-parent : (i : ℕ) → i < lines → IsKept k m i → IsKept k m (parent i)
  kept-parent i l f a = go (dec_lt (parent i) (k + m))
    where
      go : Dec (parent i < k + m) → k + m ≤ parent i
      go (no b) = omega arith
      go (yes b) =
          let p = parent-low w i l in
          let c : HangsFrom parent k i = through ((reach_is start count parent g run (parent i) (omega arith)).1 (a, b)) in
          let (x, y) = (reach_is start count parent g run i l).0 c in
          absurd (omega (arith, f x))

  module _ (start' count' parent' : ℕ → ℕ) (cs : Cut start start' k m) (cc' : Cut count count' k m) (cp : Cut (λ i. lowered k m (parent i)) parent' k m) where
    same-parent : (i : ℕ) → i < k → parent' i ≡ parent i
    same-parent i h =
        let b = run.within in
        cp.before i h ∙ lowered-low k m (parent i) (omega (arith, parent-low w i (omega arith)))

    moved-from : {a b : ℕ} → HangsFrom parent a b → b < lines → IsKept k m b → HangsFrom parent' (lowered k m a) (lowered k m b)
    moved-from (itself e) l f = itself (ap (lowered k m) e)
    moved-from {a} (through {i = i} h) l f =
        let p = parent-low w i l in
        through (subst (HangsFrom parent' (lowered k m a)) (sym (cut-kept cp i f)) (moved-from h (omega arith) (kept-parent i l f)))

    -- a line after the run, by its new number
    old_line : (i : ℕ) → k + m ≤ i → i < lines → Chosen start' count' parent' (i - m)
    old_line i h l =
        record {
          before = omega (arith, e, lowered-before k m (parent i) i kp r.before h);
          from = omega (arith, x, v, r.from);
          within = omega (arith, x, y, v, r.within);
          chain = subst (λ (a : ℕ). HangsFrom parent' a (i - m - 1)) (sym e) (chain (dec_lt (k + m) i));
          descends = descends;
        }
      where
        kept : IsKept k m i
        kept = λ a. h

        r : Chosen start count parent i
        r = g.each i (omega arith) l

        kp : IsKept k m (parent i)
        kp = kept-parent i l kept

        at : lowered k m i ≡ i - m
        at = lowered-high k m i (omega arith)

        e : parent' (i - m) ≡ lowered k m (parent i)
        e = ap parent' (sym at) ∙ cut-kept cp i kept

        x : start' (parent' (i - m)) ≡ start (parent i)
        x = ap start' e ∙ cut-kept cs (parent i) kp

        y : count' (parent' (i - m)) ≡ count (parent i)
        y = ap count' e ∙ cut-kept cc' (parent i) kp

        v : start' (i - m) ≡ start i
        v = ap start' (sym at) ∙ cut-kept cs i kept

        chain : Dec (k + m < i) → HangsFrom parent' (lowered k m (parent i)) (i - m - 1)
        chain (yes d) =
            let q : i - 1 - m ≡ i - m - 1 = omega arith in
            subst (HangsFrom parent' (lowered k m (parent i))) (lowered-high k m (i - 1) (omega arith) ∙ q)
            (moved-from r.chain (omega arith) (λ a. omega arith))
        chain (no d) =
            let q : k + m ≡ i = omega arith in
            let t : k - 1 ≡ i - m - 1 = omega arith in
            let f : HangsFrom parent (parent i) (parent k) = subst (λ (o : ℕ). HangsFrom parent (parent o) (parent k)) q (next-parent start count parent g run later (omega arith)) in
            subst (HangsFrom parent' (lowered k m (parent i))) (lowered-low k m (k - 1) (omega arith) ∙ t)
            (moved-from (from_then f (g.each k later (omega arith)).chain) (omega arith) (λ a. absurd (omega arith)))

        -- an earlier line under the same line, by its old number
        old : (o : ℕ) → 0 < o → o < i → IsKept k m o → parent' (lowered k m o) ≡ parent' (i - m) → start' (i - m) ≤ start' (lowered k m o)
        old o z d f b =
            let u : parent o ≡ parent i =
            lowered-one k m _ _ (kept-parent o (omega arith) f) kp (sym (cut-kept cp o f) ∙ b ∙ e) in
            omega (arith, v, cut-kept cs o f, r.descends o z d u)

        descends : (o : ℕ) → 0 < o → o < i - m → parent' o ≡ parent' (i - m) → start' (i - m) ≤ start' o
        descends o z d b = go (dec_lt o k)
          where
            go : Dec (o < k) → start' (i - m) ≤ start' o
            go (yes a) =
                let q = lowered-low k m o a in
                omega (arith, ap start' q, old o z (omega arith) (λ c. absurd (omega arith)) (ap parent' q ∙ b))
            go (no a) =
                let t : o + m - m ≡ o = omega arith in
                let q : lowered k m (o + m) ≡ o = lowered-high k m (o + m) (omega arith) ∙ t in
                omega (arith, ap start' q, old (o + m) (omega arith) (omega arith) (λ c. omega arith) (ap parent' q ∙ b))

    pub cut_branched : Branched start' count' parent' (lines - m)
    cut_branched = record { origin = cs.before 0 later ∙ g.origin; root = same-parent 0 later ∙ g.root; each = each }
      where
        each : (i : ℕ) → 0 < i → i < lines - m → Chosen start' count' parent' i
        each i z l = go (dec_lt i k)
          where
            go : Dec (i < k) → Chosen start' count' parent' i
            go (yes a) =
                chosen-same start count parent start' count' parent' w k cs.before cc'.before same-parent i z a (omega arith) (g.each i z (omega arith))
            go (no a) =
                let q : i + m - m ≡ i = omega arith in
                subst (Chosen start' count' parent') q (old_line (i + m) (omega arith) (omega arith))

-- ---- no entry has two

module _ (start parent start' parent' : ℕ → ℕ) {k m lines : ℕ} (cs : Cut start start' k m) (cp : Cut (λ i. lowered k m (parent i)) parent' k m)
    (fits : k + m ≤ lines) (kept : (i : ℕ) → i < lines → IsKept k m i → IsKept k m (parent i)) (single : NoTwo start parent lines) where
  left_pair : (a b : ℕ) → 0 < a → a < b → b < lines → IsKept k m a → IsKept k m b → parent' (lowered k m a) ≡ parent' (lowered k m b)
      → start' (lowered k m a) ≡ start' (lowered k m b) → ⊥
  left_pair a b z h l f g e s =
      single a b z h l (lowered-one k m _ _ (kept a (omega arith) f) (kept b l g) (sym (cut-kept cp a f) ∙ e ∙ cut-kept cp b g))
      (sym (cut-kept cs a f) ∙ s ∙ cut-kept cs b g)

  pub cut_single : NoTwo start' parent' (lines - m)
  cut_single i q z h l e s = go (dec_lt i k) (dec_lt q k)
    where
      down : (o : ℕ) → k ≤ o → lowered k m (o + m) ≡ o
      down o x = let t : o + m - m ≡ o = omega arith in lowered-high k m (o + m) (omega arith) ∙ t

      go : Dec (i < k) → Dec (q < k) → ⊥
      go (yes a) (yes b) =
          let x = lowered-low k m i a in
          let y = lowered-low k m q b in
          left_pair i q z h (omega arith) (λ c. absurd (omega arith)) (λ c. absurd (omega arith)) (ap parent' x ∙ e ∙ sym (ap parent' y)) (ap start' x ∙ s ∙ sym (ap start' y))
      go (yes a) (no b) =
          let x = lowered-low k m i a in
          let y = down q (omega arith) in
          left_pair i (q + m) z (omega arith) (omega arith) (λ c. absurd (omega arith)) (λ c. omega arith) (ap parent' x ∙ e ∙ sym (ap parent' y)) (ap start' x ∙ s ∙ sym (ap start' y))
      go (no a) (yes b) = omega arith
      go (no a) (no b) =
          let x = down i (omega arith) in
          let y = down q (omega arith) in
          left_pair (i + m) (q + m) (omega arith) (omega arith) (omega arith) (λ c. omega arith) (λ c. omega arith) (ap parent' x ∙ e ∙ sym (ap parent' y)) (ap start' x ∙ s ∙ sym (ap start' y))
