-- The test of each line, taken apart; and that it says 02's words of all lines.
--     Chosen, Branched        what version 2's test says of a line; and of all
--     branched-says, says-branched       the tests of all lines hold exactly if
--     no_gap               all that hangs from a line follows it without a gap, from the test of each line
--     tree_is              sound as version 2 is exactly 02's words
-- Assumes nothing.
use Prim.Native.Nat.{ℕ, zero, suc, ◌-◌, ◌≤◌, ◌<◌}
use native.Mathlib.Omega.{arith}
use native.Mathlib.Decide.{dec_lt}
use mathlib.Core.Logic.{◌↔◌}
use mathlib.Core.Path.{◌≡◌, refl, sym, ap, ◌∙◌, subst}
use mathlib.Core.Bool.{Bool, true, false}
use lib.Dec.{eqb, leb, ltb}
use borrow.Author.Tests.{eqb-true, eqb-false, eq-eqb, ne_eqb, leb-true, le-leb, ltb-true, lt-ltb}
use Rattle.lists.specs.Pick.{pick}
use Rattle.lists.specs.Test.{◌equals◌, ◌and◌, flag, claim}
use Rattle.lists.proofs.Laws.{pick_both}
use Rattle.lists.proofs.Tests.{says, answers}
use Rattle.jkf.specs.Trees.{chosen, HangAs, HangsFrom, itself, through, Tree}
use Rattle.jkf.proofs.Chains.{from_then, Falls, leads_says, leads-from}

pub record Chosen (start count parent : ℕ → ℕ) (k : ℕ) : Type 0 where
  pub before : parent k < k
  pub from : start (parent k) ≤ start k
  pub within : start k - start (parent k) < count (parent k)
  pub chain : HangsFrom parent (parent k) (k - 1)
  pub descends : (i : ℕ) → 0 < i → i < k → parent i ≡ parent k → start k ≤ start i

pub record Branched (start count parent : ℕ → ℕ) (n : ℕ) : Type 0 where
  pub origin : start 0 ≡ 0
  pub root : parent 0 ≡ 0
  pub each : (k : ℕ) → 0 < k → k < n → Chosen start count parent k

-- a test of line 0 or of a later line
pub test_first : (t u : Bool) → pick (eqb 0 0) t u ≡ true → t ≡ true
test_first t u h = h

pub test_later : (k : ℕ) (t u : Bool) → 0 < k → pick (eqb k 0) t u ≡ true → u ≡ true
test_later k t u z h =
    let e : eqb k 0 ≡ false = ne_eqb k 0 (λ q. omega arith) in
    sym (ap (λ (x : Bool). pick x t u) e) ∙ h

pub test_by : (k : ℕ) (t u : Bool) → (k ≡ 0 → t ≡ true) → (0 < k → u ≡ true) → pick (eqb k 0) t u ≡ true
test_by k t u f g = go (eqb k 0) refl
  where
    go : (x : Bool) → eqb k 0 ≡ x → pick x t u ≡ true
    go true e = f (eqb-true k 0 e)
    go false e = let ne : k ≡ 0 → ⊥ = eqb-false k 0 e in g (omega arith)

module _ (start count parent : ℕ → ℕ) where
  -- ---- one line

  chosen_says : (k : ℕ) → claim (chosen start count parent k) → Chosen start count parent k
  chosen_says k (a, (b, (c, d))) =
      let (x, y) = pick_both (leb (start (parent k)) (start k)) (ltb (start k - start (parent k)) (count (parent k))) b in
      record {
        before = omega arith;
        from = leb-true _ _ x;
        within = ltb-true _ _ y;
        chain = leads_says parent (parent k) k (k - 1) c;
        descends = descends;
      }
    where
      descends : (i : ℕ) → 0 < i → i < k → parent i ≡ parent k → start k ≤ start i
      descends i z l e =
          let u : pick (eqb (parent i) (parent k)) (leb (start k) (start i)) true ≡ true =
          test_later i true (pick (eqb (parent i) (parent k)) (leb (start k) (start i)) true) z (d i l) in
          leb-true (start k) (start i) (sym (ap (λ (x : Bool). pick x (leb (start k) (start i)) true) (eq-eqb _ _ e)) ∙ u)

  says_chosen : (k : ℕ) → 0 < k → Falls parent k → Chosen start count parent k → claim (chosen start count parent k)
  says_chosen k z w r =
      (omega (arith, r.before), (rw (le-leb _ _ r.from, lt-ltb _ _ r.within), (leads-from w k r.chain (omega arith) (omega arith), each)))
    where
      each : (i : ℕ) → i < k → pick (eqb i 0) true (pick (eqb (parent i) (parent k)) (leb (start k) (start i)) true) ≡ true
      each i l = test_by i true (pick (eqb (parent i) (parent k)) (leb (start k) (start i)) true) (λ e. refl) (λ y. go y (eqb (parent i) (parent k)) refl)
        where
          go : 0 < i → (t : Bool) → eqb (parent i) (parent k) ≡ t → pick t (leb (start k) (start i)) true ≡ true
          go y true e = le-leb _ _ (r.descends i y l (eqb-true _ _ e))
          go y false e = refl

  -- ---- all lines

  pub branched_falls : {n : ℕ} → Branched start count parent n → Falls parent n
  branched_falls g = record { first = g.root; each = λ k z l. (g.each k z l).before }

  pub starts_fall : {n : ℕ} → Branched start count parent n → (k : ℕ) → 0 < k → k < n → start (parent k) ≤ start k
  starts_fall g k z l = (g.each k z l).from

  pub branched_says : (n : ℕ) → 0 < n → HangAs 2 start count parent n → Branched start count parent n
  branched_says n z s =
      let o : flag (start 0 equals 0 and parent 0 equals 0) ≡ true = s 0 z in
      let (a, b) = says (start 0 equals 0 and parent 0 equals 0) o in
      record { origin = a; root = b; each = each }
    where
      each : (k : ℕ) → 0 < k → k < n → Chosen start count parent k
      each k y l =
          chosen_says k
          (says (chosen start count parent k)
          (test_later k (flag (start 0 equals 0 and parent 0 equals 0)) (flag (chosen start count parent k)) y (s k l)))

  pub says_branched : (n : ℕ) → Branched start count parent n → HangAs 2 start count parent n
  says_branched n g k l =
      test_by k (flag (start 0 equals 0 and parent 0 equals 0)) (flag (chosen start count parent k))
      (λ e. answers (start 0 equals 0 and parent 0 equals 0) (g.origin, g.root))
      (λ z. answers (chosen start count parent k) (says_chosen k z (record { first = g.root; each = λ i y m. (g.each i y (omega arith)).before }) (g.each k z l)))

  -- ---- without a gap

  module _ {n : ℕ} (g : Branched start count parent n) where
    -- what comes from line a is line a, or comes with the line before it
    back_one : {a : ℕ} (m : ℕ) → suc m < n → HangsFrom parent a (suc m) → a ≤ m → HangsFrom parent a m
    back_one m h (itself e) l = absurd (omega arith)
    back_one m h (through f) l =
        let e : suc m - 1 ≡ m = omega arith in
        from_then f (subst (HangsFrom parent (parent (suc m))) e (g.each (suc m) (omega arith) h).chain)

    pub no_gap : {a : ℕ} (m x : ℕ) → m < n → HangsFrom parent a m → a ≤ x → x ≤ m → HangsFrom parent a x
    no_gap {a} zero x h f b c = let e : 0 ≡ x = omega arith in subst (HangsFrom parent a) e f
    no_gap {a} (suc m) x h f b c = go (dec_lt m x) (no_gap m x)
      where
        go : Dec (m < x) → (m < n → HangsFrom parent a m → a ≤ x → x ≤ m → HangsFrom parent a x) → HangsFrom parent a x
        go (yes l) ih = let e : suc m ≡ x = omega arith in subst (HangsFrom parent a) e f
        go (no l) ih = ih (omega arith) (back_one m h f (omega arith)) b (omega arith)

    branched_tree : Tree start count parent n
    branched_tree =
        record {
          origin = g.origin;
          root = g.root;
          earlier = λ k z l. (g.each k z l).before;
          entry = λ k z l. rw (le-leb _ _ (g.each k z l).from, lt-ltb _ _ (g.each k z l).within);
          no_gap = λ a m x h f b c. no_gap m x h f b c;
          descends = λ i k z l h e. (g.each k (omega arith) h).descends i z l e;
        }

  tree_branched : {n : ℕ} → Tree start count parent n → Branched start count parent n
  tree_branched {n} t = record { origin = t.origin; root = t.root; each = each }
    where
      each : (k : ℕ) → 0 < k → k < n → Chosen start count parent k
      each k z l =
          let (x, y) = pick_both (leb (start (parent k)) (start k)) (ltb (start k - start (parent k)) (count (parent k))) (t.entry k z l) in
          let b = t.earlier k z l in
          record {
            before = b;
            from = leb-true _ _ x;
            within = ltb-true _ _ y;
            chain = t.no_gap (parent k) k (k - 1) l (through (itself refl)) (omega arith) (omega arith);
            descends = λ i y m e. t.descends i k y m l e;
          }

  -- the test of each line says 02's words of all
  pub tree_is : (n : ℕ) → 0 < n → HangAs 2 start count parent n ↔ Tree start count parent n
  tree_is n z = (λ s. branched_tree (branched_says n z s), λ t. says_branched n (tree_branched t))
