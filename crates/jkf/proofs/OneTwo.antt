-- Sound as version 1 is sound as version 2 and no entry with two variations.
--     one-is-two       so restating a version 1 block changes the version and nothing else
--     near-kept, kept_near      a line's parent is the one that is found exactly if no equal stands before it
--     near-equal       else the one found starts where the line does: the line nests on its first entry
--     near-jump-2      following the parents finds the nearest line on version 2's lines too
--     branched-as      whatever its version, what is asked of version 2 holds of lines that hang
--     still-found      of lines sound as version 2 the attaching rule finds a parent for each: reading their text never meets refusal 6
-- Assumes nothing.
use Rattle.std.specs.Prelude.{Option}
use Prim.Native.Nat.{ℕ, zero, suc, ◌-◌, ◌≤◌, ◌<◌}
use native.Mathlib.Omega.{arith}
use native.Mathlib.Decide.{dec_lt}
use mathlib.Core.Logic.{◌↔◌}
use mathlib.Core.Path.{◌≡◌, sym, ap, ◌∙◌}
use mathlib.Core.Bool.{Bool, true, false, false≢true}
use lib.Dec.{eqb}
use borrow.Author.Tests.{eqb-true, eq-eqb}
use Rattle.lists.specs.Test.{◌equals◌, ◌and◌, flag, claim}
use Rattle.lists.proofs.Tests.{says, answers}
use Rattle.jkf.specs.Attaching.{near, on_hang}
use Rattle.jkf.proofs.Nears.{near_before, near-low, near_last, near_miss, near_is, Hangs, hangs_says, hangs-on}
use Rattle.lists.specs.Pick.{pick}
use Rattle.jkf.specs.Trees.{searched, chosen, HangAs, HangsFrom, itself, through, NoTwo}
use Rattle.jkf.specs.inner.Climbing.{NoEqual}
use Rattle.jkf.proofs.Chains.{Falls, from_low, on_way, from_start}
use Rattle.jkf.proofs.Branching.{Chosen, Branched, test_later, test_by, branched_falls, starts_fall, branched_says, says_branched, no_gap}

-- version 1: each line hangs on the line that is found for it
pub record Found (start count parent : ℕ → ℕ) (n : ℕ) : Type 0 where
  pub origin : start 0 ≡ 0
  pub root : parent 0 ≡ 0
  pub hangs : (k : ℕ) → 0 < k → k < n → Hangs start count k
  pub near : (k : ℕ) → 0 < k → k < n → parent k ≡ near start (start k) k

module _ (start count parent : ℕ → ℕ) where
  -- ---- version 1's test, taken apart

  searched_says : (k : ℕ) → claim (searched start count parent k) → Hangs start count k × (parent k ≡ near start (start k) k)
  searched_says k h =
      let (a, e) = hangs_says start count k (λ p e. eqb (parent k) p) false true false≢true h in
      (a, eqb-true _ _ e)

  pub found_says : (n : ℕ) → 0 < n → HangAs 1 start count parent n → Found start count parent n
  found_says n z s =
      let o : flag (start 0 equals 0 and parent 0 equals 0) ≡ true = s 0 z in
      let (a, b) = says (start 0 equals 0 and parent 0 equals 0) o in
      record { origin = a; root = b; hangs = λ k y l. (each k y l).0; near = λ k y l. (each k y l).1 }
    where
      each : (k : ℕ) → 0 < k → k < n → Hangs start count k × (parent k ≡ near start (start k) k)
      each k y l =
          searched_says k (test_later k (flag (start 0 equals 0 and parent 0 equals 0)) (flag (searched start count parent k)) y (s k l))

  pub says_found : (n : ℕ) → Found start count parent n → HangAs 1 start count parent n
  says_found n w k l =
      test_by k (flag (start 0 equals 0 and parent 0 equals 0)) (flag (searched start count parent k))
      (λ e. answers (start 0 equals 0 and parent 0 equals 0) (w.origin, w.root))
      (λ z. ap (λ (h : Option (ℕ × ℕ)). on_hang h (λ p e. eqb (parent k) p) false) (hangs-on start count k (w.hangs k z l)) ∙ eq-eqb _ _ (w.near k z l))

  -- ---- from version 1

  module _ {n : ℕ} (w : Found start count parent n) where
    before : (k : ℕ) → 0 < k → k < n → parent k < k
    before k z l = omega (arith, w.near k z l, near_before start (start k) k z)

    -- the lines between a line and its parent start above it
    above : (k : ℕ) → 0 < k → k < n → (j : ℕ) → parent k < j → j < k → start k < start j
    above k z l j a b = let e = w.near k z l in near_last start (start k) k j (omega arith) b

    low : (k : ℕ) → 0 < k → k < n → start (parent k) ≤ start k
    low k z l = omega (arith, ap start (w.near k z l), near-low start (start k) k z (omega (arith, w.origin)))

    -- so they come from its parent
    between : (k : ℕ) → 0 < k → k < n → (m j : ℕ) → j < m → parent k ≤ j → j < k → HangsFrom parent (parent k) j
    between k z l zero j h a b = absurd (omega arith)
    between k z l (suc m) j h a b = go (dec_lt (parent k) j) (between k z l m (parent j))
      where
        go : Dec (parent k < j) → (parent j < m → parent k ≤ parent j → parent j < k → HangsFrom parent (parent k) (parent j)) → HangsFrom parent (parent k) j
        go (no c) ih = let e : j ≡ parent k = omega arith in itself e
        go (yes c) ih =
            let f = before j (omega arith) (omega arith) in
            through (ih (omega arith) (not_past (dec_lt (parent j) (parent k))) (omega arith))
          where
            not_past : Dec (parent j < parent k) → parent k ≤ parent j
            not_past (no d) = omega arith
            not_past (yes d) = absurd (omega (arith, above j (omega arith) (omega arith) (parent k) d c, above k z l j c b, low k z l))

    one_branched : Branched start count parent n
    one_branched = record { origin = w.origin; root = w.root; each = each }
      where
        each : (k : ℕ) → 0 < k → k < n → Chosen start count parent k
        each k z l =
            let b = before k z l in
            record {
              before = b;
              from = low k z l;
              within = omega (arith, ap start (w.near k z l), ap count (w.near k z l), (w.hangs k z l).within);
              chain = between k z l k (k - 1) (omega arith) (omega arith) (omega arith);
              descends = λ i y m e. let c = before i y (omega arith) in omega (arith, above k z l i (omega arith) m);
            }

    one_no_two : NoTwo start parent n
    one_no_two i k z l h e q =
        let c = before i z (omega arith) in
        omega (arith, above k (omega arith) h i (omega arith) l)

  -- ---- from version 2

  module _ {n : ℕ} (g : Branched start count parent n) where
    abbrev w : Falls parent n
    w = branched_falls start count parent g

    -- a line between a line and its parent starts at or above it; above it where no entry has two
    pub between_not_below : (k : ℕ) → 0 < k → k < n → (j : ℕ) → parent k < j → j < k → start k ≤ start j
    between_not_below k z l j a b =
        let f : HangsFrom parent (parent k) j = no_gap start count parent g (k - 1) j (omega arith) (g.each k z l).chain (omega arith) (omega arith) in
        let c = on_way w f (omega arith) a in
        omega (
          arith,
          from_low w c.on (omega arith),
          from_start w start (starts_fall start count parent g) c.on (omega arith),
          (g.each k z l).descends c.child (omega (arith, c.past)) (omega (arith, from_low w c.on (omega arith))) c.under,
        )

    between_above : (k : ℕ) → 0 < k → k < n → NoEqual start parent k → (j : ℕ) → parent k < j → j < k → start k < start j
    between_above k z l single j a b =
        let f : HangsFrom parent (parent k) j = no_gap start count parent g (k - 1) j (omega arith) (g.each k z l).chain (omega arith) (omega arith) in
        let c = on_way w f (omega arith) a in
        let y : 0 < c.child = omega (arith, c.past) in
        let m : c.child < k = omega (arith, from_low w c.on (omega arith)) in
        let d = (g.each k z l).descends c.child y m c.under in
        let ne : start c.child ≡ start k → ⊥ = single c.child y m c.under in
        omega (arith, from_start w start (starts_fall start count parent g) c.on (omega arith))

    -- the rule finds a line's parent exactly if no equal stands before it; else it finds one that starts where the line does
    pub near-kept : (k : ℕ) → 0 < k → k < n → NoEqual start parent k → near start (start k) k ≡ parent k
    near-kept k z l single = near_is start (start k) k (parent k) (g.each k z l).before (g.each k z l).from (between_above k z l single)

    pub kept_near : (k : ℕ) → 0 < k → k < n → near start (start k) k ≡ parent k → NoEqual start parent k
    kept_near k z l e i y m p s =
        let b = (g.each i y (omega arith)).before in
        omega (arith, near_last start (start k) k i (omega arith) m)

    -- lines that start above are passed over
    passed : (s b a : ℕ) → a < b → ((j : ℕ) → a < j → j < b → s < start j) → near start s b ≡ near start s (suc a)
    passed s zero a h f = absurd (omega arith)
    passed s (suc b) a h f = go (dec_lt a b) (passed s b a)
      where
        go : Dec (a < b) → (a < b → ((j : ℕ) → a < j → j < b → s < start j) → near start s b ≡ near start s (suc a)) → near start s (suc b) ≡ near start s (suc a)
        go (yes x) ih = near_miss start s b (f b x (omega arith)) ∙ ih x (λ j y m. f j y (omega arith))
        go (no x) ih = let e : b ≡ a = omega arith in ap (λ (q : ℕ). near start s (suc q)) e

    -- the search that follows the parents is right on version 2's lines too: from a line that starts above, it goes on at its parent
    pub near_jump_2 : (s j : ℕ) → 0 < j → j < n → s < start j → near start s (suc j) ≡ near start s (suc (parent j))
    near_jump_2 s j z l h =
        near_miss start s j h
        ∙ passed s j (parent j) (g.each j z l).before (λ i a b. omega (arith, between_not_below j z l i a b))

    -- the line that is found stands at or after the parent, and after it only if it starts where the line does
    pub near-past : (k : ℕ) → 0 < k → k < n → parent k ≤ near start (start k) k
    near-past k z l = go (dec_lt (near start (start k) k) (parent k))
      where
        go : Dec (near start (start k) k < parent k) → parent k ≤ near start (start k) k
        go (yes m) = absurd (omega (arith, near_last start (start k) k (parent k) m (g.each k z l).before, (g.each k z l).from))
        go (no m) = omega arith

    pub near_equal : (k : ℕ) → 0 < k → k < n → parent k < near start (start k) k → start (near start (start k) k) ≡ start k
    near_equal k z l h =
        let b = near_before start (start k) k z in
        omega (arith, between_not_below k z l (near start (start k) k) h b, near-low start (start k) k z (omega (arith, g.origin)))

    -- the line that is found has the entry: the parent, or a line that starts there
    pub still_found : ((k : ℕ) → k < n → 1 ≤ count k) → (k : ℕ) → 0 < k → k < n → Hangs start count k
    still_found some k z l = record { from = low'; within = go (dec_lt (parent k) p) }
      where
        p : ℕ
        p = near start (start k) k

        low' : start p ≤ start k
        low' = near-low start (start k) k z (omega (arith, g.origin))

        go : Dec (parent k < p) → start k - start p < count p
        go (yes h) =
            let b = near_before start (start k) k z in
            omega (arith, near_equal k z l h, some p (omega arith))
        go (no h) =
            let e : parent k ≡ p = omega (arith, near-past k z l) in
            omega (arith, ap start e, ap count e, (g.each k z l).within)

    pub two_found : NoTwo start parent n → Found start count parent n
    two_found single = record { origin = g.origin; root = g.root; hangs = hangs; near = λ k z l. sym (is k z l) }
      where
        is : (k : ℕ) → 0 < k → k < n → near start (start k) k ≡ parent k
        is k z l = near-kept k z l (λ i y m. single i k y m l)

        hangs : (k : ℕ) → 0 < k → k < n → Hangs start count k
        hangs k z l =
            let e = is k z l in
            record {
              from = omega (arith, ap start e, (g.each k z l).from);
              within = omega (arith, ap start e, ap count e, (g.each k z l).within);
            }

  -- ---- the two versions

  pub one_is_two : (n : ℕ) → 0 < n → HangAs 1 start count parent n ↔ (HangAs 2 start count parent n × NoTwo start parent n)
  one_is_two n z = (
    λ s. let w = found_says n z s in (says_branched start count parent n (one_branched w), one_no_two w),
    λ (s, single). says_found n (two_found (branched_says start count parent n z s) single),
  )

  -- ---- either version

  -- the test of line k, told by whether its version is 1
  abbrev pub test_as : Bool → ℕ → Bool
  test_as one k = pick (eqb k 0) (flag (start 0 equals 0 and parent 0 equals 0)) (pick one (flag (searched start count parent k)) (flag (chosen start count parent k)))

  pub branched_as : (v n : ℕ) → 0 < n → HangAs v start count parent n → Branched start count parent n
  branched_as v n z s = go (eqb v 1) s
    where
      go : (one : Bool) → ((k : ℕ) → k < n → test_as one k ≡ true) → Branched start count parent n
      go true s = one_branched (found_says n z s)
      go false s = branched_says start count parent n z s
