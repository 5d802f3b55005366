-- Soundness in one pass: where the lines before are sound, what the code computes of a line is its version's test.
--     climb-here, climb-up         the climb, step by step
--     climb-ends       where it ends
--     one-pass-1, one-pass-2, one-pass       the two versions, and either
--     right-late, -none, -next, -after       what the code finds, case by case
-- Assumes nothing.
use Prim.Native.Nat.{ℕ, zero, suc, ◌+◌, ◌-◌, ◌≤◌, ◌<◌}
use native.Mathlib.Omega.{arith}
use native.Mathlib.Decide.{dec_lt}
use mathlib.Core.Logic.{◌↔◌}
use mathlib.Core.Path.{◌≡◌, refl, sym, ap, ◌∙◌, subst}
use mathlib.Core.Bool.{Bool, true, false, false≢true}
use lib.Dec.{eqb, leb, ltb}
use borrow.Author.Tests.{eqb-true, eqb-false, eq-eqb, ne_eqb, leb-true, le-leb, ltb-true, lt-ltb, le-ltb}
use Rattle.lists.specs.Pick.{pick}
use Rattle.lists.specs.Test.{flag, claim}
use Rattle.lists.proofs.Laws.{pick_both}
use Rattle.jkf.specs.Trees.{has_ply, hang_test, HangAs, HangsFrom, itself, through, NoTwo}
use Rattle.jkf.specs.inner.Climbing.{NoEqual, climb, follows, hangs_right}
use Rattle.jkf.proofs.Chains.{from_then, Falls}
use Rattle.jkf.proofs.Branching.{Chosen, Branched, branched_falls, branched_says, says_branched}
use Rattle.jkf.proofs.OneTwo.{one_is_two, test_as}
use Rattle.jkf.proofs.Passing.{Climbed, direct_right, direct_single, climbed_right, climbed_single}

-- two tests of which each passes where the other does
same_answer : (a b : Bool) → (a ≡ true) ↔ (b ≡ true) → a ≡ b
same_answer true b h = sym (h.0 refl)
same_answer false true h = h.1 refl
same_answer false false h = refl

-- one step of the climb: here, or on at the parent
module _ (parent : ℕ → ℕ) (p : ℕ) where
  pub climb_here : (q : ℕ) → parent q ≤ p → climb parent p (suc q) q ≡ q
  unfolding climb
  climb_here q l = simp (le-ltb p (parent q) l)

  -- each step goes down, so q steps are enough from line q on
  module _ {k : ℕ} (w : Falls parent k) where
    climb_enough : (m n q : ℕ) → q < m → q < n → q < k → climb parent p m q ≡ climb parent p n q
    unfolding climb
    climb_enough zero n q a b l = absurd (omega arith)
    climb_enough (suc m) zero q a b l = absurd (omega arith)
    climb_enough (suc m) (suc n) q a b l = go (ltb p (parent q)) refl (dec_lt 0 q) (climb_enough m n (parent q))
      where
        go : (t : Bool) → ltb p (parent q) ≡ t → Dec (0 < q) → (parent q < m → parent q < n → parent q < k → climb parent p m (parent q) ≡ climb parent p n (parent q))
            → pick t (climb parent p m (parent q)) q ≡ pick t (climb parent p n (parent q)) q
        go true e (yes z) ih = let f = w.each q z l in ih (omega arith) (omega arith) (omega arith)
        go true e (no z) ih = let y : q ≡ 0 = omega arith in absurd (omega (arith, ltb-true p (parent q) e, ap parent y, w.first))
        go false e d ih = refl

    pub climb_up : (q : ℕ) → q < k → p < parent q → climb parent p (suc q) q ≡ climb parent p (suc (parent q)) (parent q)
    climb_up q l h = go (dec_lt 0 q)
      where
        step : climb parent p (suc q) q ≡ climb parent p q (parent q)
        step = unfold climb in simp (lt-ltb p (parent q) h)

        go : Dec (0 < q) → climb parent p (suc q) q ≡ climb parent p (suc (parent q)) (parent q)
        go (yes z) = let f = w.each q z l in step ∙ climb_enough q (suc (parent q)) (parent q) f (omega arith) (omega arith)
        go (no z) = let y : q ≡ 0 = omega arith in absurd (omega (arith, ap parent y, w.first))

module _ (parent : ℕ → ℕ) {k : ℕ} (w : Falls parent k) where
  pub climb-ends : (n q : ℕ) → q ≤ n → q < k → parent k < q → HangsFrom parent q (k - 1) → Climbed parent k (climb parent (parent k) n q)
  unfolding climb
  climb-ends zero q h l p f = absurd (omega arith)
  climb-ends (suc n) q h l p f = go (ltb (parent k) (parent q)) refl (climb-ends n (parent q))
    where
      go : (t : Bool) → ltb (parent k) (parent q) ≡ t
          → (parent q ≤ n → parent q < k → parent k < parent q → HangsFrom parent (parent q) (k - 1) → Climbed parent k (climb parent (parent k) n (parent q)))
          → Climbed parent k (pick t (climb parent (parent k) n (parent q)) q)
      go true e ih =
          let b = w.each q (omega arith) l in
          ih (omega arith) (omega arith) (ltb-true _ _ e) (from_then (through (itself refl)) f)
      go false e ih = record { on = f; past = p; end = under (dec_lt (parent k) (parent q)) }
        where
          under : Dec (parent k < parent q) → parent q ≤ parent k
          under (yes x) = absurd (false≢true (sym e ∙ lt-ltb _ _ x))
          under (no x) = omega arith

module _ (start count parent : ℕ → ℕ) {k : ℕ} (z : 0 < k) (g : Branched start count parent k) where
  abbrev q : ℕ
  q = climb parent (parent k) k (k - 1)

  ends : parent k < k → (parent k + 1 ≡ k → ⊥) → Climbed parent k q
  ends b ne = climb-ends parent (branched_falls start count parent g) k (k - 1) (omega arith) (omega arith) (omega arith) (itself refl)

  -- what the code computes, taken apart
  right_parts : (v : ℕ) → hangs_right v start count parent k ≡ true
      → (parent k < k) × (start (parent k) ≤ start k) × (start k - start (parent k) < count (parent k))
      × (pick (eqb (parent k + 1) k) true (follows v start parent k q) ≡ true)
  right_parts v h =
      let rest = pick (eqb (parent k + 1) k) true (follows v start parent k q) in
      let (a, b) = pick_both (ltb (parent k) k) (pick (has_ply (start (parent k)) (count (parent k)) (start k)) rest false) h in
      let (c, d) = pick_both (has_ply (start (parent k)) (count (parent k)) (start k)) rest b in
      let (x, y) = pick_both (leb (start (parent k)) (start k)) (ltb (start k - start (parent k)) (count (parent k))) c in
      (ltb-true _ _ a, leb-true _ _ x, ltb-true _ _ y, d)

  right_made : (v : ℕ) → Chosen start count parent k → ((parent k + 1 ≡ k → ⊥) → follows v start parent k q ≡ true) → hangs_right v start count parent k ≡ true
  right_made v r f =
      rw (lt-ltb (parent k) k r.before, le-leb (start (parent k)) (start k) r.from, lt-ltb (start k - start (parent k)) (count (parent k)) r.within)
      (go (eqb (parent k + 1) k) refl)
    where
      go : (t : Bool) → eqb (parent k + 1) k ≡ t → pick t true (follows v start parent k q) ≡ true
      go true e = refl
      go false e = f (eqb-false _ _ e)

  -- ---- version 2

  right_2 : hangs_right 2 start count parent k ≡ true → Chosen start count parent k
  right_2 h = let (a, b, c, d) = right_parts 2 h in go a b c (eqb (parent k + 1) k) refl d
    where
      go : parent k < k → start (parent k) ≤ start k → start k - start (parent k) < count (parent k) → (t : Bool) → eqb (parent k + 1) k ≡ t
          → pick t true (follows 2 start parent k q) ≡ true → Chosen start count parent k
      go a b c true e d = direct_right start count parent g a b c (eqb-true _ _ e)
      go a b c false e d =
          let (x, y) = pick_both (eqb (parent q) (parent k)) (leb (start k) (start q)) d in
          (climbed_right start count parent g a b c (ends a (eqb-false _ _ e))).1 (eqb-true _ _ x, leb-true _ _ y)

  right_2_made : Chosen start count parent k → hangs_right 2 start count parent k ≡ true
  right_2_made r =
      right_made 2 r
      (λ ne.
      let (x, y) = (climbed_right start count parent g r.before r.from r.within (ends r.before ne)).0 r in
      rw (eq-eqb _ _ x) (le-leb _ _ y))

  -- ---- version 1

  right_1 : hangs_right 1 start count parent k ≡ true → Chosen start count parent k × NoEqual start parent k
  right_1 h = let (a, b, c, d) = right_parts 1 h in go a b c (eqb (parent k + 1) k) refl d
    where
      go : parent k < k → start (parent k) ≤ start k → start k - start (parent k) < count (parent k) → (t : Bool) → eqb (parent k + 1) k ≡ t
          → pick t true (follows 1 start parent k q) ≡ true → Chosen start count parent k × NoEqual start parent k
      go a b c true e d = (direct_right start count parent g a b c (eqb-true _ _ e), direct_single start count parent g a b c (eqb-true _ _ e))
      go a b c false e d =
          let (x, y) = pick_both (eqb (parent q) (parent k)) (ltb (start k) (start q)) d in
          let u : parent q ≡ parent k = eqb-true _ _ x in
          let s : start k < start q = ltb-true _ _ y in
          let t = ends a (eqb-false _ _ e) in
          ((climbed_right start count parent g a b c t).1 (u, omega arith), (climbed_single start count parent g a b c t u (omega arith)).1 s)

  right_1_made : Chosen start count parent k → NoEqual start parent k → hangs_right 1 start count parent k ≡ true
  right_1_made r single =
      right_made 1 r
      (λ ne.
      let t = ends r.before ne in
      let (x, y) = (climbed_right start count parent g r.before r.from r.within t).0 r in
      rw (eq-eqb _ _ x) (lt-ltb _ _ ((climbed_single start count parent g r.before r.from r.within t x y).0 single)))

  -- ---- one line more

  more_branched : Chosen start count parent k → Branched start count parent (k + 1)
  more_branched r = record { origin = g.origin; root = g.root; each = each }
    where
      each : (i : ℕ) → 0 < i → i < k + 1 → Chosen start count parent i
      each i y l = go (dec_lt i k)
        where
          go : Dec (i < k) → Chosen start count parent i
          go (yes x) = g.each i y x
          go (no x) = let e : k ≡ i = omega arith in subst (Chosen start count parent) e r

  more_single : NoTwo start parent k → NoEqual start parent k → NoTwo start parent (k + 1)
  more_single f e i m y h l = go (dec_lt m k)
    where
      go : Dec (m < k) → parent i ≡ parent m → start i ≡ start m → ⊥
      go (yes x) = f i m y h x
      go (no x) = let t : k ≡ m = omega arith in subst (λ (o : ℕ). parent i ≡ parent o → start i ≡ start o → ⊥) t (e i y (omega arith))

module _ (start count parent : ℕ → ℕ) where
  more-sound : (v k : ℕ) → HangAs v start count parent k → claim (hang_test v start count parent k) → HangAs v start count parent (k + 1)
  more-sound v k s h i l = go (dec_lt i k)
    where
      go : Dec (i < k) → claim (hang_test v start count parent i)
      go (yes x) = s i x
      go (no x) = let e : k ≡ i = omega arith in subst (λ (o : ℕ). claim (hang_test v start count parent o)) e h

  pub one_pass_2 : (k : ℕ) → 0 < k → HangAs 2 start count parent k → (hangs_right 2 start count parent k ≡ true) ↔ claim (hang_test 2 start count parent k)
  one_pass_2 k z s =
      let g = branched_says start count parent k z s in (
        λ h. says_branched start count parent (k + 1) (more_branched start count parent z g (right_2 start count parent z g h)) k (omega arith),
        λ h. right_2_made start count parent z g ((branched_says start count parent (k + 1) (omega arith) (more-sound 2 k s h)).each k z (omega arith)),
      )

  pub one_pass_1 : (k : ℕ) → 0 < k → HangAs 1 start count parent k → (hangs_right 1 start count parent k ≡ true) ↔ claim (hang_test 1 start count parent k)
  one_pass_1 k z s = (there, back)
    where
      two : HangAs 2 start count parent k × NoTwo start parent k
      two = (one_is_two start count parent k z).0 s

      g : Branched start count parent k
      g = branched_says start count parent k z two.0

      there : hangs_right 1 start count parent k ≡ true → claim (hang_test 1 start count parent k)
      there h =
          let (r, e) = right_1 start count parent z g h in
          (one_is_two start count parent (k + 1) (omega arith)).1
          (says_branched start count parent (k + 1) (more_branched start count parent z g r), more_single start count parent z g two.1 e) k (omega arith)

      back : claim (hang_test 1 start count parent k) → hangs_right 1 start count parent k ≡ true
      back h =
          let (a, b) = (one_is_two start count parent (k + 1) (omega arith)).0 (more-sound 1 k s h) in
          let r = (branched_says start count parent (k + 1) (omega arith) a).each k z (omega arith) in
          right_1_made start count parent z g r (λ i y m. b i k y m (omega arith))

  -- what the code finds is the test, whatever the version
  pub one_pass : (v k : ℕ) → 0 < k → HangAs v start count parent k → hangs_right v start count parent k ≡ flag (hang_test v start count parent k)
  one_pass v k z s = go (eqb v 1) s
    where
      sibling : ℕ
      sibling = climb parent (parent k) k (k - 1)

      right : Bool → Bool
      right one =
          pick (ltb (parent k) k)
          (pick (has_ply (start (parent k)) (count (parent k)) (start k))
          (pick (eqb (parent k + 1) k) true
          (pick (eqb (parent sibling) (parent k)) (pick one (ltb (start k) (start sibling)) (leb (start k) (start sibling))) false))
          false)
          false

      go : (one : Bool) → ((i : ℕ) → i < k → test_as start count parent one i ≡ true) → right one ≡ test_as start count parent one k
      go true s = same_answer _ _ (one_pass_1 k z s)
      go false s = same_answer _ _ (one_pass_2 k z s)

-- ---- what the code finds, case by case

module _ (v : ℕ) (start count parent : ℕ → ℕ) (k : ℕ) where
  abbrev has : Bool
  has = has_ply (start (parent k)) (count (parent k)) (start k)

  abbrev after : Bool
  after = follows v start parent k (climb parent (parent k) k (k - 1))

  abbrev rest : Bool
  rest = pick (eqb (parent k + 1) k) true after

  pub right_late : k ≤ parent k → hangs_right v start count parent k ≡ false
  right_late h = ap (λ (t : Bool). pick t (pick has rest false) false) (le-ltb (parent k) k h)

  before : parent k < k → hangs_right v start count parent k ≡ pick has rest false
  before h = ap (λ (t : Bool). pick t (pick has rest false) false) (lt-ltb (parent k) k h)

  pub right_none : parent k < k → has ≡ false → hangs_right v start count parent k ≡ false
  right_none h e = before h ∙ ap (λ (t : Bool). pick t rest false) e

  pub right_next : parent k < k → has ≡ true → parent k + 1 ≡ k → hangs_right v start count parent k ≡ true
  right_next h e n = before h ∙ ap (λ (t : Bool). pick t rest false) e ∙ ap (λ (t : Bool). pick t true after) (eq-eqb _ _ n)

  pub right_after : parent k < k → has ≡ true → (parent k + 1 ≡ k → ⊥) → hangs_right v start count parent k ≡ after
  right_after h e n = before h ∙ ap (λ (t : Bool). pick t rest false) e ∙ ap (λ (t : Bool). pick t true after) (ne_eqb _ _ n)
