-- Lines hang as a version asks: taken apart and put together; and lines that are like them, as far as they go, hang so too.
--     hang-single, says-hang      in version 1 they are a tree in which no entry has two, in version 2 a tree
--     chosen-same                 a line, where it and those before it are alike
--     hang-same                   all lines
-- Assumes nothing.
use Prim.Native.Nat.{ℕ, ◌-◌, ◌≤◌, ◌<◌}
use native.Mathlib.Omega.{arith}
use mathlib.Core.Path.{◌≡◌, refl, sym, ap, ◌∙◌, subst}
use mathlib.Core.Bool.{Bool, true, false}
use lib.Dec.{eqb}
use borrow.Author.Tests.{eqb-true}
use Rattle.jkf.specs.Trees.{HangsFrom, HangAs, NoTwo}
use Rattle.jkf.proofs.Chains.{Falls, from-same}
use Rattle.jkf.proofs.Branching.{Chosen, Branched, branched_falls, says_branched}
use Rattle.jkf.proofs.OneTwo.{test_as, branched_as, one_is_two}

-- ---- the two versions

module _ (v : ℕ) (start count parent : ℕ → ℕ) {n : ℕ} (some : 0 < n) where
  pub hang_single : HangAs v start count parent n → v ≡ 1 → NoTwo start parent n
  hang_single s e = ((one_is_two start count parent n some).0 (subst (λ (x : ℕ). HangAs x start count parent n) e s)).1

  pub says_hang : Branched start count parent n → (v ≡ 1 → NoTwo start parent n) → HangAs v start count parent n
  says_hang g single k l = go (eqb v 1) (λ e. eqb-true v 1 e) k l
    where
      two : HangAs 2 start count parent n
      two = says_branched start count parent n g

      go : (one : Bool) → (one ≡ true → v ≡ 1) → (k : ℕ) → k < n → test_as start count parent one k ≡ true
      go true e = (one_is_two start count parent n some).1 (two, single (e refl))
      go false e = two

-- ---- lines that are alike

pub chosen-same : (start count parent start' count' parent' : ℕ → ℕ) {n : ℕ} → Falls parent n → (m : ℕ)
    → ((i : ℕ) → i < m → start' i ≡ start i) → ((i : ℕ) → i < m → count' i ≡ count i) → ((i : ℕ) → i < m → parent' i ≡ parent i)
    → (i : ℕ) → 0 < i → i < m → i < n → Chosen start count parent i → Chosen start' count' parent' i
chosen-same start count parent start' count' parent' w m s c p i z h l r =
    let q = p i h in
    let b = r.before in
    let x : start' (parent' i) ≡ start (parent i) = ap start' q ∙ s (parent i) (omega arith) in
    let y : count' (parent' i) ≡ count (parent i) = ap count' q ∙ c (parent i) (omega arith) in
    let v = s i h in
    record {
      before = omega arith;
      from = omega (arith, r.from);
      within = omega (arith, r.within);
      chain = subst (λ (a : ℕ). HangsFrom parent' a (i - 1)) (sym q) (from-same w m p r.chain (omega arith) (omega arith));
      descends = λ o y d e. let u : parent o ≡ parent i = sym (p o (omega arith)) ∙ e ∙ q in omega (arith, s o (omega arith), r.descends o y d u);
    }

pub hang-same : (v : ℕ) (start count parent start' count' parent' : ℕ → ℕ) {n m : ℕ} → 0 < m → m ≤ n
    → ((i : ℕ) → i < m → start' i ≡ start i) → ((i : ℕ) → i < m → count' i ≡ count i) → ((i : ℕ) → i < m → parent' i ≡ parent i)
    → HangAs v start count parent n → HangAs v start' count' parent' m
hang-same v start count parent start' count' parent' {n} {m} some fits s c p h = says_hang v start' count' parent' some branched single
  where
    g : Branched start count parent n
    g = branched_as start count parent v n (omega arith) h

    branched : Branched start' count' parent' m
    branched =
        record {
          origin = s 0 some ∙ g.origin;
          root = p 0 some ∙ g.root;
          each = λ k z l. chosen-same start count parent start' count' parent' (branched_falls start count parent g) m s c p k z l (omega arith) (g.each k z (omega arith));
        }

    single : v ≡ 1 → NoTwo start' parent' m
    single e i k z l b x y =
        let a : i < m = omega arith in
        hang_single v start count parent (omega arith) h e i k z l (omega arith) (sym (p i a) ∙ x ∙ p k b) (sym (s i a) ∙ y ∙ s k b)
