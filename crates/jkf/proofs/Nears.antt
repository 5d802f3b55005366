-- Laws of the attaching rule.
--     near_before, near-low, near_last   the line found is one before, starts at or below, and is the last that does
--     near-is                            and these are enough
--     near_same                          the starts of the lines before are all that counts
--     near-jump                          from a line that starts above, the search goes on at its parent
--     follow-here, -up, -stuck           a search that follows the parents, step by step
--     hangs-followed                     in a table whose parents are right it finds the same line
--     hangs-made                         the rule at what the code has read
--     Hangs, hangs-says, hangs-on        that a line hangs
-- Assumes nothing.
use Rattle.std.specs.Prelude.{Some, None}
use Prim.Native.Nat.{ℕ, zero, suc, ◌+◌, ◌-◌, ◌≤◌, ◌<◌}
use native.Mathlib.Omega.{arith}
use native.Mathlib.Decide.{dec_lt}
use mathlib.Core.Path.{◌≡◌, refl, sym, ap, ◌∙◌, subst}
use mathlib.Core.Bool.{Bool, true, false}
use mathlib.Core.List.{List}
use lib.ListN.{length, get_or-eq_default}
use lib.Dec.{leb, ltb}
use borrow.Author.Tests.{le-leb, lt-leb, leb-true, leb-false, lt-ltb, le-ltb, ltb-true}
use Rattle.lists.specs.Pick.{pick}
use Rattle.lists.proofs.Laws.{by_pick}
use Rattle.lent.specs.Bytes.{le16}
use Rattle.jkf.specs.Attaching.{near, hang_on, hangs, on_hang}
use Rattle.jkf.specs.Following.{start_at, count_at, parent_at, follow, followed, hangs_by, Linked}

-- past the end of a table every number is 0
pub past_end : (b : List ℕ) (at : ℕ) → length b ≤ at → 0 ≡ le16 b at
past_end b at h =
    omega (arith, get_or-eq_default b 0 {n = at} h, get_or-eq_default b 0 {n = at + 1} (omega arith))

-- so a number that is not 0 stands before the end
pub not_past : (b : List ℕ) (at s : ℕ) → s < le16 b at → at < length b
not_past b at s h = go (dec_lt at (length b))
  where
    go : Dec (at < length b) → at < length b
    go (yes l) = l
    go (no l) = absurd (omega (arith, past_end b at (omega arith)))

-- ---- the search, one step down

pub near_hit : (st : ℕ → ℕ) (s j : ℕ) → st j ≤ s → near st s (suc j) ≡ j
unfolding near
near_hit st s j l = simp (le-leb _ _ l)

pub near_miss : (st : ℕ → ℕ) (s j : ℕ) → s < st j → near st s (suc j) ≡ near st s j
unfolding near
near_miss st s j l = simp (lt-leb _ _ l)

pub near_none : (st : ℕ → ℕ) (s : ℕ) → near st s 0 ≡ 0
unfolding near
near_none st s = refl

-- ---- what the search finds

-- a line before
pub near_before : (st : ℕ → ℕ) (s k : ℕ) → 0 < k → near st s k < k
unfolding near
near_before st s zero h = elim h [ ]
near_before st s (suc zero) h = by_pick (λ (n : ℕ). n < 1) (leb (st 0) s) 0 0 (λ e. omega arith) (λ e. omega arith)
near_before st s (suc (suc k)) h =
    let r = near_before st s (suc k) (omega arith) in
    by_pick (λ (n : ℕ). n < suc (suc k)) (leb (st (suc k)) s) (suc k) (near st s (suc k)) (λ e. omega arith) (λ e. omega arith)

-- one that starts at or below, where line 0 does
pub near-low : (st : ℕ → ℕ) (s k : ℕ) → 0 < k → st 0 ≤ s → st (near st s k) ≤ s
unfolding near
near-low st s zero h l = elim h [ ]
near-low st s (suc zero) h l = by_pick (λ (n : ℕ). st n ≤ s) (leb (st 0) s) 0 0 (λ e. l) (λ e. l)
near-low st s (suc (suc k)) h l =
    by_pick (λ (n : ℕ). st n ≤ s) (leb (st (suc k)) s) (suc k) (near st s (suc k)) (λ e. leb-true _ _ e) (λ e. near-low st s (suc k) (omega arith) l)

-- the last such: every line between starts above
pub near_last : (st : ℕ → ℕ) (s k j : ℕ) → near st s k < j → j < k → s < st j
unfolding near
near_last st s zero j h l = absurd (omega arith)
near_last st s (suc k) j h l = go (leb (st k) s) refl h (dec_lt j k) (near_last st s k j)
  where
    go : (t : Bool) → leb (st k) s ≡ t → pick t k (near st s k) < j → Dec (j < k) → (near st s k < j → j < k → s < st j) → s < st j
    go true e g d ih = absurd (omega arith)
    go false e g (yes m) ih = ih g m
    go false e g (no m) ih =
        let q : j ≡ k = omega arith in
        rw q (leb-false _ _ e)

-- and these three facts are enough: it stands before, it starts at or below, each line between starts above
pub near_is : (st : ℕ → ℕ) (s k p : ℕ) → p < k → st p ≤ s → ((j : ℕ) → p < j → j < k → s < st j) → near st s k ≡ p
unfolding near
near_is st s zero p h l b = absurd (omega arith)
near_is st s (suc k) p h l b = go (dec_lt p k) (near_is st s k p)
  where
    go : Dec (p < k) → (p < k → st p ≤ s → ((j : ℕ) → p < j → j < k → s < st j) → near st s k ≡ p) → pick (leb (st k) s) k (near st s k) ≡ p
    go (yes m) ih = rw (lt-leb (st k) s (b k m (omega arith))) (ih m l (λ j x y. b j x (omega arith)))
    go (no m) ih =
        let e : p ≡ k = omega arith in
        let w : st k ≤ s = subst (λ (q : ℕ). st q ≤ s) e l in
        rw (le-leb (st k) s w) (sym e)

-- the search for s from m down goes on at the line found for a later start t, as all lines after that start above t
near-from : (st : ℕ → ℕ) (s t m : ℕ) → s ≤ t → near st s m ≡ near st s (suc (near st t m))
unfolding near
near-from st s t zero l = by_pick (λ (n : ℕ). 0 ≡ n) (leb (st 0) s) 0 0 (λ e. refl) (λ e. refl)
near-from st s t (suc m) l =
    by_pick (λ (n : ℕ). near st s (suc m) ≡ near st s (suc n)) (leb (st m) t) m (near st t m) (λ e. refl)
    (λ e. near_miss st s m (omega (arith, leb-false (st m) t e)) ∙ near-from st s t m l)

-- from line j, which starts above s, it goes on at its parent
pub near_jump : (st : ℕ → ℕ) (s j : ℕ) → s < st j → near st s (suc j) ≡ near st s (suc (near st (st j) j))
near_jump st s j l = near_miss st s j l ∙ near-from st s (st j) j (omega arith)

-- the starts of the lines before are all that counts
pub near_same : (st st' : ℕ → ℕ) (s k : ℕ) → ((j : ℕ) → j < k → st j ≡ st' j) → near st s k ≡ near st' s k
unfolding near
near_same st st' s zero f = refl
near_same st st' s (suc k) f =
    rw (f k (omega arith), near_same st st' s k (λ j h. f j (omega arith)))

-- ---- the search that follows the parents

module _ (b : List ℕ) (s : ℕ) where
  -- one step of it: here, on at the parent, or nowhere
  pub follow_here : (j : ℕ) → start_at b j ≤ s → follow b s (suc j) j ≡ j
  unfolding follow
  follow_here j l = simp (le-leb _ _ l)

  pub follow_stuck : (j : ℕ) → s < start_at b j → j ≤ parent_at b j → follow b s (suc j) j ≡ 0
  unfolding follow
  follow_stuck j l g = simp (lt-leb _ _ l, le-ltb _ _ g)

  -- each step goes down, so j steps are enough from line j on
  follow_enough : (m n j : ℕ) → j < m → j < n → follow b s m j ≡ follow b s n j
  unfolding follow
  follow_enough zero n j p q = absurd (omega arith)
  follow_enough (suc m) zero j p q = absurd (omega arith)
  follow_enough (suc m) (suc n) j p q = go (ltb (parent_at b j) j) refl (follow_enough m n (parent_at b j))
    where
      go : (t : Bool) → ltb (parent_at b j) j ≡ t → (parent_at b j < m → parent_at b j < n → follow b s m (parent_at b j) ≡ follow b s n (parent_at b j))
          → pick (leb (start_at b j) s) j (pick t (follow b s m (parent_at b j)) 0) ≡ pick (leb (start_at b j) s) j (pick t (follow b s n (parent_at b j)) 0)
      go true e ih = let l = ltb-true (parent_at b j) j e in ap (pick (leb (start_at b j) s) j) (ih (omega arith) (omega arith))
      go false e ih = refl

  pub follow_up : (j p : ℕ) → s < start_at b j → p ≡ parent_at b j → p < j → follow b s (suc j) j ≡ follow b s (suc p) p
  follow_up j p l e g =
      up ∙ ap (follow b s j) (sym e) ∙ follow_enough j (suc p) p g (omega arith)
    where
      up : follow b s (suc j) j ≡ follow b s j (parent_at b j)
      up = unfold follow in simp (lt-leb _ _ l, lt-ltb (parent_at b j) j (omega arith))

-- in a table whose parents are right both searches find the same
module _ {b : List ℕ} {k : ℕ} (l : Linked b k) (s : ℕ) where
  follow-near : (n j : ℕ) → j < n → j < k → follow b s (suc j) j ≡ near (start_at b) s (suc j)
  follow-near zero j h g = absurd (omega arith)
  follow-near (suc n) j h g = go (dec_lt s (start_at b j)) (dec_lt (parent_at b j) j) (follow-near n (parent_at b j))
    where
      go : Dec (s < start_at b j) → Dec (parent_at b j < j) → (parent_at b j < n → parent_at b j < k → follow b s (suc (parent_at b j)) (parent_at b j) ≡ near (start_at b) s (suc (parent_at b j)))
          → follow b s (suc j) j ≡ near (start_at b) s (suc j)
      go (no m) d ih = let e : start_at b j ≤ s = omega arith in follow_here b s j e ∙ sym (near_hit (start_at b) s j e)
      go (yes m) (yes d) ih =
          follow_up b s j (parent_at b j) m refl d ∙ ih (omega arith) (omega arith)
          ∙ ap (λ (p : ℕ). near (start_at b) s (suc p)) (l.parents j (omega arith) g)
          ∙ sym (near_jump (start_at b) s j m)
      go (yes m) (no d) ih = follow_stuck b s j m (omega arith) ∙ sym (near_miss (start_at b) s j m ∙ first (dec_lt 0 j))
        where
          -- only line 0 has a parent that is not before it
          first : Dec (0 < j) → near (start_at b) s j ≡ 0
          first (yes z) = absurd (omega (arith, l.parents j z g, near_before (start_at b) (start_at b j) j z))
          first (no z) = let e : j ≡ 0 = omega arith in ap (near (start_at b) s) e ∙ near_none (start_at b) s

  pub followed-near : followed b s k ≡ near (start_at b) s k
  followed-near = go (dec_lt 0 k)
    where
      go : Dec (0 < k) → followed b s k ≡ near (start_at b) s k
      go (yes z) =
          let e : suc (k - 1) ≡ k = omega arith in
          ap (λ (n : ℕ). follow b s n (k - 1)) (sym e) ∙ follow-near k (k - 1) (omega arith) (omega arith) ∙ ap (near (start_at b) s) e
      go (no z) =
          let e : k ≡ 0 = omega arith in
          ap (λ (n : ℕ). follow b s n (k - 1)) e ∙ none (k - 1) ∙ sym (near_none (start_at b) s) ∙ ap (near (start_at b) s) (sym e)
        where
          none : (j : ℕ) → follow b s 0 j ≡ 0
          none j = unfold follow in refl

  pub hangs-followed : hangs_by b s k ≡ hangs (start_at b) (count_at b) s k
  unfolding hangs hangs_by
  hangs-followed = ap (λ (p : ℕ). hang_on s p (start_at b p) (count_at b p)) followed-near

-- ---- the rule at what the code has read

pub hangs-made : (st n : ℕ → ℕ) (s k p t m : ℕ) → p ≡ near st s k → t ≡ st p → m ≡ n p → hangs st n s k ≡ hang_on s p t m
unfolding hangs
hangs-made st n s k p t m e₁ e₂ e₃ = cc

-- lines that start alike and have as many entries hang alike
pub hangs-same : (st st' ct ct' : ℕ → ℕ) → ((j : ℕ) → st j ≡ st' j) → ((j : ℕ) → ct j ≡ ct' j) → (s k : ℕ) → hangs st ct s k ≡ hangs st' ct' s k
unfolding hangs
hangs-same st st' ct ct' h g s k =
    ap (λ (p : ℕ). hang_on s p (st p) (ct p)) (near_same st st' s k (λ j l. h j)) ∙ ap (λ (t : ℕ). hang_on s (near st' s k) t (ct (near st' s k))) (h (near st' s k))
    ∙ ap (hang_on s (near st' s k) (st' (near st' s k))) (g (near st' s k))

-- ---- that a line hangs

-- line k hangs on the line that is found for it
pub record Hangs (start count : ℕ → ℕ) (k : ℕ) : Type 0 where
  pub from : start (near start (start k) k) ≤ start k
  pub within : start k - start (near start (start k) k) < count (near start (start k) k)

-- an answer that is not the one for nowhere: on line p, with start t and n entries
on_line : {A : Type 0} (s p t n : ℕ) (f : ℕ → ℕ → A) (d x : A) → (d ≡ x → ⊥) → on_hang (hang_on s p t n) f d ≡ x → (t ≤ s) × (s - t < n) × (f p (s - t) ≡ x)
on_line s p t n f d x off h = go (leb t s) refl (ltb (s - t) n) refl h
  where
    go : (a : Bool) → leb t s ≡ a → (b : Bool) → ltb (s - t) n ≡ b → on_hang (pick a (pick b (Some (p, s - t)) None) None) f d ≡ x
        → (t ≤ s) × (s - t < n) × (f p (s - t) ≡ x)
    go true e true e' h = (leb-true t s e, ltb-true (s - t) n e', h)
    go true e false e' h = absurd (off h)
    go false e b e' h = absurd (off h)

module _ (start count : ℕ → ℕ) (k : ℕ) where
  -- a test that fails for a line that hangs nowhere, and holds, says that the line hangs
  pub hangs_says : {A : Type 0} (f : ℕ → ℕ → A) (d x : A) → (d ≡ x → ⊥) → on_hang (hangs start count (start k) k) f d ≡ x
      → Hangs start count k × (f (near start (start k) k) (start k - start (near start (start k) k)) ≡ x)
  unfolding hangs
  hangs_says f d x off h =
      let p = near start (start k) k in
      let (a, b, e) = on_line (start k) p (start p) (count p) f d x off h in
      (record { from = a; within = b }, e)

  -- and so the attaching rule finds its parent
  pub hangs-on : Hangs start count k → hangs start count (start k) k ≡ Some (near start (start k) k, start k - start (near start (start k) k))
  unfolding hangs
  hangs-on h = rw (le-leb _ _ h.from, lt-ltb _ _ h.within)
