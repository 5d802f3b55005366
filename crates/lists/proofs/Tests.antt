-- A test answers true exactly where what it says holds.
-- Assumes nothing.
use Prim.Native.Nat.{ℕ, zero, suc, ◌+◌, ◌<◌}
use native.Mathlib.Nat.{not-suc-le-zero}
use native.Mathlib.Numerals.{add-one}
use native.Mathlib.Omega.{arith}
use native.Mathlib.Decide.{dec_lt}
use mathlib.Core.Path.{◌≡◌, refl, sym, ap, ◌∙◌}
use mathlib.Core.Bool.{Bool, true, false, false≢true}
use borrow.Author.Tests.{eq-eqb, le-leb, eqb-true, leb-true}
use Rattle.lists.specs.Test.{Test, ◌equals◌, ◌at_most◌, holds, ◌and◌, each, all_below, flag, claim}
use Rattle.lists.proofs.Laws.{pick_both}

-- ---- of each number below n

pub all_none : (f : ℕ → Bool) → all_below f 0 ≡ true
unfolding all_below
all_none f = refl

pub all_more : (f : ℕ → Bool) (k : ℕ) → all_below f k ≡ true → f k ≡ true → all_below f (k + 1) ≡ true
unfolding all_below
all_more f k a b = ap (all_below f) (add-one k) ∙ rw (b, a)

all-at : (f : ℕ → Bool) (n : ℕ) → all_below f n ≡ true → (k : ℕ) → k < n → f k ≡ true
unfolding all_below
all-at f zero h k l = absurd (not-suc-le-zero l)
all-at f (suc n) h k l = let (p, q) = pick_both (f n) (all_below f n) h in go (dec_lt k n) p (all-at f n q k)
  where
    go : Dec (k < n) → f n ≡ true → (k < n → f k ≡ true) → f k ≡ true
    go (yes r) p ih = ih r
    go (no r) p ih = let e : k ≡ n = omega arith in rw e p

-- one that fails fails all
pub all_not : (f : ℕ → Bool) (n k : ℕ) → k < n → f k ≡ false → all_below f n ≡ false
all_not f n k h e = go (all_below f n) refl
  where
    go : (t : Bool) → all_below f n ≡ t → all_below f n ≡ false
    go true q = absurd (false≢true (sym e ∙ all-at f n q k h))
    go false q = q

all_of : (f : ℕ → Bool) (n : ℕ) → ((k : ℕ) → k < n → f k ≡ true) → all_below f n ≡ true
unfolding all_below
all_of f zero h = refl
all_of f (suc n) h = rw (h n (omega arith), all_of f n (λ k l. h k (omega arith)))

-- ---- a test and its claim

pub says : (t : Test) → flag t ≡ true → claim t
says (a equals b) h = eqb-true a b h
says (a at_most b) h = leb-true a b h
says (holds t) h = h
says (s and t) h = let (p, q) = pick_both (flag s) (flag t) h in (says s p, says t q)
says (each n f) h = λ k l. says (f k) (all-at (λ k. flag (f k)) n h k l)

pub answers : (t : Test) → claim t → flag t ≡ true
answers (a equals b) h = eq-eqb a b h
answers (a at_most b) h = le-leb a b h
answers (holds t) h = h
answers (s and t) h = rw (answers s h.0, answers t h.1)
answers (each n f) h = all_of (λ k. flag (f k)) n (λ k l. answers (f k) (h k l))

-- ---- one test after another

-- the first passed, so the second decides
pub goes : (s t : Test) → flag s ≡ true → flag (s and t) ≡ flag t
goes s t h = rw h

-- the first failed
pub fails : (s t : Test) → flag s ≡ false → flag (s and t) ≡ false
fails s t h = rw h
