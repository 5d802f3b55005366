-- The numbers of lines once a line is put in, or a run of lines is cut out.
--     Put, put-part, put-kept        something of each line, with one line more
--     Cut, cut-part, cut-kept        something of each line, with a run left out
--     renumbered-.., lowered-..      a line's new number
-- Assumes nothing.
use Prim.Native.Nat.{ℕ, ◌+◌, ◌-◌, ◌≤◌, ◌<◌}
use native.Mathlib.Omega.{arith}
use native.Mathlib.Decide.{dec_lt}
use mathlib.Core.Path.{◌≡◌, sym, ap, ◌∙◌}
use mathlib.Core.Bool.{Bool}
use lib.Dec.{leb}
use borrow.Author.Tests.{le-leb, lt-leb, leb-true, leb-false}
use Rattle.lists.specs.Pick.{pick}
use Rattle.lists.proofs.Laws.{by_pick}
use Rattle.edit.specs.Edit.{renumbered, lowered, IsKept}

-- ---- a line put in

-- something of each line, and the same with one more line, line n
pub record Put {A : Type 0} (f f' : ℕ → A) (n : ℕ) (v : A) : Type 0 where
  pub before : (i : ℕ) → i < n → f' i ≡ f i
  pub new : f' n ≡ v
  pub after : (i : ℕ) → n ≤ i → f' (i + 1) ≡ f i

pub renumbered-low : (n i : ℕ) → i < n → renumbered n i ≡ i
renumbered-low n i h = ap (λ (t : Bool). pick t (i + 1) i) (lt-leb n i h)

pub renumbered-high : (n i : ℕ) → n ≤ i → renumbered n i ≡ i + 1
renumbered-high n i h = ap (λ (t : Bool). pick t (i + 1) i) (le-leb n i h)

pub put_part : {A B : Type 0} (g : A → B) {f f' : ℕ → A} {n : ℕ} {v : A} → Put f f' n v → Put (λ i. g (f i)) (λ i. g (f' i)) n (g v)
put_part g r = record { before = λ i h. ap g (r.before i h); new = ap g r.new; after = λ i h. ap g (r.after i h) }

-- an old line has it at its new number
pub put-kept : {A : Type 0} {f f' : ℕ → A} {n : ℕ} {v : A} → Put f f' n v → (i : ℕ) → f' (renumbered n i) ≡ f i
put-kept {f = f} {f' = f'} {n = n} r i =
    by_pick (λ (q : ℕ). f' q ≡ f i) (leb n i) (i + 1) i (λ e. r.after i (leb-true _ _ e)) (λ e. r.before i (leb-false _ _ e))

-- different lines have different numbers
pub renumbered-one : (n a b : ℕ) → renumbered n a ≡ renumbered n b → a ≡ b
renumbered-one n a b e = go (dec_lt a n) (dec_lt b n)
  where
    go : Dec (a < n) → Dec (b < n) → a ≡ b
    go (yes x) (yes y) = sym (renumbered-low n a x) ∙ e ∙ renumbered-low n b y
    go (yes x) (no y) = absurd (omega (arith, e, renumbered-low n a x, renumbered-high n b (omega arith)))
    go (no x) (yes y) = absurd (omega (arith, e, renumbered-high n a (omega arith), renumbered-low n b y))
    go (no x) (no y) = omega (arith, e, renumbered-high n a (omega arith), renumbered-high n b (omega arith))

pub renumbered-before : (n a b : ℕ) → a < b → n ≤ b → renumbered n a < b + 1
renumbered-before n a b h l = go (dec_lt a n)
  where
    go : Dec (a < n) → renumbered n a < b + 1
    go (yes x) = omega (arith, renumbered-low n a x)
    go (no x) = omega (arith, renumbered-high n a (omega arith))

-- ---- a run cut out

-- something of each line, and the same with m lines from line k on left out
pub record Cut {A : Type 0} (f f' : ℕ → A) (k m : ℕ) : Type 0 where
  pub before : (i : ℕ) → i < k → f' i ≡ f i
  pub after : (i : ℕ) → k ≤ i → f' i ≡ f (i + m)

pub lowered-low : (k m i : ℕ) → i < k → lowered k m i ≡ i
lowered-low k m i h = ap (λ (t : Bool). pick t (i - m) i) (lt-leb k i h)

pub lowered-high : (k m i : ℕ) → k ≤ i → lowered k m i ≡ i - m
lowered-high k m i h = ap (λ (t : Bool). pick t (i - m) i) (le-leb k i h)

pub cut_part : {A B : Type 0} (g : A → B) {f f' : ℕ → A} {k m : ℕ} → Cut f f' k m → Cut (λ i. g (f i)) (λ i. g (f' i)) k m
cut_part g r = record { before = λ i h. ap g (r.before i h); after = λ i h. ap g (r.after i h) }

-- a line that stays has it at its new number
pub cut-kept : {A : Type 0} {f f' : ℕ → A} {k m : ℕ} → Cut f f' k m → (i : ℕ) → IsKept k m i → f' (lowered k m i) ≡ f i
cut-kept {f = f} {f' = f'} {k = k} {m = m} r i g =
    by_pick (λ (q : ℕ). f' q ≡ f i) (leb k i) (i - m) i (λ e. high (g (leb-true _ _ e))) (λ e. r.before i (leb-false _ _ e))
  where
    high : k + m ≤ i → f' (i - m) ≡ f i
    high h = let e : i - m + m ≡ i = omega arith in r.after (i - m) (omega arith) ∙ ap f e

-- different lines have different numbers
pub lowered-one : (k m a b : ℕ) → IsKept k m a → IsKept k m b → lowered k m a ≡ lowered k m b → a ≡ b
lowered-one k m a b f g e = go (dec_lt a k) (dec_lt b k)
  where
    go : Dec (a < k) → Dec (b < k) → a ≡ b
    go (yes x) (yes y) = sym (lowered-low k m a x) ∙ e ∙ lowered-low k m b y
    go (yes x) (no y) = absurd (omega (arith, e, lowered-low k m a x, lowered-high k m b (omega arith), g (omega arith)))
    go (no x) (yes y) = absurd (omega (arith, e, lowered-high k m a (omega arith), lowered-low k m b y, f (omega arith)))
    go (no x) (no y) = omega (arith, e, lowered-high k m a (omega arith), lowered-high k m b (omega arith), f (omega arith), g (omega arith))

pub lowered-before : (k m a b : ℕ) → IsKept k m a → a < b → k + m ≤ b → lowered k m a < b - m
lowered-before k m a b f h l = go (dec_lt a k)
  where
    go : Dec (a < k) → lowered k m a < b - m
    go (yes x) = omega (arith, lowered-low k m a x)
    go (no x) = omega (arith, lowered-high k m a (omega arith), f (omega arith))
