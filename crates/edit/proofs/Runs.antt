-- The lines of an edited block: runs over the rows of the old one, on their parents renumbered, and the new ones between them. How many they
-- are, and their entries.
-- Assumes nothing.
use Prim.Native.Nat.{ℕ, zero, suc, ◌+◌, ◌-◌, ◌≤◌, ◌<◌}
use native.Mathlib.Nat.{add-zero, zero-add}
use native.Mathlib.Omega.{arith}
use mathlib.Core.Path.{◌≡◌, sym, ap, ap₂, ◌∙◌}
use mathlib.Core.List.{List, ◌++◌, map}
use lib.ListN.{length, take, drop, length-append}
use Rattle.jkf.specs.Model.{Noted, Line}
use Rattle.block.specs.Encode.{concat, entries_of}
use Rattle.block.specs.Decode.{run, lines_in, moves_in, first_entry, entry_count, noted_in, line_in, decode}
use Rattle.block.specs.inner.Sounds.{Sound}
use Rattle.block.specs.Sound.{sum, entries_before}
use Rattle.block.proofs.Sums.{sum_more, sum_rises}
use Rattle.block.proofs.Tabling.{length_run, run-add, concat-append, take-run, drop-run, map-run}
use Rattle.edit.specs.Edit.{reparented}
use Rattle.edit.specs.inner.Splicing.{shifted, lines_after, entries_after}

-- ---- the old lines

-- line i of a block, on its parent renumbered
abbrev pub moved : (ℕ → ℕ) → List ℕ → ℕ → Line
moved f b i = reparented f (line_in b i)

module _ (f : ℕ → ℕ) (b : List ℕ) where
  lines_are : map (reparented f) (decode b).lines ≡ run (moved f b) 0 (lines_in b)
  unfolding decode
  lines_are = map-run (line_in b) (reparented f) 0 (lines_in b)

  -- those before line p, and those from line q on
  pub front_is : (p : ℕ) → p ≤ lines_in b → take p (map (reparented f) (decode b).lines) ≡ run (moved f b) 0 p
  front_is p h = ap (take p) lines_are ∙ take-run (moved f b) p (lines_in b) h

  pub back_is : (q : ℕ) → q ≤ lines_in b → drop q (map (reparented f) (decode b).lines) ≡ run (moved f b) q (lines_in b - q)
  back_is q h = ap (drop q) lines_are ∙ drop-run (moved f b) q (lines_in b) h

-- ---- with new ones

pub after_is : (b : List ℕ) (p q : ℕ) (vs : List Line) → p ≤ q → q ≤ lines_in b
    → lines_after b p q vs ≡ run (moved (shifted p q (length vs)) b) 0 p ++ (vs ++ run (moved (shifted p q (length vs)) b) q (lines_in b - q))
after_is b p q vs h l =
    let f = shifted p q (length vs) in
    ap₂ (λ (xs ys : List Line). xs ++ (vs ++ ys)) (front_is f b p (omega arith)) (back_is f b q l)

pub after_length : (b : List ℕ) (p q : ℕ) (vs : List Line) → p ≤ q → q ≤ lines_in b → length (lines_after b p q vs) ≡ p + length vs + (lines_in b - q)
after_length b p q vs h l =
    let g = moved (shifted p q (length vs)) b in
    let xs = run g 0 p in
    let ys = run g q (lines_in b - q) in
    omega (arith, ap length (after_is b p q vs h l), length-append xs (vs ++ ys), length-append vs ys, length_run g 0 p, length_run g q (lines_in b - q))

-- ---- their entries, in a sound block

module _ (b : List ℕ) (s : Sound b) where
  -- where those of a line stand
  pub first_is : (k : ℕ) → k < lines_in b → first_entry b k ≡ entries_before b k
  first_is k h = (s.lines k h).0

  pub before-all : entries_before b (lines_in b) ≡ moves_in b
  before-all = s.totals.1.0

  before_rises : (p q : ℕ) → p ≤ q → entries_before b p ≤ entries_before b q
  before_rises p q h = sum_rises (λ k. entry_count b k) p q h

  module _ (f : ℕ → ℕ) where
    -- those of n lines from line k on
    entries-of : (n k : ℕ) → k + n ≤ lines_in b
        → entries_of (run (moved f b) k n) ≡ run (noted_in b) (entries_before b k) (entries_before b (k + n) - entries_before b k)
    unfolding concat run
    entries-of zero k h =
        let e : 0 ≡ entries_before b (k + 0) - entries_before b k = omega (arith, ap (entries_before b) (add-zero k)) in
        ap (run (noted_in b) (entries_before b k)) e
    entries-of (suc n) k h =
        let c = entry_count b k in
        let e₁ : k + 1 + n ≡ k + suc n = omega arith in
        let e₂ : entries_before b (k + 1) ≡ entries_before b k + c = sum_more (λ k. entry_count b k) k in
        let m = entries_before b (k + 1 + n) - entries_before b (k + 1) in
        let e₃ : c + m ≡ entries_before b (k + suc n) - entries_before b k =
        omega (arith, e₂, ap (entries_before b) e₁, before_rises (k + 1) (k + 1 + n) (omega arith)) in
        ap₂ (λ (j : ℕ) (l : List Noted). run (noted_in b) j c ++ l) (first_is k (omega arith)) (entries-of n (k + 1) (omega arith))
        ∙ ap (λ (j : ℕ). run (noted_in b) (entries_before b k) c ++ run (noted_in b) j m) e₂
        ∙ sym (run-add (noted_in b) (entries_before b k) c m)
        ∙ ap (run (noted_in b) (entries_before b k)) e₃

    entries-front : (p : ℕ) → p ≤ lines_in b → entries_of (run (moved f b) 0 p) ≡ run (noted_in b) 0 (entries_before b p)
    unfolding sum
    entries-front p h =
        let e : entries_before b (0 + p) - entries_before b 0 ≡ entries_before b p = omega (arith, ap (entries_before b) (zero-add p)) in
        entries-of p 0 (omega arith) ∙ ap (run (noted_in b) 0) e

    entries_back : (q : ℕ) → q ≤ lines_in b → entries_of (run (moved f b) q (lines_in b - q)) ≡ run (noted_in b) (entries_before b q) (moves_in b - entries_before b q)
    entries_back q h =
        let e : q + (lines_in b - q) ≡ lines_in b = omega arith in
        entries-of (lines_in b - q) q (omega arith)
        ∙ ap (λ (i : ℕ). run (noted_in b) (entries_before b q) (i - entries_before b q)) (ap (entries_before b) e ∙ before-all)

  pub entries-after : (p q : ℕ) (vs : List Line) → p ≤ q → q ≤ lines_in b → entries_of (lines_after b p q vs) ≡ entries_after b p q (entries_of vs)
  entries-after p q vs h l =
      let f = shifted p q (length vs) in
      let back = run (moved f b) q (lines_in b - q) in
      ap entries_of (after_is b p q vs h l)
      ∙ concat-append (λ (x : Line). x.entries) (run (moved f b) 0 p) (vs ++ back)
      ∙ ap₂ ◌++◌ (entries-front f p (omega arith))
      (concat-append (λ (x : Line). x.entries) vs back ∙ ap (λ (es : List Noted). entries_of vs ++ es) (entries_back f q l))
