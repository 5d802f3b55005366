-- Lines that all hang: each but the first starts at an entry of a line before it, so it starts below the number of entries before it.
--     hung-at, all-hang           what it is that all of some lines hang
--     start-bound, starts-small   a start is below the number of entries
--     parent-first, parent-later  where a line hangs is its parent
--     lines-hang                  so the attached lines are those of a well-formed record
-- Assumes nothing.
use Rattle.std.specs.Prelude.{Option, Some, None}
use Prim.Native.Nat.{ℕ, zero, suc, ◌+◌, ◌-◌, ◌≤◌, ◌<◌}
use native.Mathlib.Nat.{add-zero, zero-add}
use native.Mathlib.Numerals.{add-one}
use native.Mathlib.Omega.{arith}
use native.Mathlib.Decide.{dec_lt}
use mathlib.Core.Path.{◌≡◌, refl, sym, ap, ◌∙◌, subst}
use mathlib.Core.List.{List, [], ◌∷◌, ◌++◌}
use mathlib.Core.Bool.{Bool, true, false}
use lib.ListN.{length, take}
use lib.Seq.{take-length}
use lib.Dec.{eqb, leb, ltb}
use borrow.Author.Tests.{eq-eqb, ne_eqb}
use Rattle.lists.specs.Pick.{pick}
use Rattle.lists.specs.Test.{◌equals◌, ◌and◌, each, flag, claim}
use Rattle.lists.proofs.Laws.{by_pick}
use Rattle.lists.proofs.Tests.{answers}
use Rattle.jkf.specs.Attaching.{near, hang_on, hangs, on_hang, all, first, hung_from, Play, play, play_of, starts, counts, parent_in, attach_from, attach, all_hung}
use Rattle.jkf.proofs.Hangings.{not_all}
use Rattle.jkf.proofs.Nears.{near_none, near_before, hangs-same, Hangs, hangs_says, hangs-on}
use Rattle.jkf.specs.Model.{Noted, Line}
use Rattle.block.specs.Encode.{concat, entries_of}
use Rattle.jkf.specs.Trees.{hang_test}
use Rattle.block.specs.Sound.{sum}
use Rattle.block.specs.Formed.{line_of, line_fits}
use Rattle.block.proofs.Sums.{sum_suc, sum_rises, sum-within}
use Rattle.block.proofs.Tabling.{concat-sum}

-- ---- what it is that lines hang

module _ (start count : ℕ → ℕ) where
  -- each of n lines from k on
  pub hung_at : (n k : ℕ) → hung_from start count k n ≡ all → (j : ℕ) → k ≤ j → j < k + n → Hangs start count j
  unfolding hung_from
  hung_at zero k h j a b = absurd (omega arith)
  hung_at (suc n) k h j a b =
      let (here, rest) = hangs_says start count k (λ p e. hung_from start count (k + 1) n) (first k (start k)) all not_all h in
      go (dec_lt k j) here (hung_at n (k + 1) rest j)
    where
      go : Dec (k < j) → Hangs start count k → (k + 1 ≤ j → j < k + 1 + n → Hangs start count j) → Hangs start count j
      go (yes l) here ih = ih (omega arith) (omega arith)
      go (no l) here ih = let e : k ≡ j = omega arith in subst (Hangs start count) e here

  -- each but line 0 of those up to line n
  pub all-hang : (n : ℕ) → hung_from start count 1 n ≡ all → (k : ℕ) → 0 < k → k ≤ n → Hangs start count k
  all-hang n h k z l = hung_at n 1 h k z (omega arith)

  -- a line starts below the number of entries before it
  module _ (origin : start 0 ≡ 0) (n : ℕ) (hang : (k : ℕ) → 0 < k → k ≤ n → Hangs start count k) where
    low : (m k : ℕ) → k < m → k ≤ n → start k ≤ sum count k
    low zero k h l = absurd (omega arith)
    low (suc m) k h l = go (dec_lt 0 k) (low m)
      where
        go : Dec (0 < k) → ((j : ℕ) → j < m → j ≤ n → start j ≤ sum count j) → start k ≤ sum count k
        go (yes z) ih =
            let g = hang k z l in
            let p = near start (start k) k in
            let b = near_before start (start k) k z in
            omega (arith, g.from, g.within, ih p (omega arith) (omega arith), sum-within count p k b)
        go (no z) ih =
            let e : 0 ≡ k = omega arith in
            subst (λ (j : ℕ). start j ≤ sum count j) e (omega arith)

    pub start-low : (k : ℕ) → k ≤ n → start k ≤ sum count k
    start-low k l = low (suc k) k (omega arith) l

    pub start_below : (k : ℕ) → 0 < k → k ≤ n → start k < sum count k
    start_below k z l =
        let g = hang k z l in
        let p = near start (start k) k in
        let b = near_before start (start k) k z in
        omega (arith, g.from, g.within, start-low p (omega arith), sum-within count p k b)

-- ---- of lines as they stand in a text

entries-before : (ps : List Play) (k : ℕ) → k ≤ length ps → sum (counts ps) k ≡ length (concat (λ (p : Play). p.entries) (take k ps))
entries-before ps k h = concat-sum (λ (p : Play). p.entries) (play 0 []) (counts ps) ps (λ i l. refl) k h

-- a line that starts at some ply ends at or below the number of entries up to its end
pub start_bound : (ps : List Play) → starts ps 0 ≡ 0 → (n : ℕ) → n < length ps → hung_from (starts ps) (counts ps) 1 n ≡ all
    → starts ps n + counts ps n ≤ length (concat (λ (p : Play). p.entries) (take (n + 1) ps))
start_bound ps z n h g =
    let e : n + 1 ≡ suc n = add-one n in
    omega (arith, start-low (starts ps) (counts ps) z n (all-hang (starts ps) (counts ps) n g) n (omega arith), sum_suc (counts ps) n, ap (sum (counts ps)) e, entries-before ps (n + 1) (omega arith))

-- ---- of lines that are attached

-- the test of a line that is not the first
hang-later : (start count parent : ℕ → ℕ) (k : ℕ) → 0 < k → on_hang (hangs start count (start k) k) (λ p e. eqb (parent k) p) false ≡ true
    → claim (hang_test 1 start count parent k)
hang-later start count parent k z h =
    let main = flag (start 0 equals 0 and parent 0 equals 0) in
    let later = on_hang (hangs start count (start k) k) (λ p e. eqb (parent k) p) false in
    ap (λ (t : Bool). pick t main later) (ne_eqb k 0 (λ e. omega arith)) ∙ h

-- with no line before it a line has no parent
pub no_parent : (s p t n : ℕ) → p ≡ 0 → on_hang (hang_on s p t n) (λ p e. p) 0 ≡ 0
no_parent s p t n e =
    by_pick P (leb t s) (pick (ltb (s - t) n) (Some (p, s - t)) None) None
    (λ _. by_pick P (ltb (s - t) n) (Some (p, s - t)) None (λ _. e) (λ _. refl)) (λ _. refl)
  where
    P : Option (ℕ × ℕ) → Type 0
    P r = on_hang r (λ p e. p) 0 ≡ 0

-- what is made of line k
abbrev attached : List Play → ℕ → Play → Line
attached ps k p = record { start = p.start; parent = parent_in ps k; entries = p.entries }

module _ (ps : List Play) where
  from-length : (k : ℕ) (qs : List Play) → length (attach_from ps k qs) ≡ length qs
  unfolding attach_from
  from-length k [] = refl
  from-length k (q ∷ qs) = ap suc (from-length (k + 1) qs)

  from_entries : (k : ℕ) (qs : List Play) → entries_of (attach_from ps k qs) ≡ concat (λ (p : Play). p.entries) qs
  unfolding attach_from concat
  from_entries k [] = refl
  from_entries k (q ∷ qs) = ap (λ (l : List Noted). q.entries ++ l) (from_entries (k + 1) qs)

  from-line : (k : ℕ) (qs : List Play) (i : ℕ) → i < length qs → line_of (attach_from ps k qs) i ≡ attached ps (k + i) (play_of qs i)
  unfolding attach_from
  from-line k [] i h = absurd (omega arith)
  from-line k (q ∷ qs) zero h = ap (λ (j : ℕ). attached ps j q) (sym (add-zero k))
  from-line k (q ∷ qs) (suc i) h =
      let e : k + 1 + i ≡ k + suc i = omega arith in
      from-line (k + 1) qs i (omega arith) ∙ ap (λ (j : ℕ). attached ps j (play_of qs i)) e

  from_start : (k : ℕ) (qs : List Play) (i : ℕ) → (line_of (attach_from ps k qs) i).start ≡ starts qs i
  unfolding attach_from
  from_start k [] i = refl
  from_start k (q ∷ qs) zero = refl
  from_start k (q ∷ qs) (suc i) = from_start (k + 1) qs i

  from-count : (k : ℕ) (qs : List Play) (i : ℕ) → length (line_of (attach_from ps k qs) i).entries ≡ counts qs i
  unfolding attach_from
  from-count k [] i = refl
  from-count k (q ∷ qs) zero = refl
  from-count k (q ∷ qs) (suc i) = from-count (k + 1) qs i

  pub attach-length : length (attach ps) ≡ length ps
  unfolding attach
  attach-length = from-length 0 ps

  pub attach-entries : entries_of (attach ps) ≡ concat (λ (p : Play). p.entries) ps
  unfolding attach
  attach-entries = from_entries 0 ps

  pub attach-line : (k : ℕ) → k < length ps → line_of (attach ps) k ≡ record { start = starts ps k; parent = parent_in ps k; entries = (play_of ps k).entries }
  unfolding attach
  attach-line k h = from-line 0 ps k h ∙ ap (λ (j : ℕ). attached ps j (play_of ps k)) (zero-add k)

  attach-start : (k : ℕ) → (line_of (attach ps) k).start ≡ starts ps k
  unfolding attach
  attach-start k = from_start 0 ps k

  attach-count : (k : ℕ) → length (line_of (attach ps) k).entries ≡ counts ps k
  unfolding attach
  attach-count k = from-count 0 ps k

  -- in an answered block a start is below the number of entries
  pub starts-small : starts ps 0 ≡ 0 → 1 ≤ counts ps 0 → all_hung ps ≡ all → (k : ℕ) → k < length ps → starts ps k < length (entries_of (attach ps))
  unfolding all_hung
  starts-small z m g k h =
      omega (
        arith,
        below (dec_lt 0 k),
        sum_rises (counts ps) (suc k) (length ps) h,
        entries-before ps (length ps) (omega arith),
        ap (λ (l : List Play). length (concat (λ (p : Play). p.entries) l)) (take-length ps),
        ap length attach-entries,
      )
    where
      below : Dec (0 < k) → starts ps k < sum (counts ps) (suc k)
      below (yes l) = omega (arith, start_below (starts ps) (counts ps) z (length ps - 1) (all-hang (starts ps) (counts ps) (length ps - 1) g) k l (omega arith), sum_suc (counts ps) k)
      below (no l) =
          let e : 0 ≡ k = omega arith in
          subst (λ (j : ℕ). starts ps j < sum (counts ps) (suc j)) e (omega (arith, sum_suc (counts ps) 0))

  -- ---- so each line fits

  -- line 0 has no parent
  pub parent-first : parent_in ps 0 ≡ 0
  unfolding parent_in hangs
  parent-first = no_parent (starts ps 0) (near (starts ps) (starts ps 0) 0) _ _ (near_none (starts ps) (starts ps 0))

  pub parent-later : (k : ℕ) → Hangs (starts ps) (counts ps) k → parent_in ps k ≡ near (starts ps) (starts ps k) k
  unfolding parent_in
  parent-later k h = ap (λ (r : Option (ℕ × ℕ)). on_hang r (λ p e. p) 0) (hangs-on (starts ps) (counts ps) k h)

  line-hangs : starts ps 0 ≡ 0 → all_hung ps ≡ all → (k : ℕ) → k < length ps
      → claim (hang_test 1 (λ j. (line_of (attach ps) j).start) (λ j. length (line_of (attach ps) j).entries) (λ j. (line_of (attach ps) j).parent) k)
  unfolding all_hung
  line-hangs z g zero h =
      let p : (line_of (attach ps) 0).parent ≡ 0 = ap (λ (l : Line). l.parent) (attach-line 0 h) ∙ parent-first in
      answers ((line_of (attach ps) 0).start equals 0 and (line_of (attach ps) 0).parent equals 0) (attach-start 0 ∙ z, p)
  line-hangs z g (suc k) h =
      let start : ℕ → ℕ = λ j. (line_of (attach ps) j).start in
      let count : ℕ → ℕ = λ j. length (line_of (attach ps) j).entries in
      let parent : ℕ → ℕ = λ j. (line_of (attach ps) j).parent in
      let w : Hangs (starts ps) (counts ps) (suc k) = all-hang (starts ps) (counts ps) (length ps - 1) g (suc k) (omega arith) (omega arith) in
      let p : parent (suc k) ≡ near (starts ps) (starts ps (suc k)) (suc k) = ap (λ (l : Line). l.parent) (attach-line (suc k) h) ∙ parent-later (suc k) w in
      let e : hangs start count (start (suc k)) (suc k) ≡ Some (near (starts ps) (starts ps (suc k)) (suc k), starts ps (suc k) - starts ps (near (starts ps) (starts ps (suc k)) (suc k))) =
      hangs-same start (starts ps) count (counts ps) attach-start attach-count (start (suc k)) (suc k)
      ∙ ap (λ (t : ℕ). hangs (starts ps) (counts ps) t (suc k)) (attach-start (suc k))
      ∙ hangs-on (starts ps) (counts ps) (suc k) w in
      hang-later start count parent (suc k) (omega arith) (ap (λ (r : Option (ℕ × ℕ)). on_hang r (λ p e. eqb (parent (suc k)) p) false) e ∙ eq-eqb _ _ p)

  pub lines-hang : starts ps 0 ≡ 0 → ((k : ℕ) → k < length ps → 1 ≤ counts ps k) → all_hung ps ≡ all
      → claim (each (length (attach ps)) (line_fits 1 (attach ps)))
  lines-hang z some g k h =
      let l : k < length ps = omega (arith, attach-length) in
      (omega (arith, attach-count k, some k l), line-hangs z g k l)
