-- A table of lines in lent memory whose rows say the starts, the entry counts and the parents of lines of play: a line hangs by it as it does in
-- the list.
-- Assumes nothing.
use Prim.Native.Nat.{ℕ, ◌+◌, ◌-◌, ◌*◌, ◌≤◌, ◌<◌}
use native.Mathlib.Omega.{arith}
use native.Mathlib.Decide.{dec_lt}
use mathlib.Core.Path.{◌≡◌, refl, sym, ap, ap₂, ◌∙◌}
use mathlib.Core.List.{List, ◌++◌}
use lib.ListN.{length, take, drop, get_or, get_or-append, length-drop}
use lib.Seq.{get_or-take, length-take-le, get_or-append-add}
use Rattle.lent.specs.Bytes.{le16, fitting}
use Rattle.lent.specs.Stored.{put}
use Rattle.lent.proofs.Regions.{put_eq}
use Rattle.lent.proofs.Writes.{fitting-all}
use Rattle.jkf.specs.Attaching.{near, hangs, all, hung_from, Play, starts, counts, parent_in}
use Rattle.jkf.specs.Following.{start_at, count_at, parent_at, followed, hangs_by, Linked}
use Rattle.jkf.proofs.Nears.{near_same, followed-near, hangs-followed}
use Rattle.jkf.proofs.Hangings.{hangs-before}
use Rattle.block.specs.Encode.{line_bytes}
use Rattle.block.proofs.Attached.{all-hang, parent-later}

-- ---- a text that is put

module _ (o t : List ℕ) (p : ℕ) (h : p + length t ≤ length o) where
  front_long : length (take p o) ≡ p
  front_long = length-take-le p o (omega arith)

  -- what stands before it stays
  pub put_low : (i : ℕ) → i < p → get_or (put o p t) i 0 ≡ get_or o i 0
  put_low i k =
      ap (λ (l : List ℕ). get_or l i 0) (put_eq o p t h) ∙ get_or-append (take p o) (t ++ drop (p + length t) o) 0 i (omega (arith, front_long))
      ∙ get_or-take p o i 0 k

  -- and it stands there
  pub put_here : (i : ℕ) → i < length t → get_or (put o p t) (p + i) 0 ≡ get_or t i 0
  put_here i k =
      ap (λ (l : List ℕ). get_or l (p + i) 0) (put_eq o p t h)
      ∙ ap (λ (n : ℕ). get_or (take p o ++ (t ++ drop (p + length t) o)) (n + i) 0) (sym front_long)
      ∙ get_or-append-add (take p o) (t ++ drop (p + length t) o) i 0
      ∙ get_or-append t (drop (p + length t) o) 0 i k

-- ---- the rows of the first k lines

module _ (ps : List Play) where
  pub record Tabled (k : ℕ) (t : List ℕ) : Type 0 where
    pub start : (j : ℕ) → j < k → start_at t j ≡ starts ps j
    pub count : (j : ℕ) → j < k → count_at t j ≡ counts ps j
    pub parent : (j : ℕ) → j < k → parent_at t j ≡ parent_in ps j

  module _ {k : ℕ} {t : List ℕ} (i : Tabled k t) (hung : hung_from (starts ps) (counts ps) 1 (k - 1) ≡ all) where
    -- all of them hang, so each has the parent that is found for it
    pub tabled_linked : Linked t k
    tabled_linked = record { parents = parents }
      where
        parents : (j : ℕ) → 0 < j → j < k → parent_at t j ≡ near (start_at t) (start_at t j) j
        parents j z h =
            i.parent j h ∙ parent-later ps j (all-hang (starts ps) (counts ps) (k - 1) hung j z (omega arith))
            ∙ ap (λ (n : ℕ). near (starts ps) n j) (sym (i.start j h))
            ∙ sym (near_same (start_at t) (starts ps) (start_at t j) j (λ m l. i.start m (omega arith)))

    -- a line with this start hangs as it does in the list
    pub tabled_hangs : (s : ℕ) → 0 < k → hangs_by t s k ≡ hangs (starts ps) (counts ps) s k
    tabled_hangs s some =
        hangs-followed tabled_linked s ∙ hangs-before (start_at t) (starts ps) (count_at t) (counts ps) s s k refl some i.start i.count

    -- and the line that is found for it is the nearest
    pub tabled_near : (s : ℕ) → followed t s k ≡ near (starts ps) s k
    tabled_near s = followed-near tabled_linked s ∙ near_same (start_at t) (starts ps) s k i.start

  -- one row more
  module _ {k : ℕ} {t t' : List ℕ} (i : Tabled k t) (start first count parent : ℕ) (room : 8 * k + 8 ≤ length t)
      (put-row : t' ≡ put t (8 * k) (fitting (line_bytes start first count parent) (drop (8 * k) t))) where
    stored : t' ≡ put t (8 * k) (line_bytes start first count parent)
    stored = put-row ∙ ap (put t (8 * k)) (fitting-all (line_bytes start first count parent) (drop (8 * k) t) (omega (arith, length-drop (8 * k) t)))

    -- the rows before it stay
    kept : (n : ℕ) → n + 1 < 8 * k → le16 t' n ≡ le16 t n
    kept n h =
        let row = line_bytes start first count parent in
        ap (λ (l : List ℕ). le16 l n) stored
        ∙ ap₂ (λ (a b : ℕ). a + 256 * b) (put_low t row (8 * k) room n (omega arith)) (put_low t row (8 * k) room (n + 1) h)

    -- it is read back
    back : (n : ℕ) → n + 1 < 8 → le16 t' (8 * k + n) ≡ le16 (line_bytes start first count parent) n
    back n h =
        let row = line_bytes start first count parent in
        let e : 8 * k + n + 1 ≡ 8 * k + (n + 1) = omega arith in
        ap (λ (l : List ℕ). le16 l (8 * k + n)) stored
        ∙ ap₂ (λ (a b : ℕ). a + 256 * b) (put_here t row (8 * k) room n (omega arith))
        (ap (λ (m : ℕ). get_or (put t (8 * k) row) m 0) e ∙ put_here t row (8 * k) room (n + 1) h)

    -- where its numbers are of 16 bits and line k's
    module _ (a : start < 65536) (b : count < 65536) (c : parent < 65536) (d : start ≡ starts ps k) (e : count ≡ counts ps k) (f : parent ≡ parent_in ps k) where
      more_of : (g : ℕ → ℕ) (n : ℕ) → n + 1 < 8 → ((j : ℕ) → j < k → le16 t (8 * j + n) ≡ g j) → le16 t' (8 * k + n) ≡ g k
          → (j : ℕ) → j < k + 1 → le16 t' (8 * j + n) ≡ g j
      more_of g n s before here j h = go (dec_lt j k)
        where
          go : Dec (j < k) → le16 t' (8 * j + n) ≡ g j
          go (yes l) = kept (8 * j + n) (omega arith) ∙ before j l
          go (no l) = let q : k ≡ j = omega arith in rw (← q) here

      start_back : le16 t' (8 * k + 0) ≡ starts ps k
      start_back = back 0 (omega arith) ∙ omega (arith, a, d)

      count_back : le16 t' (8 * k + 4) ≡ counts ps k
      count_back = back 4 (omega arith) ∙ omega (arith, b, e)

      parent_back : le16 t' (8 * k + 6) ≡ parent_in ps k
      parent_back = back 6 (omega arith) ∙ omega (arith, c, f)

      add_none : (j : ℕ) → 8 * j ≡ 8 * j + 0
      add_none j = omega arith

      pub tabled_more : Tabled (k + 1) t'
      tabled_more =
          record {
            start = λ j h. ap (le16 t') (add_none j) ∙ more_of (starts ps) 0 (omega arith) (λ m l. ap (le16 t) (sym (add_none m)) ∙ i.start m l) start_back j h;
            count = more_of (counts ps) 4 (omega arith) i.count count_back;
            parent = more_of (parent_in ps) 6 (omega arith) i.parent parent_back;
          }
