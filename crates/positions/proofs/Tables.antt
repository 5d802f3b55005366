-- Facts of the tables of kinds, computed for each kind and each cell.
-- Assumes nothing.
use Prim.Native.Nat.{ℕ, ◌+◌, ◌≤◌, ◌<◌, ◌%◌}
use native.Mathlib.Omega.{arith}
use mathlib.Core.Path.{◌≡◌, refl, sym, ap, ◌∙◌}
use mathlib.Core.Bool.{Bool, true, false}
use lib.Dec.{eqb, leb, ltb}
use borrow.Author.Tests.{eqb-true, ltb-true, leb-true, ne_eqb, le-leb, lt-leb}
use Rattle.lists.specs.Pick.{pick}
use Rattle.lists.proofs.Laws.{range, range_at, pick_both}
use Rattle.block.specs.Sound.{is_cell}
use Rattle.positions.specs.Steps.{class, promoted, piece_of}

-- a promoted kind is held as the kind that it came from, and is a kind
abbrev tests : ℕ → Bool
tests k = pick (eqb (promoted k) 0) true (pick (eqb (class (promoted k)) (class k)) (leb (promoted k) 14) false)

all_kinds : range tests 0 16 ≡ true
unfolding class promoted
all_kinds = refl

pub promoted-kind : (k : ℕ) → k < 16 → (promoted k ≡ 0 → ⊥) → (class (promoted k) ≡ class k) × (promoted k ≤ 14)
promoted-kind k h n =
    let t = range_at tests 16 0 k all_kinds (omega arith) (omega arith) in
    let u = ap (λ (b : Bool). pick b true (pick (eqb (class (promoted k)) (class k)) (leb (promoted k) 14) false)) (ne_eqb (promoted k) 0 n) in
    let (p, q) = pick_both (eqb (class (promoted k)) (class k)) (leb (promoted k) 14) (sym u ∙ t) in
    (eqb-true _ _ p, leb-true _ _ q)

-- a cell with a piece that is no king holds a kind that can be held
abbrev cell_tests : ℕ → Bool
cell_tests c = pick (is_cell c) (pick (eqb c 0) true (pick (eqb (c % 16) 8) true (ltb (class (c % 16)) 7))) true

all-cells : range cell_tests 0 31 ≡ true
unfolding class
all-cells = refl

pub cell_small : (c : ℕ) → is_cell c ≡ true → c ≤ 30
cell_small c h = go (leb c 14) refl h
  where
    go : (t : Bool) → leb c 14 ≡ t → pick t true (pick (leb 17 c) (leb c 30) false) ≡ true → c ≤ 30
    go true e h = omega (arith, leb-true c 14 e)
    go false e h = let (p, q) = pick_both (leb 17 c) (leb c 30) h in leb-true c 30 q

pub cell_held : (c : ℕ) → is_cell c ≡ true → (c ≡ 0 → ⊥) → (c % 16 ≡ 8 → ⊥) → class (c % 16) < 7
cell_held c h z n =
    let s = cell_small c h in
    let t = range_at cell_tests 31 0 c all-cells (omega arith) (omega arith) in
    let u = rw (h, ne_eqb c 0 z, ne_eqb (c % 16) 8 n) at t in
    ltb-true _ _ u

-- a kind that is held is one of the seven
abbrev hand_tests : ℕ → Bool
hand_tests k = ltb (class k) 7

all-hands : range hand_tests 1 7 ≡ true
unfolding class
all-hands = refl

pub kind-held : (k : ℕ) → 1 ≤ k → k ≤ 7 → class k < 7
kind-held k a b = ltb-true _ _ (range_at hand_tests 7 1 k all-hands a (omega arith))

-- the kind of a piece of a side
pub piece_kind : (turn k : ℕ) → k < 16 → piece_of turn k % 16 ≡ k
unfolding piece_of
piece_kind turn k h = go (eqb turn 0)
  where
    go : (t : Bool) → pick t (k % 16) (16 + k % 16) % 16 ≡ k
    go true = omega arith
    go false = omega arith

-- which is a cell
pub piece_cell : (turn k : ℕ) → 1 ≤ k → k ≤ 14 → is_cell (piece_of turn k) ≡ true
unfolding piece_of
piece_cell turn k a b = go (eqb turn 0)
  where
    go : (t : Bool) → is_cell (pick t (k % 16) (16 + k % 16)) ≡ true
    go true = let h : k % 16 ≤ 14 = omega arith in rw (le-leb (k % 16) 14 h)
    go false =
        let h : 14 < 16 + k % 16 = omega arith in
        let l : 17 ≤ 16 + k % 16 = omega arith in
        let m : 16 + k % 16 ≤ 30 = omega arith in
        rw (lt-leb (16 + k % 16) 14 h, le-leb 17 (16 + k % 16) l, le-leb (16 + k % 16) 30 m)
