-- A step keeps the number of pieces of each kind on the board and in both hands together, promotion aside, and that of the kings; after it
-- cells, counts and turn are in range.                                                                 (02, request i)
-- Assumes nothing.
use Rattle.std.specs.Prelude.{Option, Some, None}
use Prim.Native.Nat.{ℕ, ◌+◌, ◌-◌, ◌≤◌, ◌<◌, ◌%◌}
use native.Mathlib.Omega.{arith}
use mathlib.Core.Path.{◌≡◌, refl, sym, ap, ◌∙◌, subst}
use mathlib.Core.Bool.{Bool, true, false, true≢false}
use mathlib.Core.List.{List}
use lib.ListN.{length, get_or, set, length-set}
use lib.Seq.{get_or-set_other}
use lib.Dec.{eqb, ltb, leb}
use borrow.Author.Tests.{eqb-true, eqb-false, ltb-true, ltb-false, leb-true, leb-false, ne_eqb, eq-eqb, le-ltb}
use Rattle.lists.specs.Pick.{pick}
use Rattle.lists.proofs.Laws.{pick_both, pick-none}
use Rattle.jkf.specs.declared.Position.{Position}
use Rattle.jkf.specs.declared.Move.{Move}
use Rattle.block.specs.Sound.{is_cell}
use Rattle.positions.specs.declared.Hindrance.{Hindrance}
use Rattle.positions.specs.declared.Hindrance.TheVariants.{NoPromotion, OwnPiece, King, HandFull}
use Rattle.positions.specs.Steps.{owned, class, promoted, becomes, hand_place, for_white, other, piece_of, is_there, land_verdict, move_verdict, in_hand, drop_verdict, verdict_of, landing, leaving, one_more, one_less, moved, dropped, played, step_in, stepped}
use Rattle.positions.specs.Pieces.{is_of, count_on_board, in_both, count_in_hands, FitDiagram, Keeps}
use Rattle.positions.proofs.Sums.{sum-set, both_set, all_set}
use Rattle.positions.proofs.Tables.{promoted-kind, cell_held, kind-held, piece_kind, piece_cell}

-- ---- a verdict that goes, taken apart

stops : (r : Hindrance) → Some r ≡ None → ⊥
stops r e = let z : ◌≡◌ {A = ℕ} 0 1 = cc in omega arith

not_stopped : (b : Bool) (r : Hindrance) (x : Option Hindrance) → pick b (Some r) x ≡ None → (b ≡ false) × (x ≡ None)
not_stopped true r x e = absurd (stops r e)
not_stopped false r x e = (refl, e)

passed : (b : Bool) (x : Option Hindrance) (r : Hindrance) → pick b x (Some r) ≡ None → (b ≡ true) × (x ≡ None)
passed true x r e = (refl, e)
passed false x r e = absurd (stops r e)

-- what a landing found
data Lands (cells hands : List ℕ) (turn d : ℕ) : Type 0 where
  free : get_or cells d 0 ≡ 0 → Lands cells hands turn d
  takes : (get_or cells d 0 ≡ 0 → ⊥) → owned turn (get_or cells d 0) ≡ false → (get_or cells d 0 % 16 ≡ 8 → ⊥)
      → get_or hands (hand_place turn (get_or cells d 0 % 16)) 0 ≤ 254 → Lands cells hands turn d

lands : (cells hands : List ℕ) (turn d : ℕ) → land_verdict cells hands turn d ≡ None → Lands cells hands turn d
unfolding land_verdict
lands cells hands turn d g = go (eqb (get_or cells d 0) 0) refl g
  where
    rest : Option Hindrance
    rest =
        pick (owned turn (get_or cells d 0)) (Some OwnPiece)
        (pick (eqb (get_or cells d 0 % 16) 8) (Some King)
        (pick (ltb 254 (get_or hands (hand_place turn (get_or cells d 0 % 16)) 0)) (Some HandFull) None))

    go : (t : Bool) → eqb (get_or cells d 0) 0 ≡ t → pick t None rest ≡ None → Lands cells hands turn d
    go true e g = free (eqb-true _ _ e)
    go false e g =
        let (a, g₁) = not_stopped (owned turn (get_or cells d 0)) _ _ g in
        let (b, g₂) = not_stopped (eqb (get_or cells d 0 % 16) 8) _ _ g₁ in
        let (f, g₃) = not_stopped (ltb 254 (get_or hands (hand_place turn (get_or cells d 0 % 16)) 0)) _ _ g₂ in
        takes (eqb-false _ _ e) a (eqb-false _ _ b) (ltb-false _ _ f)

-- a cell of the side to move is not empty
owned-some : (turn c : ℕ) → owned turn c ≡ true → c ≡ 0 → ⊥
unfolding owned
owned-some turn c h z = go (eqb turn 0) h
  where
    go : (t : Bool) → pick t (pick (ltb c 1) false (ltb c 16)) (leb 16 c) ≡ true → ⊥
    go true h = let (a, b) = pick-none (ltb c 1) (ltb c 16) h in omega (arith, ltb-false c 1 a)
    go false h = omega (arith, leb-true 16 c h)

-- ---- counts of cells

-- an empty cell counts for none
empty_counts : (j : ℕ) → j < 8 → is_of j 0 ≡ 0
unfolding is_of class
empty_counts j h = let e : 8 ≡ j → ⊥ = λ e. omega arith in rw (ne_eqb 8 j e)

same-counts : (j a b : ℕ) → class (a % 16) ≡ class (b % 16) → is_of j a ≡ is_of j b
unfolding is_of
same-counts j a b e = rw e

other-class : (j c : ℕ) → (class (c % 16) ≡ j → ⊥) → is_of j c ≡ 0
unfolding is_of
other-class j c n = rw (ne_eqb (class (c % 16)) j n)

other-small : (turn : ℕ) → other turn ≤ 1
other-small turn = go (eqb turn 0)
  where
    go : (t : Bool) → pick t 1 0 ≤ 1
    go true = omega arith
    go false = omega arith

pub picked_length : (t : Bool) (l m : List ℕ) → length l ≡ 14 → length m ≡ 14 → length (pick t l m) ≡ 14
picked_length true l m a b = a
picked_length false l m a b = b

picked_small : (t : Bool) (l m : List ℕ) → ((n : ℕ) → get_or l n 0 ≤ 255) → ((n : ℕ) → get_or m n 0 ≤ 255) → (n : ℕ) → get_or (pick t l m) n 0 ≤ 255
picked_small true l m a b = a
picked_small false l m a b = b

-- the hands after one more or one less
pub raised_length : (l : List ℕ) (i : ℕ) → length (one_more l i) ≡ length l
unfolding one_more
raised_length l i = go (ltb 254 (get_or l i 0))
  where
    go : (t : Bool) → length (pick t l (set l i (get_or l i 0 + 1))) ≡ length l
    go true = refl
    go false = length-set l i (get_or l i 0 + 1)

raised_small : (l : List ℕ) (i : ℕ) → ((n : ℕ) → get_or l n 0 ≤ 255) → (n : ℕ) → get_or (one_more l i) n 0 ≤ 255
unfolding one_more
raised_small l i h = go (ltb 254 (get_or l i 0)) refl
  where
    go : (t : Bool) → ltb 254 (get_or l i 0) ≡ t → (n : ℕ) → get_or (pick t l (set l i (get_or l i 0 + 1))) n 0 ≤ 255
    go true e = h
    go false e = all_set (λ (c : ℕ). c ≤ 255) l i (get_or l i 0 + 1) h (omega (arith, ltb-false 254 (get_or l i 0) e))

pub lowered-length : (l : List ℕ) (i : ℕ) → length (one_less l i) ≡ length l
unfolding one_less
lowered-length l i = go (ltb (get_or l i 0) 1)
  where
    go : (t : Bool) → length (pick t l (set l i (get_or l i 0 - 1))) ≡ length l
    go true = refl
    go false = length-set l i (get_or l i 0 - 1)

lowered-small : (l : List ℕ) (i : ℕ) → ((n : ℕ) → get_or l n 0 ≤ 255) → (n : ℕ) → get_or (one_less l i) n 0 ≤ 255
unfolding one_less
lowered-small l i h = go (ltb (get_or l i 0) 1)
  where
    go : (t : Bool) → (n : ℕ) → get_or (pick t l (set l i (get_or l i 0 - 1))) n 0 ≤ 255
    go true = h
    go false = all_set (λ (c : ℕ). c ≤ 255) l i (get_or l i 0 - 1) h (omega (arith, h i))

-- the kind that a piece becomes is held as the kind was
becomes-class : (k mark : ℕ) → k < 16 → k ≤ 14 → (becomes k mark ≡ 0 → ⊥) → (class (becomes k mark) ≡ class k) × (becomes k mark ≤ 14)
becomes-class k mark h l n = go (eqb mark 2) n
  where
    go : (t : Bool) → (pick t (promoted k) k ≡ 0 → ⊥) → (class (pick t (promoted k) k) ≡ class k) × (pick t (promoted k) k ≤ 14)
    go true n = promoted-kind k h n
    go false n = (refl, l)

-- a cell's kind
cell_kind : (c : ℕ) → is_cell c ≡ true → c % 16 ≤ 14
cell_kind c h = go (leb c 14) refl h
  where
    go : (t : Bool) → leb c 14 ≡ t → pick t true (pick (leb 17 c) (leb c 30) false) ≡ true → c % 16 ≤ 14
    go true e h = omega (arith, leb-true c 14 e)
    go false e h = let (p, q) = pick_both (leb 17 c) (leb c 30) h in omega (arith, leb-true 17 c p, leb-true c 30 q)

-- ---- a move on the board

module _ (p : Position) (fit : FitDiagram p) (o d k mark : ℕ) (on : d < 81) (goes : move_verdict p.cells p.hands p.turn o d k mark ≡ None) where
  origin : o < 81
  unfolding move_verdict
  origin = leb-false _ _ (not_stopped (leb 81 o) _ _ goes).0

  found : is_there p.cells p.turn o k ≡ true
  unfolding move_verdict
  found = (passed (is_there p.cells p.turn o k) _ _ (not_stopped (leb 81 o) _ _ goes).1).0

  after_found : pick (eqb (becomes k mark) 0) (Some NoPromotion) (land_verdict p.cells p.hands p.turn d) ≡ None
  unfolding move_verdict
  after_found = (passed (is_there p.cells p.turn o k) _ _ (not_stopped (leb 81 o) _ _ goes).1).1

  some : becomes k mark ≡ 0 → ⊥
  some = eqb-false _ _ (not_stopped (eqb (becomes k mark) 0) _ _ after_found).0

  landed : Lands p.cells p.hands p.turn d
  landed = lands _ _ _ _ (not_stopped (eqb (becomes k mark) 0) _ _ after_found).1

  own_there : owned p.turn (get_or p.cells o 0) ≡ true
  unfolding is_there
  own_there = (pick_both (owned p.turn (get_or p.cells o 0)) (eqb (get_or p.cells o 0 % 16) k) found).0

  kind_there : get_or p.cells o 0 % 16 ≡ k
  unfolding is_there
  kind_there = eqb-true _ _ (pick_both (owned p.turn (get_or p.cells o 0)) (eqb (get_or p.cells o 0 % 16) k) found).1

  kind-small : k ≤ 14
  kind-small = subst (λ (n : ℕ). n ≤ 14) kind_there (cell_kind _ (fit.cells o))

  apart : d ≡ o → ⊥
  apart e = go landed
    where
      go : Lands p.cells p.hands p.turn d → ⊥
      go (free z) = owned-some _ _ own_there (ap (λ (n : ℕ). get_or p.cells n 0) (sym e) ∙ z)
      go (takes a b f g) = true≢false (sym own_there ∙ ap (λ (n : ℕ). owned p.turn (get_or p.cells n 0)) (sym e) ∙ b)

  -- the piece counts as before
  same_piece : (j : ℕ) → is_of j (piece_of p.turn (becomes k mark)) ≡ is_of j (get_or p.cells o 0)
  same_piece j =
      let (e, l) = becomes-class k mark (omega (arith, kind-small)) kind-small some in
      same-counts j _ _ (ap class (piece_kind p.turn (becomes k mark) (omega arith)) ∙ e ∙ ap class (sym kind_there))

  -- on the board only what was taken is gone
  board-move : (j : ℕ) → j < 8 → count_on_board j (moved p o d k mark) + is_of j (get_or p.cells d 0) ≡ count_on_board j p
  unfolding count_on_board moved
  board-move j h =
      let v = piece_of p.turn (becomes k mark) in
      let l : d < length (set p.cells o 0) = simp length-set (omega (arith, fit.squares)) in
      let a = sum-set (is_of j) (set p.cells o 0) d v l in
      let b = sum-set (is_of j) p.cells o 0 (omega (arith, fit.squares, origin)) in
      let g = ap (is_of j) (get_or-set_other p.cells o d 0 0 apart) in
      omega (arith, a, b, g, same_piece j, empty_counts j h)

  hands_free : get_or p.cells d 0 ≡ 0 → (moved p o d k mark).hands ≡ p.hands
  unfolding moved
  hands_free z = rw (eq-eqb (get_or p.cells d 0) 0 z)

  hands-taken : (get_or p.cells d 0 ≡ 0 → ⊥) → get_or p.hands (hand_place p.turn (get_or p.cells d 0 % 16)) 0 ≤ 254
      → (moved p o d k mark).hands ≡ set p.hands (hand_place p.turn (get_or p.cells d 0 % 16)) (get_or p.hands (hand_place p.turn (get_or p.cells d 0 % 16)) 0 + 1)
  unfolding moved one_more
  hands-taken a g = rw (ne_eqb (get_or p.cells d 0) 0 a, le-ltb 254 (get_or p.hands (hand_place p.turn (get_or p.cells d 0 % 16)) 0) g)

  hands-move : (j : ℕ) → j < 7 → count_in_hands j (moved p o d k mark) ≡ count_in_hands j p + is_of j (get_or p.cells d 0)
  unfolding is_of
  hands-move j h = go landed
    where
      one : (u : Bool) (x y n : ℕ) → x + pick u n 0 ≡ y + pick u (n + 1) 0 → x ≡ y + pick u 1 0
      one true x y n e = omega arith
      one false x y n e = omega arith

      go : Lands p.cells p.hands p.turn d → count_in_hands j (moved p o d k mark) ≡ count_in_hands j p + is_of j (get_or p.cells d 0)
      go (free z) =
          let e = ap (λ (l : List ℕ). in_both l j) (hands_free z) in
          let f : is_of j (get_or p.cells d 0) ≡ 0 = ap (is_of j) z ∙ empty_counts j (omega arith) in
          omega (arith, e, f)
      go (takes a b f g) =
          let q = class (get_or p.cells d 0 % 16) in
          ap (λ (l : List ℕ). in_both l j) (hands-taken a g)
          ∙ one (eqb q j) _ _ _ (both_set p.hands (for_white p.turn 7) q j _ fit.held (eqb p.turn 0) refl (cell_held _ (fit.cells d) a f) h)

  pub kept_move : (j : ℕ) → j < 7 → count_on_board j (moved p o d k mark) + count_in_hands j (moved p o d k mark) ≡ count_on_board j p + count_in_hands j p
  kept_move j h = omega (arith, board-move j (omega arith), hands-move j h)

  pub kings-move : count_on_board 7 (moved p o d k mark) ≡ count_on_board 7 p
  kings-move = let z = no_king landed in omega (arith, board-move 7 (omega arith))
    where
      no_king : Lands p.cells p.hands p.turn d → is_of 7 (get_or p.cells d 0) ≡ 0
      no_king (free z) = ap (is_of 7) z ∙ empty_counts 7 (omega arith)
      no_king (takes a b f g) = other-class 7 _ (λ e. omega (arith, cell_held _ (fit.cells d) a f))

  pub fit_move : FitDiagram (moved p o d k mark)
  unfolding moved
  fit_move =
      record {
        preset = fit.preset;
        board = fit.board;
        squares = simp (length-set, length-set) fit.squares;
        held = picked_length (eqb (get_or p.cells d 0) 0) p.hands _ fit.held (raised_length p.hands _ ∙ fit.held);
        cells = all_set (λ (c : ℕ). is_cell c ≡ true) (set p.cells o 0) d _
            (all_set (λ (c : ℕ). is_cell c ≡ true) p.cells o 0 fit.cells refl)
            (piece_cell p.turn (becomes k mark) (omega (arith, some)) (becomes-class k mark (omega (arith, kind-small)) kind-small some).1);
        counts = picked_small (eqb (get_or p.cells d 0) 0) p.hands _ fit.counts (raised_small p.hands _ fit.counts);
        turn = other-small p.turn;
      }

-- ---- a drop

module _ (p : Position) (fit : FitDiagram p) (d k mark : ℕ) (on : d < 81) (goes : drop_verdict p.cells p.hands p.turn d k mark ≡ None) where
  held : in_hand p.hands p.turn k ≡ true
  unfolding drop_verdict
  held = (passed (in_hand p.hands p.turn k) _ _ (not_stopped (eqb mark 2) _ _ goes).1).0

  empty : get_or p.cells d 0 ≡ 0
  unfolding drop_verdict
  empty = eqb-true _ _ (passed (eqb (get_or p.cells d 0) 0) _ _ (passed (in_hand p.hands p.turn k) _ _ (not_stopped (eqb mark 2) _ _ goes).1).1).0

  in_seven : (1 ≤ k) × (k ≤ 7) × (0 < get_or p.hands (hand_place p.turn k) 0)
  unfolding in_hand
  in_seven =
      let (a, r) = pick-none (ltb k 1) _ held in
      let (b, t) = pick-none (ltb 7 k) _ r in
      (ltb-false k 1 a, ltb-false 7 k b, ltb-true _ _ t)

  -- the piece is one of its class
  piece_counts : (j : ℕ) → is_of j (piece_of p.turn k) ≡ pick (eqb (class k) j) 1 0
  unfolding is_of
  piece_counts j = ap (λ (n : ℕ). pick (eqb (class n) j) 1 0) (piece_kind p.turn k (omega (arith, in_seven.1)))

  board-drop : (j : ℕ) → j < 8 → count_on_board j (dropped p d k) ≡ count_on_board j p + pick (eqb (class k) j) 1 0
  unfolding count_on_board dropped
  board-drop j h =
      let a = sum-set (is_of j) p.cells d (piece_of p.turn k) (omega (arith, fit.squares)) in
      let z = ap (is_of j) empty in
      omega (arith, a, z, empty_counts j h, piece_counts j)

  hands-dropped : (dropped p d k).hands ≡ set p.hands (hand_place p.turn k) (get_or p.hands (hand_place p.turn k) 0 - 1)
  unfolding dropped one_less
  hands-dropped = rw (le-ltb (get_or p.hands (hand_place p.turn k) 0) 1 in_seven.2)

  hands-drop : (j : ℕ) → j < 7 → count_in_hands j (dropped p d k) + pick (eqb (class k) j) 1 0 ≡ count_in_hands j p
  hands-drop j h =
      let e = both_set p.hands (for_white p.turn 7) (class k) j (get_or p.hands (hand_place p.turn k) 0 - 1) fit.held (eqb p.turn 0) refl (kind-held k in_seven.0 in_seven.1) h in
      one (eqb (class k) j) _ _ _ in_seven.2 (ap (λ (l : List ℕ). in_both l j) hands-dropped) e
    where
      one : (u : Bool) (x y n : ℕ) → 0 < n → {w : ℕ} → w ≡ x → x + pick u n 0 ≡ y + pick u (n - 1) 0 → w + pick u 1 0 ≡ y
      one true x y n h z e = omega arith
      one false x y n h z e = omega arith

  pub kept-drop : (j : ℕ) → j < 7 → count_on_board j (dropped p d k) + count_in_hands j (dropped p d k) ≡ count_on_board j p + count_in_hands j p
  kept-drop j h = omega (arith, board-drop j (omega arith), hands-drop j h)

  pub kings-drop : count_on_board 7 (dropped p d k) ≡ count_on_board 7 p
  kings-drop =
      let z : pick {A = ℕ} (eqb (class k) 7) 1 0 ≡ 0 = not_king (eqb (class k) 7) refl in
      omega (arith, board-drop 7 (omega arith))
    where
      not_king : (u : Bool) → eqb (class k) 7 ≡ u → pick {A = ℕ} u 1 0 ≡ 0
      not_king true e = absurd (omega (arith, eqb-true (class k) 7 e, kind-held k in_seven.0 in_seven.1))
      not_king false e = refl

  pub fit_drop : FitDiagram (dropped p d k)
  unfolding dropped
  fit_drop =
      record {
        preset = fit.preset;
        board = fit.board;
        squares = simp length-set fit.squares;
        held = lowered-length p.hands _ ∙ fit.held;
        cells = all_set (λ (c : ℕ). is_cell c ≡ true) p.cells d _ fit.cells (piece_cell p.turn k in_seven.0 (omega (arith, in_seven.1)));
        counts = lowered-small p.hands _ fit.counts;
        turn = other-small p.turn;
      }

-- ---- a step

played_keeps : (p : Position) (last : ℕ) (m : Move) → FitDiagram p → verdict_of p last m ≡ None → Keeps p (played p last m)
unfolding verdict_of played
played_keeps p last m fit g =
    let (a, r) = not_stopped (leb 81 (landing last m.to)) _ _ g in
    go (eqb (leaving m.from) 82) (leb-false 81 (landing last m.to) a) r
  where
    go : (t : Bool) → landing last m.to < 81
        → pick t (drop_verdict p.cells p.hands p.turn (landing last m.to) m.piece m.promote)
        (move_verdict p.cells p.hands p.turn (leaving m.from) (landing last m.to) m.piece m.promote) ≡ None
        → Keeps p (pick t (dropped p (landing last m.to) m.piece) (moved p (leaving m.from) (landing last m.to) m.piece m.promote))
    go true h g = record { kinds = kept-drop p fit _ _ _ h g; kings = kings-drop p fit _ _ _ h g; fits = fit_drop p fit _ _ _ h g }
    go false h g = record { kinds = kept_move p fit _ _ _ _ h g; kings = kings-move p fit _ _ _ _ h g; fits = fit_move p fit _ _ _ _ h g }

pub step_keeps : (p : Position) (last : ℕ) (m : Move) → FitDiagram p → Keeps p (stepped p last m).position
unfolding stepped
step_keeps p last m fit = go (verdict_of p last m) refl
  where
    go : (v : Option Hindrance) → verdict_of p last m ≡ v → Keeps p (step_in v last p (landing last m.to) (played p last m)).position
    go None e = played_keeps p last m fit e
    go (Some r) e = record { kinds = λ j h. refl; kings = refl; fits = fit }

-- the turn alternates with each move that is played
pub turn_alternates : (p : Position) (last : ℕ) (m : Move) → (stepped p last m).how ≡ None → (stepped p last m).position.turn ≡ other p.turn
unfolding stepped played dropped moved
turn_alternates p last m = go (verdict_of p last m)
  where
    go : (v : Option Hindrance) → (step_in v last p (landing last m.to) (played p last m)).how ≡ None
        → (step_in v last p (landing last m.to) (played p last m)).position.turn ≡ other p.turn
    go (Some r) e = absurd (stops r e)
    go None e = by (eqb (leaving m.from) 82)
      where
        by : (t : Bool) → (pick t (dropped p (landing last m.to) m.piece) (moved p (leaving m.from) (landing last m.to) m.piece m.promote)).turn ≡ other p.turn
        by true = refl
        by false = refl
