-- Whether a put-in may be done is not changed by another put-in: old lines keep their starts, their counts and their parents, by their new
-- numbers, and no two lines get one number. So in version 1 the second of two may be done exactly where it might have been first, and the
-- entries differ.
--     asked-before      it might have been first, and the entries differ
--     asked-after       and the other way
-- Assumes nothing.
use Prim.Native.Nat.{ℕ, suc, ◌+◌, ◌<◌}
use native.Mathlib.Omega.{arith}
use mathlib.Core.Path.{◌≡◌, refl, sym, ap, ◌∙◌}
use mathlib.Core.List.{List, [], ◌∷◌}
use mathlib.Core.Bool.{Bool, true, false}
use lib.ListN.{length, drop, length-drop}
use lib.Seq.{get_or-drop}
use lib.Dec.{eqb}
use borrow.Author.Tests.{eqb-true, eq-eqb}
use Rattle.lists.specs.Pick.{pick}
use Rattle.lists.proofs.Laws.{by_pick}
use Rattle.jkf.specs.Model.{Line}
use Rattle.jkf.specs.Attaching.{Play}
use Rattle.block.specs.Formed.{line_of}
use Rattle.edit.specs.Edit.{plays_in, is_ply_of, carries, is_taken, place_of, renumbered, lines_with, line_on}
use Rattle.edit.proofs.Renumbering.{renumbered-low, renumbered-high, renumbered-one}
use Rattle.edit.proofs.Putting.{Place}
use Rattle.edit.proofs.Listing.{starts_in, counts_in, parents_in, none}
use Rattle.edit.proofs.Inserted.{PutsIn, unmet, at, put-sound, put-length, put_new, put_keeps}
use Rattle.laws.proofs.Orders.NewNumbers.{renumbered-most, renumbered_least, renumbered_below, by-number}

-- entries that differ, in the other order
pub apart_too : {k l i j : ℕ} → (k ≡ l → i ≡ j → ⊥) → l ≡ k → j ≡ i → ⊥
apart_too h e s = h (sym e) (sym s)

-- ---- an entry that no line hangs on

uncarried : (k j : ℕ) (ls : List Line) → ((i : ℕ) → i < length ls → parents_in ls i ≡ k → starts_in ls i ≡ j → ⊥) → carries k j ls ≡ false
unfolding carries
uncarried k j [] h = refl
uncarried k j (l ∷ ls) h =
    let ih : carries k j ls ≡ false = uncarried k j ls (λ i a. h (suc i) (omega arith)) in
    by_pick (λ (t : Bool). t ≡ false) (eqb l.parent k) (pick (eqb l.start j) true (carries k j ls)) (carries k j ls)
    (λ p. by_pick (λ (t : Bool). t ≡ false) (eqb l.start j) true (carries k j ls)
    (λ s. absurd (h 0 (omega arith) (eqb-true l.parent k p) (eqb-true l.start j s))) (λ _. ih)) (λ _. ih)

module _ (version : ℕ) (one : version ≡ 1) where
  -- the converse of `unmet`
  free_there : (ls : List Line) (k j : ℕ) → ((i : ℕ) → 0 < i → i < length ls → parents_in ls i ≡ k → starts_in ls i ≡ j → ⊥)
      → is_taken version k j (drop 1 ls) ≡ false
  free_there ls k j h =
      ap (λ (t : Bool). pick t (carries k j (drop 1 ls)) false) (eq-eqb version 1 one) ∙ uncarried k j (drop 1 ls) each
    where
      each : (i : ℕ) → i < length (drop 1 ls) → parents_in (drop 1 ls) i ≡ k → starts_in (drop 1 ls) i ≡ j → ⊥
      each i a p s =
          let w : line_of (drop 1 ls) i ≡ line_of ls (1 + i) = get_or-drop 1 ls i none in
          h (1 + i) (omega arith) (omega (arith, length-drop 1 ls)) (sym (ap (λ (x : Line). x.parent) w) ∙ p) (sym (ap (λ (x : Line). x.start) w) ∙ s)

  -- ---- after a put-in of v on line k, one on line l at ply j

  module _ (ls : List Line) (k : ℕ) (v : Play) (ok : PutsIn version ls k v.start) (l j : ℕ) where
    abbrev n : ℕ
    n = place_of (plays_in ls) k v.start

    abbrev qs : List Line
    qs = lines_with (place_of (plays_in ls) k v.start) (line_on k v) ls

    place : Place (starts_in ls) (counts_in ls) (length ls) k v.start n
    place = at version ls k v ok

    one-more : length qs ≡ length ls + 1
    one-more = put-length version ls k v ok

    parent-kept : (i : ℕ) → parents_in qs (renumbered n i) ≡ renumbered n (parents_in ls i)
    parent-kept i = ap (λ (x : Line). x.parent) (put_keeps version ls k v ok i)

    start-kept : (i : ℕ) → starts_in qs (renumbered n i) ≡ starts_in ls i
    start-kept i = ap (λ (x : Line). x.start) (put_keeps version ls k v ok i)

    same_ply : is_ply_of (starts_in qs (renumbered n l)) (counts_in qs (renumbered n l)) j ≡ is_ply_of (starts_in ls l) (counts_in ls l) j
    same_ply = ap (λ (x : Line). is_ply_of x.start (length x.entries) j) (put_keeps version ls k v ok l)

    -- an old line by its old number
    inside : (i : ℕ) → renumbered n i < length qs → i < length ls
    inside i h = renumbered_below n i (length ls) (omega (arith, renumbered-high n (length ls) place.fits, one-more))

    later : (i : ℕ) → 0 < renumbered n i → 0 < i
    later i h = renumbered_below n 0 i (omega (arith, renumbered-low n 0 (omega (arith, place.past))))

    new_parent : parents_in qs n ≡ renumbered n k
    new_parent = ap (λ (x : Line). x.parent) (put_new version ls k v ok) ∙ sym (renumbered-low n k place.past)

    new_start : starts_in qs n ≡ v.start
    new_start = ap (λ (x : Line). x.start) (put_new version ls k v ok)

    pub asked_before : PutsIn version qs (renumbered n l) j → PutsIn version ls l j × (k ≡ l → v.start ≡ j → ⊥)
    asked_before w =
        (record { lines = ok.lines; line = inside l w.line; ply = sym same_ply ∙ w.ply; free = free_there ls l j free }, apart)
      where
        met : (i : ℕ) → 0 < i → i < length qs → parents_in qs i ≡ renumbered n l → starts_in qs i ≡ j → ⊥
        met = unmet version qs (renumbered n l) j w one

        free : (i : ℕ) → 0 < i → i < length ls → parents_in ls i ≡ l → starts_in ls i ≡ j → ⊥
        free i z h p s =
            met (renumbered n i) (omega (arith, renumbered_least n i)) (omega (arith, renumbered-most n i, one-more)) (parent-kept i ∙ ap (renumbered n) p) (start-kept i ∙ s)

        apart : k ≡ l → v.start ≡ j → ⊥
        apart e s = met n (omega (arith, place.past)) (omega (arith, one-more, place.fits)) (new_parent ∙ ap (renumbered n) e) (new_start ∙ s)

    pub asked_after : PutsIn version ls l j → (k ≡ l → v.start ≡ j → ⊥) → PutsIn version qs (renumbered n l) j
    asked_after w apart =
        record {
          lines = put-sound version ls k v ok;
          line = omega (arith, renumbered-most n l, w.line, one-more);
          ply = same_ply ∙ w.ply;
          free = free_there qs (renumbered n l) j (by-number n Unmet new old);
        }
      where
        Unmet : ℕ → Type 0
        Unmet i = 0 < i → i < length qs → parents_in qs i ≡ renumbered n l → starts_in qs i ≡ j → ⊥

        new : Unmet n
        new z h p s = apart (renumbered-one n k l (sym new_parent ∙ p)) (sym new_start ∙ s)

        old : (i : ℕ) → Unmet (renumbered n i)
        old i z h p s =
            unmet version ls l j w one i (later i z) (inside i h) (renumbered-one n (parents_in ls i) l (sym (parent-kept i) ∙ p)) (sym (start-kept i) ∙ s)
