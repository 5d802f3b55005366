-- The lines after two put-ins, in either order. The place of a new line is the only one after its line with starts above its ply between and a
-- start at or below it behind. So of two new lines the one whose place is earlier stands first, and of two with one place the one with the
-- higher ply: the later moves up by one, the earlier stays, whichever is put in first. So the lines without their parents are the same, and
-- in version 1 these tell the parents.
--     same_lines       the lines are the same in either order
--     same-places      and so are the numbers of the new ones
-- Assumes nothing.
use Prim.Native.Nat.{ℕ, zero, suc, ◌+◌, ◌≤◌, ◌<◌}
use native.Mathlib.Omega.{arith}
use native.Mathlib.Numerals.{add-one}
use native.Mathlib.Decide.{dec_lt}
use mathlib.Core.Path.{◌≡◌, refl, sym, ap, ◌∙◌, subst}
use mathlib.Core.List.{List, [], ◌∷◌}
use mathlib.Core.Logic.{◌⊎◌, inl, inr, ⊎_elim}
use lib.ListN.{length}
use Rattle.jkf.specs.Model.{Line}
use Rattle.jkf.specs.Attaching.{Play, attach}
use Rattle.edit.specs.Edit.{plays_in, place_of, with_play, renumbered, lines_with, line_on}
use Rattle.edit.proofs.Renumbering.{Put, put-kept, renumbered-low, renumbered-high}
use Rattle.edit.proofs.Putting.{Place}
use Rattle.edit.proofs.Listing.{starts_in, counts_in, LinesAs, put-start, plays-long, plays-put}
use Rattle.edit.proofs.Afresh.{attach_1}
use Rattle.edit.proofs.Inserted.{PutsIn, at, later, put-sound, put-length}
use Rattle.laws.proofs.Orders.NewNumbers.{renumbered-most, renumbered_least, renumbered_below, by-number}
use Rattle.laws.proofs.Orders.Apart.{apart_too, asked_after}

-- ---- the list

-- two elements put in, the one with the earlier place first or last
put-put : (n m : ℕ) (v w : Play) (ps : List Play) → n ≤ m → m ≤ length ps → with_play (suc m) w (with_play n v ps) ≡ with_play n v (with_play m w ps)
put-put zero m v w ps h l = refl
put-put (suc n) zero v w ps h l = absurd (omega arith)
put-put (suc n) (suc m) v w [] h l = absurd (omega arith)
put-put (suc n) (suc m) v w (p ∷ ps) h l = ap (λ (qs : List Play). p ∷ qs) (put-put n m v w ps (omega arith) (omega arith))

-- ---- the place

place_only : {start count : ℕ → ℕ} {lines k j n : ℕ} → Place start count lines k j n → (m : ℕ) → k < m → m ≤ lines
    → ((i : ℕ) → k < i → i < m → j < start i) → (m < lines → start m ≤ j) → n ≡ m
place_only {n = n} place m a b each next = go (dec_lt n m) (dec_lt m n)
  where
    go : Dec (n < m) → Dec (m < n) → n ≡ m
    go (yes x) y = absurd (omega (arith, place.next (omega arith), each n place.past x))
    go (no x) (yes y) = absurd (omega (arith, place.above m a y, next (omega (arith, place.fits))))
    go (no x) (no y) = omega arith

-- with one ply and one place there is one line
one_line : {start count : ℕ → ℕ} {lines k l i j n m : ℕ} → Place start count lines k i n → Place start count lines l j m → i ≡ j → n ≡ m → k ≡ l
one_line {k = k} {l = l} here there s e = go (dec_lt k l) (dec_lt l k)
  where
    go : Dec (k < l) → Dec (l < k) → k ≡ l
    go (yes a) b = absurd (omega (arith, here.above l a (omega (arith, there.past)), there.from))
    go (no a) (yes b) = absurd (omega (arith, there.above k b (omega (arith, here.past)), here.from))
    go (no a) (no b) = omega arith

-- ---- two new lines: v is put in on line k, and then w on line l

abbrev pub lines_put : List Line → ℕ → Play → List Line
lines_put ls k v = lines_with (place_of (plays_in ls) k v.start) (line_on k v) ls

-- the number that w gets
abbrev pub place_then : List Line → ℕ → Play → ℕ → Play → ℕ
place_then ls k v l w = place_of (plays_in (lines_put ls k v)) (renumbered (place_of (plays_in ls) k v.start) l) w.start

-- the lines after both
abbrev pub lines_then : List Line → ℕ → Play → ℕ → Play → List Line
lines_then ls k v l w = lines_put (lines_put ls k v) (renumbered (place_of (plays_in ls) k v.start) l) w

module _ (ls : List Line) (k : ℕ) (v : Play) (l : ℕ) (w : Play) where
  -- v is the one that stands first
  record Earlier : Type 0 where
    place : place_of (plays_in ls) k v.start ≤ place_of (plays_in ls) l w.start
    tie : place_of (plays_in ls) k v.start ≡ place_of (plays_in ls) l w.start → w.start < v.start

  -- then it stays, and w moves up, whichever is put in first
  record Settled : Type 0 where
    first : place_of (plays_in ls) k v.start ≤ place_of (plays_in ls) l w.start
    up : place_then ls k v l w ≡ place_of (plays_in ls) l w.start + 1
    stays : place_then ls l w k v ≡ place_of (plays_in ls) k v.start

  -- without their parents
  plays-then : plays_in (lines_then ls k v l w) ≡ with_play (place_then ls k v l w) w (with_play (place_of (plays_in ls) k v.start) v (plays_in ls))
  plays-then =
      let n = place_of (plays_in ls) k v.start in
      plays-put (place_then ls k v l w) (renumbered n l) w (lines_put ls k v) ∙ ap (with_play (place_then ls k v l w) w) (plays-put n k v ls)

module _ (version : ℕ) (one : version ≡ 1) (ls : List Line) where
  module _ (k : ℕ) (v : Play) (l : ℕ) (w : Play) (ok : PutsIn version ls k v.start) (ask : PutsIn version ls l w.start)
      (apart : k ≡ l → v.start ≡ w.start → ⊥) where
    abbrev n : ℕ
    n = place_of (plays_in ls) k v.start

    abbrev m : ℕ
    m = place_of (plays_in ls) l w.start

    abbrev qs : List Line
    qs = lines_put ls k v

    here : Place (starts_in ls) (counts_in ls) (length ls) k v.start n
    here = at version ls k v ok

    there : Place (starts_in ls) (counts_in ls) (length ls) l w.start m
    there = at version ls l w ask

    -- the starts after the first
    put : Put (starts_in ls) (starts_in qs) n v.start
    put = put-start ls n (line_on k v) (later version ls k v ok) here.fits

    one-more : length qs ≡ length ls + 1
    one-more = put-length version ls k v ok

    then : PutsIn version qs (renumbered n l) w.start
    then = asked_after version one ls k v ok l w.start ask apart

    only : (i : ℕ) → renumbered n l < i → i ≤ length qs → ((o : ℕ) → renumbered n l < o → o < i → w.start < starts_in qs o)
        → (i < length qs → starts_in qs i ≤ w.start) → place_then ls k v l w ≡ i
    only = place_only (at version qs (renumbered n l) w then)

    goes_up : Earlier ls k v l w → place_then ls k v l w ≡ m + 1
    goes_up e =
        only (m + 1) (omega (arith, renumbered-most n l, there.past)) (omega (arith, one-more, there.fits)) (by-number n Between new old)
        (λ a. omega (arith, put.after m e.place, there.next (omega (arith, one-more))))
      where
        Between : ℕ → Type 0
        Between i = renumbered n l < i → i < m + 1 → w.start < starts_in qs i

        -- the new line stands between only if it starts above
        new : Between n
        new a b = omega (arith, put.new, go (dec_lt n m))
          where
            go : Dec (n < m) → w.start < v.start
            go (yes c) = omega (arith, there.above n (omega (arith, renumbered_least n l)) c, here.next (omega (arith, there.fits)))
            go (no c) = e.tie (omega (arith, e.place))

        old : (i : ℕ) → Between (renumbered n i)
        old i a b =
            let c = renumbered_below n i m (omega (arith, renumbered-high n m e.place)) in
            omega (arith, put-kept put i, there.above i (renumbered_below n l i a) c)

    stays_there : Earlier ls l w k v → place_then ls k v l w ≡ m
    stays_there e =
        let z = renumbered-low n l (omega (arith, there.past, e.place)) in
        only m (omega (arith, there.past)) (omega (arith, one-more, there.fits))
        (λ i a b. omega (arith, e.place, put.before i (omega (arith, e.place)), there.above i (omega arith) b)) next
      where
        next : m < length qs → starts_in qs m ≤ w.start
        next a = go (dec_lt m n)
          where
            go : Dec (m < n) → starts_in qs m ≤ w.start
            go (yes b) = omega (arith, put.before m b, there.next (omega (arith, here.fits)))
            go (no b) =
                let d : m ≡ n = omega (arith, e.place) in
                omega (arith, ap (starts_in qs) d, put.new, e.tie d)

    -- the lines after both are told by their plays
    afresh : attach (plays_in (lines_then ls k v l w)) ≡ lines_then ls k v l w
    afresh =
        attach_1 (lines_then ls k v l w) (omega (arith, put-length version qs (renumbered n l) w then))
        (subst (λ (x : ℕ). LinesAs x (lines_then ls k v l w)) one (put-sound version qs (renumbered n l) w then))

  -- ---- in either order

  settled : (k : ℕ) (v : Play) (l : ℕ) (w : Play) → PutsIn version ls k v.start → PutsIn version ls l w.start
      → (k ≡ l → v.start ≡ w.start → ⊥) → Earlier ls k v l w → Settled ls k v l w
  settled k v l w ok ask apart e =
      record { first = e.place; up = goes_up k v l w ok ask apart e; stays = stays_there l w k v ask ok (apart_too apart) e }

  plays_settled : (k : ℕ) (v : Play) (l : ℕ) (w : Play) → PutsIn version ls l w.start → Settled ls k v l w
      → plays_in (lines_then ls k v l w) ≡ plays_in (lines_then ls l w k v)
  plays_settled k v l w ask x =
      let ps = plays_in ls in
      let n = place_of ps k v.start in
      let m = place_of ps l w.start in
      plays-then ls k v l w
      ∙ ap (λ (i : ℕ). with_play i w (with_play n v ps)) (x.up ∙ add-one m)
      ∙ put-put n m v w ps x.first (omega (arith, plays-long ls, (at version ls l w ask).fits))
      ∙ sym (plays-then ls l w k v ∙ ap (λ (i : ℕ). with_play i v (with_play m w ps)) x.stays)

  module _ (k : ℕ) (v : Play) (l : ℕ) (w : Play) (ok : PutsIn version ls k v.start) (ask : PutsIn version ls l w.start)
      (apart : k ≡ l → v.start ≡ w.start → ⊥) where
    one-first : Settled ls k v l w ⊎ Settled ls l w k v
    one-first = go (dec_lt n m) (dec_lt m n) (dec_lt v.start w.start) (dec_lt w.start v.start)
      where
        n : ℕ
        n = place_of (plays_in ls) k v.start

        m : ℕ
        m = place_of (plays_in ls) l w.start

        go : Dec (n < m) → Dec (m < n) → Dec (v.start < w.start) → Dec (w.start < v.start) → Settled ls k v l w ⊎ Settled ls l w k v
        go (yes a) b c d = inl (settled k v l w ok ask apart (record { place = omega arith; tie = λ e. absurd (omega arith) }))
        go (no a) (yes b) c d = inr (settled l w k v ask ok (apart_too apart) (record { place = omega arith; tie = λ e. absurd (omega arith) }))
        go (no a) (no b) (yes c) d = inr (settled l w k v ask ok (apart_too apart) (record { place = omega arith; tie = λ e. c }))
        go (no a) (no b) (no c) (yes d) = inl (settled k v l w ok ask apart (record { place = omega arith; tie = λ e. d }))
        go (no a) (no b) (no c) (no d) =
            let s : v.start ≡ w.start = omega arith in
            absurd (apart (one_line (at version ls k v ok) (at version ls l w ask) s (omega arith)) s)

    pub same_lines : lines_then ls k v l w ≡ lines_then ls l w k v
    same_lines =
        sym (afresh k v l w ok ask apart)
        ∙ ap attach (⊎_elim (plays_settled k v l w ask) (λ x. sym (plays_settled l w k v ok x)) one-first)
        ∙ afresh l w k v ask ok (apart_too apart)

    pub same_places : place_then ls k v l w ≡ renumbered (place_then ls l w k v) (place_of (plays_in ls) l w.start)
    same_places = ⊎_elim moves stays one-first
      where
        m : ℕ
        m = place_of (plays_in ls) l w.start

        moves : Settled ls k v l w → place_then ls k v l w ≡ renumbered (place_then ls l w k v) m
        moves x = x.up ∙ sym (renumbered-high (place_then ls l w k v) m (omega (arith, x.stays, x.first)))

        stays : Settled ls l w k v → place_then ls k v l w ≡ renumbered (place_then ls l w k v) m
        stays x = x.stays ∙ sym (renumbered-low (place_then ls l w k v) m (omega (arith, x.up, x.first)))
