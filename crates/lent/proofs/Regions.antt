-- Laws of texts that grow in one buffer, for any number of regions.
-- Assumes nothing.
use Prim.Native.Nat.{ℕ, zero, suc, ◌+◌, ◌-◌, ◌≤◌, ◌<◌}
use native.Mathlib.Omega.{arith}
use mathlib.Core.Path.{◌≡◌, refl, sym, ap, ◌∙◌, subst}
use mathlib.Core.List.{List, [], ◌∷◌, ◌++◌, append_assoc}
use lib.ListN.{get_or, length, take, drop, set, length-append, length-drop, drop_of_length-le}
use lib.Seq.{get_or-take, get_or-drop, drop_at, length-take-le, take-append_seam, drop-drop, sets, sets-eq, length-sets, set_comm}
use borrow.Rule.Slice.PartMut.{mid_of, put_mid}
use Rattle.lent.specs.Bytes.{Wrote, fitting}
use Rattle.lent.proofs.Writes.{fitting-all, fitting_empty, rest, back}
use Rattle.lent.specs.Stored.{Stored, put}
use Rattle.lent.specs.inner.Regions.{puts, ends_past, join, first, Room, SameMany, Filled, all, places_of}

-- ---- one text

pub put-none : (o : List ℕ) (p : ℕ) → put o p [] ≡ o
unfolding put
put-none o p = refl

pub length-put : (o : List ℕ) (p : ℕ) (t : List ℕ) → length (put o p t) ≡ length o
unfolding put
length-put o p t = length-sets o p t

pub put_eq : (o : List ℕ) (p : ℕ) (t : List ℕ) → p + length t ≤ length o → put o p t ≡ take p o ++ (t ++ drop (p + length t) o)
unfolding put
put_eq o p t h = sets-eq t o p h ∙ append_assoc (take p o) t (drop (p + length t) o)

pub put_front : (o t : List ℕ) → length t ≤ length o → put o 0 t ≡ t ++ drop (length t) o
put_front o t h =
    let z : 0 + length t ≡ length t = omega arith in
    put_eq o 0 t (omega arith) ∙ ap (λ (n : ℕ). t ++ drop n o) z

set_sets : (u o : List ℕ) (i q a : ℕ) → i < q → set (sets o q u) i a ≡ sets (set o i a) q u
set_sets [] o i q a h = refl
set_sets (b ∷ u) o i q a h =
    set_sets u (set o q b) i (suc q) a (omega arith)
    ∙ ap (λ (l : List ℕ). sets l (suc q) u) (set_comm o q i b a (λ e. omega arith))

sets_sets : (t u o : List ℕ) (p q : ℕ) → p + length t ≤ q → sets (sets o p t) q u ≡ sets (sets o q u) p t
sets_sets [] u o p q h = refl
sets_sets (a ∷ t) u o p q h =
    sets_sets t u (set o p a) (suc p) q (omega arith)
    ∙ ap (λ (l : List ℕ). sets l (suc p) t) (sym (set_sets u o p q a (omega arith)))

pub sets_more : (t u o : List ℕ) (p : ℕ) → sets (sets o p t) (p + length t) u ≡ sets o p (t ++ u)
sets_more [] u o p = let z : p + 0 ≡ p = omega arith in ap (λ (n : ℕ). sets o n u) z
sets_more (a ∷ t) u o p =
    let z : p + suc (length t) ≡ suc p + length t = omega arith in
    ap (λ (n : ℕ). sets (sets (set o p a) (suc p) t) n u) z ∙ sets_more t u (set o p a) (suc p)

-- texts that lie apart may be stored in either order
pub put_swap : (o t u : List ℕ) (p q : ℕ) → p + length t ≤ q → put (put o p t) q u ≡ put (put o q u) p t
unfolding put
put_swap o t u p q h = sets_sets t u o p q h

-- a text at the end of another
pub put-more : (o t u : List ℕ) (p : ℕ) → put (put o p t) (p + length t) u ≡ put o p (t ++ u)
unfolding put
put-more o t u p = sets_more t u o p

-- a part that begins at p and runs to the end is lent, and a text that fits it is written at its front
pub stored_part : (t : List ℕ) {o x : List ℕ} {p n : ℕ} → p ≤ length o → Wrote (fitting t (mid_of p (length o - p) o)) (mid_of p (length o - p) o) x n
    → Stored (fitting t (drop p o)) o (put_mid p (length o - p) o x) p (p + n)
stored_part t {o} {x} {p} {n} h w =
    let f : List ℕ = fitting t (drop p o) in
    let v : Wrote f (drop p o) x n = rw (rest o p) at w in
    let c : n ≡ length f = v.count in
    let k : n ≤ length o - p = rw (length-drop p o) at v.fits in
    record {
      bytes =
          back o x p ∙ ap (λ (l : List ℕ). take p o ++ l) (v.bytes ∙ ap (λ (l : List ℕ). f ++ l) (drop-drop n p o))
          ∙ ap (λ (m : ℕ). take p o ++ (f ++ drop (p + m) o)) c ∙ sym (put_eq o p f (omega arith));
      end = ap (λ (m : ℕ). p + m) c;
    }

-- past the end nothing is stored
pub stored_none : (t o : List ℕ) (p : ℕ) → length o < p → Stored (fitting t (drop p o)) o o p p
stored_none t o p h =
    let e : fitting t (drop p o) ≡ [] = ap (fitting t) (drop_of_length-le o {i = p} (omega arith)) ∙ fitting_empty t in
    record { bytes = sym (ap (put o p) e ∙ put-none o p); end = omega (arith, ap length e) }

-- ---- several texts

pub length-puts : (o : List ℕ) (ps : List ℕ) (ts : List (List ℕ)) → length (puts o ps ts) ≡ length o
length-puts o [] ts = refl
length-puts o (p ∷ ps) [] = refl
length-puts o (p ∷ ps) (t ∷ ts) = length-puts (put o p t) ps ts ∙ length-put o p t

-- what lies before them all may be stored after them
past : (o t : List ℕ) (p n : ℕ) (ps : List ℕ) (us : List (List ℕ)) → p + length t ≤ first n ps → Room n ps us
    → put (puts o ps us) p t ≡ puts (put o p t) ps us
past o t p n [] us h r = refl
past o t p n (q ∷ ps) [] h r = refl
past o t p n (q ∷ ps) (u ∷ us) h r =
    let k = r.0 in
    past (put o q u) t p n ps us (omega arith) r.1
    ∙ ap (λ (l : List ℕ). puts l ps us) (sym (put_swap o t u p q h))

room-none : (n : ℕ) (ps : List ℕ) (us : List (List ℕ)) → Room n ps us → Room n ps []
room-none n [] [] r = r
room-none n [] (u ∷ us) r = absurd r
room-none n (p ∷ ps) [] r = r
room-none n (p ∷ ps) (u ∷ us) r = (omega (arith, r.0), room-none n ps us r.1)

pub room-front : (n : ℕ) (ps : List ℕ) (ts us : List (List ℕ)) → Room n ps (join ts us) → Room n ps ts
room-front n ps [] us r = room-none n ps us r
room-front n ps (t ∷ ts) [] r = r
room-front n [] (t ∷ ts) (u ∷ us) r = absurd r
room-front n (p ∷ ps) (t ∷ ts) (u ∷ us) r = (omega (arith, r.0, length-append t u), room-front n ps ts us r.1)

-- the next region does not come nearer
pub join_nil : (ts : List (List ℕ)) → join ts [] ≡ ts
join_nil [] = refl
join_nil (t ∷ ts) = refl

further : (n : ℕ) (ps : List ℕ) (ts : List (List ℕ)) → first n ps ≤ first n (ends_past ps ts)
further n [] ts = omega arith
further n (p ∷ ps) [] = omega arith
further n (p ∷ ps) (t ∷ ts) = omega arith

pub room_rest : (n : ℕ) (ps : List ℕ) (ts us : List (List ℕ)) → Room n ps (join ts us) → Room n (ends_past ps ts) us
room_rest n [] [] us r = r
room_rest n [] (t ∷ ts) [] r = absurd r
room_rest n [] (t ∷ ts) (u ∷ us) r = absurd r
room_rest n (p ∷ ps) [] us r = r
room_rest n (p ∷ ps) (t ∷ ts) [] r = (omega (arith, r.0, further n ps ts), room_rest n ps ts [] (rw (join_nil ts) r.1))
room_rest n (p ∷ ps) (t ∷ ts) (u ∷ us) r =
    (omega (arith, r.0, length-append t u, further n ps ts), room_rest n ps ts us r.1)

pub moved-moved : (ps : List ℕ) (ts us : List (List ℕ)) → ends_past (ends_past ps ts) us ≡ ends_past ps (join ts us)
moved-moved [] ts us = refl
moved-moved (p ∷ ps) [] us = refl
moved-moved (p ∷ ps) (t ∷ ts) [] = refl
moved-moved (p ∷ ps) (t ∷ ts) (u ∷ us) =
    let z : p + length t + length u ≡ p + length (t ++ u) = omega (arith, length-append t u) in
    ap (λ (n : ℕ). n ∷ ends_past (ends_past ps ts) us) z ∙ ap (λ (l : List ℕ). (p + length (t ++ u)) ∷ l) (moved-moved ps ts us)

-- THE LAW: texts appended at all the ends, and then further ones
pub puts-puts : (n : ℕ) (o : List ℕ) (ps : List ℕ) (ts us : List (List ℕ)) → Room n ps (join ts us)
    → puts (puts o ps ts) (ends_past ps ts) us ≡ puts o ps (join ts us)
puts-puts n o [] ts us r = refl
puts-puts n o (p ∷ ps) [] us r = refl
puts-puts n o (p ∷ ps) (t ∷ ts) [] r = refl
puts-puts n o (p ∷ ps) (t ∷ ts) (u ∷ us) r =
    let k : p + length t + length u ≤ first n ps = omega (arith, r.0, length-append t u) in
    ap (λ (l : List ℕ). puts l (ends_past ps ts) us)
    (past (put o p t) u (p + length t) n ps ts k (room-front n ps ts us r.1) ∙ ap (λ (l : List ℕ). puts l ps ts) (put-more o t u p))
    ∙ puts-puts n (put o p (t ++ u)) ps ts us r.1

-- ---- the same, of what functions promise

pub same_is : (ps qs : List ℕ) → SameMany ps qs → ps ≡ qs
same_is [] [] e = refl
same_is [] (q ∷ qs) e = absurd e
same_is (p ∷ ps) [] e = absurd e
same_is (p ∷ ps) (q ∷ qs) e = ap (λ (n : ℕ). n ∷ ps) e.0 ∙ ap (λ (l : List ℕ). q ∷ l) (same_is ps qs e.1)

pub same_of : {ps qs : List ℕ} → ps ≡ qs → SameMany ps qs
same_of {ps} {qs} e = subst (λ (l : List ℕ). SameMany ps l) e (self ps)
  where
    self : (l : List ℕ) → SameMany l l
    self [] = tt
    self (p ∷ l) = (refl, self l)

pub filled-length : {ts : List (List ℕ)} {o o' ps ps' : List ℕ} → Filled ts o o' ps ps' → length o' ≡ length o
filled-length {ts} {o} {o'} {ps} {ps'} f = ap length f.bytes ∙ length-puts o ps ts

-- one function after another
pub then_fill : {ts us : List (List ℕ)} {o o₁ o₂ ps ps₁ ps₂ : List ℕ} → Room (length o) ps (join ts us)
    → Filled ts o o₁ ps ps₁ → Filled us o₁ o₂ ps₁ ps₂ → Filled (join ts us) o o₂ ps ps₂
then_fill {ts} {us} {o} {o₁} {o₂} {ps} {ps₁} {ps₂} r f g =
    let e = same_is ps₁ (ends_past ps ts) f.ends in
    record {
      bytes =
          g.bytes ∙ ap (λ (l : List ℕ). puts l ps₁ us) f.bytes ∙ ap (λ (l : List ℕ). puts (puts o ps ts) l us) e
          ∙ puts-puts (length o) o ps ts us r;
      ends = same_of (same_is ps₂ (ends_past ps₁ us) g.ends ∙ ap (λ (l : List ℕ). ends_past l us) e ∙ moved-moved ps ts us);
    }

-- the room that the second function needs
pub then-room : {ts : List (List ℕ)} {o o₁ ps ps₁ : List ℕ} (us : List (List ℕ)) → Room (length o) ps (join ts us) → Filled ts o o₁ ps ps₁ → Room (length o₁) ps₁ us
then-room {ts} {o} {o₁} {ps} {ps₁} us r f =
    rw (filled-length f, same_is ps₁ (ends_past ps ts) f.ends) (room_rest (length o) ps ts us r)

pub as_texts : {ts ts' : List (List ℕ)} {o o' ps ps' : List ℕ} → ts ≡ ts' → Filled ts o o' ps ps' → Filled ts' o o' ps ps'
as_texts {ts} {ts'} {o} {o'} {ps} {ps'} e f = subst (λ (x : List (List ℕ)). Filled x o o' ps ps') e f

-- ---- the whole

pub room-starts : (n p : ℕ) (ts : List (List ℕ)) → p + length (all ts) ≤ n → Room n (places_of p ts) ts
room-starts n p [] h = tt
room-starts n p (t ∷ ts) h =
    let k : p + length t + length (all ts) ≤ n = omega (arith, length-append t (all ts)) in
    (near ts k, room-starts n (p + length t) ts k)
  where
    near : (us : List (List ℕ)) → p + length t + length (all us) ≤ n → p + length t ≤ first n (places_of (p + length t) us)
    near [] k = omega arith
    near (u ∷ us) k = omega arith

pub puts-starts : (o : List ℕ) (p : ℕ) (ts : List (List ℕ)) → puts o (places_of p ts) ts ≡ put o p (all ts)
puts-starts o p [] = sym (put-none o p)
puts-starts o p (t ∷ ts) = puts-starts (put o p t) (p + length t) ts ∙ put-more o t (all ts) p

pub whole : {ts : List (List ℕ)} {o o' ps ps' : List ℕ} → length (all ts) ≤ length o → Filled ts o o' ps ps' → SameMany ps (places_of 0 ts)
    → o' ≡ all ts ++ drop (length (all ts)) o
whole {ts} {o} {o'} {ps} {ps'} h f e =
    f.bytes ∙ ap (λ (l : List ℕ). puts o l ts) (same_is ps (places_of 0 ts) e) ∙ puts-starts o 0 ts ∙ put_front o (all ts) h

pub whole_room : (n : ℕ) (ps : List ℕ) (ts : List (List ℕ)) → length (all ts) ≤ n → SameMany ps (places_of 0 ts) → Room n ps ts
whole_room n ps ts h e =
    subst (λ (l : List ℕ). Room n l ts) (sym (same_is ps (places_of 0 ts) e)) (room-starts n 0 ts (omega arith))

-- ---- reading back what stands in a region

put_part_back : (o t : List ℕ) (p : ℕ) → p + length t ≤ length o → take (length t) (drop p (put o p t)) ≡ t
put_part_back o t p h =
    let e : drop p (put o p t) ≡ t ++ drop (p + length t) o =
    ap (drop p) (put_eq o p t h) ∙ drop_at (take p o) (t ++ drop (p + length t) o) p (length-take-le p o (omega arith)) in
    ap (take (length t)) e ∙ take-append_seam t (drop (p + length t) o)

room-end : (n : ℕ) (ps : List ℕ) (ts : List (List ℕ)) → Room n ps ts → first n ps ≤ n
room-end n [] ts r = omega arith
room-end n (p ∷ ps) [] r = omega (arith, r.0, room-end n ps [] r.1)
room-end n (p ∷ ps) (t ∷ ts) r = omega (arith, r.0, room-end n ps ts r.1)

not_lt_zero : (k : ℕ) → k < 0 → ⊥
not_lt_zero k h = omega arith

-- region k ends within the buffer
pub room_at : (n : ℕ) (ps : List ℕ) (ts : List (List ℕ)) (k : ℕ) → Room n ps ts → k < length ps → get_or ps k 0 + length (get_or ts k []) ≤ n
room_at n [] ts k r h = absurd (not_lt_zero k h)
room_at n (p ∷ ps) [] zero r h = omega (arith, r.0, room-end n ps [] r.1)
room_at n (p ∷ ps) [] (suc k) r h = room_at n ps [] k r.1 (omega arith)
room_at n (p ∷ ps) (t ∷ ts) zero r h = omega (arith, r.0, room-end n ps ts r.1)
room_at n (p ∷ ps) (t ∷ ts) (suc k) r h = room_at n ps ts k r.1 (omega arith)

-- region k holds its text
pub region_holds : (k : ℕ) (o ps : List ℕ) (ts : List (List ℕ)) → Room (length o) ps ts → k < length ps
    → take (length (get_or ts k [])) (drop (get_or ps k 0) (puts o ps ts)) ≡ get_or ts k []
region_holds k o [] ts r h = absurd (not_lt_zero k h)
region_holds zero o (p ∷ ps) [] r h = refl
region_holds (suc k) o (p ∷ ps) [] r h = refl
region_holds zero o (p ∷ ps) (t ∷ ts) r h =
    ap (λ (l : List ℕ). take (length t) (drop p l)) (sym (past o t p (length o) ps ts r.0 r.1))
    ∙ put_part_back (puts o ps ts) t p (omega (arith, r.0, room-end (length o) ps ts r.1, length-puts o ps ts))
region_holds (suc k) o (p ∷ ps) (t ∷ ts) r h =
    region_holds k (put o p t) ps ts (rw (length-put o p t) r.1) (omega arith)

pub filled-holds : {ts : List (List ℕ)} {o o' ps ps' : List ℕ} (k : ℕ) → Room (length o) ps ts → Filled ts o o' ps ps' → k < length ps
    → take (length (get_or ts k [])) (drop (get_or ps k 0) o') ≡ get_or ts k []
filled-holds {ts} {o} {o'} {ps} {ps'} k r f h =
    ap (λ (l : List ℕ). take (length (get_or ts k [])) (drop (get_or ps k 0) l)) f.bytes ∙ region_holds k o ps ts r h

-- one byte of it
pub filled_at : {ts : List (List ℕ)} {o o' ps ps' : List ℕ} (k i : ℕ) → Room (length o) ps ts → Filled ts o o' ps ps' → k < length ps
    → i < length (get_or ts k []) → get_or o' (get_or ps k 0 + i) 0 ≡ get_or (get_or ts k []) i 0
filled_at {ts} {o} {o'} {ps} {ps'} k i r f h l =
    sym (get_or-take (length (get_or ts k [])) (drop (get_or ps k 0) o') i 0 l ∙ get_or-drop (get_or ps k 0) o' i 0)
    ∙ ap (λ (x : List ℕ). get_or x i 0) (filled-holds k r f h)

puts_nil : (o ps : List ℕ) → puts o ps [] ≡ o
puts_nil o [] = refl
puts_nil o (p ∷ ps) = refl

moved_nil : (ps : List ℕ) → ends_past ps [] ≡ ps
moved_nil [] = refl
moved_nil (p ∷ ps) = refl

-- ---- a text that has its room

pub stored_all : {t o o' : List ℕ} {at r : ℕ} → at + length t ≤ length o → Stored (fitting t (drop at o)) o o' at r → Stored t o o' at r
stored_all {t} {o} {o'} {at} {r} h s =
    let e : fitting t (drop at o) ≡ t = fitting-all t (drop at o) (rw (length-drop at o) (omega arith)) in
    subst (λ (u : List ℕ). Stored u o o' at r) e s

-- a region before those that are filled, of which nothing is
pub filled_under : {ts : List (List ℕ)} {o o' ps ps' : List ℕ} (p q : ℕ) → q ≡ p → Filled ts o o' ps ps' → Filled ([] ∷ ts) o o' (p ∷ ps) (q ∷ ps')
filled_under {ts} {o} {o'} {ps} {ps'} p q e f =
    record {
      bytes = f.bytes ∙ ap (λ (l : List ℕ). puts l ps ts) (sym (put-none o p));
      ends = (omega arith, f.ends);
    }

-- one text at the first region
pub filled-first : {t o o' : List ℕ} {p r : ℕ} (ps : List ℕ) → Stored t o o' p r → Filled (t ∷ []) o o' (p ∷ ps) (r ∷ ps)
filled-first {t} {o} {o'} {p} {r} ps s =
    record { bytes = s.bytes ∙ sym (puts_nil (put o p t) ps); ends = (s.end, same_of (sym (moved_nil ps))) }
