-- Lists of lines, line by line.
--     LinesAs, SingleIn, BranchedIn         that they hang as a version asks; that no entry has two; that they are a tree
--     as-branched, as-single, says-as       the first is, in version 1, both others, and in version 2 the last
--     as-front                              lines that are like the first of some hang as they do
--     put-start, put_count, put-parent      a line put in
--     cut-start, cut-count, cut-parent      a run cut out
--     reaches                               the run that hangs from a line
--     placed                                the place of a line put in
--     plays-start, plays-count, plays-put, plays-back     lines without their parents
-- Assumes nothing.
use Prim.Native.Nat.{ℕ, zero, suc, ◌+◌, ◌-◌, ◌≤◌, ◌<◌}
use native.Mathlib.Omega.{arith}
use mathlib.Core.Path.{◌≡◌, refl, sym, ap, ap₂, ◌∙◌, subst, fun_ext}
use mathlib.Core.Bool.{true, false}
use mathlib.Core.List.{List, [], ◌∷◌, ◌++◌, map, map-append}
use lib.ListN.{length, get_or, take, drop, length-append, length-drop, length-map, get_or-append, get_or-map}
use lib.Seq.{length-take-le, get_or-take, get_or-drop, get_or_at, get_or-append-add}
use lib.Dec.{eqb, leb, ltb}
use borrow.Author.Tests.{leb-true, ltb-true}
use Rattle.lists.specs.Pick.{pick}
use Rattle.lists.proofs.Laws.{pick_both, pick-none}
use Rattle.jkf.specs.Model.{Line}
use Rattle.jkf.specs.Attaching.{Play, play, play_of, starts, counts, attach_from, attach}
use Rattle.jkf.specs.Trees.{HangAs, NoTwo, not_before, reach}
use Rattle.jkf.proofs.Branching.{Branched}
use Rattle.jkf.proofs.OneTwo.{branched_as}
use Rattle.jkf.proofs.Reaching.{Reaches}
use Rattle.block.specs.Formed.{line_of}
use Rattle.edit.specs.Edit.{plays_in, is_ply_of, place_of, with_play, reparented, renumbered, lines_with, line_on, lowered, without_lines}
use Rattle.edit.proofs.Alike.{hang_single, says_hang, hang-same}
use Rattle.edit.proofs.Leading.{above_passes, before_passes, behind}
use Rattle.edit.proofs.Renumbering.{Put, put_part, renumbered-low, Cut, cut_part, lowered-low}
use Rattle.edit.proofs.Putting.{Place}

-- ---- words

abbrev pub starts_in : List Line → ℕ → ℕ
starts_in ls k = (line_of ls k).start

abbrev pub counts_in : List Line → ℕ → ℕ
counts_in ls k = length (line_of ls k).entries

abbrev pub parents_in : List Line → ℕ → ℕ
parents_in ls k = (line_of ls k).parent

-- the lines hang as that version asks
abbrev pub LinesAs : ℕ → List Line → Type 0
LinesAs version ls = HangAs version (starts_in ls) (counts_in ls) (parents_in ls) (length ls)

-- no entry of them has two variations
abbrev pub SingleIn : List Line → Type 0
SingleIn ls = NoTwo (starts_in ls) (parents_in ls) (length ls)

-- what is asked of either version
abbrev pub BranchedIn : List Line → Type 0
BranchedIn ls = Branched (starts_in ls) (counts_in ls) (parents_in ls) (length ls)

-- ---- the two versions

module _ (v : ℕ) (ls : List Line) (some : 0 < length ls) where
  pub as_branched : LinesAs v ls → BranchedIn ls
  as_branched = branched_as (starts_in ls) (counts_in ls) (parents_in ls) v (length ls) some

  pub as_single : LinesAs v ls → v ≡ 1 → SingleIn ls
  as_single = hang_single v (starts_in ls) (counts_in ls) (parents_in ls) some

  pub says_as : BranchedIn ls → (v ≡ 1 → SingleIn ls) → LinesAs v ls
  says_as = says_hang v (starts_in ls) (counts_in ls) (parents_in ls) some

-- lines that are like the first ones of these
pub as_front : (v : ℕ) (ls ms : List Line) → 0 < length ms → length ms ≤ length ls
    → ((i : ℕ) → i < length ms → starts_in ms i ≡ starts_in ls i) → ((i : ℕ) → i < length ms → counts_in ms i ≡ counts_in ls i)
    → ((i : ℕ) → i < length ms → parents_in ms i ≡ parents_in ls i) → LinesAs v ls → LinesAs v ms
as_front v ls ms = hang-same v (starts_in ls) (counts_in ls) (parents_in ls) (starts_in ms) (counts_in ms) (parents_in ms)

-- ---- any list

pub map-take : {A B : Type 0} (f : A → B) (n : ℕ) (xs : List A) → map f (take n xs) ≡ take n (map f xs)
map-take f zero xs = refl
map-take f (suc n) [] = refl
map-take {B = B} f (suc n) (x ∷ xs) = ap (λ (r : List B). f x ∷ r) (map-take f n xs)

pub map-drop : {A B : Type 0} (f : A → B) (n : ℕ) (xs : List A) → map f (drop n xs) ≡ drop n (map f xs)
map-drop f zero xs = refl
map-drop f (suc n) [] = refl
map-drop f (suc n) (x ∷ xs) = map-drop f n xs

module _ {A : Type 0} (xs : List A) where
  in_front : (n : ℕ) → n ≤ length xs → (ys : List A) (i : ℕ) (d : A) → i < n → get_or (take n xs ++ ys) i d ≡ get_or xs i d
  in_front n fits ys i d h = get_or-append (take n xs) ys d i (omega (arith, length-take-le n xs fits)) ∙ get_or-take n xs i d h

  past-front : (n : ℕ) → n ≤ length xs → (ys : List A) (i : ℕ) (d : A) → get_or (take n xs ++ ys) (n + i) d ≡ get_or ys i d
  past-front n fits ys i d = ap (λ (q : ℕ). get_or (take n xs ++ ys) (q + i) d) (sym (length-take-le n xs fits)) ∙ get_or-append-add (take n xs) ys i d

  put-at : (n : ℕ) → n ≤ length xs → (v d : A) → Put (λ i. get_or xs i d) (λ i. get_or (take n xs ++ (v ∷ drop n xs)) i d) n v
  put-at n fits v d =
      record { before = λ i h. in_front n fits (v ∷ drop n xs) i d h; new = get_or_at (take n xs) v (drop n xs) d n (length-take-le n xs fits); after = after }
    where
      after : (i : ℕ) → n ≤ i → get_or (take n xs ++ (v ∷ drop n xs)) (i + 1) d ≡ get_or xs i d
      after i h =
          let e : i + 1 ≡ n + suc (i - n) = omega arith in
          let z : n + (i - n) ≡ i = omega arith in
          ap (λ (q : ℕ). get_or (take n xs ++ (v ∷ drop n xs)) q d) e
          ∙ past-front n fits (v ∷ drop n xs) (suc (i - n)) d
          ∙ get_or-drop n xs (i - n) d
          ∙ ap (λ (q : ℕ). get_or xs q d) z

  cut_at : (k m : ℕ) → k + m ≤ length xs → (d : A) → Cut (λ i. get_or xs i d) (λ i. get_or (take k xs ++ drop (k + m) xs) i d) k m
  cut_at k m fits d = record { before = λ i h. in_front k (omega arith) (drop (k + m) xs) i d h; after = after }
    where
      after : (i : ℕ) → k ≤ i → get_or (take k xs ++ drop (k + m) xs) i d ≡ get_or xs (i + m) d
      after i h =
          let e : i ≡ k + (i - k) = omega arith in
          let z : k + m + (i - k) ≡ i + m = omega arith in
          ap (λ (q : ℕ). get_or (take k xs ++ drop (k + m) xs) q d) e
          ∙ past-front k (omega arith) (drop (k + m) xs) (i - k) d
          ∙ get_or-drop (k + m) xs (i - k) d
          ∙ ap (λ (q : ℕ). get_or xs q d) z

-- ---- lines whose parents have other numbers

-- no line: what stands past the end
abbrev pub none : Line
none = record { start = 0; parent = 0; entries = [] }

reparented-line : (f : ℕ → ℕ) → f 0 ≡ 0 → (ls : List Line) (i : ℕ) → line_of (map (reparented f) ls) i ≡ reparented f (line_of ls i)
reparented-line f z ls i =
    let e : none ≡ reparented f none = ap (λ (p : ℕ). record { start = 0; parent = p; entries = [] }) (sym z) in
    ap (λ (d : Line). get_or (map (reparented f) ls) i d) e ∙ get_or-map (reparented f) ls i none

-- ---- a line put in

module _ (ls : List Line) (n : ℕ) (l : Line) (later : 0 < n) (fits : n ≤ length ls) where
  abbrev qs : List Line
  qs = map (reparented (renumbered n)) ls

  pub put-long : length (lines_with n l ls) ≡ length ls + 1
  put-long =
      let e = length-map ls (reparented (renumbered n)) in
      omega (arith, length-append (take n qs) (l ∷ drop n qs), length-take-le n qs (omega arith), length-drop n qs)

  -- each old line has its start and its entries, and its parent by its new number
  pub put-lines : Put (λ i. reparented (renumbered n) (line_of ls i)) (line_of (lines_with n l ls)) n l
  put-lines =
      let e = length-map ls (reparented (renumbered n)) in
      let is : (i : ℕ) → line_of qs i ≡ reparented (renumbered n) (line_of ls i) = reparented-line (renumbered n) (renumbered-low n 0 later) ls in
      let p = put-at qs n (omega arith) l none in
      record { before = λ i h. p.before i h ∙ is i; new = p.new; after = λ i h. p.after i h ∙ is i }

  pub put-start : Put (starts_in ls) (starts_in (lines_with n l ls)) n l.start
  put-start = put_part (λ (x : Line). x.start) put-lines

  pub put_count : Put (counts_in ls) (counts_in (lines_with n l ls)) n (length l.entries)
  put_count = put_part (λ (x : Line). length x.entries) put-lines

  pub put-parent : Put (λ i. renumbered n (parents_in ls i)) (parents_in (lines_with n l ls)) n l.parent
  put-parent = put_part (λ (x : Line). x.parent) put-lines

-- ---- a run cut out

module _ (ls : List Line) (k m : ℕ) (later : 0 < k) (fits : k + m ≤ length ls) where
  abbrev zs : List Line
  zs = take k ls ++ drop (k + m) ls

  pub cut-long : length (without_lines k m ls) ≡ length ls - m
  cut-long =
      omega (arith, length-map zs (reparented (lowered k m)), length-append (take k ls) (drop (k + m) ls), length-take-le k ls (omega arith), length-drop (k + m) ls)

  pub cut-lines : Cut (λ i. reparented (lowered k m) (line_of ls i)) (line_of (without_lines k m ls)) k m
  cut-lines =
      let is : (i : ℕ) → line_of (without_lines k m ls) i ≡ reparented (lowered k m) (line_of zs i) = reparented-line (lowered k m) (lowered-low k m 0 later) zs in
      let c = cut_part (reparented (lowered k m)) (cut_at ls k m fits none) in
      record { before = λ i h. is i ∙ c.before i h; after = λ i h. is i ∙ c.after i h }

  pub cut-start : Cut (starts_in ls) (starts_in (without_lines k m ls)) k m
  cut-start = cut_part (λ (x : Line). x.start) cut-lines

  pub cut-count : Cut (counts_in ls) (counts_in (without_lines k m ls)) k m
  cut-count = cut_part (λ (x : Line). length x.entries) cut-lines

  pub cut-parent : Cut (λ i. lowered k m (parents_in ls i)) (parents_in (without_lines k m ls)) k m
  cut-parent = cut_part (λ (x : Line). x.parent) cut-lines

-- ---- the run that hangs from a line

pub reaches : (ls : List Line) (k : ℕ) → k < length ls → Reaches (parents_in ls) (length ls) k (reach ls k)
reaches ls k h =
    let r = behind none (before_passes k) ls (k + 1) (omega arith) in
    let x = not_before k (drop (k + 1) ls) in
    let e : k + 1 + x ≡ k + reach ls k = omega arith in
    record {
      some = omega arith;
      within = omega (arith, r.within);
      each = λ i a b. r.each i (omega arith) (omega arith);
      next = λ b. subst (λ (q : ℕ). parents_in ls q < k) e (r.next (omega arith));
    }

-- ---- lines without their parents

pub plays-at : (ls : List Line) (i : ℕ) → play_of (plays_in ls) i ≡ play (starts_in ls i) (line_of ls i).entries
plays-at ls i = get_or-map (λ (l : Line). play l.start l.entries) ls i none

pub plays-long : (ls : List Line) → length (plays_in ls) ≡ length ls
plays-long ls = length-map ls (λ (l : Line). play l.start l.entries)

pub plays-start : (ls : List Line) → starts (plays_in ls) ≡ starts_in ls
plays-start ls = fun_ext (λ i. ap (λ (p : Play). p.start) (plays-at ls i))

pub plays-count : (ls : List Line) → counts (plays_in ls) ≡ counts_in ls
plays-count ls = fun_ext (λ i. ap (λ (p : Play). length p.entries) (plays-at ls i))

abbrev bare : Line → Play
bare l = play l.start l.entries

plays-reparented : (f : ℕ → ℕ) (ls : List Line) → plays_in (map (reparented f) ls) ≡ plays_in ls
plays-reparented f [] = refl
plays-reparented f (l ∷ ls) = ap (λ (ps : List Play). bare l ∷ ps) (plays-reparented f ls)

pub plays-put : (n k : ℕ) (v : Play) (ls : List Line) → plays_in (lines_with n (line_on k v) ls) ≡ with_play n v (plays_in ls)
plays-put n k v ls =
    let qs = map (reparented (renumbered n)) ls in
    let e = plays-reparented (renumbered n) ls in
    map-append bare (take n qs) (line_on k v ∷ drop n qs)
    ∙ ap₂ (λ (a b : List Play). a ++ (v ∷ b)) (map-take bare n qs ∙ ap (take n) e) (map-drop bare n qs ∙ ap (drop n) e)

-- lines of play that are hung are the same without their parents
module _ (ps : List Play) where
  back_from : (k : ℕ) (qs : List Play) → plays_in (attach_from ps k qs) ≡ qs
  unfolding attach_from
  back_from k [] = refl
  back_from k (q ∷ qs) = ap (λ (l : List Play). q ∷ l) (back_from (k + 1) qs)

  pub plays_back : plays_in (attach ps) ≡ ps
  unfolding attach
  plays_back = back_from 0 ps

-- ---- the place of a line put in

pub placed : (ls : List Line) (k j : ℕ) → k < length ls → is_ply_of (starts_in ls k) (counts_in ls k) j ≡ true
    → Place (starts_in ls) (counts_in ls) (length ls) k j (place_of (plays_in ls) k j)
unfolding is_ply_of
placed ls k j h ply =
    let (z, b) = pick-none (eqb j 0) (pick (leb (starts_in ls k) j) (ltb (j - starts_in ls k) (counts_in ls k)) false) ply in
    let (x, y) = pick_both (leb (starts_in ls k) j) (ltb (j - starts_in ls k) (counts_in ls k)) b in
    let run = behind (play 0 []) (above_passes j) (plays_in ls) (k + 1) (omega (arith, plays-long ls)) in
    record {
      line = h;
      from = leb-true _ _ x;
      within = ltb-true _ _ y;
      past = omega arith;
      fits = omega (arith, run.within, plays-long ls);
      above = λ i a b. omega (arith, run.each i (omega arith) b, at i);
      next = λ l. omega (arith, run.next (omega (arith, plays-long ls)), at (place_of (plays_in ls) k j));
    }
  where
    at : (i : ℕ) → starts (plays_in ls) i ≡ starts_in ls i
    at i = ap (λ (p : Play). p.start) (plays-at ls i)
