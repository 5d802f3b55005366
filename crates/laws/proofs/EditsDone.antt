-- What follows from the answer of an edit that is done: the block that was given is sound, what was asked can be done, and the block of the
-- edited record, which is well formed, stands at the front of the buffer.
--     put-done, cut-done, restate-done   so for put-in, cut and restating
--     cut-not-long                       cut never for the length of the block
-- Assumes nothing.
use Prim.Native.Nat.{ℕ, ◌+◌, ◌≤◌, ◌<◌}
use native.Mathlib.Omega.{arith}
use mathlib.Core.Path.{◌≡◌, refl, sym, ap, ◌∙◌, subst}
use mathlib.Core.List.{List, map}
use mathlib.Core.Bool.{true, false}
use lib.ListN.{length, take, drop}
use lib.Seq.{take_at}
use lib.Dec.{eqb, ltb}
use borrow.Author.Tests.{eqb-true, eqb-false, ltb-true, ltb-false}
use Rattle.lists.specs.All.{All, none, next, leads}
use Rattle.lists.proofs.Laws.{by_pick}
use Rattle.jkf.specs.declared.Answer.{Answer}
use Rattle.jkf.specs.declared.Answer.TheVariants.{Done, BlockTooLong, BufferShort, NotSound}
use Rattle.jkf.specs.Answers.{figures, Outcome, refuse}
use Rattle.jkf.specs.Model.{Line, Record}
use Rattle.jkf.specs.Attaching.{Play, starts, counts}
use Rattle.block.specs.Encode.{encode}
use Rattle.block.specs.Decode.{version_in, decode}
use Rattle.block.specs.inner.Sounds.{Sound}
use Rattle.block.specs.Sound.{soundb}
use Rattle.block.specs.Formed.{Formed}
use Rattle.block.proofs.Deciding.{sound_says}
use Rattle.plays.specs.Plays.{ply_at}
use Rattle.edit.specs.Edit.{fresh, reparented, renumbered, lines_with, line_on, lowered, without_lines, Edited, edited, refused, plays_in, is_variation, variation_of, is_ply_of, is_taken, place_of, insert_at, insert_on, insert, removed_from, remove, restated}
use Rattle.edit.specs.inner.Splicing.{relined}
use Rattle.edit.specs.Outcomes.{edit_stored, edited_of, put_in_of, cut_of, restate_of}
use Rattle.edit.proofs.Listing.{LinesAs, as_branched, says_as}
use Rattle.edit.proofs.Inserted.{PutsIn, later, put-sound, put-fresh}
use Rattle.edit.proofs.Removed.{CutsOut, cut-sound, cut-fresh}
use Rattle.edit.proofs.Blocks.{lines_counted, lines_as, puts_in, cuts_out}
use Rattle.laws.specs.Blocks.{Bytes}
use Rattle.laws.proofs.Forming.{refused as not_done, done_second}
use Rattle.laws.proofs.Firsts.{led_take, led_drop, led_append}
use Rattle.laws.proofs.Relining.{Side, Standing, relined_formed, block_lines, text-line}
use Rattle.laws.proofs.Fewer.{block_same, version_adds, cut_short}

-- ---- an edit

-- it makes this record, with this second figure, of what it was asked for; or refuses, by a number that is not 0
data Makes (r : Record) (second : ℕ) (Asked : Type 0) : Edited → Type 0 where
  makes : {x : Record} {n : ℕ} → x ≡ r → n ≡ second → Asked → Makes r second Asked (edited x n)
  refuses : {a : Answer} → 0 < (figures a).number → Makes r second Asked (refused a)

-- ---- what is stored

module _ (b : List ℕ) (second : ℕ) (o : List ℕ) where
  -- where it is done, it stands at the front
  abbrev Fronted : Outcome → Type 0
  Fronted x = (n m : ℕ) → x.answer ≡ Done n m → (take n x.buffer ≡ b) × (length b ≤ 65535) × (m ≡ second)

  stored_done : Fronted (edit_stored b second o)
  unfolding edit_stored figures
  stored_done =
      by_pick Fronted (ltb 65535 (length b)) _ _ (λ _ n m e. not_done (BlockTooLong (length b)) n m (omega arith) e)
      (λ l. by_pick Fronted (ltb (length o) (length b)) _ _ (λ _ n m e. not_done (BufferShort (length b)) n m (omega arith) e)
      (λ _ n m e. (
        take_at b (drop (length b) o) n (ap (λ (x : Answer). (figures x).first) e),
        ltb-false 65535 (length b) l,
        sym (done_second _ _ n m e),
      )))

module _ {r : Record} {second : ℕ} {Asked : Type 0} (o : List ℕ) where
  edited_done : {e : Edited} → Makes r second Asked e → (n m : ℕ) → (edited_of e o).answer ≡ Done n m
      → Asked × (take n (edited_of e o).buffer ≡ encode r) × (length (encode r) ≤ 65535) × (m ≡ second)
  unfolding edited_of
  edited_done (makes {x} {n = k} p q a) n m e =
      let (front, short, s) = stored_done (encode x) k o n m e in
      (a, front ∙ ap encode p, subst (λ (y : Record). length (encode y) ≤ 65535) p short, s ∙ q)
  edited_done (refuses {a} h) n m e = not_done a n m h e

-- ---- lines on other parents

all_moved : (f : ℕ → ℕ) {ls : List Line} → All Side ls → All Side (map (reparented f) ls)
all_moved f none = none
all_moved f (next x h) = next (record { some = x.some; each = x.each }) (all_moved f h)

moved_stand : (f : ℕ → ℕ) {ls : List Line} → Standing ls → Standing (map (reparented f) ls)
moved_stand f (leads m h) = leads m (all_moved f h)

-- ---- put-in

module _ (b : List ℕ) (k : ℕ) (t : List ℕ) where
  abbrev pub put_place : ℕ
  put_place = place_of (plays_in (decode b).lines) k (ply_at t 0)

  abbrev pub put_lines : List Line
  put_lines = lines_with (place_of (plays_in (decode b).lines) k (ply_at t 0)) (line_on k (variation_of t)) (decode b).lines

  abbrev Asked : Type 0
  Asked = PutsIn (version_in b) (decode b).lines k (ply_at t 0) × (is_variation t ≡ true)

  abbrev Puts : Edited → Type 0
  Puts = Makes (relined (version_in b) (decode b) put_lines) put_place Asked

  insert_makes : Sound b → Puts (insert (decode b) k t)
  unfolding insert insert_on insert_at figures decode
  insert_makes s =
      by_pick Puts (ltb k (length (decode b).lines)) _ _
      (λ l. by_pick Puts (is_variation t) _ _
      (λ v. by_pick Puts (is_ply_of (starts ps k) (counts ps k) (ply_at t 0)) _ _
      (λ p. by_pick Puts (is_taken (version_in b) k (ply_at t 0) (drop 1 (decode b).lines)) _ _ (λ _. refuses (omega arith))
      (λ c.
      let ok = puts_in b s k (ply_at t 0) (omega (arith, lines_counted b, ltb-true k (length (decode b).lines) l)) p c in
      makes (put-fresh (version_in b) (decode b).lines k (variation_of t) ok (decode b) refl) refl (ok, v)))
      (λ _. refuses (omega arith)))
      (λ _. refuses (omega arith)))
      (λ _. refuses (omega arith))
    where
      ps : List Play
      ps = plays_in (decode b).lines

-- what a put-in that is done says, of the block after it and the new line's number
pub record PutDone (b : List ℕ) (k : ℕ) (t : List ℕ) (after : List ℕ) (i : ℕ) : Type 0 where
  pub sound : Sound b
  pub put : PutsIn (version_in b) (decode b).lines k (ply_at t 0)
  pub text : is_variation t ≡ true
  pub place : i ≡ put_place b k t
  pub formed : Formed (relined (version_in b) (decode b) (put_lines b k t))
  pub front : after ≡ encode (relined (version_in b) (decode b) (put_lines b k t))

pub put_done : (b t o : List ℕ) → Bytes b → Bytes t → (k n i : ℕ) → (put_in_of b k t o).answer ≡ Done n i
    → PutDone b k t (take n (put_in_of b k t o).buffer) i
unfolding put_in_of figures
put_done b t o bs ts k n i =
    by_pick Says (soundb b) (edited_of (insert (decode b) k t) o) (refuse NotSound o) (λ e. says (sound_says b e)) (λ _ e. not_done NotSound n i (omega arith) e)
  where
    Says : Outcome → Type 0
    Says x = x.answer ≡ Done n i → PutDone b k t (take n x.buffer) i

    says : Sound b → Says (edited_of (insert (decode b) k t) o)
    says s e =
        let ((ok, v), front, short, p) = edited_done o (insert_makes b k t s) n i e in
        let at = put_place b k t in
        let z : 0 < at = later (version_in b) (decode b).lines k (variation_of t) ok in
        let old : Standing (map (reparented (renumbered at)) (decode b).lines) = moved_stand (renumbered at) (block_lines b s bs) in
        let stand : Standing (put_lines b k t) = led_append (led_take at z old) (next (text-line t ts v k) (led_drop at z old)) in
        record {
          sound = s;
          put = ok;
          text = v;
          place = p;
          formed = relined_formed b s bs (version_in b) (put_lines b k t) stand s.head.1.1.1.1.0 (put-sound (version_in b) (decode b).lines k (variation_of t) ok) short;
          front = front;
        }

-- ---- cut

module _ (b : List ℕ) (k : ℕ) where
  abbrev pub cut_many : ℕ
  cut_many = removed_from (version_in b) (decode b).lines k

  abbrev pub cut_lines : List Line
  cut_lines = without_lines k (removed_from (version_in b) (decode b).lines k) (decode b).lines

  abbrev Cuts : Edited → Type 0
  Cuts = Makes (relined (version_in b) (decode b) cut_lines) cut_many (CutsOut (version_in b) (decode b).lines k)

  remove_makes : Sound b → Cuts (remove (decode b) k)
  unfolding remove figures decode
  remove_makes s =
      by_pick Cuts (eqb k 0) _ _ (λ _. refuses (omega arith))
      (λ z. by_pick Cuts (ltb k (length (decode b).lines)) _ _
      (λ l. let o = ok (eqb-false k 0 z) (ltb-true _ _ l) in makes (cut-fresh (version_in b) (decode b).lines k o (decode b) refl) refl o)
      (λ _. refuses (omega arith)))
    where
      ok : (k ≡ 0 → ⊥) → k < length (decode b).lines → CutsOut (version_in b) (decode b).lines k
      ok z l = cuts_out b s k (omega arith) (omega (arith, lines_counted b))

-- a cut's answer has not the number of a block that is too long
pub cut_not_long : (b o : List ℕ) → Bytes b → (k : ℕ) → (figures (cut_of b k o).answer).number ≡ 4 → ⊥
unfolding cut_of remove edited_of edit_stored figures decode
cut_not_long b o bs k =
    by_pick Not (soundb b) (edited_of (remove (decode b) k) o) (refuse NotSound o) (λ e. taken (sound_says b e)) (λ _ z. omega arith)
  where
    Not : Outcome → Type 0
    Not x = (figures x.answer).number ≡ 4 → ⊥

    taken : Sound b → Not (edited_of (remove (decode b) k) o)
    taken s =
        by_pick (λ (x : Edited). Not (edited_of x o)) (eqb k 0) _ _ (λ _ z. omega arith)
        (λ y. by_pick (λ (x : Edited). Not (edited_of x o)) (ltb k (length (decode b).lines)) _ _
        (λ l. by_pick Not (ltb 65535 (length after)) _ _ (λ e _. omega (arith, ltb-true 65535 (length after) e, cut_short b s bs k (cut_many b k), ap (λ (x : Record). length (encode x)) (is_given y l)))
        (λ _. by_pick Not (ltb (length o) (length after)) _ _ (λ _ z. omega arith) (λ _ z. omega arith)))
        (λ _ z. omega arith))
      where
        after : List ℕ
        after = encode (fresh (decode b) (without_lines k (cut_many b k) (decode b).lines))

        is_given : eqb k 0 ≡ false → ltb k (length (decode b).lines) ≡ true → fresh (decode b) (cut_lines b k) ≡ relined (version_in b) (decode b) (cut_lines b k)
        is_given y l =
            let z : k ≡ 0 → ⊥ = eqb-false k 0 y in
            cut-fresh (version_in b) (decode b).lines k (cuts_out b s k (omega arith) (omega (arith, lines_counted b, ltb-true k (length (decode b).lines) l))) (decode b) refl

-- what a cut that is done says, of the block after it and the number of lines cut
pub record CutDone (b : List ℕ) (k : ℕ) (after : List ℕ) (m : ℕ) : Type 0 where
  pub sound : Sound b
  pub cut : CutsOut (version_in b) (decode b).lines k
  pub many : m ≡ cut_many b k
  pub formed : Formed (relined (version_in b) (decode b) (cut_lines b k))
  pub front : after ≡ encode (relined (version_in b) (decode b) (cut_lines b k))

pub cut_done : (b o : List ℕ) → Bytes b → (k n m : ℕ) → (cut_of b k o).answer ≡ Done n m → CutDone b k (take n (cut_of b k o).buffer) m
unfolding cut_of figures
cut_done b o bs k n m =
    by_pick Says (soundb b) (edited_of (remove (decode b) k) o) (refuse NotSound o) (λ e. says (sound_says b e)) (λ _ e. not_done NotSound n m (omega arith) e)
  where
    Says : Outcome → Type 0
    Says x = x.answer ≡ Done n m → CutDone b k (take n x.buffer) m

    says : Sound b → Says (edited_of (remove (decode b) k) o)
    says s e =
        let (ok, front, short, p) = edited_done o (remove_makes b k s) n m e in
        let old = block_lines b s bs in
        let z = ok.later in
        let stand : Standing (cut_lines b k) = moved_stand (lowered k (cut_many b k)) (led_append (led_take k z old) (led_drop (k + cut_many b k) (omega arith) old)) in
        record {
          sound = s;
          cut = ok;
          many = p;
          formed = relined_formed b s bs (version_in b) (cut_lines b k) stand s.head.1.1.1.1.0 (cut-sound (version_in b) (decode b).lines k ok) short;
          front = front;
        }

-- ---- restating

-- what a restating that is done says, of the block after it
pub record RestateDone (b after : List ℕ) (m : ℕ) : Type 0 where
  pub sound : Sound b
  pub one : version_in b ≡ 1
  pub none : m ≡ 0
  pub formed : Formed (restated (decode b))
  pub front : after ≡ encode (restated (decode b))

-- lines that hang as version 1 asks hang as version 2 asks
two_as : (b : List ℕ) → Sound b → version_in b ≡ 1 → LinesAs 2 (decode b).lines
two_as b s one =
    let some : 0 < length (decode b).lines = omega (arith, lines_counted b, s.totals.0) in
    says_as 2 (decode b).lines some (as_branched (version_in b) (decode b).lines some (lines_as b s)) (λ e. absurd (omega arith))

-- the record of a sound block of version 1 is well formed as version 2
pub restated_formed : (b : List ℕ) → Bytes b → Sound b → version_in b ≡ 1 → Formed (restated (decode b))
unfolding relined
restated_formed b bs s one =
    subst Formed same
    (relined_formed b s bs 2 (decode b).lines (block_lines b s bs) refl (two_as b s one)
    (omega (arith, version_adds b 2 (version_in b) (decode b).lines, ap length (block_same b s bs), s.head.1.0)))
  where
    same : relined 2 (decode b) (decode b).lines ≡ restated (decode b)
    same = refl

pub restate_done : (b o : List ℕ) → Bytes b → (n m : ℕ) → (restate_of b o).answer ≡ Done n m → RestateDone b (take n (restate_of b o).buffer) m
unfolding restate_of figures
restate_done b o bs n m =
    by_pick Says (soundb b) _ (refuse NotSound o)
    (λ e. by_pick Says (eqb (version_in b) 1) (edit_stored (encode (restated (decode b))) 0 o) (refuse NotSound o) (λ v. says (sound_says b e) (eqb-true _ _ v)) (λ _ q. not_done NotSound n m (omega arith) q))
    (λ _ e. not_done NotSound n m (omega arith) e)
  where
    Says : Outcome → Type 0
    Says x = x.answer ≡ Done n m → RestateDone b (take n x.buffer) m

    says : Sound b → version_in b ≡ 1 → Says (edit_stored (encode (restated (decode b))) 0 o)
    says s one e =
        let (front, short, z) = stored_done (encode (restated (decode b))) 0 o n m e in
        record { sound = s; one = one; none = z; formed = restated_formed b bs s one; front = front }
