-- The two versions of a block, and restating.                                                           (02, request (vi))
--     versions-hold     the lines of a sound block are a tree, and in version 1 no entry has two variations
--     version-put       a block of another version differs in byte 2
--     restate-holds     so restating changes that byte and nothing else
--     one-from-two      and where no entry has two, the block is sound as version 1
-- Assumes nothing.
use Prim.Native.Nat.{ℕ, ◌≤◌, ◌<◌}
use native.Mathlib.Omega.{arith}
use native.Mathlib.Decide.{dec_lt}
use mathlib.Core.Path.{◌≡◌, refl, sym, ap, ◌∙◌, subst}
use mathlib.Core.List.{List}
use mathlib.Core.Bool.{Bool, true, false}
use lib.ListN.{length}
use lib.Dec.{eqb}
use borrow.Author.Tests.{eqb-true, le-ltb, lt-ltb, eq-eqb}
use Rattle.lists.specs.Pick.{pick}
use Rattle.jkf.specs.Model.{Record}
use Rattle.jkf.specs.Trees.{is_version, HangAs, Tree, NoTwo}
use Rattle.jkf.specs.declared.Answer.{Answer}
use Rattle.jkf.specs.declared.Answer.TheVariants.{Done, BufferShort, NotSound}
use Rattle.jkf.specs.Answers.{figures, Outcome}
use Rattle.jkf.proofs.Branching.{says_branched, tree_is}
use Rattle.jkf.proofs.OneTwo.{one_is_two}
use Rattle.block.specs.Encode.{encode, head_bytes}
use Rattle.block.specs.Decode.{decode, version_in, lines_in, start_of, entry_count, parent_of}
use Rattle.block.specs.inner.Sounds.{Sound}
use Rattle.block.specs.Sound.{soundb}
use Rattle.block.proofs.Deciding.{sound_says, sound_answers}
use Rattle.block.proofs.Hanging.{lines_hung, sound_branched}
use Rattle.edit.specs.Edit.{restated}
use Rattle.edit.specs.Outcomes.{edit_stored, restate_of}
use Rattle.edit.specs.inner.Splicing.{relined}
use Rattle.edit.proofs.Listing.{SingleIn, as_branched, says_as}
use Rattle.edit.proofs.Blocks.{lines_counted, start_in, parent-in, lines_as}
use Rattle.laws.specs.Blocks.{Bytes, front_of}
use Rattle.laws.specs.Edits.{VersionTheorems, with_version, RestateHolds, OneFromTwo}
use Rattle.laws.proofs.Decoded.{decode-encode}
use Rattle.laws.proofs.Encoded.{encode-decode}
use Rattle.laws.proofs.Made.{sound-encode}
use Rattle.laws.proofs.Forming.{refused as not_done}
use Rattle.laws.proofs.Relining.{relined_formed, block_lines}
use Rattle.laws.proofs.Fewer.{block_same, version_adds}
use Rattle.laws.proofs.EditsDone.{restate_done}

-- ---- trees

pub versions_hold : VersionTheorems
versions_hold = record { one_is_two = one_is_two; two_is_tree = tree_is; sound_tree = tree; one_single = single }
  where
    tree : (b : List ℕ) → soundb b ≡ true → Tree (start_of b) (entry_count b) (parent_of b) (lines_in b)
    tree b h =
        let s = sound_says b h in
        (tree_is (start_of b) (entry_count b) (parent_of b) (lines_in b) s.totals.0).0
        (says_branched (start_of b) (entry_count b) (parent_of b) (lines_in b) (sound_branched b s))

    single : (b : List ℕ) → soundb b ≡ true → version_in b ≡ 1 → NoTwo (start_of b) (parent_of b) (lines_in b)
    single b h one =
        let s = sound_says b h in
        let as_one : HangAs 1 (start_of b) (entry_count b) (parent_of b) (lines_in b) = subst (λ (v : ℕ). HangAs v (start_of b) (entry_count b) (parent_of b) (lines_in b)) one (lines_hung b (lines_in b) s.lines) in
        ((one_is_two (start_of b) (entry_count b) (parent_of b) (lines_in b) s.totals.0).0 as_one).1

-- ---- a record as another version

abbrev pub as_version : ℕ → Record → Record
as_version v r = record { version = v; headers = r.headers; position = r.position; lines = r.lines }

module _ (r : Record) where
  one_two : with_version 2 (encode (as_version 1 r)) ≡ encode (as_version 2 r)
  unfolding encode head_bytes
  one_two = refl

  one-one : with_version 1 (encode (as_version 1 r)) ≡ encode (as_version 1 r)
  unfolding encode head_bytes
  one-one = refl

  two_one : with_version 1 (encode (as_version 2 r)) ≡ encode (as_version 1 r)
  unfolding encode head_bytes
  two_one = refl

-- a version is 1 or 2
one_or_two : (P : ℕ → Type 0) (v : ℕ) → is_version v ≡ true → P 1 → P 2 → P v
one_or_two P v h a b = go (eqb v 1) refl h
  where
    go : (t : Bool) → eqb v 1 ≡ t → pick t true (eqb v 2) ≡ true → P v
    go true e h = subst P (sym (eqb-true v 1 e)) a
    go false e h = subst P (sym (eqb-true v 2 h)) b

module _ (b : List ℕ) (s : Sound b) (bs : Bytes b) where
  -- a block is that of its record, as its version
  as_encoded : encode (as_version (version_in b) (decode b)) ≡ b
  unfolding decode
  as_encoded = encode-decode b s bs

  pub to_two : version_in b ≡ 1 → with_version 2 b ≡ encode (restated (decode b))
  to_two one =
      ap (with_version 2) (sym (ap (λ (v : ℕ). encode (as_version v (decode b))) (sym one) ∙ as_encoded)) ∙ one_two (decode b)

  pub to_one : with_version 1 b ≡ encode (as_version 1 (decode b))
  to_one =
      ap (with_version 1) (sym as_encoded)
      ∙ one_or_two (λ v. with_version 1 (encode (as_version v (decode b))) ≡ encode (as_version 1 (decode b))) (version_in b) s.head.1.1.1.1.0 (one-one (decode b)) (two_one (decode b))

-- ---- restating

-- the block of a restated record is as long as the block
restated-long : (b : List ℕ) → Sound b → Bytes b → length (encode (restated (decode b))) ≡ length b
restated-long b s bs = same ∙ version_adds b 2 (version_in b) (decode b).lines ∙ ap length (block_same b s bs)
  where
    same : length (encode (restated (decode b))) ≡ length (encode (relined 2 (decode b) (decode b).lines))
    same = unfold relined in refl

-- what is stored of it
restated_stored : (b o : List ℕ) → soundb b ≡ true → version_in b ≡ 1 → restate_of b o ≡ edit_stored (encode (restated (decode b))) 0 o
unfolding restate_of
restated_stored b o h one = rw (h, eq-eqb (version_in b) 1 one)

pub restate-holds : RestateHolds
unfolding edit_stored figures
restate-holds b o bs =
    record {
      restated_is = is;
      restated-same = same;
      restated_done = done;
      restated-short = short;
      restated_not = not;
    }
  where
    done : soundb b ≡ true → version_in b ≡ 1 → length b ≤ length o → (restate_of b o).answer ≡ Done (length b) 0
    done h one l =
        let s = sound_says b h in
        let n = restated-long b s bs in
        ap (λ (x : Outcome). x.answer) (restated_stored b o h one)
        ∙ rw (le-ltb 65535 (length (encode (restated (decode b)))) (omega (arith, n, s.head.1.0)), le-ltb (length o) (length (encode (restated (decode b)))) (omega (arith, n))) (ap (λ (x : ℕ). Done x 0) n)

    short : soundb b ≡ true → version_in b ≡ 1 → length o < length b → (restate_of b o).answer ≡ BufferShort (length b)
    short h one l =
        let s = sound_says b h in
        let n = restated-long b s bs in
        ap (λ (x : Outcome). x.answer) (restated_stored b o h one)
        ∙ rw (le-ltb 65535 (length (encode (restated (decode b)))) (omega (arith, n, s.head.1.0)), lt-ltb (length o) (length (encode (restated (decode b)))) (omega (arith, n))) (ap BufferShort n)

    -- the first figure is the length
    long : (n m : ℕ) → soundb b ≡ true → version_in b ≡ 1 → (restate_of b o).answer ≡ Done n m → n ≡ length b
    long n m h one e = go (dec_lt (length o) (length b))
      where
        go : Dec (length o < length b) → n ≡ length b
        go (no l) = ap (λ (x : Answer). (figures x).first) (sym e ∙ done h one (omega arith))
        go (yes l) = not_done (BufferShort (length b)) n m (omega arith) (sym (short h one l) ∙ e)

    is : (n m : ℕ) → (restate_of b o).answer ≡ Done n m
        → (n ≡ length b) × (m ≡ 0) × (front_of n (restate_of b o) ≡ with_version 2 b) × (soundb (with_version 2 b) ≡ true)
    is n m e =
        let d = restate_done b o bs n m e in
        let t = to_two b d.sound bs d.one in
        (long n m (sound_answers b d.sound) d.one e, d.none, d.front ∙ sym t, ap soundb t ∙ sound_answers (encode (restated (decode b))) (sound-encode (restated (decode b)) d.formed))

    same : (n m : ℕ) → (restate_of b o).answer ≡ Done n m
        → ((decode (with_version 2 b)).lines ≡ (decode b).lines) × ((decode (with_version 2 b)).headers ≡ (decode b).headers) × ((decode (with_version 2 b)).position ≡ (decode b).position)
    same n m e =
        let d = restate_done b o bs n m e in
        let q = ap decode (to_two b d.sound bs d.one) ∙ decode-encode (restated (decode b)) d.formed in
        (ap (λ (r : Record). r.lines) q, ap (λ (r : Record). r.headers) q, ap (λ (r : Record). r.position) q)

    not : (soundb b ≡ true → version_in b ≡ 1 → ⊥) → (restate_of b o).answer ≡ NotSound
    not f = go (soundb b) refl (eqb (version_in b) 1) refl
      where
        go : (t : Bool) → soundb b ≡ t → (u : Bool) → eqb (version_in b) 1 ≡ u → (restate_of b o).answer ≡ NotSound
        go true h true e = absurd (f h (eqb-true _ _ e))
        go true h false e = unfold restate_of in rw (h, e)
        go false h u e = unfold restate_of in rw h

-- ---- from version 2 to version 1

pub one-from_two : OneFromTwo
unfolding relined
one-from_two b bs h single =
    let s = sound_says b h in
    let ls = (decode b).lines in
    let some : 0 < length ls = omega (arith, lines_counted b, s.totals.0) in
    let as_one = says_as 1 ls some (as_branched (version_in b) ls some (lines_as b s)) (λ _. alone) in
    let formed = relined_formed b s bs 1 ls (block_lines b s bs) refl as_one (omega (arith, version_adds b 1 (version_in b) ls, ap length (block_same b s bs), s.head.1.0)) in
    ap soundb (to_one b s bs) ∙ sound_answers (encode (as_version 1 (decode b))) (sound-encode (as_version 1 (decode b)) formed)
  where
    alone : SingleIn (decode b).lines
    alone i k z l m p q =
        let a : k < lines_in b = omega (arith, lines_counted b) in
        single i k z l a (sym (parent-in b i (omega arith)) ∙ p ∙ parent-in b k a) (sym (start_in b i (omega arith)) ∙ q ∙ start_in b k a)
