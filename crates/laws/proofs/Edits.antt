-- The theorems of put-in and cut, of blocks of either version. Where a put-in is done with the figures n and i, and a cut with n
-- and m, the first n bytes of the buffer are a block:
--     put-sound, cut-sound     it is sound
--     put_keeps, cut_keeps     each line that was there, and is not cut, is there with its start, its entries and its parent
--     put-hangs                the new line is line i, of the text's entries, and hangs on line k at the entry that was asked for
--     put_first                no line before it hangs on that entry
--     cut-takes                what is cut is line k and what hangs from it, and nothing else
--     put_rest, cut-rest       as many lines as there should be, and version, headers and position as they were
--     put-undone               the cut of the line just put in gives the block back
--     parents-stay             each old line has its old parent in the list with the new line
--     no-cut-too-long          cut never refuses for the length of the block
-- (01, Put-in and cut; 02, request (vi))
-- Assumes nothing.
use Rattle.std.specs.Prelude.{Some}
use Prim.Native.Nat.{ℕ, ◌+◌, ◌-◌, ◌≤◌, ◌<◌}
use native.Mathlib.Omega.{arith}
use mathlib.Core.Path.{◌≡◌, sym, ap, ap₂, ◌∙◌, subst}
use mathlib.Core.List.{List}
use mathlib.Core.Bool.{Bool, true, false}
use lib.ListN.{length, drop}
use lib.Dec.{eqb, leb}
use borrow.Author.Tests.{eq-eqb, ne_eqb, lt-ltb}
use Rattle.lists.specs.Pick.{pick}
use Rattle.lists.proofs.Laws.{by_pick}
use Rattle.jkf.specs.declared.Answer.{Answer}
use Rattle.jkf.specs.declared.Answer.TheVariants.{Done, NotSound}
use Rattle.jkf.specs.Answers.{figures, refuse}
use Rattle.jkf.specs.Attaching.{near, hang_on, hangs, Play, parent_in}
use Rattle.jkf.specs.Trees.{HangsFrom}
use Rattle.jkf.proofs.Nears.{near_before, near_same}
use Rattle.jkf.proofs.Chains.{Falls, from-same}
use Rattle.jkf.proofs.Branching.{branched_falls}
use Rattle.jkf.specs.Model.{Line, Record}
use Rattle.block.specs.Encode.{encode}
use Rattle.block.specs.Decode.{decode, version_in, lines_in, start_of, entry_count, parent_of}
use Rattle.block.specs.inner.Sounds.{Sound}
use Rattle.block.specs.Formed.{line_of, Formed}
use Rattle.block.proofs.Hanging.{sound_branched}
use Rattle.block.proofs.Deciding.{sound_says, sound_answers}
use Rattle.plays.specs.Plays.{entries_at, ply_at}
use Rattle.edit.specs.Edit.{Edited, edited, reparented, variation_of, carries, line_on, renumbered, lines_with, removed_from, lowered, IsKept, without_lines, fresh, remove}
use Rattle.edit.specs.inner.Splicing.{relined}
use Rattle.edit.specs.Outcomes.{edit_stored, edited_of, put_in_of, cut_of}
use Rattle.edit.proofs.Listing.{starts_in, counts_in, parents_in, LinesAs, as_branched, plays-put}
use Rattle.edit.proofs.Afresh.{parents_1, fresh-same}
use Rattle.edit.proofs.Inserted as inserted
use Rattle.edit.proofs.Removed as removed
use Rattle.edit.proofs.Undoing.{cut_undoes}
use Rattle.edit.proofs.Blocks.{lines_counted, start_in, count_in, parent-in, lines_as, puts_in}
use Rattle.edit.proofs.Seeking.{ply_is}
use Rattle.laws.specs.Blocks.{Bytes}
use Rattle.laws.specs.Edits.{put_block, cut_block, PutHolds, new_number, ParentsStay, CutHolds, NoCutTooLong}
use Rattle.laws.proofs.Decoded.{decode-encode}
use Rattle.laws.proofs.Encoded.{encode-decode}
use Rattle.laws.proofs.Made.{sound-encode}
use Rattle.laws.proofs.EditsDone.{put_place, put_lines, PutDone, put_done, cut_many, cut_lines, CutDone, cut_done, cut_not_long}
use Rattle.laws.proofs.Fewer.{same_record}

-- ---- the block of a record with other lines

module _ (b : List ℕ) (v : ℕ) (ls : List Line) (c : List ℕ) (g : Formed (relined v (decode b) ls)) (e : c ≡ encode (relined v (decode b) ls)) where
  relined-sound : Sound c
  relined-sound = subst Sound (sym e) (sound-encode (relined v (decode b) ls) g)

  relined_is : decode c ≡ relined v (decode b) ls
  relined_is = ap decode e ∙ decode-encode (relined v (decode b) ls) g

  relined-lines : (decode c).lines ≡ ls
  unfolding relined
  relined-lines = ap (λ (r : Record). r.lines) relined_is

  relined-version : version_in c ≡ v
  unfolding relined decode
  relined-version = ap (λ (r : Record). r.version) relined_is

  relined_many : lines_in c ≡ length ls
  relined_many = sym (lines_counted c) ∙ ap length relined-lines

  relined-start : (j : ℕ) → j < length ls → start_of c j ≡ starts_in ls j
  relined-start j h = sym (start_in c j (omega (arith, relined_many))) ∙ ap (λ (l : List Line). starts_in l j) relined-lines

  relined-count : (j : ℕ) → j < length ls → entry_count c j ≡ counts_in ls j
  relined-count j h = sym (count_in c j (omega (arith, relined_many))) ∙ ap (λ (l : List Line). counts_in l j) relined-lines

  relined-parent : (j : ℕ) → j < length ls → parent_of c j ≡ parents_in ls j
  relined-parent j h = sym (parent-in c j (omega (arith, relined_many))) ∙ ap (λ (l : List Line). parents_in l j) relined-lines

  relined_rest : ((decode c).headers ≡ (decode b).headers) × ((decode c).position ≡ (decode b).position)
  unfolding relined
  relined_rest = (ap (λ (r : Record). r.headers) relined_is, ap (λ (r : Record). r.position) relined_is)

-- a line that may be cut is cut
remove-made : (r : Record) (k : ℕ) → 0 < k → k < length r.lines
    → remove r k ≡ edited (fresh r (without_lines k (removed_from r.version r.lines k) r.lines)) (removed_from r.version r.lines k)
unfolding remove
remove-made r k z h = rw (ne_eqb k 0 (λ e. omega arith), lt-ltb k (length r.lines) h)

-- the attaching rule looks at the lines before alone
hangs_alike : (f g c d : ℕ → ℕ) (s k : ℕ) → 0 < k → ((j : ℕ) → j < k → f j ≡ g j) → ((j : ℕ) → j < k → c j ≡ d j) → hangs f c s k ≡ hangs g d s k
unfolding hangs
hangs_alike f g c d s k z e u =
    let p = near f s k in
    let l = near_before f s k z in
    let q : p ≡ near g s k = near_same f g s k e in
    ap₂ (λ (t n : ℕ). hang_on s p t n) (e p l ∙ ap g q) (u p l ∙ ap d q) ∙ ap (λ (x : ℕ). hang_on s x (g (near g s k)) (d (near g s k))) q

-- an old line's new number is that of a line
new_low : (n l m : ℕ) → l + 1 < m → renumbered n l < m
new_low n l m h = by_pick (λ (q : ℕ). q < m) (leb n l) (l + 1) l (λ _. h) (λ _. omega arith)

-- what hangs from a line in a block hangs from it in the list of its lines, and the other way round
module _ (b : List ℕ) (s : Sound b) where
  falls : Falls (parent_of b) (lines_in b)
  falls = branched_falls (start_of b) (entry_count b) (parent_of b) (sound_branched b s)

  falls_in : Falls (parents_in (decode b).lines) (length (decode b).lines)
  falls_in =
      branched_falls (starts_in (decode b).lines) (counts_in (decode b).lines) (parents_in (decode b).lines)
      (as_branched (version_in b) (decode b).lines (omega (arith, lines_counted b, s.totals.0)) (lines_as b s))

  to_list : {k l : ℕ} → HangsFrom (parent_of b) k l → l < lines_in b → HangsFrom (parents_in (decode b).lines) k l
  to_list f h = from-same falls (lines_in b) (λ i m. parent-in b i m) f h h

  from_list : {k l : ℕ} → HangsFrom (parents_in (decode b).lines) k l → l < lines_in b → HangsFrom (parent_of b) k l
  from_list f h = from-same falls_in (lines_in b) (λ i m. sym (parent-in b i m)) f h (omega (arith, lines_counted b))

-- ---- put-in

module _ (b t o : List ℕ) (bs : Bytes b) (ts : Bytes t) (k n i : ℕ) (done : (put_in_of b k t o).answer ≡ Done n i) where
  abbrev old : List Line
  old = (decode b).lines

  abbrev c : List ℕ
  c = put_block b t o k n

  puts : PutDone b k t (put_block b t o k n) i
  puts = put_done b t o bs ts k n i done

  put-long : length (put_lines b k t) ≡ lines_in b + 1
  put-long = inserted.put-length (version_in b) old k (variation_of t) puts.put ∙ ap (λ (x : ℕ). x + 1) (lines_counted b)

  in_lines : put_place b k t < length (put_lines b k t)
  in_lines = omega (arith, put-long, (inserted.at (version_in b) old k (variation_of t) puts.put).fits, lines_counted b)

  pub put-sound : Sound (put_block b t o k n)
  put-sound = relined-sound b (version_in b) (put_lines b k t) c puts.formed puts.front

  put-lines : (decode c).lines ≡ put_lines b k t
  put-lines = relined-lines b (version_in b) (put_lines b k t) c puts.formed puts.front

  pub put_rest : (lines_in (put_block b t o k n) ≡ lines_in b + 1)
      × (version_in (put_block b t o k n) ≡ version_in b)
      × ((decode (put_block b t o k n)).headers ≡ (decode b).headers)
      × ((decode (put_block b t o k n)).position ≡ (decode b).position)
  put_rest =
      let (h, p) = relined_rest b (version_in b) (put_lines b k t) c puts.formed puts.front in (
        relined_many b (version_in b) (put_lines b k t) c puts.formed puts.front ∙ put-long,
        relined-version b (version_in b) (put_lines b k t) c puts.formed puts.front,
        h,
        p,
      )

  pub put_keeps : (l : ℕ) → l < lines_in b
      → line_of (decode (put_block b t o k n)).lines (renumbered i l)
      ≡ reparented (renumbered i) (line_of (decode b).lines l)
  put_keeps l h =
      subst (λ (x : ℕ). line_of (decode c).lines (renumbered x l) ≡ reparented (renumbered x) (line_of (decode b).lines l)) (sym puts.place)
      (ap (λ (ls : List Line). line_of ls (renumbered (put_place b k t) l)) put-lines ∙ inserted.put_keeps (version_in b) old k (variation_of t) puts.put l)

  -- where the attaching rule finds that it hangs
  new_hang : hangs (start_of (put_block b t o k n)) (entry_count (put_block b t o k n)) (ply_at t 0) (put_place b k t)
      ≡ Some (k, ply_at t 0 - start_of b k)
  new_hang =
      let qs = put_lines b k t in
      hangs_alike (start_of c) (starts_in qs) (entry_count c) (counts_in qs) (ply_at t 0) (put_place b k t) (inserted.later (version_in b) old k (variation_of t) puts.put)
      (λ j l. relined-start b (version_in b) qs c puts.formed puts.front j (omega (arith, in_lines)))
      (λ j l. relined-count b (version_in b) qs c puts.formed puts.front j (omega (arith, in_lines)))
      ∙ inserted.put-hangs (version_in b) old k (variation_of t) puts.put
      ∙ ap (λ (x : ℕ). Some (k, ply_at t 0 - x)) (start_in b k (omega (arith, puts.put.line, lines_counted b)))

  pub put-hangs : (line_of (decode (put_block b t o k n)).lines i ≡ record { start = ply_at t 0; parent = k; entries = (entries_at t 0).state })
      × (hangs (start_of (put_block b t o k n)) (entry_count (put_block b t o k n)) (ply_at t 0) i ≡ Some (k, ply_at t 0 - start_of b k))
  put-hangs = (
    subst (λ (x : ℕ). line_of (decode c).lines x ≡ line_on k (variation_of t)) (sym puts.place)
        (ap (λ (ls : List Line). line_of ls (put_place b k t)) put-lines ∙ inserted.put_new (version_in b) old k (variation_of t) puts.put),
    subst (λ (x : ℕ). hangs (start_of c) (entry_count c) (ply_at t 0) x ≡ Some (k, ply_at t 0 - start_of b k)) (sym puts.place) new_hang,
  )

  pub put_first : (l : ℕ) → 0 < l → l < i → parent_of (put_block b t o k n) l ≡ k → start_of (put_block b t o k n) l ≡ ply_at t 0 → ⊥
  put_first l z h p s =
      let qs = put_lines b k t in
      let low : l < length qs = omega (arith, puts.place, in_lines) in
      omega (
        arith,
        puts.place,
        inserted.put_first (version_in b) old k (variation_of t) puts.put l z low
            (sym (relined-parent b (version_in b) qs c puts.formed puts.front l low) ∙ p)
            (sym (relined-start b (version_in b) qs c puts.formed puts.front l low) ∙ s),
      )

  -- cut, the new line leaves the record that there was
  taken_back : remove (decode (put_block b t o k n)) (put_place b k t) ≡ edited (decode b) 1
  unfolding relined
  taken_back =
      let qs = put_lines b k t in
      let at = put_place b k t in
      let r = relined (version_in b) (decode b) qs in
      let (alone, back) = cut_undoes (version_in b) old k (variation_of t) puts.put in
      ap (λ (x : Record). remove x at) (relined_is b (version_in b) qs c puts.formed puts.front)
      ∙ remove-made r at (inserted.later (version_in b) old k (variation_of t) puts.put) in_lines
      ∙ ap (λ (m : ℕ). edited (fresh r (without_lines at m qs)) m) alone
      ∙ ap (λ (ls : List Line). edited (fresh r ls) 1) back
      ∙ ap (λ (x : Record). edited x 1) (same_lines ∙ same_record b)
    where
      same_lines : fresh (relined (version_in b) (decode b) (put_lines b k t)) (decode b).lines ≡ relined (version_in b) (decode b) (decode b).lines
      same_lines = fresh-same old (omega (arith, puts.put.line)) (relined (version_in b) (decode b) (put_lines b k t)) puts.put.lines

  pub put_undone : (o' : List ℕ) → cut_of (put_block b t o k n) i o' ≡ edit_stored b 1 o'
  unfolding cut_of edited_of
  put_undone o' =
      ap (λ (x : Bool). pick x (edited_of (remove (decode c) i) o') (refuse NotSound o')) (sound_answers c put-sound)
      ∙ ap (λ (x : ℕ). edited_of (remove (decode c) x) o') puts.place
      ∙ ap (λ (x : Edited). edited_of x o') taken_back
      ∙ ap (λ (x : List ℕ). edit_stored x 1 o') (encode-decode b puts.sound bs)

-- wherever 10, 12 and 13 let a line be put in
pub parents_stay : ParentsStay
parents_stay b t k sb one h ply free l m =
    let s = sound_says b sb in
    let ls = (decode b).lines in
    let v = variation_of t in
    let none : eqb (version_in b) 1 ≡ true = eq-eqb _ _ one in
    let ok = puts_in b s k (ply_at t 0) h (ply_is b k (ply_at t 0) h ∙ ply) (ap (λ (x : Bool). pick x (carries k (ply_at t 0) (drop 1 ls)) false) none ∙ free) in
    let qs = lines_with (new_number b t k) (line_on k v) ls in
    let at = renumbered (new_number b t k) l in
    let long = inserted.put-length (version_in b) ls k v ok ∙ ap (λ (x : ℕ). x + 1) (lines_counted b) in
    ap (λ (ps : List Play). parent_in ps at) (sym (plays-put (new_number b t k) k v ls))
    ∙ parents_1 qs (omega (arith, long)) (subst (λ (x : ℕ). LinesAs x qs) one (inserted.put-sound (version_in b) ls k v ok)) at (new_low (new_number b t k) l (length qs) (omega (arith, long)))
    ∙ ap (λ (x : Line). x.parent) (inserted.put_keeps (version_in b) ls k v ok l)
    ∙ ap (renumbered (new_number b t k)) (parent-in b l m)

-- ---- cut

pub no_cut_too_long : NoCutTooLong
unfolding figures
no_cut_too_long b o k n bs e = cut_not_long b o bs k (ap (λ (x : Answer). (figures x).number) e)

module _ (b o : List ℕ) (bs : Bytes b) (k n m : ℕ) (done : (cut_of b k o).answer ≡ Done n m) where
  abbrev lines : List Line
  lines = (decode b).lines

  cuts : CutDone b k (cut_block b o k n) m
  cuts = cut_done b o bs k n m done

  cut-within : k + cut_many b k ≤ lines_in b
  cut-within = omega (arith, (removed.cut-run (version_in b) lines k cuts.cut).within, lines_counted b)

  pub cut-sound : Sound (cut_block b o k n)
  cut-sound = relined-sound b (version_in b) (cut_lines b k) (cut_block b o k n) cuts.formed cuts.front

  pub cut_rest : (lines_in (cut_block b o k n) + m ≡ lines_in b)
      × (version_in (cut_block b o k n) ≡ version_in b)
      × ((decode (cut_block b o k n)).headers ≡ (decode b).headers)
      × ((decode (cut_block b o k n)).position ≡ (decode b).position)
  cut_rest =
      let d = cut_block b o k n in
      let (h, p) = relined_rest b (version_in b) (cut_lines b k) d cuts.formed cuts.front in (
        omega (
          arith,
          relined_many b (version_in b) (cut_lines b k) d cuts.formed cuts.front,
          removed.cut-length (version_in b) lines k cuts.cut,
          cut-within,
          cuts.many,
          lines_counted b,
        ),
        relined-version b (version_in b) (cut_lines b k) d cuts.formed cuts.front,
        h,
        p,
      )

  pub cut_keeps : (l : ℕ) → l < lines_in b → IsKept k m l
      → (line_of (decode (cut_block b o k n)).lines (lowered k m l)
      ≡ reparented (lowered k m) (line_of (decode b).lines l))
      × IsKept k m (line_of (decode b).lines l).parent
  cut_keeps l h =
      subst (λ (x : ℕ). IsKept k x l → (line_of (decode d).lines (lowered k x l) ≡ reparented (lowered k x) (line_of (decode b).lines l)) × IsKept k x (line_of (decode b).lines l).parent)
      (sym cuts.many)
      (λ kept.
      let (e, p) = removed.cut_keeps (version_in b) lines k cuts.cut l (omega (arith, lines_counted b)) kept in
      (ap (λ (ls : List Line). line_of ls (lowered k (cut_many b k) l)) (relined-lines b (version_in b) (cut_lines b k) d cuts.formed cuts.front) ∙ e, p))
    where
      d : List ℕ
      d = cut_block b o k n

  pub cut_takes : (l : ℕ) → l < lines_in b → (HangsFrom (parent_of b) k l → (k ≤ l) × (l < k + m)) × ((k ≤ l) × (l < k + m) → HangsFrom (parent_of b) k l)
  cut_takes l h =
      let (a, z) = removed.cut_takes (version_in b) lines k cuts.cut l (omega (arith, lines_counted b)) in
      subst (λ (x : ℕ). (HangsFrom (parent_of b) k l → (k ≤ l) × (l < k + x)) × ((k ≤ l) × (l < k + x) → HangsFrom (parent_of b) k l)) (sym cuts.many)
      (λ f. a (to_list b cuts.sound f h), λ r. from_list b cuts.sound (z r) h)

-- ---- together

pub put_holds : PutHolds
put_holds b t o bs ts k n i done =
    record {
      put-sound = sound_answers (put_block b t o k n) (put-sound b t o bs ts k n i done);
      put_rest = put_rest b t o bs ts k n i done;
      put_keeps = put_keeps b t o bs ts k n i done;
      put-hangs = put-hangs b t o bs ts k n i done;
      put_first = put_first b t o bs ts k n i done;
      put_undone = put_undone b t o bs ts k n i done;
    }

pub cut_holds : CutHolds
cut_holds b o bs k n m done =
    record {
      cut-sound = sound_answers (cut_block b o k n) (cut-sound b o bs k n m done);
      cut_rest = cut_rest b o bs k n m done;
      cut_keeps = cut_keeps b o bs k n m done;
      cut_takes = cut_takes b o bs k n m done;
    }
