-- What put-in, cut and restating come to, test by test; where all pass, the record that is stored is the old one with some lines replaced.
-- Assumes nothing.
use Prim.Native.Nat.{ℕ, ◌+◌, ◌≤◌, ◌<◌}
use native.Mathlib.Omega.{arith}
use mathlib.Core.Path.{◌≡◌, refl, sym, ap, ◌∙◌}
use mathlib.Core.List.{List, [], ◌∷◌}
use mathlib.Core.Bool.{Bool, true, false}
use lib.ListN.{drop}
use borrow.Author.Tests.{eq-eqb, ne_eqb, lt-ltb, le-ltb}
use Rattle.jkf.specs.Answers.{refuse}
use Rattle.jkf.specs.declared.Answer.TheVariants.{NoSuchPart, NotOneVariation, OutsideLine, EntryTaken, NotSound}
use Rattle.jkf.specs.Model.{Record}
use Rattle.jkf.specs.Attaching.{Play, starts, counts}
use Rattle.block.specs.Encode.{encode}
use Rattle.block.specs.Decode.{version_in, lines_in, decode}
use Rattle.block.specs.Sound.{soundb}
use Rattle.block.specs.inner.Sounds.{Sound}
use Rattle.edit.specs.Edit.{plays_in, fresh, is_variation, variation_of, is_ply_of, is_taken, place_of, lines_with, line_on, insert_at, insert_on, insert, removed_from, without_lines, remove}
use Rattle.edit.specs.Outcomes.{edit_stored, edited_of, put_in_of, cut_of, restate_of}
use Rattle.edit.specs.inner.Splicing.{relined, record_after}
use Rattle.edit.proofs.Inserted.{PutsIn, put-fresh}
use Rattle.edit.proofs.Removed.{cut-fresh}
use Rattle.edit.proofs.Shifting.{put_record, cut_record, none_record}
use Rattle.edit.proofs.Blocks.{lines_counted, puts_in, cuts_out}

-- ---- put-in

module _ (r : Record) (o : List ℕ) where
  -- on line k
  module _ (k : ℕ) (v : Play) {j : ℕ} (s : j ≡ v.start) where
    abbrev here : Bool
    here = is_ply_of (starts (plays_in r.lines) k) (counts (plays_in r.lines) k) j

    abbrev taken : Bool
    taken = is_taken r.version k j (drop 1 r.lines)

    pub outside : here ≡ false → edited_of (insert_on r k v) o ≡ refuse (OutsideLine k j) o
    unfolding edited_of insert_on
    outside h = rw (← s, h)

    pub entry-taken : here ≡ true → taken ≡ true → edited_of (insert_on r k v) o ≡ refuse (EntryTaken k j) o
    unfolding edited_of insert_on
    entry-taken h d = rw (← s, h, d)

    at_place : here ≡ true → taken ≡ false → {n : ℕ} → n ≡ place_of (plays_in r.lines) k j → edited_of (insert_on r k v) o ≡ edited_of (insert_at r n k v) o
    unfolding insert_on
    at_place h d z = rw (← s, h, d, ← z)

    pub in_place : here ≡ true → taken ≡ false → {n : ℕ} → n ≡ place_of (plays_in r.lines) k j
        → edited_of (insert_on r k v) o ≡ edit_stored (encode (fresh r (lines_with n (line_on k v) r.lines))) n o
    unfolding edited_of insert_at
    in_place h d z = at_place h d z

-- into a sound block
pub put_stored : (b : List ℕ) → Sound b → (o : List ℕ) (k : ℕ) (v : Play) {j n : ℕ} → j ≡ v.start → k < lines_in b
    → is_ply_of (starts (plays_in (decode b).lines) k) (counts (plays_in (decode b).lines) k) j ≡ true → is_taken (version_in b) k j (drop 1 (decode b).lines) ≡ false
    → n ≡ place_of (plays_in (decode b).lines) k j
    → edited_of (insert_on (decode b) k v) o ≡ edit_stored (encode (record_after (version_in b) b n n (line_on k v ∷ []))) n o
unfolding decode
put_stored b s o k v {j} {n} e h ply free at =
    let ls = (decode b).lines in
    let ok : PutsIn (version_in b) ls k v.start = puts_in b s k v.start h (rw (← e) ply) (rw (← e) free) in
    let p : n ≡ place_of (plays_in ls) k v.start = at ∙ ap (place_of (plays_in ls) k) e in
    in_place (decode b) o k v e ply free at
    ∙ ap (λ (x : Record). edit_stored (encode x) n o)
    (ap (λ (i : ℕ). fresh (decode b) (lines_with i (line_on k v) ls)) p
    ∙ put-fresh (version_in b) ls k v ok (decode b) refl
    ∙ ap (λ (i : ℕ). relined (version_in b) (decode b) (lines_with i (line_on k v) ls)) (sym p)
    ∙ put_record b n (line_on k v))

module _ (b : List ℕ) (k : ℕ) (o : List ℕ) where
  module _ (t : List ℕ) where
    pub insert-past : lines_in b ≤ k → edited_of (insert (decode b) k t) o ≡ refuse (NoSuchPart k) o
    unfolding edited_of insert
    insert-past h = rw (lines_counted b, le-ltb k (lines_in b) h)

    pub no_variation : k < lines_in b → is_variation t ≡ false → edited_of (insert (decode b) k t) o ≡ refuse NotOneVariation o
    unfolding edited_of insert
    no_variation h v = rw (lines_counted b, lt-ltb k (lines_in b) h, v)

    pub variation : k < lines_in b → is_variation t ≡ true → edited_of (insert (decode b) k t) o ≡ edited_of (insert_on (decode b) k (variation_of t)) o
    unfolding insert
    variation h v = rw (lines_counted b, lt-ltb k (lines_in b) h, v)

    pub put_unsound : soundb b ≡ false → put_in_of b k t o ≡ refuse NotSound o
    unfolding put_in_of
    put_unsound h = rw h

    pub put-sound : soundb b ≡ true → put_in_of b k t o ≡ edited_of (insert (decode b) k t) o
    unfolding put_in_of
    put-sound h = rw h

  -- ---- cut

  pub main-line : k ≡ 0 → edited_of (remove (decode b) k) o ≡ refuse (NoSuchPart k) o
  unfolding edited_of remove
  main-line h = rw (eq-eqb k 0 h)

  pub remove-past : (k ≡ 0 → ⊥) → lines_in b ≤ k → edited_of (remove (decode b) k) o ≡ refuse (NoSuchPart k) o
  unfolding edited_of remove
  remove-past z h = rw (ne_eqb k 0 z, lines_counted b, le-ltb k (lines_in b) h)

  removed : (k ≡ 0 → ⊥) → k < lines_in b → {m : ℕ} → m ≡ removed_from (decode b).version (decode b).lines k
      → edited_of (remove (decode b) k) o ≡ edit_stored (encode (fresh (decode b) (without_lines k m (decode b).lines))) m o
  unfolding edited_of remove
  removed z h e = rw (ne_eqb k 0 z, lines_counted b, lt-ltb k (lines_in b) h, ← e)

  -- out of a sound block
  pub cut_stored : Sound b → (k ≡ 0 → ⊥) → k < lines_in b → {m : ℕ} → m ≡ removed_from (version_in b) (decode b).lines k
      → edited_of (remove (decode b) k) o ≡ edit_stored (encode (record_after (version_in b) b k (k + m) [])) m o
  unfolding decode
  cut_stored s z h {m} e =
      let ls = (decode b).lines in
      let ok = cuts_out b s k (omega (arith, z)) h in
      removed z h e
      ∙ ap (λ (x : Record). edit_stored (encode x) m o)
      (ap (λ (i : ℕ). fresh (decode b) (without_lines k i ls)) e
      ∙ cut-fresh (version_in b) ls k ok (decode b) refl
      ∙ ap (λ (i : ℕ). relined (version_in b) (decode b) (without_lines k i ls)) (sym e)
      ∙ cut_record b k m)

  pub cut_unsound : soundb b ≡ false → cut_of b k o ≡ refuse NotSound o
  unfolding cut_of
  cut_unsound h = rw h

  pub cut-sound : soundb b ≡ true → cut_of b k o ≡ edited_of (remove (decode b) k) o
  unfolding cut_of
  cut-sound h = rw h

-- ---- restating

module _ (b o : List ℕ) where
  pub restate_unsound : soundb b ≡ false → restate_of b o ≡ refuse NotSound o
  unfolding restate_of
  restate_unsound h = rw h

  pub restate-other : soundb b ≡ true → (version_in b ≡ 1 → ⊥) → restate_of b o ≡ refuse NotSound o
  unfolding restate_of
  restate-other h v = rw (h, ne_eqb (version_in b) 1 v)

  pub restate_stored : soundb b ≡ true → version_in b ≡ 1 → (n : ℕ) → restate_of b o ≡ edit_stored (encode (record_after 2 b n n [])) 0 o
  unfolding restate_of
  restate_stored h v n = rw (h, eq-eqb (version_in b) 1 v) (ap (λ (x : Record). edit_stored (encode x) 0 o) (none_record b n))
