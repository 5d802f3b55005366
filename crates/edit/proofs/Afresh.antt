-- Lines hung afresh by the attaching rule: where they hang as their version asks, they are the same.
--     attach-1                     lines of version 1 are what the rule makes of them
--     afresh-same, fresh-same      so lines of either version, hung as its edits hang them, are the same
--     back-nests                   of lines of either version every one hangs: reading their text never meets refusal 6
--     back-parent                  and a line has its parent again exactly if no equal stands before it
--     back-2                       so all have exactly if no entry has two
-- Assumes nothing.
use Rattle.std.specs.Prelude.{Option}
use Prim.Native.Nat.{ℕ, zero, suc, ◌+◌, ◌-◌, ◌≤◌, ◌<◌}
use native.Mathlib.Omega.{arith}
use native.Mathlib.Decide.{dec_lt}
use mathlib.Core.Logic.{◌↔◌}
use mathlib.Core.Path.{◌≡◌, refl, sym, ap, ◌∙◌, subst}
use mathlib.Core.Bool.{Bool, true, false}
use mathlib.Core.List.{List}
use lib.ListN.{length}
use lib.Seq.{ext_get_or}
use lib.Dec.{eqb}
use borrow.Author.Tests.{eqb-true}
use Rattle.lists.specs.Pick.{pick}
use Rattle.jkf.specs.Model.{Line, Record}
use Rattle.jkf.specs.Attaching.{near, on_hang, all, first, hung_from, Play, starts, counts, parent_in, attach, all_hung}
use Rattle.jkf.specs.inner.Climbing.{NoEqual}
use Rattle.jkf.proofs.Nears.{Hangs, hangs-on}
use Rattle.jkf.proofs.OneTwo.{Found, found_says, near-kept, kept_near, still_found, two_found}
use Rattle.block.specs.Formed.{line_of}
use Rattle.block.proofs.Attached.{attach-length, attach-line, parent-first, parent-later}
use Rattle.edit.specs.Edit.{plays_in, hung_afresh, fresh}
use Rattle.edit.specs.inner.Splicing.{relined}
use Rattle.edit.proofs.Listing.{starts_in, counts_in, parents_in, LinesAs, SingleIn, BranchedIn, none, as_branched, plays-at, plays-long, plays-start, plays-count}

-- lines that hang each are lines that all hang
pub hung_all : (f c : ℕ → ℕ) (n k : ℕ) → ((j : ℕ) → k ≤ j → j < k + n → Hangs f c j) → hung_from f c k n ≡ all
unfolding hung_from
hung_all f c zero k h = refl
hung_all f c (suc n) k h =
    ap (λ (r : Option (ℕ × ℕ)). on_hang r (λ p e. hung_from f c (k + 1) n) (first k (f k))) (hangs-on f c k (h k (omega arith) (omega arith)))
    ∙ hung_all f c n (k + 1) (λ j a b. h j (omega arith) (omega arith))

module _ (ls : List Line) where
  abbrev ps : List Play
  ps = plays_in ls

  -- a line that hangs, hangs without its parent too
  plays-hang : (k : ℕ) → Hangs (starts_in ls) (counts_in ls) k → Hangs (starts ps) (counts ps) k
  plays-hang k h =
      subst (λ (f : ℕ → ℕ). Hangs f (counts ps) k) (sym (plays-start ls)) (subst (λ (f : ℕ → ℕ). Hangs (starts_in ls) f k) (sym (plays-count ls)) h)

  -- and its parent is the line that is found
  pub parent-found : (k : ℕ) → Hangs (starts_in ls) (counts_in ls) k → parent_in ps k ≡ near (starts_in ls) (starts_in ls k) k
  parent-found k h = parent-later ps k (plays-hang k h) ∙ ap (λ (f : ℕ → ℕ). near f (f k) k) (plays-start ls)

  -- line k hung afresh
  again : (k : ℕ) → k < length ls → line_of (attach ps) k ≡ record { start = starts_in ls k; parent = parent_in ps k; entries = (line_of ls k).entries }
  again k h =
      attach-line ps k (omega (arith, plays-long ls))
      ∙ ap (λ (p : Play). record { start = p.start; parent = parent_in ps k; entries = p.entries }) (plays-at ls k)

  -- the same parents are the same lines
  same_lines : ((k : ℕ) → k < length ls → parent_in ps k ≡ parents_in ls k) → attach ps ≡ ls
  same_lines f =
      ext_get_or none (attach ps) ls (attach-length ps ∙ plays-long ls)
      (λ k h.
      let l : k < length ls = omega (arith, attach-length ps, plays-long ls) in
      again k l ∙ ap (λ (p : ℕ). record { start = starts_in ls k; parent = p; entries = (line_of ls k).entries }) (f k l))

  -- a line that hangs where the search finds it has its parent again
  found-parent : Found (starts_in ls) (counts_in ls) (parents_in ls) (length ls) → (k : ℕ) → k < length ls → parent_in ps k ≡ parents_in ls k
  found-parent w k l = go (dec_lt 0 k)
    where
      go : Dec (0 < k) → parent_in ps k ≡ parents_in ls k
      go (yes z) = parent-found k (w.hangs k z l) ∙ sym (w.near k z l)
      go (no z) =
          let e : 0 ≡ k = omega arith in
          subst (λ (q : ℕ). parent_in ps q ≡ parents_in ls q) e (parent-first ps ∙ sym w.root)

  module _ (some : 0 < length ls) where
    pub parents_1 : LinesAs 1 ls → (k : ℕ) → k < length ls → parent_in ps k ≡ parents_in ls k
    parents_1 s = found-parent (found_says (starts_in ls) (counts_in ls) (parents_in ls) (length ls) some s)

    pub attach_1 : LinesAs 1 ls → attach ps ≡ ls
    attach_1 s = same_lines (parents_1 s)

    pub afresh_same : (v : ℕ) → LinesAs v ls → hung_afresh v ls ≡ ls
    afresh_same v s = go (eqb v 1) (λ e. attach_1 (subst (λ (x : ℕ). LinesAs x ls) (eqb-true v 1 e) s))
      where
        go : (one : Bool) → (one ≡ true → attach ps ≡ ls) → pick one (attach ps) ls ≡ ls
        go true f = f refl
        go false f = refl

    pub fresh-same : (r : Record) → LinesAs r.version ls → fresh r ls ≡ relined r.version r ls
    unfolding fresh relined
    fresh-same r s =
        ap (λ (x : List Line). record { version = r.version; headers = r.headers; position = r.position; lines = x }) (afresh_same r.version s)

    -- every line has an entry
    module _ (v : ℕ) (s : LinesAs v ls) (full : (k : ℕ) → k < length ls → 1 ≤ counts_in ls k) where
      g : BranchedIn ls
      g = as_branched v ls some s

      hang : (k : ℕ) → 0 < k → k < length ls → Hangs (starts_in ls) (counts_in ls) k
      hang = still_found (starts_in ls) (counts_in ls) (parents_in ls) g full

      pub back_nests : all_hung ps ≡ all
      unfolding all_hung
      back_nests = hung_all (starts ps) (counts ps) (length ps - 1) 1 (λ j a b. plays-hang j (hang j a (omega (arith, plays-long ls))))

      pub back_parent : (k : ℕ) → 0 < k → k < length ls → (parent_in ps k ≡ parents_in ls k) ↔ NoEqual (starts_in ls) (parents_in ls) k
      back_parent k z l =
          let e = parent-found k (hang k z l) in (
            λ q. kept_near (starts_in ls) (counts_in ls) (parents_in ls) g k z l (sym e ∙ q),
            λ f. e ∙ near-kept (starts_in ls) (counts_in ls) (parents_in ls) g k z l f,
          )

      pub back_2 : SingleIn ls ↔ (attach ps ≡ ls)
      back_2 = (there, back)
        where
          there : SingleIn ls → attach ps ≡ ls
          there single = same_lines (found-parent (two_found (starts_in ls) (counts_in ls) (parents_in ls) g single))

          back : attach ps ≡ ls → SingleIn ls
          back q i k z l h =
              let p : parent_in ps k ≡ parents_in ls k =
              ap (λ (x : Line). x.parent) (sym (again k h)) ∙ ap (λ (xs : List Line). parents_in xs k) q in
              (back_parent k (omega arith) h).0 p i z l
