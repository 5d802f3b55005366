-- What the text of a variation comes to: numbers of 16 bits do for its entries and their comments; and its tests, made of what was counted
-- number by number, are those of the definition.
-- Assumes nothing.
use Prim.Native.Nat.{ℕ, ◌≤◌, ◌<◌}
use native.Mathlib.Omega.{arith}
use mathlib.Core.Path.{◌≡◌, sym, ap, ◌∙◌}
use mathlib.Core.List.{List}
use mathlib.Core.Bool.{true, false}
use lib.ListN.{length}
use lib.Dec.{eqb, ltb}
use borrow.Author.Tests.{le-ltb, eq-eqb, ne_eqb, ltb-false, eqb-true, eqb-false}
use Rattle.lists.specs.Pick.{pick}
use Rattle.lists.specs.Repeat.{Ended}
use Rattle.lists.proofs.Laws.{by_pick, pick-none, pick_both}
use Rattle.text.specs.Utf8.{well_formed_bytes}
use Rattle.jkf.specs.Model.{Noted}
use Rattle.block.specs.Encode.{comments_of, comment_text}
use Rattle.plays.specs.Plays.{entries_at, numbers_at, in_sequence, ply_at}
use Rattle.plays.proofs.Items.{entries-within}
use Rattle.plays.proofs.Weights.{entries-short}
use Rattle.plays.proofs.Sequences.{sequence_all, sequence_whole}
use Rattle.edit.specs.Edit.{is_numbered, is_variation}
use Rattle.edit.specs.inner.Splicing.{numbered_in}

-- what is read takes at least as many bytes as it counts
pub text-small : (t : List ℕ) → length t ≤ 65535
    → (length (entries_at t 0).state ≤ 65535)
    × (length (comments_of (entries_at t 0).state) ≤ 65535)
    × (length (comment_text (comments_of (entries_at t 0).state)) ≤ 65535)
text-small t h =
    let a = entries-short t 0 in
    let b = entries-within t 0 (omega arith) in
    (omega arith, omega arith, omega arith)

-- ---- its numbers

module _ (t : List ℕ) where
  abbrev es : List Noted
  es = (entries_at t 0).state

  -- it is not too long, has an entry, its numbers go up by one, and it is UTF-8
  pub record Variation : Type 0 where
    pub short : length t ≤ 65535
    pub some : length es ≡ 0 → ⊥
    pub end : (entries_at t 0).at ≡ length t
    pub numbered : in_sequence (ply_at t 0) (numbers_at t 0) ≡ length es
    pub formed : well_formed_bytes t ≡ length t

  pub variation_says : is_variation t ≡ true → Variation
  unfolding is_variation
  variation_says h =
      let last = eqb (well_formed_bytes t) (length t) in
      let end = pick (eqb (entries_at t 0).at (length t)) (pick (is_numbered t) last false) false in
      let (a, r) = pick-none (ltb 65535 (length t)) (pick (eqb (length es) 0) false end) h in
      let (b, r') = pick-none (eqb (length es) 0) end r in
      let (e, r'') = pick_both (eqb (entries_at t 0).at (length t)) (pick (is_numbered t) last false) r' in
      let (n, w) = pick_both (is_numbered t) last r'' in
      record { short = ltb-false _ _ a; some = eqb-false _ _ b; end = eqb-true _ _ e; numbered = eqb-true _ _ n; formed = eqb-true _ _ w }

  -- so what is counted number by number is the line of play
  pub numbered-all : is_variation t ≡ true → numbered_in t ≡ entries_at t 0
  numbered-all h = sequence_all t (ply_at t 0) 0 (variation_says h).numbered

  -- ---- the tests of what was counted are those of the definition

  is_none : (is_variation t ≡ true → ⊥) → is_variation t ≡ false
  is_none h = by_pick (λ (u : Unit {0}). is_variation t ≡ false) (is_variation t) tt tt (λ e. absurd (h e)) (λ e. e)

  pub too_long : 65535 < length t → is_variation t ≡ false
  too_long h = is_none (λ e. omega (arith, h, (variation_says e).short))

  pub none-numbered : length (numbered_in t).state ≡ 0 → is_variation t ≡ false
  none-numbered z = is_none (λ e. (variation_says e).some (sym (ap (λ (r : Ended (List Noted)). length r.state) (numbered-all e)) ∙ z))

  pub part_numbered : ((numbered_in t).at ≡ length t → ⊥) → is_variation t ≡ false
  part_numbered z = is_none (λ e. z (ap (λ (r : Ended (List Noted)). r.at) (numbered-all e) ∙ (variation_says e).end))

  pub all-numbered : length t ≤ 65535 → (length (numbered_in t).state ≡ 0 → ⊥) → (numbered_in t).at ≡ length t
      → is_variation t ≡ eqb (well_formed_bytes t) (length t)
  unfolding is_variation
  all-numbered short some end =
      let n = sequence_whole t (ply_at t 0) 0 end in
      let all = sequence_all t (ply_at t 0) 0 n in
      let s : length es ≡ 0 → ⊥ = λ z. some (ap (λ (r : Ended (List Noted)). length r.state) all ∙ z) in
      let e : (entries_at t 0).at ≡ length t = sym (ap (λ (r : Ended (List Noted)). r.at) all) ∙ end in
      rw (le-ltb 65535 (length t) short, ne_eqb (length es) 0 s, eq-eqb (entries_at t 0).at (length t) e, eq-eqb _ _ n)
