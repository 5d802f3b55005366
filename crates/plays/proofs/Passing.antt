-- Lines of play passed one after another: line 0 and the variations before line k, all of which hang; the rest is still to be read.
-- Assumes nothing.
use Rattle.std.specs.Prelude.{Some, None}
use Prim.Native.Nat.{ℕ, suc, ◌+◌, ◌-◌, ◌≤◌, ◌<◌}
use native.Mathlib.Omega.{arith}
use mathlib.Core.Path.{◌≡◌, refl, sym, ap, ◌∙◌}
use mathlib.Core.List.{List, [], ◌∷◌}
use lib.ListN.{length, drop, get_or, length-drop}
use lib.Seq.{get_or-drop, drop-drop}
use Rattle.lists.specs.Repeat.{Ended}
use Rattle.jkf.specs.Attaching.{hangs, all, first, hung_from, Play, play, play_of, starts, counts, all_hung}
use Rattle.jkf.proofs.Hangings.{hung_more, hung-lost}
use Rattle.jkf.specs.Model.{Noted}
use Rattle.plays.specs.Plays.{entries_at, ply_at, skipped_at, skips_at, variations_at, slot_at, past_main, plays_at}
use Rattle.plays.proofs.Variations.{variations_more, variations_none}

module _ (s : List ℕ) (at : ℕ) where
  abbrev ps : List Play
  ps = (plays_at s at).state

  -- the lines before line k end at a place
  pub record Passed (k to : ℕ) : Type 0 where
    pub some : 1 ≤ k
    pub few : k ≤ length ps
    pub rest : drop k ps ≡ (variations_at s to).state
    pub end : (plays_at s at).at ≡ (variations_at s to).at
    pub hung : hung_from (starts ps) (counts ps) 1 (k - 1) ≡ all

  pub some-plays : 0 < length ps
  unfolding plays_at
  some-plays = omega arith

  pub passed_main : {to : ℕ} → to ≡ past_main s (slot_at s at).at → Passed 1 to
  passed_main {to} e = record { some = omega arith; few = some-plays; rest = rest_one; end = end-one; hung = none_hung }
    where
      rest_one : drop 1 ps ≡ (variations_at s to).state
      rest_one = unfold plays_at in (ap (λ (n : ℕ). (variations_at s n).state) (sym e))

      end-one : (plays_at s at).at ≡ (variations_at s to).at
      end-one = unfold plays_at in (ap (λ (n : ℕ). (variations_at s n).at) (sym e))

      none_hung : hung_from (starts ps) (counts ps) 1 0 ≡ all
      none_hung = unfold hung_from in refl

  module _ (k to : ℕ) (i : Passed k to) where
    abbrev place : ℕ
    place = skips_at s to

    abbrev es : List Noted
    es = (entries_at s place).state

    -- there is no line more
    module _ (e : length es ≡ 0) where
      pub all_passed : k ≡ length ps
      all_passed =
          let r = i.rest ∙ ap (λ (x : Ended (List Play)). x.state) (variations_none s to e) in
          omega (arith, ap length r, length-drop k ps, i.few)

      pub all-hung : all_hung ps ≡ all
      unfolding all_hung
      all-hung = let z : length ps - 1 ≡ k - 1 = omega (arith, all_passed) in ap (hung_from (starts ps) (counts ps) 1) z ∙ i.hung

      pub all-taken : (plays_at s at).at ≡ to
      all-taken = i.end ∙ ap (λ (x : Ended (List Play)). x.at) (variations_none s to e)

    -- there is one
    module _ (some : length es ≡ 0 → ⊥) where
      more_is : drop k ps ≡ play (ply_at s place) es ∷ (variations_at s (skipped_at s (entries_at s place).at)).state
      more_is = i.rest ∙ ap (λ (x : Ended (List Play)). x.state) (variations_more s to some)

      pub more_left : k < length ps
      more_left = omega (arith, ap length more_is, length-drop k ps)

      pub play_here : play_of ps k ≡ play (ply_at s place) es
      play_here =
          let z : k ≡ k + 0 = omega arith in
          ap (λ (j : ℕ). get_or ps j (play 0 [])) z ∙ sym (get_or-drop k ps 0 (play 0 [])) ∙ ap (λ (l : List Play). get_or l 0 (play 0 [])) more_is

      pub start_here : starts ps k ≡ ply_at s place
      start_here = ap (λ (p : Play). p.start) play_here

      before_k : 1 + (k - 1) ≡ k
      before_k = omega (arith, i.some)

      -- it hangs on nothing
      pub next-loose : hangs (starts ps) (counts ps) (starts ps k) k ≡ None → all_hung ps ≡ first k (ply_at s place)
      unfolding all_hung
      next-loose h =
          let n : length ps - 1 ≡ k - 1 + suc (length ps - 1 - k) = omega (arith, more_left, i.some) in
          ap (hung_from (starts ps) (counts ps) 1) n
          ∙ hung-lost (starts ps) (counts ps) (k - 1) 1 (length ps - 1 - k) i.hung (ap (λ (j : ℕ). hangs (starts ps) (counts ps) (starts ps j) j) before_k ∙ h)
          ∙ ap (λ (j : ℕ). first j (starts ps j)) before_k ∙ ap (first k) start_here

      -- it hangs, and is passed
      pub next_passed : {p e to₁ : ℕ} → hangs (starts ps) (counts ps) (starts ps k) k ≡ Some (p, e) → to₁ ≡ skipped_at s (entries_at s place).at → Passed (k + 1) to₁
      next_passed {p} {e} {to₁} h onward =
          let k₁ : k + 1 - 1 ≡ k - 1 + 1 = omega (arith, i.some) in
          record {
            some = omega arith;
            few = omega (arith, more_left);
            rest = sym (drop-drop 1 k ps) ∙ ap (drop 1) more_is ∙ ap (λ (j : ℕ). (variations_at s j).state) (sym onward);
            end = i.end ∙ ap (λ (g : Ended (List Play)). g.at) (variations_more s to some) ∙ ap (λ (j : ℕ). (variations_at s j).at) (sym onward);
            hung =
                ap (hung_from (starts ps) (counts ps) 1) k₁
                ∙ hung_more (starts ps) (counts ps) (k - 1) 1 p e i.hung (ap (λ (j : ℕ). hangs (starts ps) (counts ps) (starts ps j) j) before_k ∙ h);
          }
