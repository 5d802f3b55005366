-- Lines of play one after the other: each goes on past its place, and takes at least as many bytes as it counts.
-- Assumes nothing.
use Prim.Native.Nat.{ℕ, ◌+◌, ◌≤◌, ◌<◌}
use native.Mathlib.Omega.{arith}
use mathlib.Core.Path.{◌≡◌, refl, sym, ap, ◌∙◌}
use mathlib.Core.List.{List, [], ◌∷◌, ◌++◌}
use mathlib.Core.Bool.{Bool, true, false}
use lib.ListN.{length, length-append}
use lib.Dec.{eqb}
use borrow.Author.Tests.{eqb-false, eqb-true, eq-eqb, ne_eqb}
use Rattle.lists.specs.Pick.{pick}
use Rattle.lists.proofs.Laws.{by_pick}
use Rattle.lists.specs.Repeat.{Step, more, stop, Ended, ended, on_step, many_from}
use Rattle.lists.proofs.Repeats.{ItemGoes, many_more, many_stop, many_within}
use Rattle.jkf.specs.Model.{Noted}
use Rattle.jkf.specs.Attaching.{Play, play}
use Rattle.block.specs.Encode.{concat, comments_of, comment_text}
use Rattle.block.proofs.Tabling.{concat-append}
use Rattle.plays.specs.Plays.{entries_at, ply_at, skipped_at, skips_at, play_item, variation_item, variations_at, past_main}
use Rattle.plays.specs.Losses.{sum_of, lost_from, variation_loss, variations_lost}
use Rattle.plays.specs.inner.Entries.{play_entries}
use Rattle.plays.proofs.Items.{on_both, no_more, entries-max, entries-within, skips-from, skipped_from, skipped_within}
use Rattle.plays.proofs.Weights.{weight, many_weighs, entries-short}
use Rattle.plays.proofs.Losing.{sum_weighs, losses_short}

-- the entries of a line of play, their comments and the bytes of these
abbrev pub tally : List Noted → ℕ
tally es = length es + (length (comments_of es) + length (comment_text (comments_of es)))

pub tally_append : (xs ys : List Noted) → tally (xs ++ ys) ≡ tally xs + tally ys
tally_append xs ys =
    omega (
      arith,
      length-append xs ys,
      ap length (concat-append (λ e. e.comments) xs ys),
      length-append (comments_of xs) (comments_of ys),
      ap (λ (cs : List (List ℕ)). length (comment_text cs)) (concat-append (λ e. e.comments) xs ys),
      ap length (concat-append (λ c. c) (comments_of xs) (comments_of ys)),
      length-append (comment_text (comments_of xs)) (comment_text (comments_of ys)),
    )

plays_tally : (ps : List Play) → weight (λ p. tally p.entries) ps ≡ tally (play_entries ps)
unfolding weight concat
plays_tally [] = refl
plays_tally (p ∷ ps) = omega (arith, plays_tally ps, tally_append p.entries (play_entries ps))

plays-number : (ps : List Play) → weight (λ p. 1) ps ≡ length ps
unfolding weight
plays-number [] = refl
plays-number (p ∷ ps) = omega (arith, plays-number ps)

module _ (s : List ℕ) where
  -- ---- one line

  -- a line that is there
  pub record There (at : ℕ) : Type 0 where
    pub some : 0 < length (entries_at s at).state
    pub past : at < skipped_at s (entries_at s at).at
    pub takes : at + tally (entries_at s at).state ≤ skipped_at s (entries_at s at).at

  pub line_there : (at : ℕ) → (length (entries_at s at).state ≡ 0 → ⊥) → There at
  line_there at h =
      let b = entries-short s at in
      let k = skipped_from s (entries_at s at).at in
      let n : 0 < length (entries_at s at).state = omega arith in
      record { some = n; past = omega (arith, b, k, n); takes = omega (arith, b, k) }

  pub line-within : (at : ℕ) → at ≤ length s → skipped_at s (entries_at s at).at ≤ length s
  line-within at h = skipped_within s (entries_at s at).at (entries-within s at h)

  pub play_is : (at : ℕ) → (length (entries_at s at).state ≡ 0 → ⊥) → play_item s at ≡ more (skipped_at s (entries_at s at).at) (play (ply_at s at) (entries_at s at).state)
  unfolding play_item
  play_is at h = rw (ne_eqb (length (entries_at s at).state) 0 h)

  pub play-none : (at : ℕ) → length (entries_at s at).state ≡ 0 → play_item s at ≡ stop
  unfolding play_item
  play-none at h = rw (eq-eqb (length (entries_at s at).state) 0 h)

  play_back : (at next : ℕ) (p : Play) → play_item s at ≡ more next p
      → (length (entries_at s at).state ≡ 0 → ⊥) × (skipped_at s (entries_at s at).at ≡ next) × (play (ply_at s at) (entries_at s at).state ≡ p)
  play_back at next p e = go (eqb (length (entries_at s at).state) 0) refl
    where
      go : (t : Bool) → eqb (length (entries_at s at).state) 0 ≡ t
          → (length (entries_at s at).state ≡ 0 → ⊥) × (skipped_at s (entries_at s at).at ≡ next) × (play (ply_at s at) (entries_at s at).state ≡ p)
      go true q = no_more (sym (play-none at (eqb-true _ 0 q)) ∙ e)
      go false q =
          let h = eqb-false (length (entries_at s at).state) 0 q in
          let b = on_both (sym (play_is at h) ∙ e) in
          (h, b.0, b.1)

  -- ---- variations

  variation_goes : ItemGoes (variation_item s) (length s)
  unfolding variation_item
  variation_goes at next p e =
      let (h, q, _) = play_back (skips_at s at) next p e in
      let t = line_there (skips_at s at) h in
      (omega (arith, skips-from s at, t.past, q), omega (arith, q, within (skips_at s at) h))
    where
      within : (a : ℕ) → (length (entries_at s a).state ≡ 0 → ⊥) → skipped_at s (entries_at s a).at ≤ length s
      within a h =
          let b = entries-short s a in
          skipped_within s (entries_at s a).at (omega (arith, b, entries-max s a, (line_there a h).some))

  -- a variation that is there is passed
  pub variation_past : (at : ℕ) → (length (entries_at s (skips_at s at)).state ≡ 0 → ⊥)
      → (at < skipped_at s (entries_at s (skips_at s at)).at) × (skipped_at s (entries_at s (skips_at s at)).at ≤ length s)
  unfolding variation_item
  variation_past at h =
      variation_goes at (skipped_at s (entries_at s (skips_at s at)).at) (play (ply_at s (skips_at s at)) (entries_at s (skips_at s at)).state) (play_is (skips_at s at) h)

  pub variations_more : (at : ℕ) → (length (entries_at s (skips_at s at)).state ≡ 0 → ⊥)
      → variations_at s at
      ≡ ended (variations_at s (skipped_at s (entries_at s (skips_at s at)).at)).at
      (play (ply_at s (skips_at s at)) (entries_at s (skips_at s at)).state ∷ (variations_at s (skipped_at s (entries_at s (skips_at s at)).at)).state)
  unfolding variations_at variation_item
  variations_more at h =
      many_more (variation_item s) (length s) variation_goes at (skipped_at s (entries_at s (skips_at s at)).at)
      (play (ply_at s (skips_at s at)) (entries_at s (skips_at s at)).state) (play_is (skips_at s at) h)

  pub variations_none : (at : ℕ) → length (entries_at s (skips_at s at)).state ≡ 0 → variations_at s at ≡ ended at []
  unfolding variations_at variation_item
  variations_none at h = many_stop (variation_item s) (length s) at (play-none (skips_at s at) h)

  variation_takes : (at next : ℕ) (p : Play) → variation_item s at ≡ more next p → at + tally p.entries ≤ next
  unfolding variation_item
  variation_takes at next p e =
      let (h, q, r) = play_back (skips_at s at) next p e in
      omega (arith, skips-from s at, (line_there (skips_at s at) h).takes, q, ap (λ (x : Play). tally x.entries) r)

  variation_counts : (at next : ℕ) (p : Play) → variation_item s at ≡ more next p → at + 1 ≤ next
  variation_counts at next p e = omega (arith, (variation_goes at next p e).0)

  pub variations_short : (at : ℕ) → at + tally (play_entries (variations_at s at).state) ≤ (variations_at s at).at
  unfolding variations_at
  variations_short at =
      omega (arith, many_weighs (variation_item s) (λ p. tally p.entries) variation_takes (length s) at, plays_tally (many_from (variation_item s) (length s) at).state)

  pub variations_few : (at : ℕ) → at + length (variations_at s at).state ≤ (variations_at s at).at
  unfolding variations_at
  variations_few at =
      omega (arith, many_weighs (variation_item s) (λ p. 1) variation_counts (length s) at, plays-number (many_from (variation_item s) (length s) at).state)

  pub variations_within : (at : ℕ) → at ≤ length s → (variations_at s at).at ≤ length s
  unfolding variations_at
  variations_within at h = omega (arith, many_within (variation_item s) (length s) variation_goes (length s) at)

  -- ---- what is said of each

  -- a variation, and what f says at its place
  abbrev pub said : {A : Type 0} → (ℕ → A) → ℕ → Step A
  said f at = on_step (variation_item s at) (λ next v. more next (f at)) stop

  -- it goes on past its place
  pub said_goes : {A : Type 0} (f : ℕ → A) → ItemGoes (said f) (length s)
  said_goes f at next a = go (variation_item s at) refl
    where
      go : (r : Step Play) → variation_item s at ≡ r → on_step r (λ n v. more n (f at)) stop ≡ more next a → (at < next) × (next ≤ length s)
      go (more n p) q e =
          let g = variation_goes at n p q in
          let k = (on_both e).0 in
          (omega (arith, g.0, k), omega (arith, g.1, k))
      go stop q e = no_more e

  -- what is said of one, and of those after it
  pub said_more : {A : Type 0} (f : ℕ → A) (at : ℕ) → (length (entries_at s (skips_at s at)).state ≡ 0 → ⊥)
      → many_from (said f) (length s) at
      ≡ ended (many_from (said f) (length s) (skipped_at s (entries_at s (skips_at s at)).at)).at
      (f at ∷ (many_from (said f) (length s) (skipped_at s (entries_at s (skips_at s at)).at)).state)
  unfolding variation_item
  said_more f at h = many_more (said f) (length s) (said_goes f) at (skipped_at s (entries_at s (skips_at s at)).at) (f at) (rw (play_is (skips_at s at) h))

  -- nothing is said where none comes
  pub said-none : {A : Type 0} (f : ℕ → A) (at : ℕ) → length (entries_at s (skips_at s at)).state ≡ 0 → many_from (said f) (length s) at ≡ ended at []
  unfolding variation_item
  said-none f at h = many_stop (said f) (length s) at (rw (play-none (skips_at s at) h))

  -- ---- the times that they lost

  -- those of one
  abbrev lost_at : ℕ → ℕ
  lost_at at = lost_from s (skips_at s at)

  loss_takes : (at next a : ℕ) → variation_loss s at ≡ more next a → at + a ≤ next
  unfolding variation_loss variation_item
  loss_takes at next a = go (play_item s (skips_at s at)) refl
    where
      go : (r : Step Play) → play_item s (skips_at s at) ≡ r → on_step r (λ n v. more n (lost_from s (skips_at s at))) stop ≡ more next a → at + a ≤ next
      go (more n p) q e =
          let b = on_both e in
          let k = (play_back (skips_at s at) n p q).1 in
          omega (arith, b.0, b.1, k, skips-from s at, losses_short s (skips_at s at), skipped_from s (entries_at s (skips_at s at)).at)
      go stop q e = no_more e

  pub lost_more : (at : ℕ) → (length (entries_at s (skips_at s at)).state ≡ 0 → ⊥)
      → variations_lost s at ≡ lost_from s (skips_at s at) + variations_lost s (skipped_at s (entries_at s (skips_at s at)).at)
  unfolding variations_lost variation_loss sum_of
  lost_more at h = ap (λ (r : Ended (List ℕ)). sum_of r.state) (said_more lost_at at h)

  pub lost_none : (at : ℕ) → length (entries_at s (skips_at s at)).state ≡ 0 → variations_lost s at ≡ 0
  unfolding variations_lost variation_loss sum_of
  lost_none at h = ap (λ (r : Ended (List ℕ)). sum_of r.state) (said-none lost_at at h)

  pub lost_few : (at : ℕ) → variations_lost s at ≤ length s
  unfolding variations_lost variation_loss
  lost_few at =
      omega (arith, many_weighs (variation_loss s) (λ n. n) loss_takes (length s) at, sum_weighs (many_from (variation_loss s) (length s) at).state, many_within (said lost_at) (length s) (said_goes lost_at) (length s) at)

  -- ---- the main line

  no_tally : (es : List Noted) → length es ≡ 0 → tally es ≡ 0
  unfolding concat
  no_tally [] h = refl
  no_tally (e ∷ es) h = absurd (omega arith)

  pub main_is : (at : ℕ) → (length (entries_at s at).state ≡ 0 → ⊥) → past_main s at ≡ skipped_at s (entries_at s at).at
  main_is at h = ap (λ (x : Step Play). on_step x (λ next p. next) at) (play_is at h)

  pub main_none : (at : ℕ) → length (entries_at s at).state ≡ 0 → past_main s at ≡ at
  main_none at h = ap (λ (x : Step Play). on_step x (λ next p. next) at) (play-none at h)

  -- past it, by how many entries it has and where these end
  pub main_past : (at : ℕ) {n e : ℕ} → n ≡ length (entries_at s at).state → e ≡ (entries_at s at).at → pick (eqb n 0) at (skipped_at s e) ≡ past_main s at
  main_past at {n} {e} p q =
      by_pick (λ (k : ℕ). k ≡ past_main s at) (eqb n 0) at (skipped_at s e) (λ z. sym (main_none at (sym p ∙ eqb-true n 0 z)))
      (λ z. ap (skipped_at s) q ∙ sym (main_is at (λ y. eqb-false n 0 z (p ∙ y))))

  pub main_short : (at : ℕ) → (at + tally (entries_at s at).state ≤ past_main s at) × (at ≤ length s → past_main s at ≤ length s)
  main_short at = go (eqb (length (entries_at s at).state) 0) refl
    where
      go : (t : Bool) → eqb (length (entries_at s at).state) 0 ≡ t
          → (at + tally (entries_at s at).state ≤ past_main s at) × (at ≤ length s → past_main s at ≤ length s)
      go true q =
          let h : length (entries_at s at).state ≡ 0 = eqb-true _ 0 q in
          let e = main_none at h in
          (omega (arith, e, no_tally (entries_at s at).state h), λ l. omega (arith, e))
      go false q =
          let h = eqb-false (length (entries_at s at).state) 0 q in
          let e = main_is at h in
          (omega (arith, e, (line_there at h).takes), λ l. omega (arith, e, line-within at l))
