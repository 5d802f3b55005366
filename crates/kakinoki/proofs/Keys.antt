-- Laws of keys: where one ends, and how it goes on.
-- Assumes nothing.
use Prim.Native.Nat.{ℕ, ◌+◌, ◌≤◌, ◌<◌}
use native.Mathlib.Omega.{arith}
use mathlib.Core.Path.{◌≡◌, refl, ap, sym, ◌∙◌}
use mathlib.Core.List.{List, [], ◌∷◌}
use mathlib.Core.Bool.{true, false, true≢false}
use lib.ListN.{length, get_or, drop, length-drop, drop_of_length-le}
use borrow.Author.Tests.{ne_eqb}
use Rattle.lists.proofs.Laws.{drop_step}
use Rattle.text.specs.Text.{prefix_from, stands_at, wide_colon, ends_key, key_from, key_at}

module _ (s : List ℕ) (at : ℕ) where
  pub ends-past : length s ≤ at → ends_key (drop at s) ≡ true
  ends-past h = rw drop_of_length-le

  pub ends_lf : at < length s → get_or s at 0 ≡ 10 → ends_key (drop at s) ≡ true
  ends_lf h e = rw (drop_step s at h, e)

  pub ends_cr : at < length s → get_or s at 0 ≡ 13 → ends_key (drop at s) ≡ true
  ends_cr h e = rw (drop_step s at h, e)

  pub ends-colon : at < length s → (get_or s at 0 ≡ 10 → ⊥) → (get_or s at 0 ≡ 13 → ⊥) → ends_key (drop at s) ≡ stands_at wide_colon s at
  unfolding stands_at
  ends-colon h e f = rw (drop_step s at h, ne_eqb _ _ e, ne_eqb _ _ f)

  pub ends_not : at < length s → 13 < get_or s at 0 → get_or s at 0 < 239 → ends_key (drop at s) ≡ false
  unfolding prefix_from
  ends_not h e f = rw (drop_step s at h, ne_eqb (get_or s at 0) 10 (λ k. omega arith), ne_eqb (get_or s at 0) 13 (λ k. omega arith), ne_eqb (get_or s at 0) 239 (λ k. omega arith))

  -- a key ends here: none begins here
  pub key-none : ends_key (drop at s) ≡ true → key_at s at ≡ []
  unfolding key_at key_from
  key-none e = go (drop at s) e
    where
      go : (l : List ℕ) → ends_key l ≡ true → key_from l ≡ []
      go [] e = refl
      go (b ∷ l) e = rw e

  -- none ends here: the text goes on, and the key with it
  pub key_in : ends_key (drop at s) ≡ false → at < length s
  key_in e = omega (arith, go (drop at s) e, length-drop at s)
    where
      go : (l : List ℕ) → ends_key l ≡ false → 0 < length l
      go [] e = absurd (true≢false e)
      go (b ∷ l) e = omega arith

  pub key_more : ends_key (drop at s) ≡ false → key_at s at ≡ get_or s at 0 ∷ key_at s (at + 1)
  unfolding key_at key_from
  key_more e =
      let d = drop_step s at (key_in e) in
      let t : ends_key (get_or s at 0 ∷ drop (at + 1) s) ≡ false = ap ends_key (sym d) ∙ e in
      rw (d, t)
