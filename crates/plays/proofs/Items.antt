-- Comments, entries and skip lines one after the other: each goes on past its place, so the first and the rest are read as one after the other.
-- Assumes nothing.
use Rattle.std.specs.Prelude.{Option, Some, None}
use Prim.Native.Nat.{ℕ, ◌-◌, ◌≤◌, ◌<◌, max}
use native.Mathlib.Omega.{arith}
use mathlib.Core.Path.{◌≡◌, refl, ap}
use mathlib.Core.List.{List, [], ◌∷◌}
use lib.ListN.{length, take, drop}
use Rattle.lists.specs.Repeat.{Step, more, stop, Ended, ended, on_step}
use Rattle.lists.proofs.Repeats.{ItemGoes, many_more, many_stop, many-from, many_within}
use Rattle.text.specs.Text.{on_place}
use Rattle.text.specs.declared.Cursor.{Cursor}
use Rattle.jkf.specs.declared.Entry.{Entry}
use Rattle.moves.specs.Moves.{on_remark, on_move_line, move_line_at, comment_line_at, skip_line_at}
use Rattle.moves.specs.declared.Remark.{Remark}
use Rattle.moves.specs.declared.MoveLine.{MoveLine}
use Rattle.moves.proofs.Goings.{move_goes, skip_goes, remark_goes}
use Rattle.jkf.specs.Model.{Noted}
use Rattle.plays.specs.Plays.{noted, comment_item, comments_at, line_item, entry_item, entries_at, number_item, numbers_at, skipped_at, skip_item, skips_at}

-- where an item goes on, and with what
pub on_both : {A : Type 0} {p q : ℕ} {a b : A} → more p a ≡ more q b → (p ≡ q) × (a ≡ b)
on_both {A} {p} {q} {a} {b} e = (ap (λ (x : Step A). on_step x (λ n c. n) p) e, ap (λ (x : Step A). on_step x (λ n c. c) a) e)

pub on-more : {A : Type 0} {p q : ℕ} {a b : A} → more p a ≡ more q b → p ≡ q
on-more e = (on_both e).0

pub no_more : {A B : Type 0} {q : ℕ} {b : B} → stop ≡ more q b → A
no_more e = let z : ◌≡◌ {A = ℕ} 0 1 = ap (λ (x : Step _). on_step x (λ n a. 1) 0) e in absurd (omega arith)

module _ (s : List ℕ) where
  -- ---- comments

  abbrev pub text_of : Cursor → Cursor → List ℕ
  text_of from to = take (to.at - from.at) (drop from.at s)

  pub comment_goes : ItemGoes (comment_item s) (length s)
  unfolding comment_item
  comment_goes at next a = go (comment_line_at s at) refl
    where
      go : (r : Option Remark) → comment_line_at s at ≡ r → on_remark r (λ from to n. more n.at (text_of from to)) stop ≡ more next a → (at < next) × (next ≤ length s)
      go (Some r) q e =
          let h = remark_goes s at r.from r.to r.next q in
          let k = on-more e in
          (omega (arith, k, h.0, h.1, h.2), omega (arith, k, h.3))
      go None q e = no_more e

  pub comments-more : (at : ℕ) (from to next : Cursor) → comment_line_at s at ≡ Some (record { from = from; to = to; next = next })
      → comments_at s at ≡ ended (comments_at s next.at).at (text_of from to ∷ (comments_at s next.at).state)
  unfolding comments_at comment_item
  comments-more at from to next q = many_more (comment_item s) (length s) comment_goes at next.at (text_of from to) (rw q)

  pub comments-none : (at : ℕ) → comment_line_at s at ≡ None → comments_at s at ≡ ended at []
  unfolding comments_at comment_item
  comments-none at q = many_stop (comment_item s) (length s) at (rw q)

  pub comments-from : (at : ℕ) → at ≤ (comments_at s at).at
  unfolding comments_at
  comments-from at = many-from (comment_item s) (length s) comment_goes (length s) at

  pub comments-within : (at : ℕ) → at ≤ length s → (comments_at s at).at ≤ length s
  unfolding comments_at
  comments-within at h = omega (arith, many_within (comment_item s) (length s) comment_goes (length s) at)

  -- ---- entries

  pub line_goes : {A : Type 0} (f : ℕ → Noted → A) → ItemGoes (line_item f s) (length s)
  line_goes f at next a = go (move_line_at s at) refl
    where
      go : (r : Option MoveLine) → move_line_at s at ≡ r
          → on_move_line r (λ n e c. more (comments_at s c.at).at (f n (noted e (comments_at s c.at).state))) stop ≡ more next a → (at < next) × (next ≤ length s)
      go (Some r) q e =
          let h = move_goes s at r.number r.entry r.next q in
          let k = on-more e in
          (omega (arith, k, h.past, comments-from r.next.at), omega (arith, k, comments-within r.next.at h.within))
      go None q e = no_more e

  pub entry_goes : ItemGoes (entry_item s) (length s)
  unfolding entry_item
  entry_goes = line_goes (λ n e. e)

  pub entries-more : (at n : ℕ) (e : Entry) (c : Cursor) → move_line_at s at ≡ Some (record { number = n; entry = e; next = c })
      → entries_at s at ≡ ended (entries_at s (comments_at s c.at).at).at (noted e (comments_at s c.at).state ∷ (entries_at s (comments_at s c.at).at).state)
  unfolding entries_at entry_item
  entries-more at n e c q = many_more (entry_item s) (length s) entry_goes at (comments_at s c.at).at (noted e (comments_at s c.at).state) (rw q)

  pub entries_none : (at : ℕ) → move_line_at s at ≡ None → entries_at s at ≡ ended at []
  unfolding entries_at entry_item
  entries_none at q = many_stop (entry_item s) (length s) at (rw q)

  pub entries-max : (at : ℕ) → (entries_at s at).at ≤ max at (length s)
  unfolding entries_at
  entries-max at = many_within (entry_item s) (length s) entry_goes (length s) at

  pub entries-within : (at : ℕ) → at ≤ length s → (entries_at s at).at ≤ length s
  entries-within at h = omega (arith, entries-max at)

  -- ---- their numbers

  pub numbers_more : (at n : ℕ) (e : Entry) (c : Cursor) → move_line_at s at ≡ Some (record { number = n; entry = e; next = c }) → numbers_at s at ≡ n ∷ numbers_at s (comments_at s c.at).at
  unfolding numbers_at number_item
  numbers_more at n e c q =
      ap (λ (r : Ended (List ℕ)). r.state) (many_more (number_item s) (length s) (line_goes (λ m x. m)) at (comments_at s c.at).at n (rw q))

  pub numbers_none : (at : ℕ) → move_line_at s at ≡ None → numbers_at s at ≡ []
  unfolding numbers_at number_item
  numbers_none at q = ap (λ (r : Ended (List ℕ)). r.state) (many_stop (number_item s) (length s) at (rw q))

  -- ---- skip lines

  skip_item_goes : ItemGoes (skip_item s) (length s)
  skip_item_goes at next a = go (skip_line_at s at) refl
    where
      go : (r : Option Cursor) → skip_line_at s at ≡ r → on_place r (λ c. more c.at tt) stop ≡ more next a → (at < next) × (next ≤ length s)
      go (Some c) q e =
          let h = skip_goes s at c q in
          let k = on-more e in
          (omega (arith, k, h.past), omega (arith, k, h.within))
      go None q e = no_more e

  pub skips-more : (at : ℕ) (c : Cursor) → skip_line_at s at ≡ Some c → skips_at s at ≡ skips_at s c.at
  unfolding skips_at
  skips-more at c q = ap (λ (r : Ended (List (Unit {0}))). r.at) (many_more (skip_item s) (length s) skip_item_goes at c.at tt (rw q))

  pub skips-none : (at : ℕ) → skip_line_at s at ≡ None → skips_at s at ≡ at
  unfolding skips_at
  skips-none at q = ap (λ (r : Ended (List (Unit {0}))). r.at) (many_stop (skip_item s) (length s) at (rw q))

  pub skips-from : (at : ℕ) → at ≤ skips_at s at
  unfolding skips_at
  skips-from at = many-from (skip_item s) (length s) skip_item_goes (length s) at

  pub skips-within : (at : ℕ) → at ≤ length s → skips_at s at ≤ length s
  unfolding skips_at
  skips-within at h = omega (arith, many_within (skip_item s) (length s) skip_item_goes (length s) at)

  -- ---- one skip line or none

  pub skipped_from : (at : ℕ) → at ≤ skipped_at s at
  unfolding skipped_at
  skipped_from at = go (skip_line_at s at) refl
    where
      go : (r : Option Cursor) → skip_line_at s at ≡ r → at ≤ on_place r (λ c. c.at) at
      go (Some c) q = omega (arith, (skip_goes s at c q).past)
      go None q = omega arith

  pub skipped_within : (at : ℕ) → at ≤ length s → skipped_at s at ≤ length s
  unfolding skipped_at
  skipped_within at h = go (skip_line_at s at) refl
    where
      go : (r : Option Cursor) → skip_line_at s at ≡ r → on_place r (λ c. c.at) at ≤ length s
      go (Some c) q = (skip_goes s at c q).within
      go None q = h
