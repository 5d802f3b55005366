-- Texts one after the other over the numbers below n: one more at a time, the room for the next, and how long they are together.
-- Assumes nothing.
use Prim.Native.Nat.{ℕ, zero, suc, ◌+◌, ◌*◌, ◌-◌, ◌≤◌, ◌<◌}
use native.Mathlib.Nat.{suc-mul}
use native.Mathlib.Numerals.{add-one}
use native.Mathlib.Omega.{arith}
use mathlib.Core.Path.{◌≡◌, refl, sym, ap, ◌∙◌}
use mathlib.Core.List.{List, [], ◌++◌}
use lib.ListN.{length, length-append}
use borrow.Rule.Slice.PartMut.{mid_of, put_mid}
use Rattle.lent.specs.Bytes.{Wrote}
use Rattle.lent.proofs.Writes.{as_text, nothing, then}
use Rattle.block.specs.Encode.{concat}
use Rattle.block.specs.Decode.{run}
use Rattle.block.proofs.Tabling.{run_snoc, run-add, concat-append, concat_snoc}
use Rattle.converter.specs.Headers.{range}
use Rattle.lent.proofs.Room.{room_after}

module _ (f : ℕ → List ℕ) where
  -- the texts of the numbers below n
  abbrev pub up_to : ℕ → List ℕ
  up_to n = concat f (range 0 n)

  -- of no number
  pub ranged_none : up_to 0 ≡ []
  unfolding concat run
  ranged_none = refl

  -- one more, where the count is a successor
  ranged_suc : (i : ℕ) → up_to (suc i) ≡ up_to i ++ f i
  ranged_suc i = ap (concat f) (run_snoc (λ (k : ℕ). k) i) ∙ concat_snoc f (range 0 i) i

  -- one more
  pub ranged_more : (i : ℕ) → up_to (i + 1) ≡ up_to i ++ f i
  ranged_more i = ap up_to (add-one i) ∙ ranged_suc i

  -- fewer are no longer
  pub ranged_rises : (i d : ℕ) → length (up_to i) ≤ length (up_to (i + d))
  ranged_rises i d =
      let r = run (λ (k : ℕ). k) (0 + i) d in
      let e : up_to (i + d) ≡ up_to i ++ concat f r = ap (concat f) (run-add (λ (k : ℕ). k) 0 i d) ∙ concat-append f (range 0 i) r in
      omega (arith, ap length e, length-append (up_to i) (concat f r))

  -- a front with the piece after it is no longer than the whole
  pub ranged_front : (i n : ℕ) → i < n → length (up_to i ++ f i) ≤ length (up_to n)
  ranged_front i n h =
      let e : i + 1 + (n - (i + 1)) ≡ n = omega arith in
      omega (arith, ranged_rises (i + 1) (n - (i + 1)), ap length (ranged_more i), ap (λ (j : ℕ). length (up_to j)) e)

  -- texts of at most w bytes
  pub ranged_short : (w : ℕ) → ((i : ℕ) → length (f i) ≤ w) → (n : ℕ) → length (up_to n) ≤ n * w
  ranged_short w h zero = omega (arith, ap length ranged_none)
  ranged_short w h (suc n) = omega (arith, ap length (ranged_suc n), length-append (up_to n) (f n), h n, ranged_short w h n, suc-mul n w)

  -- ---- a loop that writes them into a lent buffer

  -- none yet
  pub wrote_none : (o : List ℕ) → Wrote (up_to 0) o o 0
  wrote_none o = as_text (sym ranged_none) (nothing o)

  -- the next
  pub wrote_more : {o o₁ p : List ℕ} {at n : ℕ} (i : ℕ) → Wrote (up_to i) o o₁ at → Wrote (f i) (mid_of at (length o₁ - at) o₁) p n
      → Wrote (up_to (i + 1)) o (put_mid at (length o₁ - at) o₁ p) (at + n)
  wrote_more i w v = as_text (sym (ranged_more i)) (then w v)

  -- the room for the next
  pub room-more : {o o₁ : List ℕ} {at : ℕ} (i n : ℕ) → Wrote (up_to i) o o₁ at → i < n → length (up_to n) ≤ length o
      → length (f i) ≤ length (mid_of at (length o₁ - at) o₁)
  room-more i n w h k = room_after (f i) w (omega (arith, ranged_front i n h))
