-- The texts of what a function makes of numbers in a row, one more at a time or the first one first: of comments, of entries and of any parts.
-- A front of the whole is no longer than it.
--     concat-first, concat-next    the first one, then the others
--     concat-both, concat-cut      some, then the others
--     ..-more                      one more at the end
--     ..-front                     the front and the piece after it are no longer than the whole
--     ..-step                      the piece was written after the front
-- Assumes nothing.
use Prim.Native.Nat.{ℕ, suc, ◌+◌, ◌-◌, ◌≤◌, ◌<◌}
use native.Mathlib.Nat.{add-zero}
use native.Mathlib.Omega.{arith}
use mathlib.Core.Path.{◌≡◌, refl, sym, ap, ◌∙◌}
use mathlib.Core.List.{List, [], ◌∷◌, ◌++◌, append_assoc, append-nil}
use lib.ListN.{length, length-append}
use borrow.Rule.Slice.PartMut.{mid_of, put_mid}
use Rattle.lent.specs.Bytes.{Wrote}
use Rattle.lent.proofs.Writes.{as_text, then}
use Rattle.jkf.specs.Model.{Noted}
use Rattle.block.specs.Encode.{concat}
use Rattle.block.specs.Decode.{run}
use Rattle.block.proofs.Tabling.{length_run, run-add, run-cut, run-first, run_more, concat-append, concat-none, concat-more, concat_longer}
use Rattle.converter.specs.Entries.{remark_text, remarks_text, noted_text, entries_text}

-- ---- lists one after the other

module _ {X Y : Type 0} (part : X → List Y) (g : ℕ → X) (k : ℕ) where
  -- the first one's part, then the others'
  pub concat-first : (n : ℕ) → 1 ≤ n → concat part (run g k n) ≡ part (g k) ++ concat part (run g (k + 1) (n - 1))
  unfolding concat
  concat-first n h = ap (concat part) (run-first g k n h)

  pub concat-next : (n : ℕ) → concat part (run g k (1 + n)) ≡ part (g k) ++ concat part (run g (k + 1) n)
  concat-next n =
      let e : 1 + n - 1 ≡ n = omega arith in
      concat-first (1 + n) (omega arith) ∙ ap (λ (i : ℕ). part (g k) ++ concat part (run g (k + 1) i)) e

  -- some, then the others
  pub concat_both : (m n : ℕ) → concat part (run g k (m + n)) ≡ concat part (run g k m) ++ concat part (run g (k + m) n)
  concat_both m n = ap (concat part) (run-add g k m n) ∙ concat-append part (run g k m) (run g (k + m) n)

  -- a front, and what is left
  pub concat-cut : (i n : ℕ) → i ≤ n → concat part (run g k n) ≡ concat part (run g k i) ++ concat part (run g (k + i) (n - i))
  concat-cut i n h = ap (concat part) (run-cut g k i n h) ∙ concat-append part (run g k i) (run g (k + i) (n - i))

  -- a front and the part after it are no longer than the whole
  pub concat-front : (i n : ℕ) → i < n → length (concat part (run g k i)) + length (part (g (k + i))) ≤ length (concat part (run g k n))
  concat-front i n h =
      let e = ap (λ l. length (concat part l)) (run-cut g k (i + 1) n (omega arith)) in
      let f = ap length (concat-append part (run g k (i + 1)) (run g (k + (i + 1)) (n - (i + 1)))) in
      omega (
        arith,
        e,
        f,
        length-append (concat part (run g k (i + 1))) (concat part (run g (k + (i + 1)) (n - (i + 1)))),
        concat_longer part g k i,
      )

-- ---- comments

module _ (g : ℕ → List ℕ) (k : ℕ) where
  -- no comments
  pub remarks_none : remarks_text (run g k 0) ≡ []
  unfolding remarks_text
  remarks_none = concat-none remark_text g k

  -- one more at the end
  pub remarks_more : (n : ℕ) → remarks_text (run g k (n + 1)) ≡ remarks_text (run g k n) ++ remark_text (g (k + n))
  unfolding remarks_text
  remarks_more = concat-more remark_text g k

  -- some comments and the one after them are no longer than all
  pub remarks_front : (i n : ℕ) → i < n → length (remarks_text (run g k i)) + length (remark_text (g (k + i))) ≤ length (remarks_text (run g k n))
  unfolding remarks_text
  remarks_front = concat-front remark_text g k

  -- one more was written
  pub remarks_step : {o o₁ p c : List ℕ} {at n : ℕ} (i : ℕ) → Wrote (remarks_text (run g k i)) o o₁ at → c ≡ g (k + i)
      → Wrote (remark_text c) (mid_of at (length o₁ - at) o₁) p n → Wrote (remarks_text (run g k (i + 1))) o (put_mid at (length o₁ - at) o₁ p) (at + n)
  remarks_step i w e v = as_text (sym (remarks_more i)) (then w (as_text (ap remark_text e) v))

-- ---- entries

-- entries after others go on with their plies
pub entries-append : (ply : ℕ) (xs ys : List Noted) → entries_text ply (xs ++ ys) ≡ entries_text ply xs ++ entries_text (ply + length xs) ys
unfolding entries_text
entries-append ply [] ys = ap (λ (i : ℕ). entries_text i ys) (sym (add-zero ply))
entries-append ply (x ∷ xs) ys =
    let e : ply + 1 + length xs ≡ ply + suc (length xs) = omega arith in
    ap (λ (l : List ℕ). noted_text ply x ++ l) (entries-append (ply + 1) xs ys ∙ ap (λ (i : ℕ). entries_text (ply + 1) xs ++ entries_text i ys) e)
    ∙ sym (append_assoc (noted_text ply x) (entries_text (ply + 1) xs) (entries_text (ply + suc (length xs)) ys))

module _ (ply : ℕ) (g : ℕ → Noted) (k : ℕ) where
  -- no entries
  pub entries_none : entries_text ply (run g k 0) ≡ []
  unfolding entries_text run
  entries_none = refl

  -- one more at the end
  pub entries-more : (n : ℕ) → entries_text ply (run g k (n + 1)) ≡ entries_text ply (run g k n) ++ noted_text (ply + n) (g (k + n))
  unfolding entries_text
  entries-more n =
      ap (entries_text ply) (run_more g k n) ∙ entries-append ply (run g k n) (g (k + n) ∷ [])
      ∙ ap (λ (i : ℕ). entries_text ply (run g k n) ++ (noted_text (ply + i) (g (k + n)) ++ [])) (length_run g k n)
      ∙ ap (λ (l : List ℕ). entries_text ply (run g k n) ++ l) (append-nil (noted_text (ply + n) (g (k + n))))

  -- some entries and the one after them are no longer than all
  pub entries-front : (i n : ℕ) → i < n
      → length (entries_text ply (run g k i)) + length (noted_text (ply + i) (g (k + i))) ≤ length (entries_text ply (run g k n))
  entries-front i n h =
      let a = run g k (i + 1) in
      let z = run g (k + (i + 1)) (n - (i + 1)) in
      omega (
        arith,
        ap (λ (l : List Noted). length (entries_text ply l)) (run-cut g k (i + 1) n (omega arith)),
        ap length (entries-append ply a z),
        length-append (entries_text ply a) (entries_text (ply + length a) z),
        ap length (entries-more i),
        length-append (entries_text ply (run g k i)) (noted_text (ply + i) (g (k + i))),
      )

  -- one more was written
  pub entries_step : {o o₁ p : List ℕ} {at n : ℕ} (i : ℕ) → Wrote (entries_text ply (run g k i)) o o₁ at
      → Wrote (noted_text (ply + i) (g (k + i))) (mid_of at (length o₁ - at) o₁) p n
      → Wrote (entries_text ply (run g k (i + 1))) o (put_mid at (length o₁ - at) o₁ p) (at + n)
  entries_step i w v = as_text (sym (entries-more i)) (then w v)
