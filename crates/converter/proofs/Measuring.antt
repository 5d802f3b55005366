-- How long the header is: each entry is written exactly once, since its key has one number, so the header is as long as the lines of its
-- entries.
-- Assumes nothing.
use Prim.Native.Nat.{ℕ, zero, suc, ◌+◌, ◌*◌, ◌≤◌, ◌<◌}
use native.Mathlib.Omega.{arith}
use native.Mathlib.Decide.{dec_lt}
use mathlib.Core.Path.{◌≡◌, refl, ap, ◌∙◌}
use mathlib.Core.List.{List, [], ◌∷◌, ◌++◌}
use lib.ListN.{length, length-append}
use borrow.Author.Tests.{eq-eqb, ne_eqb}
use Rattle.text.specs.Text.{wide_colon}
use Rattle.jkf.specs.Model.{Header}
use Rattle.block.specs.Encode.{concat}
use Rattle.block.specs.Decode.{run, headers_in, header_in, key_length, value_length}
use Rattle.block.specs.inner.Sounds.{Sound}
use Rattle.block.specs.Sound.{header_bytes}
use Rattle.block.proofs.Sums.{sum-none, sum_suc}
use Rattle.block.proofs.Tabling.{run_snoc, concat_snoc, concat-none}
use Rattle.block.proofs.Within.{key-length, value-length}
use Rattle.converter.specs.Headers.{leading_number, numbered, header_line, lines_of, headers_text, range}
use Rattle.converter.specs.inner.Places.{stored_headers}
use Rattle.converter.proofs.Keyed.{leading_most}

-- ---- each entry is written once

-- key, ：, value, LF
pub line-length : (h : Header) → length (header_line h) ≡ length h.key + length h.value + 4
unfolding header_line
line-length h =
    omega (
      arith,
      length-append ((h.key ++ wide_colon) ++ h.value) (10 ∷ []),
      length-append (h.key ++ wide_colon) h.value,
      length-append h.key wide_colon,
    )

module _ (h : Header) (hs : List Header) where
  -- among the lines of its number
  lines-in : (n : ℕ) → leading_number h.key ≡ n → length (lines_of n (h ∷ hs)) ≡ length (header_line h) + length (lines_of n hs)
  unfolding lines_of numbered concat
  lines-in n e = rw (eq-eqb _ _ e) (length-append (header_line h) (concat header_line (numbered n hs)))

  -- and no others
  lines_out : (n : ℕ) → (leading_number h.key ≡ n → ⊥) → lines_of n (h ∷ hs) ≡ lines_of n hs
  unfolding lines_of numbered
  lines_out n e = rw (ne_eqb _ _ e)

  -- so not among those of m numbers from k on if its number is below k
  range_out : (m k : ℕ) → ((i : ℕ) → k ≤ i → leading_number h.key ≡ i → ⊥)
      → concat (λ n. lines_of n (h ∷ hs)) (range k m) ≡ concat (λ n. lines_of n hs) (range k m)
  unfolding concat run
  range_out zero k o = refl
  range_out (suc m) k o = rw (lines_out k (o k (omega arith)), range_out m (k + 1) (λ i l. o i (omega arith)))

  -- and once among them if its number is one of them
  range_in : (m k : ℕ) → k ≤ leading_number h.key → leading_number h.key < k + m
      → length (concat (λ n. lines_of n (h ∷ hs)) (range k m)) ≡ length (header_line h) + length (concat (λ n. lines_of n hs) (range k m))
  unfolding concat run
  range_in zero k l g = absurd (omega arith)
  range_in (suc m) k l g = go (dec_lt k (leading_number h.key)) (range_in m (k + 1))
    where
      rest : List ℕ
      rest = concat (λ n. lines_of n hs) (range (k + 1) m)

      more : List ℕ
      more = concat (λ n. lines_of n (h ∷ hs)) (range (k + 1) m)

      go : Dec (k < leading_number h.key)
          → (k + 1 ≤ leading_number h.key → leading_number h.key < k + 1 + m → length more ≡ length (header_line h) + length rest)
          → length (lines_of k (h ∷ hs) ++ more) ≡ length (header_line h) + length (lines_of k hs ++ rest)
      go (yes y) ih =
          let e = ap length (lines_out k (λ q. omega arith)) in
          omega (arith, length-append (lines_of k (h ∷ hs)) more, length-append (lines_of k hs) rest, ih (omega arith) (omega arith))
      go (no y) ih =
          let q : leading_number h.key ≡ k = omega arith in
          let e = ap length (range_out m (k + 1) (λ i f r. omega arith)) in
          omega (arith, length-append (lines_of k (h ∷ hs)) more, length-append (lines_of k hs) rest, lines-in k q)

-- the leading lines and the others
text-length : (hs : List Header) → length (headers_text hs) ≡ length (concat (λ n. lines_of n hs) (range 1 12)) + length (lines_of 0 hs)
unfolding headers_text
text-length hs = length-append (concat (λ n. lines_of n hs) (range 1 12)) (lines_of 0 hs)

-- of no entries
text-none : headers_text [] ≡ []
unfolding headers_text lines_of numbered concat run
text-none = refl

-- of one entry more
text-more : (h : Header) (hs : List Header) → length (headers_text (h ∷ hs)) ≡ length (header_line h) + length (headers_text hs)
text-more h hs = go (dec_lt 0 (leading_number h.key))
  where
    go : Dec (0 < leading_number h.key) → length (headers_text (h ∷ hs)) ≡ length (header_line h) + length (headers_text hs)
    go (yes y) =
        let e = ap length (lines_out h hs 0 (λ q. omega arith)) in
        let g : leading_number h.key < 1 + 12 = omega (arith, leading_most h.key) in
        omega (arith, text-length (h ∷ hs), text-length hs, range_in h hs 12 1 y g)
    go (no y) =
        let z : leading_number h.key ≡ 0 = omega arith in
        let e = ap length (range_out h hs 12 1 (λ i f r. omega arith)) in
        omega (arith, text-length (h ∷ hs), text-length hs, lines-in h hs 0 z)

-- the header is as long as the lines of its entries, one after the other
headers_once : (hs : List Header) → length (headers_text hs) ≡ length (concat header_line hs)
unfolding concat
headers_once [] = ap length text-none
headers_once (h ∷ hs) = omega (arith, text-more h hs, headers_once hs, length-append (header_line h) (concat header_line hs))

-- ---- the entries of a sound block

module _ (b : List ℕ) (s : Sound b) where
  -- the lines of the first n
  lines-length : (n : ℕ) → n ≤ headers_in b → length (concat header_line (run (header_in b) 0 n)) ≡ header_bytes b n + 4 * n
  lines-length zero h = ap length (concat-none header_line (header_in b) 0) ∙ omega (arith, sum-none (λ k. key_length b k + value_length b k))
  lines-length (suc n) h =
      let e = ap (λ (l : List Header). length (concat header_line l)) (run_snoc (header_in b) n)
      ∙ ap length (concat_snoc header_line (run (header_in b) 0 n) (header_in b n))
      ∙ length-append (concat header_line (run (header_in b) 0 n)) (header_line (header_in b n)) in
      omega (
        arith,
        lines-length n (omega arith),
        line-length (header_in b n),
        key-length b s n h,
        value-length b s n h,
        sum_suc (λ k. key_length b k + value_length b k) n,
      )

  -- the header: each entry has a ： and an LF
  pub headers-length : length (headers_text (stored_headers b)) ≡ header_bytes b (headers_in b) + 4 * headers_in b
  headers-length = headers_once (stored_headers b) ∙ lines-length (headers_in b) (omega arith)
