-- How long rows of comments, of entries and of variations are, one more at a time; and how long the lines of a block and its whole text are.
-- Assumes nothing.
use Prim.Native.Nat.{ℕ, ◌+◌, ◌-◌, ◌≤◌, ◌<◌}
use native.Mathlib.Omega.{arith}
use mathlib.Core.Path.{◌≡◌, refl, sym, ap, ◌∙◌}
use mathlib.Core.List.{List, ◌++◌}
use lib.ListN.{length, drop, length-append}
use Rattle.lent.specs.Numbers.{decimal}
use Rattle.block.specs.PositionBytes.{position_in}
use Rattle.jkf.specs.Model.{Noted}
use Rattle.block.specs.Encode.{concat}
use Rattle.block.specs.Decode.{run, start_of, first_entry, entry_count, comment_length, comment_of, noted_in, decode}
use Rattle.block.specs.inner.Sounds.{Sound}
use Rattle.block.specs.Sound.{entries_before}
use Rattle.block.proofs.Sums.{sum_more}
use Rattle.block.proofs.Within.{comment-most}
use Rattle.block.proofs.Tabling.{concat-none, concat_longer}
use Rattle.converter.specs.Headers.{headers_text}
use Rattle.converter.specs.inner.Places.{stored_headers}
use Rattle.converter.specs.Diagrams.{position_text}
use Rattle.converter.specs.Entries.{remark_text, remarks_text, noted_text, entries_text}
use Rattle.converter.specs.declared.Mode.{Mode}
use Rattle.converter.specs.Said.{said_lines, said_record}
use Rattle.converter.specs.Show.{number_line, main_text, variation_head, variation_text, lines_text, record_text}
use Rattle.converter.specs.inner.Lines.{noted_said, line_said, ShownLines}
use Rattle.converter.proofs.Lengthy.{remark_most}
use Rattle.converter.proofs.Runs.{remarks_none, remarks_more, entries_none, entries-more}
use Rattle.converter.proofs.Playing.{variation-text, main-text, lines-text}
use Rattle.converter.proofs.Showing.{record_is}

-- ---- comments

-- a comment of a block has at most 65535 bytes
pub remark_within : (b : List ℕ) (k : ℕ) → comment_length b k < 65536 → length (remark_text (comment_of b k)) ≤ 65537
remark_within b k h = omega (arith, comment-most b k, remark_most (comment_of b k))

module _ (g : ℕ → List ℕ) (k : ℕ) where
  -- none
  pub remarks_zero : 0 ≡ length (remarks_text (run g k 0))
  remarks_zero = omega (arith, ap length (remarks_none g k))

  -- one more
  pub remarks_next : (i n r : ℕ) → n ≡ length (remarks_text (run g k i)) → r ≡ length (remark_text (g (k + i))) → n + r ≡ length (remarks_text (run g k (i + 1)))
  remarks_next i n r e f = omega (arith, ap length (remarks_more g k i), length-append (remarks_text (run g k i)) (remark_text (g (k + i))))

-- ---- entries

module _ (ply : ℕ) (g : ℕ → Noted) (k : ℕ) where
  -- none
  pub entries_zero : 0 ≡ length (entries_text ply (run g k 0))
  entries_zero = omega (arith, ap length (entries_none ply g k))

  -- one more
  pub entries_next : (i n r : ℕ) → n ≡ length (entries_text ply (run g k i)) → r ≡ length (noted_text (ply + i) (g (k + i)))
      → n + r ≡ length (entries_text ply (run g k (i + 1)))
  entries_next i n r e f = omega (arith, ap length (entries-more ply g k i), length-append (entries_text ply (run g k i)) (noted_text (ply + i) (g (k + i))))

-- ---- parts from 1 on, up to the one before k

module _ {X Y : Type 0} (part : X → List Y) (g : ℕ → X) where
  -- none
  pub parts_zero : 0 ≡ length (concat part (run g 1 0))
  parts_zero = omega (arith, ap length (concat-none part g 1))

  -- one more
  pub parts_next : (k n r : ℕ) → 1 ≤ k → n ≡ length (concat part (run g 1 (k - 1))) → r ≡ length (part (g k)) → n + r ≡ length (concat part (run g 1 (k + 1 - 1)))
  parts_next k n r h e f =
      let p : k + 1 - 1 ≡ k - 1 + 1 = omega arith in
      let q : 1 + (k - 1) ≡ k = omega arith in
      omega (
        arith,
        ap (λ (j : ℕ). length (concat part (run g 1 j))) p,
        ap (λ (j : ℕ). length (part (g j))) q,
        concat_longer part g 1 (k - 1),
      )

-- ---- lines

-- a head has 14 bytes and its start
head-length : (start : ℕ) → length (variation_head start) ≡ 14 + length (decimal start)
unfolding variation_head
head-length start = simp length-append (omega arith)

module _ (mode : Mode) (b : List ℕ) where
  -- then come the entries
  pub variation_parts : (k : ℕ)
      → length (variation_text (line_said mode b k)) ≡ 14 + length (decimal (start_of b k)) + length (entries_text (start_of b k) (run (noted_said mode b) (first_entry b k) (entry_count b k)))
  variation_parts k =
      let es = entries_text (start_of b k) (run (noted_said mode b) (first_entry b k) (entry_count b k)) in
      omega (arith, ap length (variation-text mode b k refl refl refl), length-append (variation_head (start_of b k)) es, head-length (start_of b k))

  -- line 0 of a sound block has its slot
  pub main_parts : Sound b
      → length (main_text (line_said mode b 0)) ≡ length (remarks_text (noted_in b 0).comments) + length (entries_text 1 (run (noted_said mode b) 1 (entry_count b 0 - 1)))
  main_parts s =
      sym (ap length (main-text mode b s refl refl refl)) ∙ length-append (remarks_text (noted_in b 0).comments) (entries_text 1 (run (noted_said mode b) 1 (entry_count b 0 - 1)))

-- one line more
pub entries-after : (b : List ℕ) (k : ℕ) → entries_before b (k + 1) ≡ entries_before b k + entry_count b k
entries-after b k = sum_more (λ k. entry_count b k) k

-- ---- the whole

-- of a block of which n lines are shown; the 手数 line has 40 bytes
pub record_parts : (mode : Mode) (b : List ℕ) (n : ℕ) → ShownLines b n
    → length (record_text (said_record mode (decode b)))
    ≡ length (headers_text (stored_headers b)) + length (position_text (position_in (drop 28 b))) + 40 + length (main_text (line_said mode b 0)) + length (concat variation_text (run (line_said mode b) 1 (n - 1)))
record_parts mode b n s =
    let m = main_text (line_said mode b 0) in
    let v = concat variation_text (run (line_said mode b) 1 (n - 1)) in
    let h = headers_text (stored_headers b) in
    let p = position_text (position_in (drop 28 b)) in
    omega (
      arith,
      ap length (record_is mode b),
      length-append (h ++ p) (lines_text (said_lines mode (decode b).lines)),
      length-append h p,
      ap length (lines-text mode b s),
      length-append (number_line ++ m) v,
      length-append number_line m,
    )
