-- The texts of entries and lines of a block, in the pieces in which they are written: from fields that were read, and line 0 and the lines
-- after it each as a run.
-- Assumes nothing.
use Prim.Native.Nat.{ℕ, ◌+◌, ◌-◌}
use mathlib.Core.Path.{◌≡◌, refl, sym, ap, ap₂, ◌∙◌}
use mathlib.Core.List.{List, ◌++◌, append-nil}
use lib.ListN.{drop}
use Rattle.lent.specs.Bytes.{le16}
use Rattle.block.specs.EntryBytes.{entry_in}
use Rattle.jkf.specs.Model.{Noted}
use Rattle.block.specs.Encode.{concat}
use Rattle.block.specs.Decode.{decode, run, move_place, start_of, first_entry, entry_count, first_comment, comment_count, comment_of, noted_in}
use Rattle.block.specs.inner.Sounds.{Sound}
use Rattle.block.proofs.LineTables.{le16-drop}
use Rattle.block.proofs.Tabling.{run-first}
use Rattle.converter.specs.Entries.{entry_line, remarks_text, noted_text, entries_text}
use Rattle.converter.specs.declared.Mode.{Mode}
use Rattle.converter.specs.Said.{said_entry, said_noted, said_line, said_lines}
use Rattle.converter.specs.Show.{number_line, slot_comments, main_text, variation_head, variation_text, lines_text}
use Rattle.converter.specs.inner.Lines.{noted_said, line_said, ShownLines}
use Rattle.converter.proofs.Runs.{remarks_none}
use Rattle.converter.proofs.Saying.{entries-said, slot-first, lines-said}

-- a number of an entry's row
pub row_number : (b : List ℕ) (k i : ℕ) {row : List ℕ} {n : ℕ} → row ≡ drop (move_place b k) b → n ≡ le16 row i → n ≡ le16 b (move_place b k + i)
row_number b k i e h = h ∙ ap (λ (l : List ℕ). le16 l i) e ∙ le16-drop b (move_place b k) i

module _ (mode : Mode) (b : List ℕ) where
  -- an entry and its comments
  pub noted-text : (ply k : ℕ) {row : List ℕ} {first count : ℕ} → row ≡ drop (move_place b k) b → first ≡ first_comment b k → count ≡ comment_count b k
      → entry_line ply (said_entry mode (entry_in row)) ++ remarks_text (run (comment_of b) first count) ≡ noted_text ply (noted_said mode b k)
  unfolding noted_text said_noted
  noted-text ply k {row} e f g =
      ap₂ (λ (i n : ℕ). entry_line ply (said_entry mode (entry_in row)) ++ remarks_text (run (comment_of b) i n)) f g
      ∙ ap (λ (l : List ℕ). entry_line ply (said_entry mode (entry_in l)) ++ remarks_text (noted_in b k).comments) e

  -- an entry that has none
  pub noted_bare : (ply k : ℕ) {row : List ℕ} {count : ℕ} → row ≡ drop (move_place b k) b → count ≡ comment_count b k → count ≡ 0
      → entry_line ply (said_entry mode (entry_in row)) ≡ noted_text ply (noted_said mode b k)
  noted_bare ply k {row} e g z =
      let t = entry_line ply (said_entry mode (entry_in row)) in
      sym (append-nil t) ∙ ap (λ (l : List ℕ). t ++ l) (sym (remarks_none (comment_of b) (first_comment b k)))
      ∙ noted-text ply k e refl (sym z ∙ g)

  -- a variation
  pub variation-text : (k : ℕ) {start first count : ℕ} → start ≡ start_of b k → first ≡ first_entry b k → count ≡ entry_count b k
      → variation_head start ++ entries_text start (run (noted_said mode b) first count) ≡ variation_text (line_said mode b k)
  unfolding variation_text said_line
  variation-text k {first = first} {count = count} e f g =
      ap (λ (s : ℕ). variation_head s ++ entries_text s (run (noted_said mode b) first count)) e
      ∙ ap₂ (λ (i n : ℕ). variation_head (start_of b k) ++ entries_text (start_of b k) (run (noted_said mode b) i n)) f g
      ∙ ap (λ (es : List Noted). variation_head (start_of b k) ++ entries_text (start_of b k) es) (sym (entries-said mode b k))

  -- line 0
  pub main-text : Sound b → {first many count : ℕ} → first ≡ first_comment b 0 → many ≡ comment_count b 0 → count ≡ entry_count b 0
      → remarks_text (run (comment_of b) first many) ++ entries_text 1 (run (noted_said mode b) 1 (count - 1)) ≡ main_text (line_said mode b 0)
  unfolding main_text said_noted
  main-text s {count = count} f m e =
      ap₂ (λ (i n : ℕ). remarks_text (run (comment_of b) i n) ++ entries_text 1 (run (noted_said mode b) 1 (count - 1))) f m
      ∙ ap (λ (n : ℕ). remarks_text (noted_in b 0).comments ++ entries_text 1 (run (noted_said mode b) 1 (n - 1))) e
      ∙ sym (ap (λ (es : List Noted). remarks_text (slot_comments es) ++ entries_text 1 (drop 1 es)) (slot-first mode b s))

  -- all lines that are shown
  pub lines-text : {n : ℕ} → ShownLines b n
      → (number_line ++ main_text (line_said mode b 0)) ++ concat variation_text (run (line_said mode b) 1 (n - 1)) ≡ lines_text (said_lines mode (decode b).lines)
  unfolding lines_text
  lines-text {n} s = sym (ap lines_text (lines-said mode b s ∙ run-first (line_said mode b) 0 n s.some))
