-- The texts of the regions, of one run of header entries, comments, entries or lines after another; and how long they are.
-- Assumes nothing.
use Prim.Native.Nat.{ℕ, ◌+◌}
use native.Mathlib.Omega.{arith}
use mathlib.Core.Path.{◌≡◌, refl, ap, ap₂, ◌∙◌}
use mathlib.Core.List.{List, [], ◌∷◌, ◌++◌, append-nil}
use lib.ListN.{length, length-append}
use Rattle.lent.specs.inner.Regions.{join}
use Rattle.jkf.specs.Model.{Header, Noted, Line}
use Rattle.block.specs.Encode.{table, concat, header_row, header_step, header_text, entry_row, entry_step, comment_row, comment_step, line_row, line_step, entries_of, comments_of, comment_text}
use Rattle.block.proofs.Tabling.{after, table-append, concat-append, after_adds}
use Rattle.filling.specs.inner.Parts.{header_texts, comment_texts, entry_texts, line_texts}

module _ (bytes : ℕ) (xs ys : List Header) where
  header_after : after header_row header_step bytes xs ≡ bytes + length (header_text xs)
  header_after =
      after_adds header_row header_step (λ h. h.key ++ h.value) (λ s x. omega (arith, length-append x.key x.value)) bytes xs

  pub headers-append : header_texts bytes (xs ++ ys) ≡ join (header_texts bytes xs) (header_texts (bytes + length (header_text xs)) ys)
  headers-append =
      ap₂ (λ (k l : List ℕ). k ∷ l ∷ [])
      (table-append header_row header_step bytes xs ys ∙ ap (λ (n : ℕ). table header_row header_step bytes xs ++ table header_row header_step n ys) header_after)
      (concat-append (λ h. h.key ++ h.value) xs ys)

module _ (bytes : ℕ) (xs ys : List (List ℕ)) where
  comment_after : after comment_row comment_step bytes xs ≡ bytes + length (comment_text xs)
  comment_after = after_adds comment_row comment_step (λ c. c) (λ s x. refl) bytes xs

  pub comments-append : comment_texts bytes (xs ++ ys) ≡ join (comment_texts bytes xs) (comment_texts (bytes + length (comment_text xs)) ys)
  comments-append =
      ap₂ (λ (k l : List ℕ). k ∷ l ∷ [])
      (table-append comment_row comment_step bytes xs ys ∙ ap (λ (n : ℕ). table comment_row comment_step bytes xs ++ table comment_row comment_step n ys) comment_after)
      (concat-append (λ c. c) xs ys)

module _ (noted bytes : ℕ) (xs ys : List Noted) where
  entry_after : after entry_row entry_step noted xs ≡ noted + length (comments_of xs)
  entry_after = after_adds entry_row entry_step (λ e. e.comments) (λ s x. refl) noted xs

  pub entries-append : entry_texts noted bytes (xs ++ ys)
      ≡ join (entry_texts noted bytes xs) (entry_texts (noted + length (comments_of xs)) (bytes + length (comment_text (comments_of xs))) ys)
  entries-append =
      ap₂ ◌∷◌
      (table-append entry_row entry_step noted xs ys ∙ ap (λ (n : ℕ). table entry_row entry_step noted xs ++ table entry_row entry_step n ys) entry_after)
      (ap (comment_texts bytes) (concat-append (λ e. e.comments) xs ys) ∙ comments-append bytes (comments_of xs) (comments_of ys))

module _ (entries noted bytes : ℕ) (xs ys : List Line) where
  line_after : after line_row line_step entries xs ≡ entries + length (entries_of xs)
  line_after = after_adds line_row line_step (λ l. l.entries) (λ s x. refl) entries xs

  pub lines-append : line_texts entries noted bytes (xs ++ ys)
      ≡ join (line_texts entries noted bytes xs)
      (line_texts (entries + length (entries_of xs)) (noted + length (comments_of (entries_of xs))) (bytes + length (comment_text (comments_of (entries_of xs)))) ys)
  lines-append =
      ap₂ ◌∷◌
      (table-append line_row line_step entries xs ys ∙ ap (λ (n : ℕ). table line_row line_step entries xs ++ table line_row line_step n ys) line_after)
      (ap (entry_texts noted bytes) (concat-append (λ l. l.entries) xs ys) ∙ entries-append noted bytes (entries_of xs) (entries_of ys))

-- ---- how long they are

module _ (xs ys : List Header) where
  pub keyed : length (header_text (xs ++ ys)) ≡ length (header_text xs) + length (header_text ys)
  keyed = ap length (concat-append (λ h. h.key ++ h.value) xs ys) ∙ length-append (header_text xs) (header_text ys)

pub one-header : (x : Header) → length (header_text (x ∷ [])) ≡ length x.key + length x.value
unfolding concat
one-header x = ap length (append-nil (x.key ++ x.value)) ∙ length-append x.key x.value

module _ (xs ys : List (List ℕ)) where
  pub texted : length (comment_text (xs ++ ys)) ≡ length (comment_text xs) + length (comment_text ys)
  texted = ap length (concat-append (λ c. c) xs ys) ∙ length-append (comment_text xs) (comment_text ys)

pub one-comment : (c : List ℕ) → length (comment_text (c ∷ [])) ≡ length c
unfolding concat
one-comment c = ap length (append-nil c)

-- comments of entries, and their bytes
module _ (xs ys : List Noted) where
  pub commented : length (comments_of (xs ++ ys)) ≡ length (comments_of xs) + length (comments_of ys)
  commented = ap length (concat-append (λ e. e.comments) xs ys) ∙ length-append (comments_of xs) (comments_of ys)

  pub written : length (comment_text (comments_of (xs ++ ys))) ≡ length (comment_text (comments_of xs)) + length (comment_text (comments_of ys))
  written =
      ap (λ (cs : List (List ℕ)). length (comment_text cs)) (concat-append (λ e. e.comments) xs ys)
      ∙ texted (comments_of xs) (comments_of ys)

-- entries of lines, their comments, and the bytes of these
module _ (xs ys : List Line) where
  pub entries_both : length (entries_of (xs ++ ys)) ≡ length (entries_of xs) + length (entries_of ys)
  entries_both = ap length (concat-append (λ l. l.entries) xs ys) ∙ length-append (entries_of xs) (entries_of ys)

  pub comments_both : length (comments_of (entries_of (xs ++ ys))) ≡ length (comments_of (entries_of xs)) + length (comments_of (entries_of ys))
  comments_both = ap (λ (es : List Noted). length (comments_of es)) (concat-append (λ l. l.entries) xs ys) ∙ commented (entries_of xs) (entries_of ys)

  pub bytes_both : length (comment_text (comments_of (entries_of (xs ++ ys))))
      ≡ length (comment_text (comments_of (entries_of xs))) + length (comment_text (comments_of (entries_of ys)))
  bytes_both =
      ap (λ (es : List Noted). length (comment_text (comments_of es))) (concat-append (λ l. l.entries) xs ys)
      ∙ written (entries_of xs) (entries_of ys)
