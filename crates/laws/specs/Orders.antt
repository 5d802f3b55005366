-- Two put-ins, one after the other: two people add a variation each to one record, and the second is put into what the first made.
-- (02, request (viii))
-- Assumes nothing: these are definitions.
use Rattle.std.specs.Prelude.{ℕ, ◌+◌, ◌≤◌, ◌<◌, ◌≡◌, List, Bool, true, length, take, eqb}
use Rattle.lists.specs.Pick.{pick}
use Rattle.jkf.specs.Answers.{figures, Outcome}
use Rattle.block.specs.Decode.{decode, lines_in}
use Rattle.plays.specs.Plays.{ply_at}
use Rattle.edit.specs.Edit.{renumbered}
use Rattle.edit.specs.Outcomes.{put_in_of}
use Rattle.laws.specs.Blocks.{Bytes}

-- ---- one put-in

-- What is asked for: a line, and the text of a variation.
pub record PutAsked : Type 0 where
  pub line : ℕ
  pub text : List ℕ

-- What it answers, with the lent buffer o.
abbrev pub put_answer : List ℕ → PutAsked → List ℕ → Outcome
put_answer b p o = put_in_of b p.line p.text o

-- It meets no refusal: its number is 0.                                                              (01, Numbers of refusal)
abbrev pub is_done : Outcome → Bool
is_done x = eqb (figures x.answer).number 0

-- Then the first figure is the length of the new block, which stands at the front of the buffer, and the second the new line's number.
abbrev pub block_after : Outcome → List ℕ
block_after x = take (figures x.answer).first x.buffer

abbrev pub new_line_of : Outcome → ℕ
new_line_of x = (figures x.answer).second

-- Both at one entry: on one line, and at one ply, which is the first printed number.
abbrev pub SameEntry : PutAsked → PutAsked → Type 0
SameEntry p q = (p.line ≡ q.line) × (ply_at p.text 0 ≡ ply_at q.text 0)

-- ---- two, in an order

-- The same, its line number adjusted for a line i that was put in.
abbrev pub adjusted : ℕ → PutAsked → PutAsked
adjusted i q = record { line = renumbered i q.line; text = q.text }

-- First p; then q, adjusted, into the block that p gave; each with a lent buffer of its own. It answers what the second call does, or, where the
-- first is refused, what the first does.
unfoldable pub in_order : List ℕ → PutAsked → PutAsked → List ℕ → List ℕ → Outcome
in_order b p q o₁ o₂ =
    let x = put_answer b p o₁ in
    let y = put_answer (block_after x) (adjusted (new_line_of x) q) o₂ in
    pick (is_done x) y x

-- All lent buffers are of one length.
abbrev pub OneLength : List ℕ → List ℕ → List ℕ → List ℕ → Type 0
OneLength o₁ o₂ o₃ o₄ = (length o₁ ≡ length o₂) × (length o₂ ≡ length o₃) × (length o₃ ≡ length o₄)

-- ---- the theorems: the put-ins p and q into the block b, in either order; o₁ and o₂ are lent where p is first, o₃ and o₄ where q is

pub record OrderTheorems (b : List ℕ) (p q : PutAsked) : Type 0 where
  -- Where neither order meets a refusal, both give the same block, whatever the buffers hold.
  pub same_block : (o₁ o₂ o₃ o₄ : List ℕ) → is_done (in_order b p q o₁ o₂) ≡ true → is_done (in_order b q p o₃ o₄) ≡ true
      → block_after (in_order b p q o₁ o₂) ≡ block_after (in_order b q p o₃ o₄)
  -- With all buffers of one length, one order meets a refusal exactly where the other does; which call meets it, and by which number, may
  -- differ.
  pub refused_alike : (o₁ o₂ o₃ o₄ : List ℕ) → OneLength o₁ o₂ o₃ o₄ → is_done (in_order b p q o₁ o₂) ≡ is_done (in_order b q p o₃ o₄)
  -- The new lines have the same numbers in either order: that of q's line, put in last, is the one that it gets when it is put in first,
  -- adjusted for p's line. (For p's line take the theorems with p and q exchanged.)
  pub same_numbers : (o₁ o₂ o₃ o₄ : List ℕ) → is_done (in_order b p q o₁ o₂) ≡ true → is_done (in_order b q p o₃ o₄) ≡ true
      → new_line_of (in_order b p q o₁ o₂) ≡ renumbered (new_line_of (in_order b q p o₃ o₄)) (new_line_of (put_answer b q o₃))
  -- An order that meets no refusal puts in at different entries of lines that both stood before: so neither need be asked for above.
  pub stood_before : (o₁ o₂ : List ℕ) → is_done (in_order b p q o₁ o₂) ≡ true
      → (p.line < lines_in b) × (q.line < lines_in b) × (SameEntry p q → ⊥)
  -- And an order meets none where each put-in alone is done, the entries differ, and there is room for both lines: n bytes are needed.
  pub both_done : (o₁ o₂ o₃ : List ℕ) (n : ℕ) → is_done (put_answer b p o₁) ≡ true → is_done (put_answer b q o₃) ≡ true → (SameEntry p q → ⊥)
      → n + length b ≡ length (block_after (put_answer b p o₁)) + length (block_after (put_answer b q o₃)) → n ≤ 65535 → n ≤ length o₂
      → is_done (in_order b p q o₁ o₂) ≡ true

-- So for every block of version 1 and any two put-ins. (A slice that is no sound block is refused by the first call of either order.)
abbrev pub OrdersHold : Type 0
OrdersHold =
    (b : List ℕ) (p q : PutAsked) → (decode b).version ≡ 1 → Bytes b → Bytes p.text → Bytes q.text → OrderTheorems b p q
