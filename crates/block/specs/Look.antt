-- Look-ups: what they answer, and the part of the block that they hand back.                          (01, Numbers of refusal)
-- Assumes nothing: these are definitions.
use Rattle.std.specs.Prelude.{ℕ, ◌+◌, ◌≡◌, List, [], ltb}
use Rattle.lists.specs.Pick.{pick}
use Rattle.jkf.specs.Answers.{figures}
use Rattle.jkf.specs.declared.Answer.{Answer}
use Rattle.jkf.specs.declared.Answer.TheVariants.{Done, NotSound, NoSuchPart, NoSuchEntry}
use Rattle.block.specs.Decode.{lines_in, move_place, text_place, start_of, first_entry, entry_count, parent_of}
use Rattle.block.specs.Sound.{soundb}

-- Of part k of n: refusal 7, then 10; else what it is asked for.                                      (01, Numbers of refusal: order)
abbrev pub of_part : {A : Type 0} → List ℕ → ℕ → ℕ → A → (ℕ → A) → A → A
of_part b n k found absent unsound = pick (soundb b) (pick (ltb k n) found (absent k)) unsound

abbrev pub answer_of : List ℕ → ℕ → ℕ → ℕ → ℕ → Answer
answer_of b n k first second = of_part b n k (Done first second) NoSuchPart NotSound

-- A text's offset in the block and its length, and the text itself: empty if refused.                 (01, Numbers of refusal: a look-up)
abbrev pub look_answer : List ℕ → ℕ → ℕ → ℕ → ℕ → Answer
look_answer b n k offset len = answer_of b n k (text_place b + offset) len

abbrev pub look_part : List ℕ → ℕ → ℕ → List ℕ → List ℕ
look_part b n k t = of_part b n k t (λ j. []) []

-- The three lent numbers hold an answer's number and figures.
pub record Answered (a : Answer) (n x y : ℕ) : Type 0 where
  pub number : n ≡ (figures a).number
  pub first : x ≡ (figures a).first
  pub second : y ≡ (figures a).second

-- What a listing asks: how many lines there are; a line's start and how many entries it has; its parent.
unfoldable pub lines_answer : List ℕ → Answer
lines_answer b = pick (soundb b) (Done (lines_in b) 0) NotSound

unfoldable pub line_answer : List ℕ → ℕ → Answer
line_answer b k = answer_of b (lines_in b) k (start_of b k) (entry_count b k)

unfoldable pub parent_answer : List ℕ → ℕ → Answer
parent_answer b k = answer_of b (lines_in b) k (parent_of b k) 0

-- Where the 20 bytes of entry i of line k stand, and 20; refusal 16 comes after 10.                    (02, request (i): Refusals)
unfoldable pub entry_answer : List ℕ → ℕ → ℕ → Answer
entry_answer b k i =
    of_part b (lines_in b) k (pick (ltb i (entry_count b k)) (Done (move_place b (first_entry b k + i)) 20) (NoSuchEntry k i)) NoSuchPart NotSound
