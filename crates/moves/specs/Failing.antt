-- Why a line cannot be read: the place of the part that was sought, and what is not there.          (02, request (ii))
-- Assumes nothing: these are definitions.
use Rattle.std.specs.Prelude.{ℕ, ◌+◌, ◌≤◌, ◌≡◌, List, [], ◌∷◌, length, get_or, eqb, leb, ltb, Option, Some, None, Ok, Err}
use Rattle.lists.specs.Pick.{pick}
use Rattle.text.specs.Text.{cursor, on_place, by_number, tag_at, break_at, text_at, line_end_at, blanks_at, digits_at}
use Rattle.text.specs.Utf8.{character_at}
use Rattle.spell.specs.Words.{same_word, drops}
use Rattle.spell.specs.Spell.{on_spelled, first_of}
use Rattle.spell.specs.Tables.{kinds, specials, numerals, files}
use Rattle.moves.specs.Moves.{on_aim, on_what, move_to_at, promote_at, what_at, begins_no_skip, begins_comment}
use Rattle.moves.specs.declared.Reason.{Reason}
use Rattle.moves.specs.declared.Reason.TheVariants.{NoNumber, TooLarge, NoPlace, NoKind, NoOrigin, NoBreak, CommentHere, EndOfText}
use Rattle.text.specs.declared.FigureError.TheVariants.{Absent, TooLarge as LargeFigure}

-- ---- words

-- What is told of several failures: the one that got further, else the one tried first.
abbrev pub further : Option (ℕ × Reason) → Option (ℕ × Reason) → Option (ℕ × Reason)
further None b = b
further (Some (p, r)) None = Some (p, r)
further (Some (p, r)) (Some (q, t)) = pick (ltb p q) (Some (q, t)) (Some (p, r))

-- An answer taken apart.
abbrev pub on_failed : {A : Type 0} → Option (ℕ × Reason) → (ℕ → Reason → A) → A → A
on_failed (Some (p, r)) f d = f p r
on_failed None f d = d

-- Of two ways it fails only where both do.
abbrev pub or_fail : Option (ℕ × Reason) → Option (ℕ × Reason) → Option (ℕ × Reason)
or_fail None b = None
or_fail (Some (p, r)) None = None
or_fail (Some (p, r)) (Some (q, t)) = further (Some (p, r)) (Some (q, t))

-- ---- a move

-- A tail and its break fail where the tail ends.
unfoldable pub line_end_fail : List ℕ → ℕ → Option (ℕ × Reason)
line_end_fail s at = on_place (line_end_at s at) (λ c. None) (Some (text_at s at, NoBreak))

-- A file, and a rank behind it.
unfoldable pub square_fail : List ℕ → ℕ → Option (ℕ × Reason)
square_fail s at =
    on_spelled (first_of files s at) (λ x c. on_spelled (first_of numerals s c.at) (λ y d. None) (Some (c.at, NoPlace))) (Some (at, NoPlace))

-- 同, or a square.
unfoldable pub move_to_fail : List ℕ → ℕ → Option (ℕ × Reason)
move_to_fail s at = on_place (tag_at same_word s at) (λ c. None) (or_fail (Some (at, NoPlace)) (square_fail s at))

-- A number of at most 255 in brackets.
unfoldable pub origin_fail : List ℕ → ℕ → Option (ℕ × Reason)
origin_fail s at =
    on_place (tag_at (40 ∷ []) s at)
    (λ c. by_number (digits_at 255 s c.at)
    (λ n d. on_place (tag_at (41 ∷ []) s d.at) (λ e. None) (Some (d.at, NoOrigin)))
    (Some (c.at, NoOrigin))
    (Some (c.at, TooLarge)))
    (Some (at, NoOrigin))

-- 打, or an origin.
unfoldable pub move_from_fail : List ℕ → ℕ → Option (ℕ × Reason)
move_from_fail s at = on_place (tag_at drops s at) (λ c. None) (or_fail (Some (at, NoOrigin)) (origin_fail s at))

-- A kind, its mark if any, and where it comes from.
unfoldable pub piece_fail : List ℕ → ℕ → Option (ℕ × Reason)
piece_fail s at = on_spelled (first_of kinds s at) (λ k c. move_from_fail s (promote_at s c.at).next.at) (Some (at, NoKind))

-- A target and a piece.
unfoldable pub move_fail : List ℕ → ℕ → Option (ℕ × Reason)
move_fail s at = on_aim (move_to_at s at) (λ t c. piece_fail s c.at) (move_to_fail s at)

-- A special, or a move.
unfoldable pub what_fail : List ℕ → ℕ → Option (ℕ × Reason)
what_fail s at = on_spelled (first_of specials s at) (λ n c. None) (or_fail (Some (at, NoPlace)) (move_fail s at))

-- ---- lines

-- Any line but a comment is sought: no byte is left, or a comment stands here.
abbrev pub sought : List ℕ → ℕ → Option (ℕ × Reason) → Option (ℕ × Reason)
sought s at f = pick (leb (length s) at) (Some (at, EndOfText)) (pick (eqb (get_or s at 0) 42) (Some (at, CommentHere)) f)

-- A move line past its number. Nothing is asked of its time, which is a part of the tail where it cannot be read, and ends no line.
unfoldable pub played_fail : List ℕ → ℕ → Option (ℕ × Reason)
played_fail s at = on_what (what_at s at) (λ e d. line_end_fail s d.at) (what_fail s at)

-- A move line from its blanks on.
unfoldable pub numbered_fail : List ℕ → ℕ → Option (ℕ × Reason)
numbered_fail s at =
    by_number (digits_at 18446744073709551615 s (blanks_at s at))
    (λ n c. played_fail s (blanks_at s c.at))
    (Some (blanks_at s at, NoNumber))
    (Some (blanks_at s at, TooLarge))

-- A move line.
unfoldable pub move_line_fail : List ℕ → ℕ → Option (ℕ × Reason)
move_line_fail s at = sought s at (numbered_fail s at)

-- A skip line; a line that begins none is left to move lines.
unfoldable pub skip_line_fail : List ℕ → ℕ → Option (ℕ × Reason)
skip_line_fail s at = sought s at (pick (begins_no_skip s at) None (on_place (character_at s at) (λ c. line_end_fail s c.at) None))

-- A comment; a line that begins none is left to the others.
unfoldable pub comment_fail : List ℕ → ℕ → Option (ℕ × Reason)
comment_fail s at = pick (leb (length s) at) (Some (at, EndOfText)) (pick (begins_comment s at) (line_end_fail s (at + 1)) None)

-- ---- what a reason says of the text at its place

-- A number, a word, a break, or anything at all is sought there and does not stand there; or a number too large does, or a comment. NoPlace is told
-- of the place of a move and of the rank after its file; NoOrigin of an origin, of its digits and of its closing bracket.
pub data Seen (s : List ℕ) (p : ℕ) : Reason → Type 0 where
  number : digits_at 18446744073709551615 s p ≡ Err Absent → Seen s p NoNumber
  large_number : digits_at 18446744073709551615 s p ≡ Err LargeFigure → Seen s p TooLarge
  large_origin : (at : ℕ) → tag_at (40 ∷ []) s at ≡ Some (cursor p) → digits_at 255 s p ≡ Err LargeFigure → Seen s p TooLarge
  place : first_of specials s p ≡ None → tag_at same_word s p ≡ None → first_of files s p ≡ None → Seen s p NoPlace
  rank : (at x : ℕ) → first_of files s at ≡ Some (x, cursor p) → first_of numerals s p ≡ None → Seen s p NoPlace
  kind : first_of kinds s p ≡ None → Seen s p NoKind
  origin : tag_at drops s p ≡ None → tag_at (40 ∷ []) s p ≡ None → Seen s p NoOrigin
  digits : (at : ℕ) → tag_at (40 ∷ []) s at ≡ Some (cursor p) → digits_at 255 s p ≡ Err Absent → Seen s p NoOrigin
  bracket : (at n : ℕ) → digits_at 255 s at ≡ Ok (n, cursor p) → tag_at (41 ∷ []) s p ≡ None → Seen s p NoOrigin
  break : text_at s p ≡ p → break_at s p ≡ None → Seen s p NoBreak
  comment : get_or s p 0 ≡ 42 → Seen s p CommentHere
  end : length s ≤ p → Seen s p EndOfText

-- ---- which rule tells it

-- The rule that failed at the place q, and so told the reason r at the place p.
pub data ToldBy (s : List ℕ) (q p : ℕ) (r : Reason) : Type 0 where
  by_move : move_line_fail s q ≡ Some (p, r) → ToldBy s q p r
  by_skip : skip_line_fail s q ≡ Some (p, r) → ToldBy s q p r
  by_comment : comment_fail s q ≡ Some (p, r) → ToldBy s q p r
