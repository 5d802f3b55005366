-- How many bytes a move line has at least: a digit, a special of six bytes or a longer move, and a break.
-- Assumes nothing.
use Rattle.std.specs.Prelude.{Option, Some}
use Prim.Native.Nat.{ℕ, ◌+◌, ◌≤◌}
use native.Mathlib.Omega.{arith}
use mathlib.Core.Path.{◌≡◌, refl}
use mathlib.Core.List.{List, [], ◌∷◌}
use mathlib.Core.Bool.{Bool, true, false}
use lib.ListN.{length}
use lib.Dec.{leb}
use borrow.Author.Tests.{leb-true}
use Rattle.lists.specs.Pick.{pick}
use Rattle.lists.proofs.Laws.{by_pick, pick_both}
use Rattle.text.specs.Text.{cursor, is_blank, stands_at, tag_at, line_end_at, blanks_at, wide_space}
use Rattle.text.specs.declared.Cursor.{Cursor}
use Rattle.text.proofs.Laws.{span_ge, tag_back, After, line-end_after}
use Rattle.text.proofs.Answers.{by_past, by-number, Counted, digits_fit}
use Rattle.spell.specs.Tables.{Spelling, kinds, specials, numerals, files}
use Rattle.spell.specs.Spell.{first_of}
use Rattle.spell.specs.Words.{same_word}
use Rattle.spell.proofs.Answers.{OnSpelled, is_as, is_not, by_spelled}
use Rattle.jkf.specs.declared.Target.{Target}
use Rattle.jkf.specs.declared.Entry.{Entry}
use Rattle.moves.specs.Moves.{on_what, square_at, move_to_at, promote_at, kind_to_origin_at, move_at, what_at, time_at, move_line_at}
use Rattle.moves.specs.declared.MoveLine.{MoveLine}
use Rattle.moves.proofs.Answers.{OnAim, to, no_aim, OnWhat, is, nothing, OnMoveLine, numbered, no_line, by_aim, by_source, by_what, line_is}
use Rattle.moves.proofs.Fits.{promote_fits, move-from-fits, time-fits}

-- ---- tables

-- every spelling of a table has at least w bytes: a test that antt computes
abbrev pub all_wide : ℕ → List Spelling → Bool
all_wide w [] = true
all_wide w (e ∷ es) = pick (leb w (length e.bytes)) (all_wide w es) false

-- so one that is found goes at least w bytes on
pub first-wide : (w : ℕ) (es : List Spelling) → all_wide w es ≡ true → (s : List ℕ) (at : ℕ) → OnSpelled (λ n c. at + w ≤ c.at) (first_of es s at)
unfolding first_of
first-wide w [] h s at = is_not
first-wide w (e ∷ es) h s at =
    let (p, q) = pick_both (leb w (length e.bytes)) (all_wide w es) h in
    let k : w ≤ length e.bytes = leb-true _ _ p in
    by_pick (OnSpelled (λ n c. at + w ≤ c.at)) (stands_at e.bytes s at) (Some (e.number, cursor (at + length e.bytes))) (first_of es s at)
    (λ t. is_as (omega arith)) (λ t. first-wide w es q s at)

-- ---- a move

-- a file and a rank
square_wide : (s : List ℕ) (at : ℕ) → OnAim (λ t c. at + 3 ≤ c.at) (square_at s at)
unfolding square_at
square_wide s at =
    by_spelled Q no_aim (first-wide 3 files refl s at) (λ x c h. by_spelled Q no_aim (first-wide 3 numerals refl s c.at) (λ y d k. to (omega arith)))
  where
    Q : Option (Target × Cursor) → Type 0
    Q = OnAim (λ t c. at + 3 ≤ c.at)

-- a target
target-wide : (s : List ℕ) (at : ℕ) → OnAim (λ t c. at + 3 ≤ c.at) (move_to_at s at)
unfolding move_to_at
target-wide s at =
    by_past Q (square_wide s at) (tag_at same_word s at)
    (λ c p. let a = (tag_back same_word s at c p).1 in
    by_past Q (to (omega arith)) (tag_at wide_space s c.at) (λ d q. let b = (tag_back wide_space s c.at d q).1 in to (omega arith)))
  where
    Q : Option (Target × Cursor) → Type 0
    Q = OnAim (λ t c. at + 3 ≤ c.at)

-- a kind and an origin, past a target of three bytes
kind-wide : (t : Target) (s : List ℕ) (b at : ℕ) → b + 3 ≤ at → OnWhat (λ e c. b + 6 ≤ c.at) (kind_to_origin_at t s at)
unfolding kind_to_origin_at
kind-wide t s b at g =
    by_spelled Q nothing (first-wide 3 kinds refl s at)
    (λ k c h. by_source Q nothing (move-from-fits s (promote_at s c.at).next.at) (λ o d i. is (omega (arith, (promote_fits s c.at).1, i.past))))
  where
    Q : Option (Entry × Cursor) → Type 0
    Q = OnWhat (λ e c. b + 6 ≤ c.at)

-- a special or a move
what-wide : (s : List ℕ) (at : ℕ) → OnWhat (λ e c. at + 6 ≤ c.at) (what_at s at)
unfolding what_at move_at
what-wide s at =
    by_spelled (λ (w : Option (Entry × Cursor)). Q (on_what w (λ e c. Some (e, c)) (move_at s at))) (by_aim Q nothing (target-wide s at) (λ t c h. kind-wide t s at c.at h)) (first-wide 6 specials refl s at)
    (λ n c h. is h)
  where
    Q : Option (Entry × Cursor) → Type 0
    Q = OnWhat (λ e c. at + 6 ≤ c.at)

-- ---- the line

-- a digit, what is played, and a break
line-wide : (s : List ℕ) (at : ℕ) → OnMoveLine (λ n e c. at + 8 ≤ c.at) (move_line_at s at)
unfolding move_line_at
line-wide s at =
    by-number Q no_line (digits_fit 18446744073709551615 s (blanks_at s at))
    (λ n c h. by_what Q no_line (what-wide s (blanks_at s c.at))
    (λ e d k. by_past Q no_line (line_end_at s (time_at s (blanks_at s d.at)).next.at)
    (λ f q. numbered (seen n c d f h k (time-fits s (blanks_at s d.at)).from (line-end_after s _ f q)))))
  where
    Q : Option MoveLine → Type 0
    Q = OnMoveLine (λ n e c. at + 8 ≤ c.at)

    seen : {t : ℕ} (n : ℕ) (c d f : Cursor) → Counted 18446744073709551615 (blanks_at s at) n c → blanks_at s c.at + 6 ≤ d.at → blanks_at s d.at ≤ t → After t (length s) f
        → at + 8 ≤ f.at
    seen n c d f h k i j = omega (arith, h.past, j.past, span_ge is_blank s at, span_ge is_blank s c.at, span_ge is_blank s d.at)

-- where it is known to be one
pub move-line-wide : (s : List ℕ) (at : ℕ) {n : ℕ} {e : Entry} {c : Cursor} → move_line_at s at ≡ Some (record { number = n; entry = e; next = c }) → at + 8 ≤ c.at
move-line-wide s at q = line_is (line-wide s at) q
