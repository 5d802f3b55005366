-- The theorems of where reading stopped and why: a rule's failure is told exactly where the rule does not read, and what is told is the failure
-- that got furthest.                                                                                   (02, request (ii))
-- Assumes nothing: these are definitions.
use Rattle.std.specs.Prelude.{ℕ, ◌≤◌, ◌<◌, ◌≡◌, Bool, true, false, List, length, get_or, Option, Some, None}
use Rattle.text.specs.Text.{on_place, text_at, line_end_at}
use Rattle.text.specs.Utf8.{character_at}
use Rattle.text.specs.declared.Cursor.{Cursor}
use Rattle.jkf.specs.Answers.{figures}
use Rattle.moves.specs.Moves.{on_source, on_what, on_remark, on_move_line, move_from_at, move_at, what_at, move_line_at, comment_line_at, begins_no_skip, skip_line_at, begins_comment}
use Rattle.moves.specs.Failing.{on_failed, line_end_fail, move_from_fail, move_fail, what_fail, move_line_fail, skip_line_fail, comment_fail, Seen, ToldBy}
use Rattle.moves.specs.declared.Reason.{Reason}
use Rattle.moves.specs.declared.Reason.TheVariants.{EndOfText}
use Rattle.plays.specs.Plays.{skips_at}
use Rattle.parser.specs.Read.{fill_of}
use Rattle.kakinoki.specs.Starts.{start_read}
use Rattle.stops.specs.Stopping.{last_end, seeking_at, tried_at, stop_of, stop_figures}
use Rattle.stops.specs.declared.Seeking.{Seeking}
use Rattle.stops.specs.declared.Seeking.TheVariants.{AfterSkips}
use Rattle.stops.specs.declared.StopAnswer.TheVariants.{Stopped}

-- ---- words

-- There is nothing to tell.
abbrev pub is_silent : Option (ℕ × Reason) → Bool
is_silent f = on_failed f (λ p r. false) true

-- What stands before the place past the skip lines that follow t bytes of a text.
abbrev pub seeking : List ℕ → ℕ → Seeking
seeking s t = seeking_at (start_read s).next.at (last_end s (start_read s).next.at) (skips_at s t)

-- ---- the rules, at any place of any text

pub record FailTheorems (s : List ℕ) (at : ℕ) : Type 0 where
  -- A failure is silent exactly where its rule reads: so the reason that is told is the one by which reading failed.
  pub line-end_silent : is_silent (line_end_fail s at) ≡ on_place (line_end_at s at) (λ c. true) false
  pub move-from_silent : is_silent (move_from_fail s at) ≡ on_source (move_from_at s at) (λ o c. true) false
  pub move_silent : is_silent (move_fail s at) ≡ on_what (move_at s at) (λ e c. true) false
  pub what_silent : is_silent (what_fail s at) ≡ on_what (what_at s at) (λ e c. true) false
  pub move-line_silent : is_silent (move_line_fail s at) ≡ on_move_line (move_line_at s at) (λ n e c. true) false
  -- For a skip line and a comment this is so where the line begins as theirs do.
  pub skip_line_silent : {c : Cursor} → character_at s at ≡ Some c → begins_no_skip s at ≡ false → is_silent (skip_line_fail s at) ≡ on_place (skip_line_at s at) (λ c. true) false
  pub comment_silent : begins_comment s at ≡ true → is_silent (comment_fail s at) ≡ on_remark (comment_line_at s at) (λ from to next. true) false
  -- A move line fails within its line, and every rule within the text.
  pub move-line_stands : {p : ℕ} {r : Reason} → move_line_fail s at ≡ Some (p, r) → (at ≤ p) × (p ≤ text_at s at)
  pub within : {p : ℕ} {r : Reason} → at ≤ length s → ToldBy s at p r → (at ≤ p) × (p ≤ length s)
  -- What a reason says of the text at its place.
  pub seen : {p : ℕ} {r : Reason} → ToldBy s at p r → Seen s p r
  -- Where a skip line reads, the other rules got less far than its end.
  pub passed_move : {c : Cursor} {p : ℕ} {r : Reason} → skip_line_at s at ≡ Some c → move_line_fail s at ≡ Some (p, r) → p < c.at
  pub passed_comment : {c : Cursor} → skip_line_at s at ≡ Some c → comment_fail s at ≡ None

-- ---- where reading stopped: after t bytes, with the reason r, at the place p

pub record StopTheorems (s : List ℕ) (t : ℕ) (r : Reason) (p : ℕ) : Type 0 where
  -- It is what the rules come to that are tried, each in its turn, past the skip lines that no line of play follows: so one of them fails there, of
  -- those that do the one that got furthest is told, and of two at one place the first.
  pub chosen : stop_of s ≡ Stopped t r p → tried_at (seeking s t) s (skips_at s t) ≡ Some (p, r)
  pub told : stop_of s ≡ Stopped t r p → ToldBy s (skips_at s t) p r
  pub placed : stop_of s ≡ Stopped t r p → (t ≤ skips_at s t) × (skips_at s t ≤ p) × (p ≤ length s)
  pub seen : stop_of s ≡ Stopped t r p → Seen s p r
  -- No move line, no skip line and no comment that was tried there got further.
  pub furthest_move : {q : ℕ} {x : Reason} → stop_of s ≡ Stopped t r p → move_line_fail s (skips_at s t) ≡ Some (q, x) → q ≤ p
  pub furthest_skip : {q : ℕ} {x : Reason} → stop_of s ≡ Stopped t r p → skip_line_fail s (skips_at s t) ≡ Some (q, x) → q ≤ p
  pub furthest_comment : {q : ℕ} {x : Reason} → stop_of s ≡ Stopped t r p → (seeking s t ≡ AfterSkips → ⊥) → comment_fail s (skips_at s t) ≡ Some (q, x) → q ≤ p
  -- What failed before that place, at one of the skip lines, got less far than it.
  pub earlier-move : {b q : ℕ} {x : Reason} → stop_of s ≡ Stopped t r p → skips_at s b ≡ skips_at s t → b < skips_at s t → move_line_fail s b ≡ Some (q, x) → q < p
  pub earlier-comment : {b : ℕ} → stop_of s ≡ Stopped t r p → skips_at s b ≡ skips_at s t → b < skips_at s t → comment_fail s b ≡ None
  -- The end of the text is told exactly where nothing is left past the skip lines.
  pub end_is_told : stop_of s ≡ Stopped t r p → skips_at s t ≡ length s → r ≡ EndOfText
  pub end_is_so : stop_of s ≡ Stopped t r p → r ≡ EndOfText → skips_at s t ≡ length s

-- ---- beside what filling answers, with any lent buffer

-- The number of refusal and the six figures of where reading stops, by their places.
abbrev pub stop_figure : List ℕ → ℕ → ℕ
stop_figure s k = get_or (stop_figures (stop_of s)) k 0

-- Filling does not refuse for the block's length, by 4 or 5.
abbrev pub HasRoom : List ℕ → List ℕ → Type 0
HasRoom s o = ((figures (fill_of s o).answer).number ≡ 4 → ⊥) × ((figures (fill_of s o).answer).number ≡ 5 → ⊥)

pub record AlikeTheorems (s o : List ℕ) : Type 0 where
  -- Then the number is the same, and so is the first figure: the bytes taken, or the first that a refusal tells.
  pub same_number : HasRoom s o → stop_figure s 0 ≡ (figures (fill_of s o).answer).number
  pub same_first : HasRoom s o → stop_figure s 1 ≡ (figures (fill_of s o).answer).first
  -- The second is, where a variation hangs nowhere: its ply.
  pub same_ply : (figures (fill_of s o).answer).number ≡ 6 → stop_figure s 2 ≡ (figures (fill_of s o).answer).second
