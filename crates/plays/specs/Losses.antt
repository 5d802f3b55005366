-- How many move lines lost a time to a figure too large.                                            (02, request (iv))
-- Assumes nothing: these are definitions.
use Rattle.std.specs.Prelude.{ℕ, ◌+◌, List, [], ◌∷◌, Bool, length}
use Rattle.lists.specs.Pick.{pick}
use Rattle.lists.specs.Repeat.{Step, more, stop, on_step, many_from}
use Rattle.moves.specs.Lost.{line_lost}
use Rattle.plays.specs.Plays.{line_item, skips_at, variation_item, slot_at, past_main}

-- 1 for yes, 0 for no.
abbrev pub one : Bool → ℕ
one b = pick b 1 0

-- All numbers of a list together.
unfoldable pub sum_of : List ℕ → ℕ
sum_of [] = 0
sum_of (n ∷ l) = n + sum_of l

-- A move line, with its comments behind it, counts where it lost its time.
unfoldable pub loss_item : List ℕ → ℕ → Step ℕ
loss_item s at = line_item (λ n e. one (line_lost s at)) s at

-- Over a line of play.
unfoldable pub lost_from : List ℕ → ℕ → ℕ
lost_from s at = sum_of (many_from (loss_item s) (length s) at).state

-- A variation counts by its line of play, past the skip lines in front of it.
unfoldable pub variation_loss : List ℕ → ℕ → Step ℕ
variation_loss s at = on_step (variation_item s at) (λ next v. more next (lost_from s (skips_at s at))) stop

-- Over the variations from a place on.
unfoldable pub variations_lost : List ℕ → ℕ → ℕ
variations_lost s at = sum_of (many_from (variation_loss s) (length s) at).state

-- Over the main line and the variations, from the place past the information blocks and the board.
unfoldable pub plays_lost : List ℕ → ℕ → ℕ
plays_lost s at = lost_from s (slot_at s at).at + variations_lost s (past_main s (slot_at s at).at)
