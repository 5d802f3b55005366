-- The moves begin within the text: a diagram that is there ends past a line break, and an information block within the text.
-- Assumes nothing.
use Rattle.std.specs.Prelude.{Some}
use Prim.Native.Nat.{ℕ, ◌≤◌}
use native.Mathlib.Omega.{arith}
use mathlib.Core.Path.{◌≡◌}
use mathlib.Core.List.{List}
use mathlib.Core.Bool.{true, false≢true}
use lib.ListN.{length}
use Rattle.lists.proofs.Laws.{by_pick}
use Rattle.text.specs.Text.{tag_at, break_at}
use Rattle.text.specs.declared.Cursor.{Cursor}
use Rattle.text.proofs.Laws.{break_after, place_back}
use Rattle.text.proofs.Answers.{by_past}
use Rattle.spell.specs.Words.{files_tag, rule_tag}
use Rattle.kakinoki.specs.Boards.{no_cells, no_board, rows_from, ruled_at, board_at}
use Rattle.kakinoki.specs.Starts.{first_block, diagram, second_place, start_read}
use Rattle.kakinoki.specs.declared.Board.{Board}
use Rattle.kakinoki.proofs.Places.{block_within}

ruled_within : (t s : List ℕ) (at : ℕ) (c : Cursor) → ruled_at t s at ≡ Some c → c.at ≤ length s
ruled_within t s at c e =
    let (d, p, q) = place_back (tag_at t s at) (λ d. break_at s d.at) c e in
    (break_after s d.at c q).within

board-within : (s : List ℕ) (at : ℕ) → (board_at s at).there ≡ true → (board_at s at).next.at ≤ length s
unfolding board_at
board-within s at =
    by_past Q none (ruled_at files_tag s at)
    (λ c _. by_past Q none (ruled_at rule_tag s c.at)
    (λ d _. by_pick Q (rows_from s 0 9 d.at no_cells).there _ no_board
    (λ _. by_past Q none (ruled_at rule_tag s (rows_from s 0 9 d.at no_cells).next.at) (λ e q t. ruled_within rule_tag s (rows_from s 0 9 d.at no_cells).next.at e q)) (λ _. none)))
  where
    Q : Board → Type 0
    Q b = b.there ≡ true → b.next.at ≤ length s

    none : Q no_board
    none t = absurd (false≢true t)

pub moves-within : (s : List ℕ) → (start_read s).next.at ≤ length s
unfolding start_read
moves-within s =
    let a : (first_block s).at ≤ length s = omega (arith, block_within s 0) in
    let b : second_place s ≤ length s = by_pick (λ (n : ℕ). n ≤ length s) (diagram s).there (diagram s).next.at (first_block s).at (λ t. board-within s (first_block s).at t) (λ t. a) in
    omega (arith, b, block_within s (second_place s))
