-- The parts are the definition's; the second block's places are stored behind the first's, or nowhere where the buffer is full.
-- Assumes nothing.
use Prim.Native.Nat.{ℕ, ◌-◌, min}
use mathlib.Core.Path.{◌≡◌, sym, ap, ◌∙◌}
use lib.ListN.{length}
use borrow.Rule.Slice.PartMut.{put_mid}
use Rattle.lent.specs.Stored.{put}
use Rattle.kakinoki.specs.Informations.{header_places_at, low16}
use Rattle.kakinoki.specs.Starts.{header_places}
use native.Mathlib.Omega.{arith}
use Rattle.kakinoki.proofs.Blocks.{low-length}
use Rattle.kakinoki.proofs.Stored.{two_parts}
use Rattle.kakinoki.proofs.Starting.{block_headers, block_few, start-all, places_all}
use Rattle.kakinoki.proofs.starts.parse_without_moves.Goals as goal
use Rattle.kakinoki.proofs.starts.parse_without_moves.Goals.{After-position}

-- the buffer, filled in two parts
filled : (c : After-position) →
    put_mid c.min-kept.result (length c.informations-first.new.places - c.min-kept.result) c.informations-first.new.places c.informations-second.new.places
    ≡ put c.args.places.now 0 (low16 (header_places c.args.s.now))
filled c =
    let s = c.args.s.now in
    let o = c.args.places.now in
    let p = c.informations-first.ensures.value in
    let at = c.past_board.result.at in
    let n = block_headers s 0 c.informations-first.result p ∙ sym (low-length (header_places_at s 0)) in
    two_parts (low16 (header_places_at s 0)) (low16 (header_places_at s at)) o _ _ _ c.informations-first.ensures.places_after
    (c.min-kept.ensures ∙ ap (λ (i : ℕ). min i (length c.informations-first.new.places)) n) c.informations-second.ensures.places_after
    ∙ ap (put o 0) (places_all s c.informations-first.result c.board-diagram.result at p c.board-diagram.ensures c.past_board.ensures)

pub returns : goal.returns
returns c =
    record { value = start-all c.args.s.now c.informations-first.result c.board-diagram.result c.past_board.result.at c.informations-first.ensures.value c.board-diagram.ensures c.past_board.ensures c.informations-second.result c.merged.result c.position.result c.informations-second.ensures.value c.merged.ensures c.position.ensures; places_after = filled (goal.at.returns c).After-position }

pub overflow_add-result : goal.overflow_add-result
overflow_add-result c =
    let s = c.args.s.now in
    omega (arith, block_few s 0 _ c.informations-first.ensures.value, block_few s _ _ c.informations-second.ensures.value)
