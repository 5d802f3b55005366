use native.Mathlib.Omega.{arith}
use mathlib.Core.Path.{refl, sym, ◌∙◌}
use Rattle.kakinoki.proofs.Reach.{Kind}
use Rattle.kakinoki.proofs.Pieces.{holding_none, holding_more, holding_all, piece_known, step_none, step_high, step_full, step_more, room}
use Rattle.kakinoki.proofs.hands.pieces.Goals as goal
use Rattle.kakinoki.proofs.hands.pieces.Goals.{After-wide-k}

known : (c : After-wide-k) → Kind c.args.s.now c.loop-held.next.at c.in-Some.held.kind c.in-Some.held.next
known c = piece_known _ _ (sym c.piece.ensures ∙ c.in-Some.is)

pub loop-held-init : goal.loop-held-init
loop-held-init c = holding_none _ _

pub returns-in_default : goal.returns-in_default
returns-in_default c = holding_all c.loop-held.invariant (step_none _ _ _ (sym c.piece.ensures ∙ c.in_default.is))

pub returns-then-held-gt7 : goal.returns-then-held-gt7
returns-then-held-gt7 c = holding_all c.loop-held.invariant (step_high _ _ _ _ (sym c.piece.ensures ∙ c.in-Some.is) refl c.if-held-gt7.true)

pub overflow_sub-k : goal.overflow_sub-k
overflow_sub-k c = omega (arith, (known c).least, c.wide-k.ensures)

pub bounds-counts-k : goal.bounds-counts-k
bounds-counts-k c = omega (arith, c.if-held-gt7.false, c.wide-k.ensures)

pub overflow_sub-counts : goal.overflow_sub-counts
overflow_sub-counts c = c.loop-held.invariant.bytes.each _

pub returns-then-counts-k : goal.returns-then-counts-k
returns-then-counts-k c = holding_all c.loop-held.invariant (step_full _ _ _ _ (sym c.piece.ensures ∙ c.in-Some.is) c.wide-k.ensures.0 (omega (arith, c.if-held-gt7.false, c.wide-k.ensures)) c.if-counts-k.true)

pub bounds-counts-k-in-loop-held : goal.bounds-counts-k-in-loop-held
bounds-counts-k-in-loop-held c = omega (arith, c.if-held-gt7.false, c.wide-k.ensures)

pub overflow_add-counts : goal.overflow_add-counts
overflow_add-counts c = record { fits = room _ _ (c.loop-held.invariant.bytes.each _) c.if-counts-k.false }

pub bounds-counts-k-in-loop-held-2 : goal.bounds-counts-k-in-loop-held-2
bounds-counts-k-in-loop-held-2 c = omega (arith, c.if-held-gt7.false, c.wide-k.ensures)

pub loop-held-smaller : goal.loop-held-smaller
loop-held-smaller c = let a = (known (goal.at.loop-held-smaller c).After-wide-k).after in omega (arith, a.past, a.within)

pub loop-held-preserved : goal.loop-held-preserved
loop-held-preserved c = holding_more c.loop-held.invariant (step_more _ _ _ _ (sym c.piece.ensures ∙ c.in-Some.is) c.wide-k.ensures.0 (omega (arith, c.if-held-gt7.false, c.wide-k.ensures)) c.if-counts-k.false)
