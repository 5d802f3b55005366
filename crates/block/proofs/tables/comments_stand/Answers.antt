use Prim.Native.Nat.{◌+◌, ◌*◌}
use native.Mathlib.Omega.{arith}
use mathlib.Core.Path.{◌≡◌, sym, ap, ◌∙◌}
use Rattle.lent.specs.Bytes.{le16}
use Rattle.block.specs.Decode.{comments_in, comment_place, comment_length}
use Rattle.block.proofs.TablePasses.{passed_start, passed_more, passed_not, passed_all}
use Rattle.block.proofs.Spans.{comment_stands}
use Rattle.block.proofs.tables.comments_stand.Goals as goal

pub loop-k-init : goal.loop-k-init
loop-k-init c = (omega arith, passed_start _ _ _ _ c.requires.0)

pub comment_stands-requires : goal.comment_stands-requires
comment_stands-requires c = (c.comment_place-rows.ensures.0, omega (arith, c.comments-n.ensures, c.comment_place-rows.ensures, c.requires.3), c.loop-k.invariant.1.sums, omega (arith, c.comments-n.ensures), omega arith)

pub returns-then-not-comment_stands : goal.returns-then-not-comment_stands
returns-then-not-comment_stands c =
    let a = c.args in
    sym (passed_not (comment_stands a.b.now a.t) (λ j. 0) (comments_in a.b.now) c.loop-k.k (omega (arith, c.comments-n.ensures)) (sym c.comment_stands.ensures ∙ c.if-not-comment_stands.true))

pub overflow_mul-k : goal.overflow_mul-k
overflow_mul-k c = omega (arith, c.comments-n.ensures, c.comment_place-rows.ensures, c.requires.3)

pub overflow_add-rows : goal.overflow_add-rows
overflow_add-rows c = omega (arith, c.comments-n.ensures, c.comment_place-rows.ensures, c.requires.3)

pub overflow_add-rows-in-loop-k : goal.overflow_add-rows-in-loop-k
overflow_add-rows-in-loop-k c = omega (arith, c.comments-n.ensures, c.comment_place-rows.ensures, c.requires.3)

pub pair-at-requires : goal.pair-at-requires
pair-at-requires c = omega (arith, c.comments-n.ensures, c.comment_place-rows.ensures, c.requires.3)

pub loop-k-preserved : goal.loop-k-preserved
loop-k-preserved c =
    let l = c.loop-k in
    let b = c.args.b.now in
    let z : c.comment_place-rows.result + 4 * l.k + 2 ≡ comment_place b l.k + 2 = omega (arith, c.comment_place-rows.ensures.0) in
    let e : c.pair-at.result ≡ comment_length b l.k = c.pair-at.ensures.0 ∙ ap (le16 b) z in
    (omega arith, passed_more _ _ _ l.invariant.1 (sym c.comment_stands.ensures ∙ c.if-not-comment_stands.false) (omega arith))

pub returns : goal.returns
returns c =
    let l = c.loop-k in
    sym (passed_all _ _ (comments_in c.args.b.now) l.invariant.1 (omega (arith, c.comments-n.ensures)))
