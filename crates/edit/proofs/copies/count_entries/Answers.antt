use Prim.Native.Nat.{◌+◌}
use native.Mathlib.Omega.{arith}
use mathlib.Core.Path.{◌≡◌, ap, ap₂, ◌∙◌}
use lib.ListN.{length}
use Rattle.block.specs.Encode.{comments_of, comment_text}
use Rattle.block.specs.Decode.{run, first_comment, comment_count, comment_of, noted_in}
use Rattle.block.proofs.Tabling.{length_run}
use Rattle.block.proofs.Within.{moves-small, comments-within, comments-small}
use Rattle.edit.proofs.Copied.{comments-none, bytes-none, comments-more, bytes-more}
use Rattle.block.proofs.Sounding.{keeps}
use Rattle.edit.proofs.copies.count_entries.Goals as goal

pub loop-i-init : goal.loop-i-init
loop-i-init c =
    let a = c.args in
    (omega arith, omega (arith, comments-none (noted_in a.b.bytes.now) a.k), omega (arith, bytes-none (noted_in a.b.bytes.now) a.k), omega arith, omega arith)

pub comment_bytes-bytes-requires : goal.comment_bytes-bytes-requires
comment_bytes-bytes-requires c =
    let k = c.args.k + c.loop-i.i in
    let s = keeps c.args.b in
    omega (arith, comments-within c.args.b.bytes.now s k (omega (arith, c.requires, c.loop-i-test.true)), comments-small c.args.b.bytes.now s, c.first_comment.ensures.0, c.comment_count-c.ensures.0)

pub loop-i-preserved : goal.loop-i-preserved
loop-i-preserved c =
    let a = c.args in
    let b = a.b.bytes.now in
    let l = c.loop-i in
    let k = a.k + l.i in
    let g = length_run (comment_of b) (first_comment b k) (comment_count b k) in
    let e = ap₂ (λ i j. length (comment_text (run (comment_of b) i j))) c.first_comment.ensures.0 c.comment_count-c.ensures.0 in (
      omega arith,
      omega (arith, l.invariant.1, c.comment_count-c.ensures.0, g, comments-more (noted_in b) a.k l.i),
      omega (arith, l.invariant.2, c.comment_bytes-bytes.ensures.0, e, bytes-more (noted_in b) a.k l.i),
      omega (arith, l.invariant.3, c.comment_count-c.ensures.1),
      omega (arith, l.invariant.4, c.comment_bytes-bytes.ensures.1, c.comment_count-c.ensures.1),
    )

pub returns : goal.returns
returns c =
    let a = c.args in
    let l = c.loop-i in
    let z : l.i ≡ a.count = omega arith in
    let e = ap (λ i. length (comments_of (run (noted_in a.b.bytes.now) a.k i))) z in
    let f = ap (λ i. length (comment_text (comments_of (run (noted_in a.b.bytes.now) a.k i)))) z in
    record { count_value = (l.invariant.1 ∙ e, l.invariant.2 ∙ f); count_bound = (omega (arith, l.invariant.3, z), omega (arith, l.invariant.4, z)) }

pub overflow_add-e : goal.overflow_add-e
overflow_add-e c = omega (arith, moves-small c.args.b.bytes.now (keeps c.args.b))

pub overflow_cast-e : goal.overflow_cast-e
overflow_cast-e c = omega (arith, moves-small c.args.b.bytes.now (keeps c.args.b))

pub overflow_add-comments : goal.overflow_add-comments
overflow_add-comments c = omega (arith, moves-small c.args.b.bytes.now (keeps c.args.b), c.loop-i.invariant.3, c.comment_count-c.ensures.1)

pub overflow_add-bytes : goal.overflow_add-bytes
overflow_add-bytes c = omega (arith, moves-small c.args.b.bytes.now (keeps c.args.b), c.loop-i.invariant.4, c.comment_bytes-bytes.ensures.1, c.comment_count-c.ensures.1)
