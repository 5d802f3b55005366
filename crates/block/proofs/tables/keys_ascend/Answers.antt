use Rattle.block.proofs.Spans.{ascends-at, ascends-all}
use Rattle.block.proofs.Cuts.{key_in}
use Rattle.block.specs.Sound.{ascends}
use Rattle.block.specs.Decode.{headers_in, key_of}
use Rattle.lists.proofs.Tests.{all_none, all_more, all_not}
use Rattle.lists.specs.Test.{flag}
use lib.ListN.{drop}
use mathlib.Core.Path.{◌≡◌, sym, ap, ◌∙◌}
use native.Mathlib.Omega.{arith}
use Prim.Native.Nat.{ℕ, ◌+◌, ◌-◌}
use mathlib.Core.Bool.{Bool}
use Rattle.block.proofs.tables.keys_ascend.Goals as goal
use Rattle.block.proofs.tables.keys_ascend.Goals.{After-is_before}

-- the next key
next-is : (c : After-is_before) → c.text_in-next.result.now ≡ key_of c.args.b.now c.loop-k.k
next-is c =
    let b = c.args.b.now in
    c.text_in-next.ensures ∙ key_in b _ (c.rest-texts.ensures ∙ ap (λ (p : ℕ). drop p b) c.requires.1) c.loop-k.k

-- the key before entry k comes before it where the two texts do
goes-on : (c : After-is_before) → flag (ascends c.args.b.now (c.loop-k.k - 1)) ≡ c.is_before.result
goes-on c =
    let l = c.loop-k in
    let b = c.args.b.now in
    let e : l.k ≡ l.k - 1 + 1 = omega arith in
    ascends-at b (l.k - 1) l.invariant.1 (next-is c ∙ ap (key_of b) e) (omega (arith, c.headers-n.ensures)) ∙ sym c.is_before.ensures

pub loop-k-init : goal.loop-k-init
loop-k-init c =
    let b = c.args.b.now in
    (omega arith, c.text_in-key.ensures ∙ key_in b _ (c.rest-texts.ensures ∙ ap (λ (p : ℕ). drop p b) c.requires.1) 0, all_none _)

pub overflow_mul-k : goal.overflow_mul-k
overflow_mul-k c = omega (arith, c.headers-n.ensures)

pub text_in-next-requires : goal.text_in-next-requires
text_in-next-requires c = omega (arith, c.headers-n.ensures)

pub returns-then-not-is_before : goal.returns-then-not-is_before
returns-then-not-is_before c =
    let b = c.args.b.now in
    sym (all_not (λ (j : ℕ). flag (ascends b j)) (headers_in b) (c.loop-k.k - 1) (omega (arith, c.headers-n.ensures)) (goes-on (goal.at.returns-then-not-is_before c).After-is_before ∙ c.if-not-is_before.true))

pub loop-k-preserved : goal.loop-k-preserved
loop-k-preserved c =
    let l = c.loop-k in
    let b = c.args.b.now in
    let e : l.k - 1 + 1 ≡ l.k = omega arith in
    let f : l.k + 1 - 1 ≡ l.k = omega arith in
    let t : ℕ → Bool = λ j. flag (ascends b j) in (
      omega arith,
      rw f (next-is (goal.at.loop-k-preserved c).After-is_before),
      rw f (rw e at (all_more t (l.k - 1) l.invariant.2 (goes-on (goal.at.loop-k-preserved c).After-is_before ∙ c.if-not-is_before.false))),
    )

pub returns : goal.returns
returns c =
    let l = c.loop-k in
    sym (ascends-all c.args.b.now _ (l.k - 1) c.headers-n.ensures.0 l.invariant.0 (omega arith) l.invariant.2)
