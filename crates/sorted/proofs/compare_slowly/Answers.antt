use Prim.Native.Nat.{◌<◌}
use native.Mathlib.Omega.{arith}
use mathlib.Core.Path.{◌≡◌, sym, ◌∙◌}
use Rattle.text.specs.Text.{key_at}
use Rattle.sorted.specs.inner.Heads.{head_of}
use Rattle.sorted.proofs.Keys.{key_more, head_less, head_greater, head-none, head_more}
use Rattle.sorted.proofs.compare_slowly.Goals as goal
use Rattle.sorted.proofs.compare_slowly.Goals.{Else-a-eq0}

-- in a turn that goes on: the text, the two places, that the heads there are the same, and that there is one
abbrev At : Type 0
At = Else-a-eq0

same : (c : At) → head_of (key_at c.args.s.now c.loop-p.i) ≡ head_of (key_at c.args.s.now c.loop-p.j)
same c = omega arith

some : (c : At) → 0 < head_of (key_at c.args.s.now c.loop-p.i)
some c = omega arith

pub returns-then-a-b : goal.returns-then-a-b
returns-then-a-b c = sym (c.loop-p.invariant ∙ head_less _ _ (omega arith))

pub returns-then-b-a : goal.returns-then-b-a
returns-then-b-a c = sym (c.loop-p.invariant ∙ head_greater _ _ (omega arith))

pub returns-then-a-eq0 : goal.returns-then-a-eq0
returns-then-a-eq0 c = sym (c.loop-p.invariant ∙ head-none _ _ (omega arith) (omega arith))

pub overflow_add-i : goal.overflow_add-i
overflow_add-i c = omega (arith, (key_more c.args.s.now c.loop-p.i (some c)).in_text)

pub overflow_add-j : goal.overflow_add-j
overflow_add-j c = omega (arith, (key_more c.args.s.now c.loop-p.j (omega (arith, same c, some c))).in_text)

pub loop-p-smaller : goal.loop-p-smaller
loop-p-smaller c = omega (arith, (key_more c.args.s.now c.loop-p.i (some c)).in_text)

pub loop-p-preserved : goal.loop-p-preserved
loop-p-preserved c = c.loop-p.invariant ∙ head_more c.args.s.now c.loop-p.i c.loop-p.j (same c) (some c)
