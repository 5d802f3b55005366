use Prim.Native.Nat.{◌+◌, ◌-◌}
use native.Mathlib.Nat.{le_refl}
use native.Mathlib.Omega.{arith}
use mathlib.Core.Path.{◌≡◌, ap, ◌∙◌}
use lib.ListN.{length, get_or}
use Rattle.text.specs.Text.{key_at}
use Rattle.sorted.specs.inner.Heads.{head_of}
use Rattle.sorted.proofs.Keys.{More, key_more, key-end, key-past, no_head}
use Rattle.sorted.proofs.Packs.{leading_start, leading_end, leading_fits, leading_on, leading_off}
use Rattle.sorted.proofs.lead.Goals as goal
use Rattle.sorted.proofs.lead.Goals.{Else-h-eq0}

-- in a turn that finds a byte of the key: the text, the place, and that byte
abbrev At : Type 0
At = Else-h-eq0

more : (c : At) → More c.args.s.now c.loop.i
more c = key_more c.args.s.now c.loop.i (omega arith)

byte : (c : At) → c.key_head-h.result ≡ get_or c.args.s.now c.loop.i 0 + 1
byte c = c.key_head-h.ensures.0 ∙ ap head_of (more c).parts

pub loop-init : goal.loop-init
loop-init c = leading_start (key_at c.args.s.now c.args.at)

pub overflow_mul-v : goal.overflow_mul-v
overflow_mul-v c = omega (arith, leading_fits c.loop.invariant (omega arith))

pub loop-preserved-then-h-eq0 : goal.loop-preserved-then-h-eq0
loop-preserved-then-h-eq0 c =
    let s = c.args.s.now in
    let e : 6 - c.loop.counter - 1 ≡ 6 - (c.loop.counter + 1) = omega arith in
    rw e at (leading_off c.loop.invariant (omega arith) (key_at s (length s)) (no_head _ (omega arith)) (no_head _ (key-end s (length s) (key-past s (length s) (le_refl (length s))))))

pub overflow_mul-v-in-loop : goal.overflow_mul-v-in-loop
overflow_mul-v-in-loop c = omega (arith, leading_fits c.loop.invariant (omega arith))

pub overflow_add-v : goal.overflow_add-v
overflow_add-v c = omega (arith, leading_fits c.loop.invariant (omega arith))

pub overflow_add-i : goal.overflow_add-i
overflow_add-i c = omega (arith, (more c).in_text)

pub loop-preserved : goal.loop-preserved
loop-preserved c =
    let e : get_or c.args.s.now c.loop.i 0 ≡ c.key_head-h.result - 1 = omega (arith, byte c) in
    let n : 6 - c.loop.counter - 1 ≡ 6 - (c.loop.counter + 1) = omega arith in
    rw (e, n) at (leading_on c.loop.invariant (omega arith) _ _ (more c).parts (omega (arith, byte c)))

pub returns : goal.returns
returns c = leading_end _ _ _ _ c.loop.invariant (omega arith)
