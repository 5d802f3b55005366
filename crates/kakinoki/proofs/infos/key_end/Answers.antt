use Prim.Native.Nat.{◌<◌}
use native.Mathlib.Omega.{arith}
use mathlib.Core.Path.{◌≡◌, sym, ap, ◌∙◌}
use mathlib.Core.Bool.{false}
use lib.ListN.{length, drop}
use Rattle.text.specs.Text.{ends_key}
use Rattle.kakinoki.proofs.Keys.{key-none, key_in, key_more}
use Rattle.kakinoki.proofs.infos.key_end.Goals as goal
use Rattle.kakinoki.proofs.infos.key_end.Goals.{In-loop-at}

on : (c : In-loop-at) → ends_key (drop c.loop-at.at c.args.s.now) ≡ false
on c = sym c.ends_key.ensures ∙ c.loop-at-test.true

inside : (c : In-loop-at) → c.loop-at.at < length c.args.s.now
inside c = key_in c.args.s.now c.loop-at.at (on c)

pub overflow_add-at : goal.overflow_add-at
overflow_add-at c = omega (arith, inside c)

pub loop-at-smaller : goal.loop-at-smaller
loop-at-smaller c = omega (arith, inside c)

pub loop-at-preserved : goal.loop-at-preserved
loop-at-preserved c =
    let m = ap length (key_more c.args.s.now c.loop-at.at (on c)) in
    omega (arith, c.loop-at.invariant, m)

pub returns : goal.returns
returns c =
    let m = ap length (key-none c.args.s.now c.loop-at.at (sym c.ends_key.ensures ∙ c.loop-at-test.false)) in
    omega (arith, c.loop-at.invariant, m, c.key_run-at.ensures)
