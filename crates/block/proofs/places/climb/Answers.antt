use Prim.Native.Nat.{ℕ, suc, ◌-◌, ◌<◌}
use mathlib.Core.List.{List}
use native.Mathlib.Omega.{arith}
use mathlib.Core.Path.{◌≡◌, sym, ap, ◌∙◌}
use Rattle.jkf.specs.Trees.{HangAs}
use Rattle.jkf.specs.inner.Climbing.{climb}
use Rattle.jkf.proofs.Chains.{Falls, parent-before}
use Rattle.jkf.proofs.Branching.{branched_falls}
use Rattle.jkf.proofs.OneTwo.{branched_as}
use Rattle.jkf.proofs.OnePass.{climb_here, climb_up}
use Rattle.block.specs.Decode.{version_in, start_of, entry_count, parent_of}
use Rattle.block.proofs.places.climb.Goals as goal

-- the parents of the lines before line k stand before them
falling : (b : List ℕ) (k : ℕ) → 0 < k → HangAs (version_in b) (start_of b) (entry_count b) (parent_of b) k → Falls (parent_of b) k
falling b k z h = branched_falls (start_of b) (entry_count b) (parent_of b) (branched_as (start_of b) (entry_count b) (parent_of b) (version_in b) k z h)

pub parent_of-up-requires : goal.parent_of-up-requires
parent_of-up-requires c = omega (arith, c.requires.1)

pub loop-up-init : goal.loop-up-init
loop-up-init c =
    let e : c.args.k ≡ suc (c.args.k - 1) = omega (arith, c.requires.0) in
    (omega (arith, c.requires.0), c.parent_of-up.ensures, ap (λ (n : ℕ). climb (parent_of c.args.b.now) c.args.p n (c.args.k - 1)) e)

pub parent_of-up-requires-in-loop-up : goal.parent_of-up-requires-in-loop-up
parent_of-up-requires-in-loop-up c = c.loop-up.invariant.1.1

pub loop-up-smaller : goal.loop-up-smaller
loop-up-smaller c =
    let b = c.args.b.now in
    let l = c.loop-up in
    omega (arith, l.invariant.1.0, parent-before (falling b c.args.k c.requires.0 c.requires.2) l.q l.invariant.0 (omega (arith, l.invariant.1.0, c.loop-up-test.true)))

pub loop-up-preserved : goal.loop-up-preserved
loop-up-preserved c =
    let b = c.args.b.now in
    let l = c.loop-up in
    let w = falling b c.args.k c.requires.0 c.requires.2 in
    let h : c.args.p < parent_of b l.q = omega (arith, l.invariant.1.0, c.loop-up-test.true) in
    let f = parent-before w l.q l.invariant.0 (omega arith) in (
      omega (arith, l.invariant.0, l.invariant.1.0),
      c.parent_of-up-in-loop-up.ensures,
      l.invariant.2 ∙ climb_up (parent_of b) c.args.p w l.q l.invariant.0 h ∙ sym (ap (λ (n : ℕ). climb (parent_of b) c.args.p (suc n) n) l.invariant.1.0),
    )

pub returns : goal.returns
returns c =
    let l = c.loop-up in (
      sym (l.invariant.2 ∙ climb_here (parent_of c.args.b.now) c.args.p l.q (omega (arith, l.invariant.1.0, c.loop-up-test.false))),
      omega (arith, l.invariant.0, c.requires.1),
    )
