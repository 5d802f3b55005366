use Prim.Native.Nat.{ℕ, suc, ◌-◌, ◌<◌, ◌*◌}
use native.Mathlib.Omega.{arith}
use mathlib.Core.Path.{◌≡◌, sym, ap, ◌∙◌}
use mathlib.Core.List.{List}
use lib.ListN.{length}
use Rattle.jkf.proofs.Nears.{not_past, follow_here, follow_up, follow_stuck, followed-near}
use Rattle.jkf.specs.Attaching.{near}
use Rattle.jkf.specs.Following.{start_at, Linked, follow, followed}
use Rattle.jkf.proofs.attaching.nearest.Goals as goal
use Rattle.jkf.proofs.attaching.nearest.Goals.{In-loop-p}

-- a line that starts above s has its row in the table
above : (c : In-loop-p) → 8 * c.loop-p.j < length c.args.lines.now
above c =
    let a = c.args in
    not_past a.lines.now (8 * c.loop-p.j) a.s (omega (arith, c.start.ensures))

-- what is found along the parents is the nearest, where these are right
also_near : (lines : List ℕ) (k s : ℕ) {r : ℕ} → r ≡ followed lines s k → Linked lines k → r ≡ near (start_at lines) s k
also_near lines k s e l = e ∙ followed-near l s

pub returns-then-k-eq0 : goal.returns-then-k-eq0
unfolding follow
returns-then-k-eq0 c =
    let a = c.args in
    let e = sym (ap (λ (n : ℕ). follow a.lines.now a.s n (a.k - 1)) c.if-k-eq0.true) in
    record { by_parents = e; as_searched = also_near a.lines.now a.k a.s e }

pub loop-p-init : goal.loop-p-init
loop-p-init c =
    let a = c.args in
    let e : a.k ≡ suc (a.k - 1) = omega arith in
    (omega arith, ap (λ (n : ℕ). follow a.lines.now a.s n (a.k - 1)) e)

pub overflow_mul-j : goal.overflow_mul-j
overflow_mul-j c = omega (arith, above c)

pub overflow_add-j : goal.overflow_add-j
overflow_add-j c = omega (arith, above c)

pub returns-then-j-p : goal.returns-then-j-p
returns-then-j-p c =
    let a = c.loop-p in
    let e = sym (a.invariant.1 ∙ follow_stuck _ _ a.j (omega (arith, c.start.ensures)) (omega (arith, c.get16-p.ensures.0))) in
    record { by_parents = e; as_searched = also_near _ _ _ e }

pub loop-p-preserved : goal.loop-p-preserved
loop-p-preserved c =
    let a = c.loop-p in
    (omega arith, a.invariant.1 ∙ follow_up _ _ a.j c.get16-p.result (omega (arith, c.start.ensures)) c.get16-p.ensures.0 c.if-j-p.false)

pub returns : goal.returns
returns c =
    let a = c.loop-p in
    let e = sym (a.invariant.1 ∙ follow_here _ _ a.j (omega (arith, c.start.ensures))) in
    record { by_parents = e; as_searched = also_near _ _ _ e }
