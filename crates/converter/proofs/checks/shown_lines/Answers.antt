use Prim.Native.Nat.{ℕ, ◌-◌}
use native.Mathlib.Omega.{arith}
use mathlib.Core.Path.{◌≡◌, sym, ap, ◌∙◌}
use Rattle.block.specs.Decode.{run, line_in, start_of}
use Rattle.converter.specs.Said.{shown}
use Rattle.converter.proofs.Blocked.{shown-first, shown-more, shown-stop, shown-none}
use Rattle.block.proofs.Sounding.{keeps}
use Rattle.converter.proofs.checks.shown_lines.Goals as goal

pub loop-k-init : goal.loop-k-init
loop-k-init c = (omega arith, omega (arith, c.lines_in-count.ensures.0, (keeps c.args.b).totals.0), shown-first (line_in c.args.b.bytes.now) c.lines_in-count.result)

pub invariant_of-result : goal.invariant_of-result
invariant_of-result c =
    let l = c.loop-k in
    let b = c.args.b.bytes.now in
    let z : start_of b l.k ≡ 0 = sym c.start_of.ensures.0 ∙ c.if-start_of-eq0.true in
    record {
      counted = record {
        some = l.invariant.0;
        most = omega (arith, c.lines_in-count.ensures.0);
        later =
            ap (λ (m : ℕ). shown (run (line_in b) 1 (m - 1))) (sym c.lines_in-count.ensures.0) ∙ l.invariant.2
            ∙ shown-stop (line_in b) c.lines_in-count.result l.k c.loop-k-test.true z;
      };
    }

pub loop-k-preserved : goal.loop-k-preserved
loop-k-preserved c =
    let l = c.loop-k in
    let b = c.args.b.bytes.now in
    let z : start_of b l.k ≡ 0 → ⊥ = λ e. c.if-start_of-eq0.false (c.start_of.ensures.0 ∙ e) in
    (omega arith, omega arith, l.invariant.2 ∙ shown-more (line_in b) c.lines_in-count.result l.k c.loop-k-test.true l.invariant.0 z)

pub invariant_of-result-2 : goal.invariant_of-result-2
invariant_of-result-2 c =
    let l = c.loop-k in
    let b = c.args.b.bytes.now in
    let e : l.k ≡ c.lines_in-count.result = omega arith in
    record {
      counted = record {
        some = omega arith;
        most = omega (arith, c.lines_in-count.ensures.0);
        later =
            ap (λ (m : ℕ). shown (run (line_in b) 1 (m - 1))) (sym c.lines_in-count.ensures.0) ∙ l.invariant.2
            ∙ shown-none (line_in b) c.lines_in-count.result l.k c.loop-k-test.false ∙ ap (λ (m : ℕ). run (line_in b) 1 (m - 1)) e;
      };
    }
