use Prim.Native.Nat.{◌+◌, ◌-◌}
use native.Mathlib.Omega.{arith}
use mathlib.Core.Path.{◌≡◌, ap, ◌∙◌}
use lib.ListN.{length}
use Rattle.block.specs.Decode.{run}
use Rattle.block.specs.Encode.{concat}
use Rattle.block.proofs.Within.{lines-small, moves-small, entries_below}
use Rattle.converter.specs.Show.{variation_text}
use Rattle.converter.specs.inner.Lines.{line_said}
use Rattle.converter.proofs.Counted.{parts_zero, parts_next, entries-after}
use Rattle.block.proofs.Sounding.{keeps}
use Rattle.converter.proofs.lengths.variations_length.Goals as goal

pub loop-k-init : goal.loop-k-init
loop-k-init c = (omega arith, omega arith, parts_zero variation_text (line_said c.args.mode c.args.s.block.bytes.now), omega arith)

pub variation_length-n-requires : goal.variation_length-n-requires
variation_length-n-requires c = omega arith

pub overflow_add-n : goal.overflow_add-n
overflow_add-n c =
    let b = c.args.s.block.bytes.now in
    let s = keeps c.args.s.block in
    let k = c.loop-k.k in
    omega (arith, entries_below b s (k + 1) (omega arith), entries-after b k, moves-small b s, lines-small b s)

pub loop-k-preserved : goal.loop-k-preserved
loop-k-preserved c =
    let b = c.args.s.block.bytes.now in
    let l = c.loop-k in
    (omega arith, omega arith, parts_next variation_text (line_said c.args.mode b) l.k l.n c.variation_length-n.result l.invariant.0 l.invariant.2 c.variation_length-n.ensures.0, omega (arith, entries-after b l.k))

pub returns : goal.returns
returns c =
    let b = c.args.s.block.bytes.now in
    let s = keeps c.args.s.block in
    let l = c.loop-k in
    let z : l.k ≡ c.args.s.lines = omega arith in
    (l.invariant.2 ∙ ap (λ k. length (concat variation_text (run (line_said c.args.mode b) 1 (k - 1)))) z, omega (arith, entries_below b s l.k (omega arith), moves-small b s, lines-small b s))
