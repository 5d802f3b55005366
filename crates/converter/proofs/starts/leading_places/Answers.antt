use native.Mathlib.Omega.{arith}
use mathlib.Core.Path.{◌≡◌, refl, sym, ◌∙◌}
use Rattle.block.specs.Decode.{key_of}
use Rattle.converter.specs.Headers.{leading_number}
use Rattle.converter.proofs.Heading.{number_in, placed-start, placed-none, placed-some, placed-all}
use Rattle.block.proofs.Sounding.{keeps}
use Rattle.converter.proofs.starts.leading_places.Goals as goal
use Rattle.converter.proofs.starts.leading_places.Goals.{After-wide-n, then-n-gt0, else-n-gt0}

-- the number of entry k's key
number : (c : After-wide-n) → leading_number (key_of c.args.b.bytes.now c.loop-k.k) ≡ c.wide-n.result
number c = number_in c.args.b.bytes.now c.loop-k.k c.texts_of-texts.ensures c.key_in.ensures ∙ sym (c.wide-n.ensures.0 ∙ c.leading_number.ensures.0)

pub loop-k-init : goal.loop-k-init
loop-k-init c = (omega arith, placed-start _ _ refl)

pub loop-k-preserved : goal.loop-k-preserved
loop-k-preserved c =
    let l = c.loop-k in
    let e = number (goal.at.loop-k-preserved c).After-wide-n in (
      omega arith,
      elim c.if-n-gt0.branch [
        | then-n-gt0 w ↦ rw w.places-is (placed-some l.invariant.1 (keeps c.args.b) (omega arith) c.wide-n.result e w.if-n-gt0.true (omega arith))
        | else-n-gt0 w ↦ let z : c.wide-n.result ≡ 0 = omega (arith, w.if-n-gt0.false) in rw w.places-is (placed-none l.invariant.1 (e ∙ z))
      ],
    )

pub returns : goal.returns
returns c = placed-all c.loop-k.invariant.1 (omega arith)
