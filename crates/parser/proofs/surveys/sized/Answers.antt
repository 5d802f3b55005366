-- What is counted are the sizes of the block of what the text says.
-- Assumes nothing.
use native.Mathlib.Omega.{arith}
use mathlib.Core.Path.{refl, sym, ap, ◌∙◌, subst}
use Rattle.parser.specs.inner.Headers.{HeaderLines}
use Rattle.parser.specs.inner.Lines.{extents_at}
use Rattle.kakinoki.proofs.Bounds.{moves-within}
use Rattle.parser.proofs.Storing.{header-lines, sizes_are, taken_is, bounds}
use Rattle.parser.proofs.surveys.sized.Goals as goal

pub count_lines-all-requires : goal.count_lines-all-requires
count_lines-all-requires c = omega (arith, c.requires.place, moves-within c.args.s.now)

pub count_headers-requires : goal.count_headers-requires
count_headers-requires c = subst (HeaderLines c.args.s.now) (sym c.requires.headers) (header-lines c.args.s.now c.requires.short)

pub overflow_add-result : goal.overflow_add-result
overflow_add-result c = let b = bounds c.count_lines-all.result c.requires c.count_lines-all.ensures in omega (arith, b.bytes, b.text, c.count_headers.ensures)

pub returns : goal.returns
returns c =
    let e = c.count_lines-all.ensures ∙ ap (extents_at c.args.s.now) c.requires.place in (
      refl,
      record {
        ready = c.requires;
        count = refl;
        sizes = sizes_are c.args.s.now c.count_lines-all.result c.args.headers.now c.count_headers.result e c.requires.headers c.count_headers.ensures;
        taken = taken_is c.args.s.now c.count_lines-all.result e;
      },
    )
