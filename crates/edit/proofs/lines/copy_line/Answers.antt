-- The entries of the line, and then its row, on its parent renumbered (`whole-made`).
-- Assumes nothing.
use native.Mathlib.Omega.{arith}
use mathlib.Core.Path.{ap, ap₂, ◌∙◌}
use Rattle.block.specs.Decode.{run, noted_in}
use Rattle.block.proofs.Within.{lines-small, entries-within}
use Rattle.edit.specs.inner.Splicing.{shifted}
use Rattle.edit.proofs.Runs.{moved}
use Rattle.edit.proofs.Hung.{whole-made}
use Rattle.block.proofs.Sounding.{keeps}
use Rattle.edit.proofs.lines.copy_line.Goals as goal

pub copy_entries-v-requires : goal.copy_entries-v-requires
copy_entries-v-requires c =
    omega (arith, entries-within c.args.b.bytes.now (keeps c.args.b) c.args.i c.requires.0, c.first_entry-first.ensures.0, c.entry_count.ensures.0)

pub returns : goal.returns
returns c =
    let w = (let a = c.args in
    let b = a.b.bytes.now in
    let number = shifted a.x.p a.x.q a.x.added in
    whole-made (moved number b a.i) a.w a.out.now (ap₂ (run (noted_in b)) c.first_entry-first.ensures.0 c.entry_count.ensures.0) c.start_of-start.ensures.0
    (c.shifted-parent.ensures.0 ∙ ap number c.parent_of.ensures.0) c.copy_entries-v.ensures.value c.copy_entries-v.ensures.out_after c.put_line.ensures.value c.put_line.ensures.out_after) in
    record { value = w.0; out_after = w.1 }

pub overflow_cast-line : goal.overflow_cast-line
overflow_cast-line c = omega (arith, lines-small c.args.b.bytes.now (keeps c.args.b))
