-- The lines before line p, the new ones, and those from line q on are put: these are all (`put-spliced`).
-- Assumes nothing.
use native.Mathlib.Omega.{arith}
use mathlib.Core.Path.{ap}
use Rattle.filling.specs.declared.Sizes.{Sizes}
use Rattle.edit.specs.inner.Splicing.{new_lines}
use Rattle.edit.proofs.Assembled.{put-spliced}
use Rattle.edit.proofs.lines.put_lines.Goals as goal

pub copy_lines-v-requires : goal.copy_lines-v-requires
copy_lines-v-requires c = let a = c.requires in (omega (arith, a.0, a.1), a.0, c.sizes_added.ensures.0)

pub put_added-u-requires : goal.put_added-u-requires
put_added-u-requires c = c.requires.2

pub overflow_sub-lines_in : goal.overflow_sub-lines_in
overflow_sub-lines_in c = omega (arith, c.lines_in.ensures.0, c.requires.1)

pub copy_lines-requires : goal.copy_lines-requires
copy_lines-requires c =
    let a = c.requires in (omega (arith, c.lines_in.ensures.0, a.1), a.0, c.sizes_added.ensures.0)

pub returns : goal.returns
returns c =
    let a = c.args in
    let h = c.requires in
    put-spliced a.b.bytes.now a.p a.q (new_lines a.a a.t.now) a.w a.out.now h.0 h.1 (ap (λ (z : Sizes). z.lines) (c.sizes_added.ensures.1 a.t.now h.2)) c.copy_lines-v.ensures.value c.copy_lines-v.ensures.out_after c.put_added-u.ensures.value c.put_added-u.ensures.out_after c.lines_in.ensures.0 c.copy_lines.ensures.out_after
