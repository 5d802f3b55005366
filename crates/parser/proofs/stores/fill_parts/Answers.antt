-- The parts are the block of what the text says; or the first variation that does not hang is told.
-- Assumes nothing.
use lib.ListN.{length, replicate}
use Prim.Native.Nat.{ℕ}
use mathlib.Core.Path.{◌≡◌, sym, ap, ◌∙◌, subst}
use Rattle.parser.specs.inner.Headers.{HeaderLines}
use Rattle.parser.proofs.Storing.{header-lines}
use Rattle.parser.proofs.Completing.{lines_there, all_stored, none_stored}
use borrow.Author.Rules.{rules}
use Rattle.parser.proofs.stores.fill_parts.Goals as goal

pub fill_headers-v-requires : goal.fill_headers-v-requires
fill_headers-v-requires c = subst (HeaderLines c.args.s.now) (sym c.requires.prepared.headers) (header-lines c.args.s.now c.requires.prepared.short)

pub fill_lines-requires : goal.fill_lines-requires
fill_lines-requires c = lines_there c.args.s.now c.args.c c.args.headers.now c.requires.prepared c.args.w c.args.total c.args.out.now c.requires.opened c.fill_headers-v.result _ c.fill_headers-v.ensures.value c.fill_headers-v.ensures.out_after

pub returns-in-Ok : goal.returns-in-Ok
returns-in-Ok c =
    let w = (all_stored c.args.s.now c.args.c c.args.headers.now c.requires.prepared c.args.w c.args.total c.args.out.now c.requires.opened c.fill_headers-v.result _ c.fill_headers-v.ensures.value c.fill_headers-v.ensures.out_after c.fill_lines.result c.in-Ok.end c.in-Ok.lost c.fill_lines.ensures.value c.fill_lines.ensures.out_after c.in-Ok.is) in
    record { answer_value = w.0; out_after = w.1.0; lost_value = w.1.1 }

pub returns-in-Err : goal.returns-in-Err
returns-in-Err c = let e : length c.fill_lines.new.out ≡ length c.args.out.now = search rules in
    let x = none_stored c.args.s.now c.args.c c.args.headers.now c.requires.prepared c.args.w c.args.total c.args.out.now c.requires.opened c.fill_headers-v.result _ c.fill_headers-v.ensures.value c.fill_headers-v.ensures.out_after c.fill_lines.result c.in-Err.variation c.in-Err.ply c.fill_lines.ensures.value c.in-Err.is (c.clear.ensures ∙ ap (λ (k : ℕ). replicate k 0) e) in record { answer_value = c.refused.ensures.0 ∙ x.0; out_after = x.1.0; lost_value = c.refused.ensures.1 ∙ x.1.1 }
