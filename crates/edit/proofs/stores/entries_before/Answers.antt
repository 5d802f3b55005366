-- A line's row says where its entries begin, which in a sound block is past those of the lines before it; past the last line that is past all entries.
-- Assumes nothing.
use native.Mathlib.Omega.{arith}
use mathlib.Core.Path.{◌≡◌, ap, sym, ◌∙◌}
use Rattle.block.specs.Sound.{entries_before}
use Rattle.block.specs.Decode.{lines_in}
use Rattle.block.proofs.Within.{entries_below}
use Rattle.edit.proofs.Runs.{first_is, before-all}
use Rattle.block.proofs.Sounding.{keeps}
use Rattle.edit.proofs.stores.entries_before.Goals as goal

pub returns-then-k-lines_in : goal.returns-then-k-lines_in
returns-then-k-lines_in c =
    let a = c.args in
    let b = a.b.bytes.now in
    let s = keeps a.b in
    let e = c.first_entry.ensures.0 ∙ first_is b s a.k (omega arith) in
    (e, omega (arith, e, entries_below b s a.k c.requires))

pub returns : goal.returns
returns c =
    let a = c.args in
    let b = a.b.bytes.now in
    let s = keeps a.b in
    let z : a.k ≡ lines_in b = omega arith in
    let e = c.moves_in.ensures.0 ∙ sym (before-all b s) ∙ ap (entries_before b) (sym z) in
    (e, omega arith)
