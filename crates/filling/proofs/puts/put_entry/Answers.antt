-- The bytes are stored where the entries end.
-- Assumes nothing.
use borrow.Author.Tests.{ne_eqb}
use mathlib.Core.Path.{refl, sym, ◌∙◌}
use Rattle.filling.proofs.Putting.{entry-room, entry-none, entry_done}
use Rattle.filling.proofs.puts.put_entry.Goals as goal

pub returns-then-not-has_entry : goal.returns-then-not-has_entry
returns-then-not-has_entry c =
    let w = (let a = c.args in entry-none a.e a.first a.w a.out.now (sym c.has_entry.ensures ∙ c.if-not-has_entry.true)) in
    record { value = w.0; out_after = w.1 }

pub entered-requires : goal.entered-requires
entered-requires c = (entry-room _ _ (sym c.has_entry.ensures ∙ c.if-not-has_entry.false)).number

pub returns-then-count-eq0 : goal.returns-then-count-eq0
returns-then-count-eq0 c =
    let w = (let a = c.args in
    entry_done a.e a.first a.w a.out.now (sym c.has_entry.ensures ∙ c.if-not-has_entry.false) (sym c.if-count-eq0.true ∙ c.saturating_sub-count.ensures) refl
    c.put_entry_row.ensures c.entered.ensures) in
    record { value = w.0; out_after = w.1 }

pub entered-requires-2 : goal.entered-requires-2
entered-requires-2 c = (entry-room _ _ (sym c.has_entry.ensures ∙ c.if-not-has_entry.false)).number

pub returns : goal.returns
returns c =
    let w = (let a = c.args in
    entry_done a.e a.first a.w a.out.now (sym c.has_entry.ensures ∙ c.if-not-has_entry.false) c.saturating_sub-count.ensures (rw (ne_eqb _ 0 c.if-count-eq0.false) refl)
    c.put_entry_row-2.ensures c.entered-2.ensures) in
    record { value = w.0; out_after = w.1 }
