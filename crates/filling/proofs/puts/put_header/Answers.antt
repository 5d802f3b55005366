-- The row, the key and the value behind it are stored at their ends.
-- Assumes nothing.
use mathlib.Core.Path.{sym, ◌∙◌}
use native.Mathlib.Omega.{arith}
use lib.ListN.{length}
use Rattle.filling.proofs.Putting.{header-room, header-none, header_done}
use Rattle.filling.proofs.puts.put_header.Goals as goal

pub returns-then-not-has_header : goal.returns-then-not-has_header
returns-then-not-has_header c =
    let w = (let a = c.args in header-none a.key.now a.value.now a.w a.out.now (sym c.has_header.ensures ∙ c.if-not-has_header.true)) in
    record { value = w.0; out_after = w.1 }

pub overflow_add-middle : goal.overflow_add-middle
overflow_add-middle c = let a = c.args in omega (arith, (header-room (length a.key.now) (length a.value.now) a.w (length a.out.now) (sym c.has_header.ensures ∙ c.if-not-has_header.false)).bytes)

pub overflow_add-result : goal.overflow_add-result
overflow_add-result c = let a = c.args in omega (arith, (header-room (length a.key.now) (length a.value.now) a.w (length a.out.now) (sym c.has_header.ensures ∙ c.if-not-has_header.false)).bytes)

pub returns : goal.returns
returns c =
    let w = (let a = c.args in header_done a.key.now a.value.now a.w a.out.now (sym c.has_header.ensures ∙ c.if-not-has_header.false) c.put_header_row-headers.ensures c.put_at-past.ensures c.put_at-text.ensures) in
    record { value = w.0; out_after = w.1 }
