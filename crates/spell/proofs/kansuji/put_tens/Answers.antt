-- The three cases of `tens_text`; a numeral has three bytes, so there is room.
-- Assumes nothing.
use native.Mathlib.Omega.{arith}
use mathlib.Core.Path.{sym}
use Rattle.spell.proofs.Counts.{numeral_short, tens-none, tens-one, tens-more}
use Rattle.spell.specs.Count.{ten}
use Rattle.spell.specs.Spell.{spelled}
use Rattle.spell.specs.Tables.{numerals}
use Rattle.lent.proofs.Writes.{as_text, nothing, wrote_all, wrote_length, rest_length, then}
use Rattle.spell.proofs.kansuji.put_tens.Goals as goal

pub returns-then-t-lt1 : goal.returns-then-t-lt1
returns-then-t-lt1 c = as_text (sym (tens-none c.args.t c.if-t-lt1.true)) (nothing _)

pub returns-then-is_one : goal.returns-then-is_one
returns-then-is_one c = as_text (sym (tens-one c.args.t c.if-t-lt1.false c.if-is_one.true)) (wrote_all (omega arith) c.put_bytes.ensures)

pub returns : goal.returns
returns c =
    let a = c.args in
    let h = numeral_short a.t in
    let w = wrote_all {t = spelled numerals a.t} (omega arith) c.put_numeral-n.ensures in
    let r = rest_length c.put_numeral-n.new.out c.put_numeral-n.result in
    let l = wrote_length w in
    let k = w.count in
    as_text (sym (tens-more a.t c.if-is_one.false)) (then w (wrote_all {t = ten} (omega arith) c.put_bytes-2.ensures))
