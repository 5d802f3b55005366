-- The tens, and the ones after them.
-- Assumes nothing.
use Prim.Native.Nat.{◌/◌, ◌%◌}
use native.Mathlib.Omega.{arith}
use mathlib.Core.Path.{sym}
use Rattle.spell.proofs.Counts.{numeral_short, tens-short, count-parts}
use Rattle.spell.specs.Spell.{spelled}
use Rattle.spell.specs.Tables.{numerals}
use Rattle.lent.proofs.Writes.{as_text, wrote_all, wrote_length, rest_length, then}
use Rattle.spell.proofs.kansuji.put_parts.Goals as goal

pub returns : goal.returns
returns c =
    let a = c.args in
    let t = c.put_tens-m.ensures in
    let h = numeral_short (a.n % 10) in
    let s = tens-short (a.n / 10) in
    let r = rest_length c.put_tens-m.new.out c.put_tens-m.result in
    let l = wrote_length t in
    let k = t.count in
    as_text (sym (count-parts a.n (omega arith))) (then t (wrote_all {t = spelled numerals (a.n % 10)} (omega arith) c.put_numeral.ensures))
