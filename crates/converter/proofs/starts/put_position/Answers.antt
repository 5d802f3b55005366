-- The two cases of `position_text`.
-- Assumes nothing.
use native.Mathlib.Omega.{arith}
use mathlib.Core.Path.{sym, ap}
use lib.ListN.{length}
use Rattle.lent.proofs.Writes.{as_text}
use Rattle.converter.proofs.Cased.{position-preset, position-diagram}
use Rattle.converter.proofs.starts.put_position.Goals as goal

pub put_preset_line-requires : goal.put_preset_line-requires
put_preset_line-requires c = omega (arith, ap length (position-preset c.args.p c.if-p-eq0.true), c.requires)

pub returns-then-p-eq0 : goal.returns-then-p-eq0
returns-then-p-eq0 c = as_text (sym (position-preset c.args.p c.if-p-eq0.true)) c.put_preset_line.ensures

pub put_diagram-requires : goal.put_diagram-requires
put_diagram-requires c = omega (arith, ap length (position-diagram c.args.p c.if-p-eq0.false), c.requires)

pub returns : goal.returns
returns c = as_text (sym (position-diagram c.args.p c.if-p-eq0.false)) c.put_diagram.ensures
