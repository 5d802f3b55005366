-- Only a hand line that cannot be read is a fault; every other tag is told by the last arm.
-- Assumes nothing.
use mathlib.Core.Path.{sym}
use Rattle.kakinoki.proofs.Tags.{fault_else}
use borrow.Enum.Refused.{opened}
use Rattle.kakinoki.proofs.infos.fault.Goals as goal

pub returns-in-Refused : goal.returns-in-Refused
returns-in-Refused c = rw c.in-Refused.is

pub returns-in_default : goal.returns-in_default
returns-in_default c = sym (fault_else c.args.info c.args.c.at (opened c.in_default.in_default-own.keys2))
