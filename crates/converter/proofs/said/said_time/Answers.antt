-- The plain text's time by `plain_time`; the others say a time as it is.
-- Assumes nothing.
use mathlib.Core.Logic.{inl, inr}
use Rattle.converter.proofs.Saying.{whole-time, shared-time}
use Rattle.converter.proofs.said.said_time.Goals as goal

pub returns-in-Whole : goal.returns-in-Whole
returns-in-Whole c = elim c.in-Whole.is [ inl e ↦ rw e (whole-time _) | inr e ↦ rw e (shared-time _) ]
