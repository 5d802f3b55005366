-- Each arm is that of `said_origin`.
-- Assumes nothing.
use mathlib.Core.Logic.{inl, inr}
use Rattle.converter.specs.Said.{said_origin}
use Rattle.converter.proofs.said.said_origin.Goals as goal

pub returns-in-Plain : goal.returns-in-Plain
unfolding said_origin
returns-in-Plain c = elim c.in-Plain.is [ inl e ↦ rw e | inr e ↦ rw e ]

pub returns-in-Shared : goal.returns-in-Shared
unfolding said_origin
returns-in-Shared c = rw (c.in-Shared.is, ← c.as_drop.ensures)
