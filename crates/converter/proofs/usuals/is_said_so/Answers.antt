-- The plain text has no 不成 and each origin in brackets; the others where there is none, and no 0 in the origin.
-- Assumes nothing.
use borrow.Author.Tests.{not-true, eqb-false}
use Rattle.converter.proofs.Usually.{plain_so, whole_so, shared_so}
use Rattle.converter.proofs.usuals.is_said_so.Goals as goal

pub returns-in-Plain : goal.returns-in-Plain
returns-in-Plain c = λ e. rw c.in-Plain.is (plain_so _)

pub returns-in-Whole : goal.returns-in-Whole
returns-in-Whole c = λ e. rw c.in-Whole.is (whole_so _ (eqb-false _ _ (not-true _ e)))

pub returns-then-row-ne1 : goal.returns-then-row-ne1
returns-then-row-ne1 c = λ e. rw c.in-Shared.is (shared_so _ c.if-row-ne1.true (eqb-false _ _ (not-true _ e)))
