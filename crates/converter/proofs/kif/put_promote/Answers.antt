-- 成 for a mark of 2, 不成 for 1, and nothing else, each with its room.
-- Assumes nothing.
use mathlib.Core.Path.{sym}
use borrow.Author.Tests.{eq-eqb, ne_eqb}
use Rattle.lent.proofs.Room.{bytes_of}
use Rattle.lent.proofs.Writes.{as_text, nothing}
use Rattle.converter.specs.Entries.{promote_text}
use Rattle.converter.proofs.kif.put_promote.Goals as goal

pub returns-then-promote-eq2 : goal.returns-then-promote-eq2
unfolding promote_text
returns-then-promote-eq2 c = bytes_of (sym (simp (eq-eqb _ _ c.if-promote-eq2.true))) c.requires c.put_bytes.ensures

pub returns-then-promote-eq1 : goal.returns-then-promote-eq1
unfolding promote_text
returns-then-promote-eq1 c = bytes_of (sym (simp (ne_eqb _ _ c.if-promote-eq2.false, eq-eqb _ _ c.if-promote-eq1.true))) c.requires c.put_bytes-then-promote-eq1.ensures

pub returns : goal.returns
unfolding promote_text
returns c = as_text (sym (simp (ne_eqb _ _ c.if-promote-eq2.false, ne_eqb _ _ c.if-promote-eq1.false))) (nothing _)
