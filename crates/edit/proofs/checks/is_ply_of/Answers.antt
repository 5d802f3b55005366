-- The line's row says where it starts and how many entries it has (`Played`); the tests are in their order.
-- Assumes nothing.
use mathlib.Core.Path.{sym, ◌∙◌}
use borrow.Author.Tests.{eq-eqb, ne_eqb, le-leb, lt-leb}
use Rattle.edit.specs.Edit.{is_ply_of}
use Rattle.edit.proofs.Seeking.{ply_is}
use Rattle.edit.proofs.checks.is_ply_of.Goals as goal

pub returns-then-j-eq0 : goal.returns-then-j-eq0
unfolding is_ply_of
returns-then-j-eq0 c = rw (eq-eqb _ _ c.if-j-eq0.true)

pub returns-then-start-j : goal.returns-then-start-j
unfolding is_ply_of
returns-then-start-j c =
    let a = c.args in
    sym (ply_is a.b.now a.k a.j c.requires ∙ rw (ne_eqb _ _ c.if-j-eq0.false, ← c.start_of-start.ensures.0, le-leb _ _ c.if-start-j.true, ← c.entry_count.ensures.0))

pub returns-else-start-j : goal.returns-else-start-j
unfolding is_ply_of
returns-else-start-j c =
    let a = c.args in
    sym (ply_is a.b.now a.k a.j c.requires ∙ rw (ne_eqb _ _ c.if-j-eq0.false, ← c.start_of-start.ensures.0, lt-leb _ _ c.if-start-j.false))
