-- Each part begins where the one before it ends.
-- Assumes nothing.
use mathlib.Core.Path.{refl}
use native.Mathlib.Omega.{arith}
use Rattle.filling.specs.Filling.{begun}
use Rattle.filling.proofs.Putting.{small-sizes}
use Rattle.filling.proofs.opens.begin.Goals as goal

pub overflow_mul-lines : goal.overflow_mul-lines
overflow_mul-lines c = let r = small-sizes c.args.z c.requires in omega (arith, r.headers, r.lines, r.entries, r.comments)

pub overflow_add-lines : goal.overflow_add-lines
overflow_add-lines c = let r = small-sizes c.args.z c.requires in omega (arith, r.headers, r.lines, r.entries, r.comments)

pub overflow_mul-moves : goal.overflow_mul-moves
overflow_mul-moves c = let r = small-sizes c.args.z c.requires in omega (arith, r.headers, r.lines, r.entries, r.comments)

pub overflow_add-moves : goal.overflow_add-moves
overflow_add-moves c = let r = small-sizes c.args.z c.requires in omega (arith, r.headers, r.lines, r.entries, r.comments)

pub overflow_mul-comments : goal.overflow_mul-comments
overflow_mul-comments c = let r = small-sizes c.args.z c.requires in omega (arith, r.headers, r.lines, r.entries, r.comments)

pub overflow_add-comments : goal.overflow_add-comments
overflow_add-comments c = let r = small-sizes c.args.z c.requires in omega (arith, r.headers, r.lines, r.entries, r.comments)

pub overflow_mul-text : goal.overflow_mul-text
overflow_mul-text c = let r = small-sizes c.args.z c.requires in omega (arith, r.headers, r.lines, r.entries, r.comments)

pub overflow_add-text : goal.overflow_add-text
overflow_add-text c = let r = small-sizes c.args.z c.requires in omega (arith, r.headers, r.lines, r.entries, r.comments)

pub returns : goal.returns
unfolding begun
returns c = refl
