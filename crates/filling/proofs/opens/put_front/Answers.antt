-- The position stands after the 28 bytes of the head.
-- Assumes nothing.
use native.Mathlib.Omega.{arith}
use Rattle.filling.proofs.Putting.{length-short, front_done}
use Rattle.filling.proofs.opens.put_front.Goals as goal

pub overflow_cast-headers : goal.overflow_cast-headers
overflow_cast-headers c = let p = c.requires in omega (arith, p.0, p.1, length-short c.args.z (omega (arith, p.0, p.1)))

pub overflow_cast-lines : goal.overflow_cast-lines
overflow_cast-lines c = let p = c.requires in omega (arith, p.0, p.1, length-short c.args.z (omega (arith, p.0, p.1)))

pub overflow_cast-entries : goal.overflow_cast-entries
overflow_cast-entries c = let p = c.requires in omega (arith, p.0, p.1, length-short c.args.z (omega (arith, p.0, p.1)))

pub overflow_cast-comments : goal.overflow_cast-comments
overflow_cast-comments c = let p = c.requires in omega (arith, p.0, p.1, length-short c.args.z (omega (arith, p.0, p.1)))

pub returns : goal.returns
returns c = let a = c.args in let p = c.requires in front_done a.version a.z a.position a.out.now (omega (arith, p.0, p.1)) (omega (arith, p.0, p.2)) (rw p.0 at c.put_head.ensures) c.put_position.ensures
