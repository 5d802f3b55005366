-- The start is put into the room, the path is played there, and what stands in it is the position.
-- Assumes nothing.
use native.Mathlib.Omega.{arith}
use mathlib.Core.Path.{ap, ap₂, ◌∙◌}
use Rattle.jkf.specs.declared.Position.{Position}
use Rattle.positions.specs.declared.Trail.{Trail}
use Rattle.positions.specs.Paths.{path_to, play_all, course_of}
use Rattle.positions.proofs.Walks.{position-kept}
use Rattle.positions.proofs.paths.play_from.Goals as goal

pub returns : goal.returns
returns c =
    let a = c.args in
    c.course_of.ensures ∙ ap (course_of c.play_to-l.result) c.position_in.ensures ∙ c.play_to-l.ensures
    ∙ ap₂ (λ (l : Trail) (p : Position). play_all a.b.bytes.now (path_to a.b.bytes.now a.k a.n) (course_of l p)) c.no_trail.ensures
    (position-kept a.start c.requires.2 c.requires.3 (omega arith) c.put_position.ensures)
