-- The position is taken from the room, played on, and put back (`in-room`).
-- Assumes nothing.
use mathlib.Core.Path.{sym, ap, subst, ◌∙◌}
use Rattle.block.specs.Decode.{run}
use Rattle.positions.specs.declared.Course.{Course}
use Rattle.positions.specs.Paths.{entry_place, play_all, course_of}
use Rattle.positions.proofs.Longs.{Long, long_in, long-all}
use Rattle.positions.proofs.Walks.{position-kept, in_room}
use Rattle.positions.proofs.paths.play_in.Goals as goal

pub returns : goal.returns
returns c =
    let a = c.args in
    let d = c.play_line-c.result in
    let l : Long d.position = subst (λ (x : Course). Long x.position) (sym (c.play_line-c.ensures ∙ ap (play_all a.b.now (run (entry_place a.k) 0 a.n)) (c.course_of.ensures ∙ ap (course_of a.l) c.position_in.ensures))) (long-all _ _ _ (long_in _)) in
    in_room a.b.now (run (entry_place a.k) 0 a.n) a.l _ _ c.position_in.ensures c.course_of.ensures c.play_line-c.ensures c.trail_of.ensures
    (position-kept d.position l.cells l.hands c.requires.1 c.put_position.ensures)
