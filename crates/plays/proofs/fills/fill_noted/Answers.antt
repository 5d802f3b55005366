-- The comments first, and then the entry, whose bytes say how many they are.
-- Assumes nothing.
use Rattle.plays.specs.Plays.{comments_at}
use Rattle.filling.proofs.Growing.{noted_done}
use Rattle.plays.proofs.fills.fill_noted.Goals as goal

pub returns : goal.returns
returns c =
    let w = (let a = c.args in
    noted_done a.e (comments_at a.s.now a.c.at).state a.w a.out.now c.fill_comments-comments.ensures.walk_value c.fill_comments-comments.ensures.out_after c.put_entry-walk.ensures.value c.put_entry-walk.ensures.out_after c.fill_comments-comments.ensures.at_value) in
    record { walk_value = w.0; out_after = w.1.0; at_value = w.1.1 }
