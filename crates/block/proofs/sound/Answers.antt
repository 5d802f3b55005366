-- The tests in the definition's order, but that those of the comments come with those of the header table (`texts-first`).
-- Assumes nothing.
use borrow.Author.Rules.{rules}
use Rattle.block.specs.Sound.{soundb, totals_test, header_test, line_test, entry_test, comment_test}
use Rattle.block.specs.Decode.{headers_in, lines_in, moves_in, comments_in}
use Rattle.lists.proofs.Tests.{says}
use Rattle.lists.specs.Test.{each}
use Rattle.block.proofs.Spans.{texts_first}
use Rattle.block.proofs.sound.Goals as goal

pub returns-then-not-head_sound : goal.returns-then-not-head_sound
unfolding soundb
returns-then-not-head_sound c = search rules

pub texts_sound-requires : goal.texts_sound-requires
texts_sound-requires c =
    let t = says (totals_test c.args.b.now) (search rules) in
    (c.header_total-headers.ensures.0, c.header_total-headers.ensures.1, t.1.1.1)

pub returns-then-lines_sound : goal.returns-then-lines_sound
unfolding soundb
returns-then-lines_sound c =
    let b = c.args.b.now in
    rw (texts_first (each (headers_in b) (header_test b)) (each (lines_in b) (line_test b)) (each (moves_in b) (entry_test b)) (each (comments_in b) (comment_test b)))
    (search rules)

pub returns-else-lines_sound : goal.returns-else-lines_sound
unfolding soundb
returns-else-lines_sound c =
    let b = c.args.b.now in
    rw (texts_first (each (headers_in b) (header_test b)) (each (lines_in b) (line_test b)) (each (moves_in b) (entry_test b)) (each (comments_in b) (comment_test b)))
    (search rules)
