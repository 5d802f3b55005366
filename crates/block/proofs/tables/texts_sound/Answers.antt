-- The tests are those of `texts-are` (`Spans`): the text part, then where each text begins and how the keys ascend.
-- Assumes nothing.
use borrow.Author.Rules.{rules}
use mathlib.Core.Path.{sym, ◌∙◌}
use Rattle.block.proofs.Spans.{texts_are}
use Rattle.block.proofs.tables.texts_sound.Goals as goal

pub returns-then-keys_ascend : goal.returns-then-keys_ascend
returns-then-keys_ascend c = sym (texts_are c.args.b.now c.requires.2 ∙ rw (← c.text_place-t.ensures.0) (search rules))

pub returns-else-keys_ascend : goal.returns-else-keys_ascend
returns-else-keys_ascend c = sym (texts_are c.args.b.now c.requires.2 ∙ rw (← c.text_place-t.ensures.0) (search rules))
