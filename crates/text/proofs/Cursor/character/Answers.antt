-- A character that is there ends in the text (`char-within`), so the sum fits.
-- Assumes nothing.
use native.Mathlib.Omega.{arith}
use borrow.Author.Tests.{eq-eqb, ne_eqb}
use Rattle.text.specs.Utf8.{char_width, character_at}
use Rattle.text.proofs.Widths.{turn, char_within}
use Rattle.text.proofs.Cursor.character.Goals as goal

pub returns-then-n-eq0 : goal.returns-then-n-eq0
unfolding character_at
returns-then-n-eq0 c = rw (← c.char_width-n.ensures, eq-eqb _ _ c.if-n-eq0.true)

pub overflow_add-result : goal.overflow_add-result
overflow_add-result c = omega (arith, (turn char_width char_within _ _ _ c.char_width-n.ensures c.if-n-eq0.false).within)

pub returns : goal.returns
unfolding character_at
returns c = rw (← c.char_width-n.ensures, ne_eqb _ _ c.if-n-eq0.false)
