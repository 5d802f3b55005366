-- Where all four are counted, each is passed by one step of the definition (`four-run`).
-- Assumes nothing.
use Prim.Native.Nat.{◌<◌}
use Rattle.text.specs.Text.{past_all}
use Rattle.text.specs.Utf8.{char_width}
use Rattle.text.proofs.Passing.{count-on, four_run, ascii_on}
use Rattle.text.proofs.utf8.ascii_four.Goals as goal

pub returns : goal.returns
returns c =
    let a = c.args in
    four_run (past_all char_width a.s.now) (λ b. b < 128) a.s.now (ascii_on a.s.now) a.at _ c.requires
    (count-on (count-on (count-on c.ascii_one.ensures c.ascii_one-2.ensures) c.ascii_one-3.ensures) c.ascii_one-4.ensures)
