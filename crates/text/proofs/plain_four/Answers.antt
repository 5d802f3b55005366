-- Where all four are counted, each is passed by one step of the definition (`four-run`).
-- Assumes nothing.
use Prim.Native.Nat.{◌≤◌}
use Rattle.text.specs.Text.{text_at}
use Rattle.text.proofs.Passing.{count-on, four_run, text-on}
use Rattle.text.proofs.plain_four.Goals as goal

pub returns : goal.returns
returns c =
    let a = c.args in
    four_run (text_at a.s.now) (λ b. 14 ≤ b) a.s.now (text-on a.s.now) a.at _ c.requires
    (count-on (count-on (count-on c.plain_one.ensures c.plain_one-2.ensures) c.plain_one-3.ensures) c.plain_one-4.ensures)
