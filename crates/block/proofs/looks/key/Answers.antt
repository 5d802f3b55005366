-- `look` over the header table.
-- Assumes nothing.
use mathlib.Core.Path.{refl}
use Rattle.block.proofs.LookUps.{looked}
use Rattle.block.specs.Decode.{key_of}
use Rattle.block.proofs.looks.key.Goals as goal

pub returns : goal.returns
unfolding key_of
returns c =
    let w = (looked c.args.b.now c.args.k c.headers.ensures.0 refl refl (c.look.ensures.result_value, c.look.ensures.answered)) in
    record { result_value = w.0; answered = w.1 }
