-- Each entry is written once, with four bytes besides its key and value.
-- Assumes nothing.
use native.Mathlib.Omega.{arith}
use mathlib.Core.Path.{sym, ◌∙◌}
use Rattle.converter.proofs.Measuring.{headers-length}
use Rattle.block.proofs.Sounding.{keeps}
use Rattle.converter.proofs.lengths.headers_length.Goals as goal

pub returns : goal.returns
returns c =
    let b = c.args.b.bytes.now in
    (sym (headers-length b (keeps c.args.b) ∙ omega arith), omega arith)
