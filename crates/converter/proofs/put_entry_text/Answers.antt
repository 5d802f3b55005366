-- `entry_length` says whether the line of what is said fits.
-- Assumes nothing.
-- what was written of an entry was written of one that is the same
use Prim.Native.Nat.{ℕ}
use native.Mathlib.Omega.{arith}
use mathlib.Core.Path.{◌≡◌, ap}
use mathlib.Core.List.{List}
use Rattle.lent.specs.Bytes.{Wrote, fitting}
use Rattle.lent.proofs.Writes.{as_text, unwritten, written}
use Rattle.jkf.specs.declared.Entry.{Entry}
use Rattle.converter.specs.Entries.{entry_line}
use Rattle.converter.proofs.put_entry_text.Goals as goal

of-said : {e said : Entry} {o o₁ : List ℕ} {n : ℕ} (ply : ℕ) → said ≡ e → Wrote (fitting (entry_line ply said) o) o o₁ n → Wrote (fitting (entry_line ply e) o) o o₁ n
of-said {o = o} ply h w = as_text (ap (λ (x : Entry). fitting (entry_line ply x) o) h) w

pub returns-then-out-entry_length : goal.returns-then-out-entry_length
returns-then-out-entry_length c =
    of-said c.args.ply c.said_entry-said.ensures (unwritten _ _ (omega arith))

pub returns : goal.returns
returns c =
    of-said c.args.ply c.said_entry-said.ensures (written c.put_entry_line.ensures)
