-- The counts are added one by one, as in the definition, and stop where its test does.
-- Assumes nothing.
use Prim.Native.Nat.{ℕ, ◌+◌, min}
use native.Mathlib.Omega.{arith}
use mathlib.Core.Path.{◌≡◌, sym}
use borrow.Author.Rules.{rules}
use Rattle.kakinoki.specs.Starts.{add_counts}
use Rattle.kakinoki.proofs.Sevens.{add_sevens}
use Rattle.kakinoki.proofs.starts.add_hands.Goals as goal

stops : (r x y : ℕ) → r ≡ min (x + y) 255 → r ≡ add_counts x y
stops r x y e = grind arith

pub returns : goal.returns
returns c =
    rw (stops _ _ _ c.saturating_add.ensures, stops _ _ _ c.saturating_add-2.ensures, stops _ _ _ c.saturating_add-3.ensures, stops _ _ _ c.saturating_add-4.ensures, stops _ _ _ c.saturating_add-5.ensures, stops _ _ _ c.saturating_add-6.ensures, stops _ _ _ c.saturating_add-7.ensures)
    (sym (add_sevens c.args.a c.args.b (search rules) (search rules)))
