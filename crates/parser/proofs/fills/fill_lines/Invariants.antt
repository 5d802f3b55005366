-- Each turn fills in one variation more: those before it are in the buffer, and all of them hang.
-- Assumes nothing.
use Prim.Native.Nat.{ℕ, ◌+◌, ◌-◌}
use mathlib.Core.Path.{◌≡◌}
use mathlib.Core.List.{List, [], ◌∷◌}
use lib.ListN.{length}
use Rattle.jkf.specs.Attaching.{attach}
use Rattle.filling.specs.inner.Parts.{LinesFit, Lined}
use Rattle.filling.specs.declared.Walk.{Walk}
use Rattle.plays.specs.Plays.{slot_at, past_main, plays_at}
use Rattle.plays.specs.Losses.{variations_lost}
use Rattle.parser.specs.inner.Lines.{main_line}
use Rattle.parser.proofs.Lining.{Lining}
use Rattle.parser.proofs.fills.fill_lines.Given as goal

abbrev pub invariant-loop-walk : goal.invariant-loop-walk
invariant-loop-walk l = ((at : ℕ) (w : Walk) (o : List ℕ) → w.lines ≡ l.table → LinesFit (attach (plays_at l.s at).state) w o → Lined (main_line l.s at ∷ []) w l.initial.walk o l.initial.out → l.initial.next.at ≡ past_main l.s (slot_at l.s at).at → Lining l.s at l.k w l.walk l.next.at o l.out) × (l.initial.lost + variations_lost l.s l.initial.next.at ≡ l.lost + variations_lost l.s l.next.at)

abbrev pub decreases-loop-walk : goal.decreases-loop-walk
decreases-loop-walk l = length l.s - l.next.at
