-- Times that are lost in a line of play, one by one: what is counted and what is still to count come to all that there is.
-- Assumes nothing.
use Rattle.std.specs.Prelude.{Option, Some, None}
use Prim.Native.Nat.{ℕ, zero, suc, ◌+◌, ◌≤◌}
use native.Mathlib.Omega.{arith}
use mathlib.Core.Path.{◌≡◌, refl, ap}
use mathlib.Core.Bool.{Bool, true, false}
use mathlib.Core.List.{List, [], ◌∷◌}
use lib.ListN.{length}
use Rattle.lists.specs.Repeat.{more, stop, Ended, ended, on_step, many_from}
use Rattle.lists.proofs.Repeats.{ItemGoes, many_more, many_stop}
use Rattle.text.specs.declared.Cursor.{Cursor}
use Rattle.jkf.specs.declared.Entry.{Entry}
use Rattle.moves.specs.Moves.{on_move_line, move_line_at}
use Rattle.moves.specs.Lost.{line_lost}
use Rattle.moves.specs.declared.MoveLine.{MoveLine}
use Rattle.plays.specs.Plays.{noted, comments_at, entry_item, entries_at}
use Rattle.plays.specs.Losses.{one, sum_of, loss_item, lost_from}
use Rattle.plays.proofs.Items.{on_both, no_more, line_goes, entries-max}
use Rattle.plays.proofs.Weights.{weight, many_weighs}

pub sum_weighs : (l : List ℕ) → weight (λ n. n) l ≡ sum_of l
unfolding weight sum_of
sum_weighs [] = refl
sum_weighs (n ∷ l) = ap (λ (k : ℕ). n + k) (sum_weighs l)

one-most : (b : Bool) → one b ≤ 1
one-most true = omega arith
one-most false = omega arith

module _ (s : List ℕ) where
  loss_goes : ItemGoes (loss_item s) (length s)
  unfolding loss_item
  loss_goes at next a = line_goes s (λ n e. one (line_lost s at)) at next a

  pub losses_more : (at n : ℕ) (e : Entry) (c : Cursor) → move_line_at s at ≡ Some (record { number = n; entry = e; next = c })
      → lost_from s at ≡ one (line_lost s at) + lost_from s (comments_at s c.at).at
  unfolding lost_from loss_item sum_of
  losses_more at n e c q =
      ap (λ (r : Ended (List ℕ)). sum_of r.state) (many_more (loss_item s) (length s) loss_goes at (comments_at s c.at).at (one (line_lost s at)) (rw q))

  pub losses_none : (at : ℕ) → move_line_at s at ≡ None → lost_from s at ≡ 0
  unfolding lost_from loss_item sum_of
  losses_none at q = ap (λ (r : Ended (List ℕ)). sum_of r.state) (many_stop (loss_item s) (length s) at (rw q))

  -- a line takes more bytes than it counts
  loss_takes : (at next a : ℕ) → loss_item s at ≡ more next a → at + a ≤ next
  unfolding loss_item
  loss_takes at next a = go (move_line_at s at) refl
    where
      go : (r : Option MoveLine) → move_line_at s at ≡ r → on_move_line r (λ n e c. more (comments_at s c.at).at (one (line_lost s at))) stop ≡ more next a → at + a ≤ next
      go (Some r) q w =
          let (p, z) = on_both w in
          omega (arith, z, one-most (line_lost s at), (line_goes s (λ m x. one (line_lost s at)) at next a (rw q w)).0)
      go None q w = no_more w

  -- the walk is that of the entries
  ends_same : (k at : ℕ) → (many_from (loss_item s) k at).at ≡ (many_from (entry_item s) k at).at
  unfolding many_from loss_item entry_item
  ends_same zero at = refl
  ends_same (suc k) at = go (move_line_at s at) (ends_same k)
    where
      go : (r : Option MoveLine) → ((next : ℕ) → (many_from (loss_item s) k next).at ≡ (many_from (entry_item s) k next).at)
          → (on_step (on_move_line r (λ n e c. more (comments_at s c.at).at (one (line_lost s at))) stop) (λ next a. ended (many_from (loss_item s) k next).at (a ∷ (many_from (loss_item s) k next).state)) (ended at [])).at
          ≡ (on_step (on_move_line r (λ n e c. more (comments_at s c.at).at (noted e (comments_at s c.at).state)) stop) (λ next a. ended (many_from (entry_item s) k next).at (a ∷ (many_from (entry_item s) k next).state)) (ended at [])).at
      go (Some r) ih = ih (comments_at s r.next.at).at
      go None ih = refl

  -- so their number does not overflow
  pub losses_short : (at : ℕ) → at + lost_from s at ≤ (entries_at s at).at
  unfolding lost_from entries_at
  losses_short at =
      omega (arith, many_weighs (loss_item s) (λ n. n) loss_takes (length s) at, sum_weighs (many_from (loss_item s) (length s) at).state, ends_same (length s) at)

  pub losses_few : (at : ℕ) → lost_from s at ≤ length s
  losses_few at = omega (arith, losses_short at, entries-max s at)
