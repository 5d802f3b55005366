-- What is read takes at least as many bytes of the text as it counts: so no count overflows.
-- Assumes nothing.
use Rattle.std.specs.Prelude.{Option, Some, None}
use Prim.Native.Nat.{ℕ, zero, suc, ◌+◌, ◌-◌, ◌*◌, ◌≤◌}
use native.Mathlib.Omega.{arith}
use mathlib.Core.Path.{◌≡◌, refl, sym, ap}
use mathlib.Core.List.{List, [], ◌∷◌}
use lib.ListN.{length, drop, length-append, length-drop}
use lib.Seq.{length-take-le}
use Rattle.lists.specs.Repeat.{Step, more, stop, ended, on_step, many_from}
use Rattle.lists.proofs.Repeats.{many_within}
use Rattle.jkf.specs.Model.{Noted}
use Rattle.block.specs.Encode.{concat, comments_of, comment_text}
use Rattle.block.proofs.Tabling.{concat-append}
use Rattle.moves.specs.Moves.{on_remark, on_move_line, move_line_at, comment_line_at}
use Rattle.moves.specs.declared.Remark.{Remark}
use Rattle.moves.specs.declared.MoveLine.{MoveLine}
use Rattle.moves.proofs.Goings.{move_goes, remark_goes}
use Rattle.moves.proofs.Widths.{move-line-wide}
use Rattle.plays.specs.Plays.{noted, comment_item, comments_at, entry_item, entries_at}
use Rattle.plays.proofs.Items.{on_both, no_more, text_of, comments-from, entry_goes}

-- ---- of a list, one by one

unfoldable pub weight : {A : Type 0} → (A → ℕ) → List A → ℕ
weight f [] = 0
weight f (x ∷ l) = f x + weight f l

-- items that take at least their weight
pub many_weighs : {A : Type 0} (item : ℕ → Step A) (f : A → ℕ) → ((at next : ℕ) (a : A) → item at ≡ more next a → at + f a ≤ next)
    → (k at : ℕ) → at + weight f (many_from item k at).state ≤ (many_from item k at).at
unfolding many_from weight
many_weighs item f h zero at = omega arith
many_weighs {A} item f h (suc k) at = go (item at) refl (many_weighs item f h k)
  where
    go : (r : Step A) → item at ≡ r → ((next : ℕ) → next + weight f (many_from item k next).state ≤ (many_from item k next).at)
        → at + weight f (on_step r (λ next a. ended (many_from item k next).at (a ∷ (many_from item k next).state)) (ended at [])).state
        ≤ (on_step r (λ next a. ended (many_from item k next).at (a ∷ (many_from item k next).state)) (ended at [])).at
    go (more next a) e ih = omega (arith, h at next a e, ih next)
    go stop e ih = omega arith

-- ---- comments

-- a comment, and its bytes
abbrev comment_weight : List ℕ → ℕ
comment_weight c = 1 + length c

comments_weight : (cs : List (List ℕ)) → weight comment_weight cs ≡ length cs + length (comment_text cs)
unfolding weight concat
comments_weight [] = refl
comments_weight (c ∷ cs) = omega (arith, comments_weight cs, length-append c (comment_text cs))

module _ (s : List ℕ) where
  comment_takes : (at next : ℕ) (c : List ℕ) → comment_item s at ≡ more next c → at + comment_weight c ≤ next
  unfolding comment_item
  comment_takes at next c = go (comment_line_at s at) refl
    where
      go : (r : Option Remark) → comment_line_at s at ≡ r → on_remark r (λ from to n. more n.at (text_of s from to)) stop ≡ more next c → at + comment_weight c ≤ next
      go (Some r) q e =
          let (p, w) = on_both e in
          let h = remark_goes s at r.from r.to r.next q in
          let l : length (text_of s r.from r.to) ≡ r.to.at - r.from.at = length-take-le (r.to.at - r.from.at) (drop r.from.at s) (rw (length-drop r.from.at s) (omega (arith, h.1, h.2, h.3))) in
          omega (arith, p, ap length w, l, h.0, h.1, h.2)
      go None q e = no_more e

  pub comments-short : (at : ℕ) → at + (length (comments_at s at).state + length (comment_text (comments_at s at).state)) ≤ (comments_at s at).at
  unfolding comments_at
  comments-short at =
      omega (arith, many_weighs (comment_item s) comment_weight comment_takes (length s) at, comments_weight (many_from (comment_item s) (length s) at).state)

-- ---- entries

-- an entry, its comments and their bytes
abbrev entry_weight : Noted → ℕ
entry_weight e = 1 + (length e.comments + length (comment_text e.comments))

entries_weight : (es : List Noted) → weight entry_weight es ≡ length es + (length (comments_of es) + length (comment_text (comments_of es)))
unfolding weight concat
entries_weight [] = refl
entries_weight (e ∷ es) =
    omega (arith, entries_weight es, length-append e.comments (comments_of es), ap length (concat-append (λ c. c) e.comments (comments_of es)), length-append (comment_text e.comments) (comment_text (comments_of es)))

eights : (es : List Noted) → weight (λ e. 8) es ≡ 8 * length es
unfolding weight
eights [] = refl
eights (e ∷ es) = omega (arith, eights es)

module _ (s : List ℕ) where
  abbrev some : ℕ → ℕ → List Noted
  some k at = (many_from (entry_item s) k at).state

  entry_takes : (at next : ℕ) (x : Noted) → entry_item s at ≡ more next x → at + entry_weight x ≤ next
  unfolding entry_item
  entry_takes at next x = go (move_line_at s at) refl
    where
      go : (r : Option MoveLine) → move_line_at s at ≡ r
          → on_move_line r (λ n e c. more (comments_at s c.at).at (noted e (comments_at s c.at).state)) stop ≡ more next x → at + entry_weight x ≤ next
      go (Some r) q w =
          let (p, z) = on_both w in
          let y : entry_weight x ≡ entry_weight (noted r.entry (comments_at s r.next.at).state) = ap entry_weight (sym z) in
          omega (arith, p, y, (move_goes s at r.number r.entry r.next q).past, comments-short s r.next.at)
      go None q e = no_more e

  -- so many of them as the fuel says
  entries_weigh : (k at : ℕ) → at + (length (some k at) + (length (comments_of (some k at)) + length (comment_text (comments_of (some k at))))) ≤ (many_from (entry_item s) k at).at
  entries_weigh k at = omega (arith, many_weighs (entry_item s) entry_weight entry_takes k at, entries_weight (some k at))

  pub entries-short : (at : ℕ)
      → at + (length (entries_at s at).state + (length (comments_of (entries_at s at).state) + length (comment_text (comments_of (entries_at s at).state)))) ≤ (entries_at s at).at
  unfolding entries_at
  entries-short at = entries_weigh (length s) at

  -- and all this is no more than the text has
  pub entries-room : (k at : ℕ) → length (some k at) + (length (comments_of (some k at)) + length (comment_text (comments_of (some k at)))) ≤ length s
  entries-room k at = omega (arith, entries_weigh k at, many_within (entry_item s) (length s) (entry_goes s) k at)

  -- an entry has eight bytes at least
  entry-wide : (at next : ℕ) (x : Noted) → entry_item s at ≡ more next x → at + 8 ≤ next
  unfolding entry_item
  entry-wide at next x = go (move_line_at s at) refl
    where
      go : (r : Option MoveLine) → move_line_at s at ≡ r
          → on_move_line r (λ n e c. more (comments_at s c.at).at (noted e (comments_at s c.at).state)) stop ≡ more next x → at + 8 ≤ next
      go (Some r) q w = omega (arith, (on_both w).0, move-line-wide s at q, comments-from s r.next.at)
      go None q e = no_more e

  pub entries-wide : (at : ℕ) → at + 8 * length (entries_at s at).state ≤ (entries_at s at).at
  unfolding entries_at
  entries-wide at = omega (arith, many_weighs (entry_item s) (λ e. 8) entry-wide (length s) at, eights (many_from (entry_item s) (length s) at).state)
