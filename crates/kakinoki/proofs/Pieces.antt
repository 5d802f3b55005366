-- Laws of the pieces of a hand: each goes on, and the counts that they make are seven bytes.
-- Assumes nothing.
use Rattle.std.specs.Prelude.{Option, Some, None}
use Prim.Native.Nat.{ℕ, ◌+◌, ◌-◌, ◌≤◌, ◌<◌}
use native.Mathlib.Omega.{arith}
use mathlib.Core.Path.{◌≡◌, refl, sym, subst, ap, ◌∙◌}
use mathlib.Core.List.{List}
use lib.ListN.{length, get_or, set}
use lib.Dec.{ltb}
use borrow.Author.Tests.{lt-ltb, le-ltb, ltb-false}
use Rattle.lists.specs.Pick.{pick}
use Rattle.lists.specs.Repeat.{Step, more, stop, Ended, repeat_from}
use Rattle.lists.proofs.Laws.{by_pick}
use Rattle.lists.proofs.Repeats.{Goes, repeat_more, repeat_stop}
use Rattle.text.specs.Text.{cursor, tag_at, padding_at}
use Rattle.text.specs.declared.Cursor.{Cursor}
use Rattle.text.proofs.Laws.{After}
use Rattle.text.proofs.Answers.{by_place}
use Rattle.spell.proofs.Answers.{by_spelled}
use Rattle.kakinoki.specs.Informations.{on_piece, hand, piece_at, empty_hand, piece_step, pieces_at, hand_at}
use Rattle.spell.specs.Words.{none_tag}
use Rattle.kakinoki.specs.declared.Piece.{Piece}
use Rattle.kakinoki.specs.declared.Hand.{Hand}
use Rattle.kakinoki.proofs.Filled.{Filled, filled-set, filled_zeros}
use Rattle.kakinoki.proofs.Reach.{Kind, kind_known, onward, count_after, padding_on, repeat_keeps}

-- ---- one piece

-- what holds of a piece that is there
abbrev OnPiece : (ℕ → ℕ → Cursor → Type 0) → Option Piece → Type 0
OnPiece P (Some p) = P p.kind p.count p.next
OnPiece P None = Unit {0}

-- padding after a place that was reached
padded : {at : ℕ} {c : Cursor} (s : List ℕ) → After at (length s) c → After at (length s) (cursor (padding_at s c.at))
padded {at} {c} s a =
    let p = a.past in
    let q = a.within in
    let w = padding_on s c.at in
    let f = w.from in
    record { past = omega arith; within = omega (arith, w.within) }

-- the same kind, with what follows it
further : {s : List ℕ} {at k : ℕ} {c d : Cursor} → Kind s at k c → After at (length s) d → Kind s at k d
further h a = record { least = h.least; most = h.most; after = a }

piece_taken : (s : List ℕ) (at : ℕ) → OnPiece (λ k n c. Kind s at k c) (piece_at s at)
unfolding piece_at
piece_taken s at =
    by_spelled (OnPiece (λ k n c. Kind s at k c)) tt (kind_known s at)
    (λ k c h. by_spelled (OnPiece (λ k n c. Kind s at k c)) (further h (padded s h.after)) (count_after s c.at)
    (λ n d a. further h (onward h.after (padded s a))))

-- a piece that was read is past its place
pub piece_known : (s : List ℕ) (at : ℕ) {k n : ℕ} {c : Cursor} → piece_at s at ≡ Some (record { kind = k; count = n; next = c }) → Kind s at k c
piece_known s at e = subst (OnPiece (λ k n c. Kind s at k c)) e (piece_taken s at)

-- ---- a step

module _ (s : List ℕ) (at : ℕ) (held : List ℕ) where
  pub step_none : piece_at s at ≡ None → piece_step s at held ≡ stop
  unfolding piece_step
  step_none e = rw e

  -- w is the kind as a number to reckon with
  module _ (w : ℕ) {k n : ℕ} {c : Cursor} (e : piece_at s at ≡ Some (record { kind = k; count = n; next = c })) (i : w ≡ k) where
    -- a kind that cannot be held
    pub step_high : 7 < w → piece_step s at held ≡ stop
    unfolding piece_step
    step_high h = rw (e, ← i, lt-ltb 7 w h)

    -- more than can be counted
    pub step_full : w ≤ 7 → 255 - get_or held (w - 1) 0 < n → piece_step s at held ≡ stop
    unfolding piece_step
    step_full h f = rw (e, ← i, le-ltb 7 w h, lt-ltb (255 - get_or held (w - 1) 0) n f)

    pub step_more : w ≤ 7 → n ≤ 255 - get_or held (w - 1) 0 → piece_step s at held ≡ more c.at (set held (w - 1) (get_or held (w - 1) 0 + n))
    unfolding piece_step
    step_more h f = rw (e, ← i, le-ltb 7 w h, le-ltb (255 - get_or held (w - 1) 0) n f)

abbrev pub Byte : ℕ → Type 0
Byte n = n ≤ 255

-- so many more still make a byte
pub room : (a n : ℕ) → a ≤ 255 → n ≤ 255 - a → a + n < 256
room a n h k = omega arith

-- a step that goes on
record Taken (s : List ℕ) (at : ℕ) (held : List ℕ) (to : ℕ) (made : List ℕ) : Type 0 where
  pub past : at < to
  pub within : to ≤ length s
  pub bytes : Filled Byte 7 held → Filled Byte 7 made

taken : (s : List ℕ) (at : ℕ) (held : List ℕ) (to : ℕ) (made : List ℕ) → piece_step s at held ≡ more to made → Taken s at held to made
unfolding piece_step
taken s at held to made = go (piece_at s at) refl
  where
    Q : Step (List ℕ) → Type 0
    Q r = r ≡ more to made → Taken s at held to made

    none : Q stop
    none q = let z : ◌≡◌ {A = ℕ} 0 1 = cc in absurd (omega arith)

    go : (p : Option Piece) → piece_at s at ≡ p
        → Q (on_piece p
        (λ k n c. pick (ltb 7 k) stop
        (pick (ltb (255 - get_or held (k - 1) 0) n) stop (more c.at (set held (k - 1) (get_or held (k - 1) 0 + n)))))
        stop)
    go (Some r) e =
        by_pick Q (ltb 7 r.kind) stop _ (λ _. none)
        (λ _. by_pick Q (ltb (255 - get_or held (r.kind - 1) 0) r.count) stop _ (λ _. none)
        (λ f q. let a = (piece_known s at e).after in
        let p = a.past in
        let w = a.within in
        let t : r.next.at ≡ to = cc in
        let m : set held (r.kind - 1) (get_or held (r.kind - 1) 0 + r.count) ≡ made = cc in
        let g : r.count ≤ 255 - get_or held (r.kind - 1) 0 = ltb-false _ _ f in
        record {
          past = omega arith;
          within = omega arith;
          bytes = λ b. subst (Filled Byte 7) m (filled-set (r.kind - 1) _ (omega (arith, room _ r.count (b.each (r.kind - 1)) g)) b);
        }))
    go None e = none

pub piece_goes : (s : List ℕ) → Goes (piece_step s) (length s)
piece_goes s at held to made e = let t = taken s at held to made e in (t.past, t.within)

-- ---- the loop

-- what the pieces from the start make is what those from here on make
pub record Holding (s : List ℕ) (start at : ℕ) (held : List ℕ) : Type 0 where
  pub same : repeat_from (piece_step s) (length s) start empty_hand ≡ repeat_from (piece_step s) (length s) at held
  pub bytes : Filled Byte 7 held

no_bytes : Filled Byte 7 empty_hand
no_bytes = filled_zeros 7 (omega arith)

pub holding_none : (s : List ℕ) (at : ℕ) → Holding s at at empty_hand
holding_none s at = record { same = refl; bytes = no_bytes }

pub holding_more : {s : List ℕ} {start at : ℕ} {held : List ℕ} {to : ℕ} {made : List ℕ} → Holding s start at held → piece_step s at held ≡ more to made → Holding s start to made
holding_more {s} {start} {at} {held} {to} {made} h e =
    record {
      same = h.same ∙ repeat_more (piece_step s) (length s) (piece_goes s) at held to made e;
      bytes = (taken s at held to made e).bytes h.bytes;
    }

pub holding_all : {s : List ℕ} {start at : ℕ} {held : List ℕ} → Holding s start at held → piece_step s at held ≡ stop → hand held (cursor at) ≡ pieces_at s start
unfolding pieces_at
holding_all {s} {start} {at} {held} h e =
    ap (λ (r : Ended (List ℕ)). hand r.state (cursor r.at)) (sym (h.same ∙ repeat_stop (piece_step s) (length s) at held e))

-- ---- a hand

pieces_bytes : (s : List ℕ) (at : ℕ) → Filled Byte 7 (pieces_at s at).counts
unfolding pieces_at
pieces_bytes s at = repeat_keeps (piece_step s) (λ to held. Filled Byte 7 held) (λ to held next made h e. (taken s to held next made e).bytes h) (length s) at empty_hand no_bytes

-- the counts of a hand are seven bytes
pub hand-bytes : (s : List ℕ) (at : ℕ) → Filled Byte 7 (hand_at s at).counts
unfolding hand_at
hand-bytes s at = by_place (λ (h : Hand). Filled Byte 7 h.counts) (pieces_bytes s at) (tag_at none_tag s at) (λ c. no_bytes)
