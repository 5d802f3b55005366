-- Two put-ins give the same block in either order: as put-ins into lists of lines each may be done exactly where it might have been first, and the
-- lists are the same. One order has room where the other has, since each put-in makes the block longer by what its line takes.
--     orders-hold      the theorems of two put-ins                                                          (02, request (viii))
-- That the block is of version 1 is used: there the second of two on one entry is refused, while in version 2 it would stand first.
-- Assumes nothing.
use Prim.Native.Nat.{ℕ, ◌+◌, ◌≤◌, ◌<◌}
use native.Mathlib.Omega.{arith}
use mathlib.Core.Path.{◌≡◌, sym, ap, ap₂, ◌∙◌}
use mathlib.Core.List.{List, [], ◌∷◌}
use mathlib.Core.Bool.{true}
use lib.ListN.{length}
use Rattle.jkf.specs.Model.{Line}
use Rattle.jkf.specs.Attaching.{Play}
use Rattle.block.specs.Encode.{encode}
use Rattle.block.specs.Decode.{version_in, decode, lines_in}
use Rattle.block.proofs.Fitting.{by_truth}
use Rattle.plays.specs.Plays.{ply_at}
use Rattle.edit.specs.Edit.{variation_of, renumbered}
use Rattle.edit.specs.inner.Splicing.{relined}
use Rattle.edit.proofs.Blocks.{lines_counted}
use Rattle.laws.specs.Blocks.{Bytes}
use Rattle.laws.specs.Orders.{PutAsked, put_answer, is_done, block_after, new_line_of, SameEntry, in_order, OneLength, OrdersHold}
use Rattle.laws.proofs.Fewer.{block_same, takes, put_adds}
use Rattle.laws.proofs.EditsDone.{put_lines}
use Rattle.laws.proofs.Orders.Apart.{apart_too, asked_before, asked_after}
use Rattle.laws.proofs.Orders.Swapped.{same_lines, same_places}
use Rattle.laws.proofs.Orders.Alone.{HasRoom, MayPut, place_for, block_for, put_does, put_says}
use Rattle.laws.proofs.Orders.Ordered.{second_place, block_then, PutsThen, Ordered, order_says, order_done}

-- ---- what both ask of the block, whichever is first

record BothMay (b : List ℕ) (p q : PutAsked) : Type 0 where
  one : MayPut b p
  other : MayPut b q
  apart : p.line ≡ q.line → ply_at p.text 0 ≡ ply_at q.text 0 → ⊥

both_swapped : {b : List ℕ} {p q : PutAsked} → BothMay b p q → BothMay b q p
both_swapped x = record { one = x.other; other = x.one; apart = apart_too x.apart }

module _ (b : List ℕ) (p q : PutAsked) where
  abbrev ls : List Line
  ls = (decode b).lines

  abbrev v : Play
  v = variation_of p.text

  abbrev w : Play
  w = variation_of q.text

  -- ---- the lengths

  long-first : length (encode (relined (version_in b) (decode b) ls)) + takes (v ∷ []) ≡ length (block_for b p)
  long-first = put_adds b (version_in b) (place_for b p) p.line v ls

  long-then : length (block_for b p) + takes (w ∷ []) ≡ length (block_then b p q)
  long-then = put_adds b (version_in b) (second_place b p q) (renumbered (place_for b p) q.line) w (put_lines b p.line p.text)

  -- ---- in version 1

  module _ (one : version_in b ≡ 1) where
    both_may : {o₁ o₂ : List ℕ} → Ordered b p q o₁ o₂ → BothMay b p q
    both_may x =
        let (put, apart) = asked_before (version_in b) one ls p.line v x.first.put q.line w.start x.then in
        record { one = x.first; other = record { sound = x.first.sound; text = x.text; put = put }; apart = apart }

    module _ (x : BothMay b p q) where
      puts_then : PutsThen b p q
      puts_then = asked_after (version_in b) one ls p.line v x.one.put q.line w.start x.other.put x.apart

      same_then : block_then b p q ≡ block_then b q p
      same_then =
          ap (λ (qs : List Line). encode (relined (version_in b) (decode b) qs))
          (same_lines (version_in b) one ls p.line v q.line w x.one.put x.other.put x.apart)

      same_second : second_place b p q ≡ renumbered (second_place b q p) (place_for b q)
      same_second = same_places (version_in b) one ls p.line v q.line w x.one.put x.other.put x.apart

      -- an order is done where there is room for both
      both_room : Bytes b → Bytes p.text → (o₁ o₂ : List ℕ) → length (block_for b p) ≤ length o₁ → HasRoom (block_then b p q) o₂
          → is_done (in_order b p q o₁ o₂) ≡ true
      both_room bs ts o₁ o₂ r₁ r₂ =
          order_done b p q o₁ o₂ bs ts x.one puts_then x.other.text (record { limit = omega (arith, long-then, r₂.limit); buffer = r₁ }) r₂

-- ---- the theorems

-- of buffers of one length none is shorter than the one that is lent last
none_shorter : (o₁ o₂ o₃ o₄ : List ℕ) → OneLength o₁ o₂ o₃ o₄
    → (length o₂ ≤ length o₃) × (length o₂ ≤ length o₄) × (length o₄ ≤ length o₁) × (length o₄ ≤ length o₂)
none_shorter o₁ o₂ o₃ o₄ e = omega arith

-- the other order is done too, where its buffers are no shorter than the one that held both lines
done_too : (b : List ℕ) (p q : PutAsked) → version_in b ≡ 1 → Bytes b → Bytes p.text → Bytes q.text → (o₁ o₂ o₃ o₄ : List ℕ)
    → length o₂ ≤ length o₃ → length o₂ ≤ length o₄ → is_done (in_order b p q o₁ o₂) ≡ true → is_done (in_order b q p o₃ o₄) ≡ true
done_too b p q one bs ts us o₁ o₂ o₃ o₄ h l e =
    let x = order_says b p q o₁ o₂ bs ts us e in
    let r = x.room in
    let d = ap length (same_then b p q one (both_may b p q one x)) in
    both_room b q p one (both_swapped (both_may b p q one x)) bs us o₃ o₄ (omega (arith, long-then b q p)) (record { limit = omega arith; buffer = omega arith })

module _ (b : List ℕ) (p q : PutAsked) (one : version_in b ≡ 1) (bs : Bytes b) (ts : Bytes p.text) (us : Bytes q.text) where
  same_block : (o₁ o₂ o₃ o₄ : List ℕ) → is_done (in_order b p q o₁ o₂) ≡ true → is_done (in_order b q p o₃ o₄) ≡ true
      → block_after (in_order b p q o₁ o₂) ≡ block_after (in_order b q p o₃ o₄)
  same_block o₁ o₂ o₃ o₄ e f =
      let x = order_says b p q o₁ o₂ bs ts us e in
      x.block ∙ same_then b p q one (both_may b p q one x) ∙ sym (order_says b q p o₃ o₄ bs us ts f).block

  refused_alike : (o₁ o₂ o₃ o₄ : List ℕ) → OneLength o₁ o₂ o₃ o₄ → is_done (in_order b p q o₁ o₂) ≡ is_done (in_order b q p o₃ o₄)
  refused_alike o₁ o₂ o₃ o₄ e =
      let (m₃, m₄, m₁, m₂) = none_shorter o₁ o₂ o₃ o₄ e in
      by_truth (is_done (in_order b p q o₁ o₂)) (is_done (in_order b q p o₃ o₄)) (done_too b p q one bs ts us o₁ o₂ o₃ o₄ m₃ m₄) (done_too b q p one bs us ts o₃ o₄ o₁ o₂ m₁ m₂)

  same_numbers : (o₁ o₂ o₃ o₄ : List ℕ) → is_done (in_order b p q o₁ o₂) ≡ true → is_done (in_order b q p o₃ o₄) ≡ true
      → new_line_of (in_order b p q o₁ o₂) ≡ renumbered (new_line_of (in_order b q p o₃ o₄)) (new_line_of (put_answer b q o₃))
  same_numbers o₁ o₂ o₃ o₄ e f =
      let x = order_says b p q o₁ o₂ bs ts us e in
      let y = order_says b q p o₃ o₄ bs us ts f in
      x.next ∙ same_second b p q one (both_may b p q one x) ∙ sym (ap₂ renumbered y.next y.place)

  stood_before : (o₁ o₂ : List ℕ) → is_done (in_order b p q o₁ o₂) ≡ true → (p.line < lines_in b) × (q.line < lines_in b) × (SameEntry p q → ⊥)
  stood_before o₁ o₂ e =
      let x = both_may b p q one (order_says b p q o₁ o₂ bs ts us e) in
      (omega (arith, x.one.put.line, lines_counted b), omega (arith, x.other.put.line, lines_counted b), λ e. x.apart e.0 e.1)

  both_done : (o₁ o₂ o₃ : List ℕ) (n : ℕ) → is_done (put_answer b p o₁) ≡ true → is_done (put_answer b q o₃) ≡ true → (SameEntry p q → ⊥)
      → n + length b ≡ length (block_after (put_answer b p o₁)) + length (block_after (put_answer b q o₃)) → n ≤ 65535 → n ≤ length o₂
      → is_done (in_order b p q o₁ o₂) ≡ true
  both_done o₁ o₂ o₃ n e f apart long short room =
      let x = put_says b p bs ts o₁ e in
      let y = put_says b q bs us o₃ f in
      let c = ap length (put_does b p x.may o₁ x.room).1 in
      let d = ap length (put_does b q y.may o₃ y.room).1 in
      let z = ap length (block_same b x.may.sound bs) in
      let g : length (block_then b p q) ≡ n = omega (arith, long-first b q p, long-then b p q) in
      both_room b p q one (record { one = x.may; other = y.may; apart = λ l j. apart (l, j) }) bs ts o₁ o₂ x.room.buffer (record { limit = omega arith; buffer = omega arith })

pub orders_hold : OrdersHold
unfolding decode
orders_hold b p q one bs ts us =
    record {
      same_block = same_block b p q one bs ts us;
      refused_alike = refused_alike b p q one bs ts us;
      same_numbers = same_numbers b p q one bs ts us;
      stood_before = stood_before b p q one bs ts us;
      both_done = both_done b p q one bs ts us;
    }
