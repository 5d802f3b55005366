-- An order of two put-ins is two put-ins into lists of lines: the block after the first says the lines of the first list, so the second puts its
-- line among these, and the block after both is that of the second list.
--     order-says      where an order is done, each was asked so, and there was room
--     order-done      and the other way
-- Assumes nothing.
use Prim.Native.Nat.{ℕ}
use mathlib.Core.Path.{◌≡◌, sym, ap, ap₂, ◌∙◌, subst, transport}
use mathlib.Core.List.{List}
use mathlib.Core.Bool.{Bool, true}
use Rattle.lists.specs.Pick.{pick}
use Rattle.lists.proofs.Laws.{by_pick}
use Rattle.jkf.specs.Answers.{Outcome}
use Rattle.jkf.specs.Model.{Record}
use Rattle.block.specs.Encode.{encode}
use Rattle.block.specs.Decode.{version_in, decode}
use Rattle.block.specs.Formed.{Formed}
use Rattle.plays.specs.Plays.{ply_at}
use Rattle.edit.specs.Edit.{plays_in, is_variation, variation_of, place_of, renumbered}
use Rattle.edit.specs.inner.Splicing.{relined}
use Rattle.edit.proofs.Inserted.{PutsIn}
use Rattle.laws.specs.Blocks.{Bytes}
use Rattle.laws.specs.Orders.{PutAsked, put_answer, is_done, block_after, new_line_of, adjusted, in_order}
use Rattle.laws.proofs.Decoded.{decode-encode}
use Rattle.laws.proofs.Made.{sound-encode}
use Rattle.laws.proofs.EditsDone.{put_lines}
use Rattle.laws.proofs.Orders.Swapped.{lines_put, place_then, lines_then}
use Rattle.laws.proofs.Orders.Alone.{HasRoom, MayPut, place_for, block_for, put_does, put_says}

-- ---- the second, in the block after it

module _ (b : List ℕ) (p q : PutAsked) where
  abbrev pub second_place : ℕ
  second_place = place_then (decode b).lines p.line (variation_of p.text) q.line (variation_of q.text)

  abbrev pub block_then : List ℕ
  block_then = encode (relined (version_in b) (decode b) (lines_then (decode b).lines p.line (variation_of p.text) q.line (variation_of q.text)))

  abbrev pub PutsThen : Type 0
  PutsThen = PutsIn (version_in b) (put_lines b p.line p.text) (renumbered (place_for b p) q.line) (ply_at q.text 0)

  abbrev second : PutAsked
  second = adjusted (place_for b p) q

  module _ (g : Formed (relined (version_in b) (decode b) (put_lines b p.line p.text))) where
    -- the block after the first says its lines
    said : decode (block_for b p) ≡ relined (version_in b) (decode b) (put_lines b p.line p.text)
    said = decode-encode _ g

    second-place : place_for (block_for b p) second ≡ second_place
    unfolding relined
    second-place = ap (λ (r : Record). place_of (plays_in r.lines) second.line (ply_at q.text 0)) said

    second-block : block_for (block_for b p) second ≡ block_then
    unfolding relined decode
    second-block =
        ap (λ (r : Record). encode (relined r.version r (lines_put r.lines second.line (variation_of q.text)))) said

    second-put : PutsIn (version_in (block_for b p)) (decode (block_for b p)).lines second.line (ply_at q.text 0) ≡ PutsThen
    unfolding relined decode
    second-put = ap (λ (r : Record). PutsIn r.version r.lines second.line (ply_at q.text 0)) said

  -- ---- the order

  module _ (o₁ o₂ : List ℕ) where
    first_done : is_done (in_order b p q o₁ o₂) ≡ true → is_done (put_answer b p o₁) ≡ true
    unfolding in_order
    first_done =
        by_pick (λ (x : Outcome). is_done x ≡ true → is_done (put_answer b p o₁) ≡ true) (is_done (put_answer b p o₁)) _ _ (λ e _. e) (λ _ e. e)

    -- then it is the second, into the block of the first
    order_is : MayPut b p → HasRoom (block_for b p) o₁ → in_order b p q o₁ o₂ ≡ put_answer (block_for b p) second o₂
    unfolding in_order
    order_is a room =
        let (done, block, new) = put_does b p a o₁ room in
        ap (λ (t : Bool). pick t (put_answer (block_after (put_answer b p o₁)) (adjusted (new_line_of (put_answer b p o₁)) q) o₂) (put_answer b p o₁)) done
        ∙ ap₂ (λ (c : List ℕ) (i : ℕ). put_answer c (adjusted i q) o₂) block new

    pub record Ordered : Type 0 where
      pub first : MayPut b p
      pub text : is_variation q.text ≡ true
      pub then : PutsThen
      pub room : HasRoom block_then o₂
      pub block : block_after (in_order b p q o₁ o₂) ≡ block_then
      pub place : new_line_of (put_answer b p o₁) ≡ place_for b p
      pub next : new_line_of (in_order b p q o₁ o₂) ≡ second_place

    pub order_says : Bytes b → Bytes p.text → Bytes q.text → is_done (in_order b p q o₁ o₂) ≡ true → Ordered
    order_says bs ts us e =
        let c = block_for b p in
        let x = put_says b p bs ts o₁ (first_done e) in
        let g = x.formed in
        let i = order_is x.may x.room in
        let y = put_says c second g.bytes us o₂ (sym (ap is_done i) ∙ e) in
        let (_, block, new) = put_does c second y.may o₂ y.room in
        record {
          first = x.may;
          text = y.may.text;
          then = transport (second-put g) y.may.put;
          room = subst (λ (d : List ℕ). HasRoom d o₂) (second-block g) y.room;
          block = ap block_after i ∙ block ∙ second-block g;
          place = (put_does b p x.may o₁ x.room).2;
          next = ap new_line_of i ∙ new ∙ second-place g;
        }

    pub order_done : Bytes b → Bytes p.text → MayPut b p → PutsThen → is_variation q.text ≡ true → HasRoom (block_for b p) o₁ → HasRoom block_then o₂
        → is_done (in_order b p q o₁ o₂) ≡ true
    order_done bs ts a t v r₁ r₂ =
        let c = block_for b p in
        let g = (put_says b p bs ts o₁ (put_does b p a o₁ r₁).0).formed in
        let may : MayPut c second =
        record {
          sound = sound-encode _ g;
          text = v;
          put = transport (sym (second-put g)) t;
        } in
        ap is_done (order_is a r₁) ∙ (put_does c second may o₂ (subst (λ (d : List ℕ). HasRoom d o₂) (sym (second-block g)) r₂)).0
