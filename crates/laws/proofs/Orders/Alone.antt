-- One put-in is done exactly where the block is sound, the text is one variation, its entry is there and free, and the new block is within the
-- limit and the buffer: then no test of the refusals fails.
--     MayPut        what it asks of a block
--     put-does      where there is room, it then gives the block of the new lines
--     put-says      where it is done, it asked so, and there was room
-- Assumes nothing.
use Prim.Native.Nat.{ℕ, ◌≤◌}
use native.Mathlib.Omega.{arith}
use mathlib.Core.Path.{◌≡◌, refl, sym, ap, ap₂, ◌∙◌}
use mathlib.Core.List.{List}
use mathlib.Core.Bool.{true, false≢true}
use lib.ListN.{length, drop}
use lib.Seq.{take_at}
use lib.Dec.{ltb}
use borrow.Author.Tests.{eqb-true, le-ltb, ltb-false}
use Rattle.lists.proofs.Laws.{by_pick}
use Rattle.jkf.specs.declared.Answer.{Answer}
use Rattle.jkf.specs.declared.Answer.TheVariants.{Done}
use Rattle.jkf.specs.Answers.{figured, figures, Outcome}
use Rattle.jkf.proofs.Answering.{figures-one}
use Rattle.jkf.specs.Model.{Record}
use Rattle.jkf.specs.Attaching.{starts, counts}
use Rattle.block.specs.Encode.{encode}
use Rattle.block.specs.Decode.{version_in, decode}
use Rattle.block.specs.inner.Sounds.{Sound}
use Rattle.block.specs.Formed.{Formed}
use Rattle.block.proofs.Deciding.{sound_answers}
use Rattle.plays.specs.Plays.{ply_at}
use Rattle.filling.specs.Filling.{at_front}
use Rattle.edit.specs.Edit.{plays_in, is_variation, variation_of, is_ply_of}
use Rattle.edit.specs.inner.Splicing.{relined}
use Rattle.edit.specs.Outcomes.{edit_stored}
use Rattle.edit.proofs.Listing.{plays-start, plays-count}
use Rattle.edit.proofs.Inserted.{PutsIn, put-fresh}
use Rattle.edit.proofs.Blocks.{lines_counted}
use Rattle.edit.proofs.Outcomes.{put-sound, variation, in_place}
use Rattle.laws.specs.Blocks.{Bytes}
use Rattle.laws.specs.Orders.{PutAsked, put_answer, is_done, block_after, new_line_of}
use Rattle.laws.proofs.EditsDone.{put_place, put_lines, put_done}

-- ---- what is stored

-- a block is within the limit and the buffer
pub record HasRoom (c o : List ℕ) : Type 0 where
  pub limit : length c ≤ 65535
  pub buffer : length c ≤ length o

module _ (c : List ℕ) (i : ℕ) (o : List ℕ) where
  stored_whole : HasRoom c o → edit_stored c i o ≡ record { answer = Done (length c) i; buffer = at_front c o }
  unfolding edit_stored
  stored_whole h = rw (le-ltb 65535 (length c) h.limit, le-ltb (length o) (length c) h.buffer)

  abbrev Roomy : Outcome → Type 0
  Roomy x = is_done x ≡ true → HasRoom c o

  stored_roomy : Roomy (edit_stored c i o)
  unfolding edit_stored figures
  stored_roomy =
      by_pick Roomy (ltb 65535 (length c)) _ _ (λ _ e. absurd (false≢true e))
      (λ s. by_pick Roomy (ltb (length o) (length c)) _ _ (λ _ e. absurd (false≢true e))
      (λ l _. record { limit = ltb-false 65535 (length c) s; buffer = ltb-false (length o) (length c) l }))

-- an answer of number 0
done_is : (a : Answer) → (figures a).number ≡ 0 → a ≡ Done (figures a).first (figures a).second
unfolding figures
done_is a e = figures-one a (Done (figures a).first (figures a).second) (ap (λ (n : ℕ). figured n (figures a).first (figures a).second) e)

-- ---- what is asked

pub record MayPut (b : List ℕ) (p : PutAsked) : Type 0 where
  pub sound : Sound b
  pub text : is_variation p.text ≡ true
  pub put : PutsIn (version_in b) (decode b).lines p.line (ply_at p.text 0)

module _ (b : List ℕ) (p : PutAsked) where
  -- the new line's number, and the block
  abbrev pub place_for : ℕ
  place_for = put_place b p.line p.text

  abbrev pub block_for : List ℕ
  block_for = encode (relined (version_in b) (decode b) (put_lines b p.line p.text))

  put_is : MayPut b p → (o : List ℕ) → put_answer b p o ≡ edit_stored block_for place_for o
  unfolding decode
  put_is a o =
      put-sound b p.line o p.text (sound_answers b a.sound)
      ∙ variation b p.line o p.text (omega (arith, a.put.line, lines_counted b)) a.text
      ∙ in_place (decode b) o p.line (variation_of p.text) refl ply a.put.free refl
      ∙ ap (λ (r : Record). edit_stored (encode r) place_for o) (put-fresh (version_in b) (decode b).lines p.line (variation_of p.text) a.put (decode b) refl)
    where
      ply : is_ply_of (starts (plays_in (decode b).lines) p.line) (counts (plays_in (decode b).lines) p.line) (ply_at p.text 0) ≡ true
      ply =
          ap₂ (λ (f g : ℕ → ℕ). is_ply_of (f p.line) (g p.line) (ply_at p.text 0)) (plays-start (decode b).lines) (plays-count (decode b).lines) ∙ a.put.ply

  -- which is done where there is room
  pub put_does : MayPut b p → (o : List ℕ) → HasRoom block_for o
      → (is_done (put_answer b p o) ≡ true) × (block_after (put_answer b p o) ≡ block_for) × (new_line_of (put_answer b p o) ≡ place_for)
  unfolding figures
  put_does a o room =
      let e = put_is a o ∙ stored_whole block_for place_for o room in
      (ap is_done e, ap block_after e ∙ take_at block_for (drop (length block_for) o) (length block_for) refl, ap new_line_of e)

  -- where it is done, there was
  pub record DoneAlone (o : List ℕ) : Type 0 where
    pub may : MayPut b p
    pub formed : Formed (relined (version_in b) (decode b) (put_lines b p.line p.text))
    pub room : HasRoom block_for o

  pub put_says : Bytes b → Bytes p.text → (o : List ℕ) → is_done (put_answer b p o) ≡ true → DoneAlone o
  put_says bs ts o e =
      let a = (put_answer b p o).answer in
      let d = put_done b p.text o bs ts p.line (figures a).first (figures a).second (done_is a (eqb-true (figures a).number 0 e)) in
      let may : MayPut b p = record { sound = d.sound; text = d.text; put = d.put } in
      record { may = may; formed = d.formed; room = stored_roomy block_for place_for o (sym (ap is_done (put_is may o)) ∙ e) }
