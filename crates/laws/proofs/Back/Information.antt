-- Information lines read back: presets, hands, the side to move, header lines.
-- Assumes nothing.
use Rattle.std.specs.Prelude.{Some, None}
use Prim.Native.Nat.{ℕ, ◌≤◌}
use native.Mathlib.Omega.{arith}
use mathlib.Core.Path.{◌≡◌, refl}
use mathlib.Core.List.{List, [], ◌∷◌, ◌++◌, append_assoc}
use mathlib.Core.Bool.{true, false}
use lib.ListN.{get_or}
use lib.Dec.{eqb}
use Rattle.lists.specs.Repeat.{more}
use Rattle.lists.proofs.Laws.{range_at}
use Rattle.lists.proofs.Stand.{Stands, Reads, Any, then, came}
use Rattle.text.specs.Text.{cursor, tag_at, same}
use Rattle.spell.specs.Tables.{presets, sides}
use Rattle.spell.specs.Spell.{first_of, spelled, has_number}
use Rattle.spell.proofs.Written.{spelled-reads, preset-reads}
use Rattle.spell.proofs.Counts.{tag_reads}
use Rattle.kakinoki.specs.Informations.{hash_line_at, hash_lines_at, padded_end_at, preset_line_at, turn_line_at, held_at, hand_line_at, of_preset, of_turn, of_hands, hands_or_keyed_at, information_at, information_item}
use Rattle.spell.specs.Words.{preset_tag, turn_tag, hands_tag}
use Rattle.kakinoki.proofs.Lines.{hash_stop}
use Rattle.converter.specs.Diagrams.{preset_line, held, all_held, or_none, hand_line_text}
use Rattle.laws.proofs.Back.Leaves.{tag_fails, byte_fails, break-reads}
use Rattle.laws.proofs.Back.Hands.{padding_none, counts_of, hand_came}

-- no # line
pub hash_none : {s : List ℕ} {at : ℕ} {r : List ℕ} → Stands s at r → eqb (get_or r 0 0) 35 ≡ false → hash_lines_at s at ≡ at
unfolding hash_line_at
hash_none {s} {at} st h = hash_stop s at (rw (byte_fails 35 [] st h))

-- ---- a preset

preset_has : (n : ℕ) → n ≤ 16 → has_number presets n ≡ true
unfolding has_number
preset_has n h = range_at (has_number presets) 17 0 n refl (omega arith) (omega arith)

pub preset_item : (n : ℕ) → n ≤ 16 → Reads information_item (λ e. more e (of_preset n)) (preset_line n) Any
unfolding information_item information_at preset_line_at padded_end_at preset_line
preset_item n h = record {
  run = λ s at r st c.
      let st' = simp append_assoc at st in
      let z = hash_none st' refl in
      then (tag_reads preset_tag) st' tt λ e₁ i₁ l₁.
      then (preset-reads n (preset_has n h)) l₁ tt λ e₂ i₂ l₂.
      then break-reads l₂ tt λ e₃ i₃ l₃.
      record { end = e₃; is = rw (z, i₁, i₂, padding_none l₂ refl, i₃); left = l₃ };
}

-- ---- the side to move

pub turn_item : Reads information_item (λ e. more e (of_turn 1)) ((spelled sides 1 ++ turn_tag) ++ (10 ∷ [])) Any
unfolding information_item information_at preset_line_at turn_line_at padded_end_at spelled has_number same
turn_item = record {
  run = λ s at r st c.
      let z = hash_none st refl in
      let y = tag_fails preset_tag (229 ∷ []) refl _ st in
      then (spelled-reads sides sides 1 refl refl refl) st tt λ e₁ i₁ l₁.
      then (tag_reads turn_tag) l₁ tt λ e₂ i₂ l₂.
      then break-reads l₂ tt λ e₃ i₃ l₃.
      record { end = e₃; is = rw (z, y, i₁, i₂, padding_none l₂ refl, i₃); left = l₃ };
}

-- ---- hands

pub data Side : ℕ → Type 0 where
  black : Side 0
  white : Side 1

side-reads : {side : ℕ} → Side side → Reads (first_of sides) (λ e. Some (side, cursor e)) (spelled sides side) Any
unfolding has_number same
side-reads black = spelled-reads sides sides 0 refl refl refl
side-reads white = spelled-reads sides sides 1 refl refl refl

side-begins : {side : ℕ} → Side side → (r : List ℕ) → get_or (spelled sides side ++ r) 0 0 ≡ 229
unfolding spelled
side-begins black r = refl
side-begins white r = refl

pub hands_item : (hands : List ℕ) {side : ℕ} → Side side → ((k : ℕ) → 1 ≤ k → k ≤ 7 → held hands side k ≤ 99)
    → Reads information_item (λ e. more e (of_hands side (counts_of hands side))) (hand_line_text hands side) Any
unfolding information_item information_at preset_line_at turn_line_at hands_or_keyed_at hand_line_at held_at padded_end_at hand_line_text
hands_item hands {side} d few = record {
  run = λ s at r st c.
      let st' = simp append_assoc at st in
      let b = side-begins d (hands_tag ++ (or_none (all_held hands side) ++ (10 ∷ r))) in
      let z = hash_none st' (rw b) in
      let y : tag_at preset_tag s at ≡ None = byte_fails 230 _ st' (rw b) in
      then (side-reads d) st' tt λ e₁ i₁ l₁.
      let x : tag_at turn_tag s e₁ ≡ None = byte_fails 231 _ l₁ refl in
      then (tag_reads hands_tag) l₁ tt λ e₂ i₂ l₂.
      came (hand_came hands side few r l₂) λ e₃ i₃ l₃.
      then break-reads l₃ tt λ e₄ i₄ l₄.
      record { end = e₄; is = rw (z, y, i₁, x, i₂, i₃, padding_none l₃ refl, i₄); left = l₄ };
}
