-- A hand line reads back: its pieces are read kind by kind, from the rook down to the pawn.
-- Assumes nothing.
use Rattle.std.specs.Prelude.{Some, None}
use Prim.Native.Nat.{ℕ, ◌+◌, ◌-◌, ◌≤◌}
use native.Mathlib.Omega.{arith}
use mathlib.Core.Path.{◌≡◌, refl, sym, ap, ◌∙◌}
use mathlib.Core.List.{List, [], ◌∷◌, ◌++◌, append_assoc}
use mathlib.Core.Bool.{Bool, true, false, not, false≢true}
use lib.ListN.{length, get_or, set, length-append}
use lib.Dec.{eqb, ltb}
use borrow.Author.Tests.{eqb-true, eqb-false, ltb-false, le-ltb, not-true}
use Rattle.lists.specs.Pick.{pick}
use Rattle.lists.specs.Repeat.{more, Ended, ended, repeat_from}
use Rattle.lists.proofs.Laws.{range_at}
use Rattle.lists.proofs.Repeats.{repeat_more, repeat_stop}
use Rattle.lists.proofs.Stand.{Stands, Came, Off, then, came, stands_past, byte_0}
use Rattle.text.specs.Text.{cursor, tag_at, padding_at, pad_width, wide_space, prefix_from, stands_at}
use Rattle.text.proofs.Widths.{past_stop, past_more, pad_within}
use Rattle.spell.specs.Tables.{kinds, numerals}
use Rattle.spell.specs.Spell.{first_of, spelled, has_number}
use Rattle.spell.specs.Count.{ten, tens_at, hand_count_at, count_text}
use Rattle.spell.proofs.Written.{stands_here, first_fails, board-kind-reads}
use Rattle.spell.proofs.Counts.{tag_reads, Over, count-reads}
use Rattle.block.specs.Encode.{concat}
use Rattle.block.specs.Decode.{run}
use Rattle.kakinoki.specs.Informations.{hand, piece_at, empty_hand, piece_step, pieces_at, hand_at}
use Rattle.spell.specs.Words.{none_tag}
use Rattle.kakinoki.specs.declared.Piece.{Piece}
use Rattle.kakinoki.proofs.Pieces.{piece_goes}
use Rattle.converter.specs.Diagrams.{held_text, held, all_held, or_none}
use Rattle.laws.proofs.Back.Leaves.{tag_fails, byte_fails}

-- ---- padding

-- what begins no padding
abbrev pub is_pad : ℕ → Bool
is_pad b = pick (eqb b 32) true (eqb b 227)

pads : (b : ℕ) → is_pad b ≡ false → (eqb b 32 ≡ false) × (eqb b 227 ≡ false)
pads b h = go (eqb b 32) h
  where
    go : (u : Bool) → pick u true (eqb b 227) ≡ false → (u ≡ false) × (eqb b 227 ≡ false)
    go true h = absurd (false≢true (sym h))
    go false h = (refl, h)

stands_fails : {s : List ℕ} {at : ℕ} {r : List ℕ} → Stands s at r → eqb (get_or r 0 0) 227 ≡ false → stands_at wide_space s at ≡ false
unfolding stands_at prefix_from
stands_fails {r = []} st h = rw st.rest
stands_fails {r = x ∷ r} st h = rw (st.rest, h)

pub padding_none : {s : List ℕ} {at : ℕ} {r : List ℕ} → Stands s at r → Off is_pad r → padding_at s at ≡ at
unfolding pad_width
padding_none {s} {at} {r} st o = let (p, q) = pads (get_or r 0 0) o in past_stop pad_width s at (rw (byte_0 st, p, stands_fails st q))

-- one U+3000 and no more
padding_one : {s : List ℕ} {at : ℕ} {r : List ℕ} → Stands s at (wide_space ++ r) → Off is_pad r → Came (padding_at s at) (λ e. e) s r
unfolding pad_width
padding_one {s} {at} {r} st o =
    let l = stands_past wide_space r s at st in
    let w : pad_width s at ≡ 3 = rw (byte_0 st, stands_here wide_space r st) in
    let ne : pad_width s at ≡ 0 → ⊥ = λ e. omega arith in
    record { end = at + 3; is = past_more pad_width s at pad_within ne ∙ ap (λ (n : ℕ). padding_at s (at + n)) w ∙ padding_none l o; left = l }

-- ---- a piece and its count

-- the kinds that a hand holds begin with no padding, and are no なし
kind-begins : (k : ℕ) → 1 ≤ k → k ≤ 7 → is_pad (get_or (spelled kinds k) 0 0) ≡ false
unfolding spelled
kind-begins k h l = not-true _ (range_at (λ k. not (is_pad (get_or (spelled kinds k) 0 0))) 7 1 k refl h (omega arith))

kind-some : (k : ℕ) → 1 ≤ k → k ≤ 7 → ltb 0 (length (spelled kinds k)) ≡ true
unfolding spelled
kind-some k h l = range_at (λ k. ltb 0 (length (spelled kinds k))) 7 1 k refl h (omega arith)

first-of : (t r : List ℕ) → ltb 0 (length t) ≡ true → get_or (t ++ r) 0 0 ≡ get_or t 0 0
first-of [] r h = absurd (false≢true h)
first-of (b ∷ t) r h = refl

kind_has : (n : ℕ) → 1 ≤ n → n ≤ 7 → has_number kinds n ≡ true
unfolding has_number
kind_has n h k = range_at (has_number kinds) 7 1 n refl h (omega arith)

-- U+3000 is no count
over_space : (r : List ℕ) → Over (wide_space ++ r)
over_space r = record { numeral = λ s at st. first_fails numerals wide_space refl r st; tens = λ s at st. tag_fails ten wide_space refl r st }

count_none : {s : List ℕ} {at : ℕ} {r : List ℕ} → Over r → Stands s at r → hand_count_at s at ≡ None
unfolding hand_count_at tens_at
count_none {s} {at} o st = rw (o.numeral s at st, o.tens s at st)

-- a kind that is held once or more, before what begins no padding
piece_came : (k n : ℕ) → 1 ≤ k → k ≤ 7 → 1 ≤ n → n ≤ 99 → {s : List ℕ} {at : ℕ} (r : List ℕ) → Off is_pad r
    → Stands s at (spelled kinds k ++ (pick (ltb 1 n) (count_text n) [] ++ (wide_space ++ r))) → Came (piece_at s at) (λ e. Some (record { kind = k; count = n; next = (cursor e) })) s r
unfolding piece_at
piece_came k n h l m z {s} {at} r o st =
    then (board-kind-reads k (kind_has k h l)) st tt λ e₁ i₁ l₁.
    go (ltb 1 n) refl e₁ i₁ l₁
  where
    go : (t : Bool) → ltb 1 n ≡ t → (e₁ : ℕ) → first_of kinds s at ≡ Some (k, cursor e₁) → Stands s e₁ (pick t (count_text n) [] ++ (wide_space ++ r)) → Came (piece_at s at) (λ e. Some (record { kind = k; count = n; next = (cursor e) })) s r
    go true q e₁ i₁ l₁ =
        then (count-reads n (omega arith) z) l₁ (over_space r) λ e₂ i₂ l₂.
        came (padding_one l₂ o) λ e₃ i₃ l₃.
        record { end = e₃; is = rw (i₁, i₂, i₃); left = l₃ }
    go false q e₁ i₁ l₁ =
        let w : n ≡ 1 = omega (arith, ltb-false 1 n q) in
        came (padding_one l₁ o) λ e₃ i₃ l₃.
        record { end = e₃; is = rw (i₁, count_none (over_space r) l₁, i₃, w); left = l₃ }

-- ---- the pieces of a hand

abbrev picking : List ℕ → ℕ → List ℕ → Ended (List ℕ)
picking s at h = repeat_from (piece_step s) (length s) at h

held_off : (k n : ℕ) → 1 ≤ k → k ≤ 7 → (r : List ℕ) → Off is_pad r → Off is_pad (held_text k n ++ r)
unfolding held_text
held_off k n h l r o = go (eqb n 0)
  where
    go : (t : Bool) → Off is_pad (pick t [] ((spelled kinds k ++ pick (ltb 1 n) (count_text n) []) ++ wide_space) ++ r)
    go true = o
    go false =
        let w : get_or (spelled kinds k ++ (pick (ltb 1 n) (count_text n) [] ++ (wide_space ++ r))) 0 0 ≡ get_or (spelled kinds k) 0 0 = first-of (spelled kinds k) _ (kind-some k h l) in
        simp append_assoc (rw w (kind-begins k h l))

-- one kind more is picked up
held_came : (k n : ℕ) → 1 ≤ k → k ≤ 7 → n ≤ 99 → (h : List ℕ) → get_or h (k - 1) 0 ≡ 0 → set h (k - 1) 0 ≡ h → {s : List ℕ} {at : ℕ} (r : List ℕ) → Off is_pad r
    → Stands s at (held_text k n ++ r) → {B : Type 0} → ((e : ℕ) → picking s at h ≡ picking s e (set h (k - 1) n) → Stands s e r → B) → B
unfolding held_text piece_step
held_came k n a b c h z q {s} {at} r o st {B} f = go (eqb n 0) refl st
  where
    go : (t : Bool) → eqb n 0 ≡ t → Stands s at (pick t [] ((spelled kinds k ++ pick (ltb 1 n) (count_text n) []) ++ wide_space) ++ r) → B
    go true e st = let w : n ≡ 0 = eqb-true n 0 e in f at (ap (picking s at) (sym q ∙ ap (set h (k - 1)) (sym w))) st
    go false e st =
        let ne : n ≡ 0 → ⊥ = eqb-false n 0 e in
        let st' : Stands s at (spelled kinds k ++ (pick (ltb 1 n) (count_text n) [] ++ (wide_space ++ r))) = simp append_assoc at st in
        came (piece_came k n a b (omega arith) c r o st') λ e₁ i₁ l₁.
        let y : 0 + n ≡ n = omega arith in
        let w : piece_step s at h ≡ more e₁ (set h (k - 1) n) = rw (i₁, le-ltb 7 k b, z, le-ltb (255 - 0) n (omega arith), y) in
        f e₁ (repeat_more (piece_step s) (length s) (piece_goes s) at h e₁ (set h (k - 1) n) w) l₁

-- the counts of a side, from the pawn to the rook
abbrev pub counts_of : List ℕ → ℕ → List ℕ
counts_of hands side =
    held hands side 1 ∷ held hands side 2 ∷ held hands side 3 ∷ held hands side 4 ∷ held hands side 5 ∷ held hands side 6 ∷ held hands side 7 ∷ []

-- what seven kinds are written as, before what follows
abbrev seven : ℕ → ℕ → ℕ → ℕ → ℕ → ℕ → ℕ → List ℕ → List ℕ
seven a b c d e f g r = held_text 7 g ++ (held_text 6 f ++ (held_text 5 e ++ (held_text 4 d ++ (held_text 3 c ++ (held_text 2 b ++ (held_text 1 a ++ r))))))

pick_ends : {s : List ℕ} {at : ℕ} {r : List ℕ} (h : List ℕ) → Stands s at (10 ∷ r) → picking s at h ≡ ended at h
unfolding piece_step piece_at
pick_ends {s} {at} {r} h st = repeat_stop (piece_step s) (length s) at h (rw (first_fails kinds (10 ∷ []) refl r st))

seven_came : (a b c d e f g : ℕ) → a ≤ 99 → b ≤ 99 → c ≤ 99 → d ≤ 99 → e ≤ 99 → f ≤ 99 → g ≤ 99 → {s : List ℕ} {at : ℕ} (r : List ℕ) → Stands s at (seven a b c d e f g (10 ∷ r))
    → Came (pieces_at s at) (λ n. hand (a ∷ b ∷ c ∷ d ∷ e ∷ f ∷ g ∷ []) (cursor n)) s (10 ∷ r)
unfolding pieces_at
seven_came a b c d e f g ha hb hc hd he hf hg {s} {at} r st =
    let r₁ : List ℕ = held_text 1 a ++ (10 ∷ r) in
    let o₁ : Off is_pad r₁ = held_off 1 a (omega arith) (omega arith) (10 ∷ r) refl in
    let r₂ : List ℕ = held_text 2 b ++ r₁ in
    let o₂ : Off is_pad r₂ = held_off 2 b (omega arith) (omega arith) r₁ o₁ in
    let r₃ : List ℕ = held_text 3 c ++ r₂ in
    let o₃ : Off is_pad r₃ = held_off 3 c (omega arith) (omega arith) r₂ o₂ in
    let r₄ : List ℕ = held_text 4 d ++ r₃ in
    let o₄ : Off is_pad r₄ = held_off 4 d (omega arith) (omega arith) r₃ o₃ in
    let r₅ : List ℕ = held_text 5 e ++ r₄ in
    let o₅ : Off is_pad r₅ = held_off 5 e (omega arith) (omega arith) r₄ o₄ in
    let r₆ : List ℕ = held_text 6 f ++ r₅ in
    let o₆ : Off is_pad r₆ = held_off 6 f (omega arith) (omega arith) r₅ o₅ in
    held_came 7 g (omega arith) (omega arith) hg empty_hand refl refl r₆ o₆ st λ e₁ i₁ l₁.
    held_came 6 f (omega arith) (omega arith) hf (0 ∷ 0 ∷ 0 ∷ 0 ∷ 0 ∷ 0 ∷ g ∷ []) refl refl r₅ o₅ l₁ λ e₂ i₂ l₂.
    held_came 5 e (omega arith) (omega arith) he (0 ∷ 0 ∷ 0 ∷ 0 ∷ 0 ∷ f ∷ g ∷ []) refl refl r₄ o₄ l₂ λ e₃ i₃ l₃.
    held_came 4 d (omega arith) (omega arith) hd (0 ∷ 0 ∷ 0 ∷ 0 ∷ e ∷ f ∷ g ∷ []) refl refl r₃ o₃ l₃ λ e₄ i₄ l₄.
    held_came 3 c (omega arith) (omega arith) hc (0 ∷ 0 ∷ 0 ∷ d ∷ e ∷ f ∷ g ∷ []) refl refl r₂ o₂ l₄ λ e₅ i₅ l₅.
    held_came 2 b (omega arith) (omega arith) hb (0 ∷ 0 ∷ c ∷ d ∷ e ∷ f ∷ g ∷ []) refl refl r₁ o₁ l₅ λ e₆ i₆ l₆.
    held_came 1 a (omega arith) (omega arith) ha (0 ∷ b ∷ c ∷ d ∷ e ∷ f ∷ g ∷ []) refl refl (10 ∷ r) refl l₆ λ e₇ i₇ l₇.
    let w : picking s at empty_hand ≡ ended e₇ (a ∷ b ∷ c ∷ d ∷ e ∷ f ∷ g ∷ []) = i₁ ∙ i₂ ∙ i₃ ∙ i₄ ∙ i₅ ∙ i₆ ∙ i₇ ∙ pick_ends _ l₇ in
    record { end = e₇; is = ap (λ (x : Ended (List ℕ)). hand x.state (cursor x.at)) w; left = l₇ }

seven_off : (a b c d e f g : ℕ) (r : List ℕ) → Off is_pad r → Off is_pad (seven a b c d e f g r)
seven_off a b c d e f g r o =
    held_off 7 g (omega arith) (omega arith) _ (held_off 6 f (omega arith) (omega arith) _ (held_off 5 e (omega arith) (omega arith) _ (held_off 4 d (omega arith) (omega arith) _
    (held_off 3 c (omega arith) (omega arith) _ (held_off 2 b (omega arith) (omega arith) _ (held_off 1 a (omega arith) (omega arith) r o))))))

-- ---- なし, or pieces

held_none : (k n : ℕ) (t : List ℕ) → 1 ≤ k → k ≤ 7 → length (held_text k n ++ t) ≡ 0 → (n ≡ 0) × (length t ≡ 0)
unfolding held_text
held_none k n t h l = go (eqb n 0) refl
  where
    go : (u : Bool) → eqb n 0 ≡ u → length (pick u [] ((spelled kinds k ++ pick (ltb 1 n) (count_text n) []) ++ wide_space) ++ t) ≡ 0 → (n ≡ 0) × (length t ≡ 0)
    go true e z = (eqb-true n 0 e, z)
    go false e z =
        let x : List ℕ = spelled kinds k ++ pick (ltb 1 n) (count_text n) [] in
        absurd (omega (arith, z, length-append (x ++ wide_space) t, length-append x wide_space))

seven_none : (a b c d e f g : ℕ) → length (seven a b c d e f g []) ≡ 0 → a ∷ b ∷ c ∷ d ∷ e ∷ f ∷ g ∷ [] ≡ empty_hand
seven_none a b c d e f g z =
    let (g₀, z₁) = held_none 7 g _ (omega arith) (omega arith) z in
    let (f₀, z₂) = held_none 6 f _ (omega arith) (omega arith) z₁ in
    let (e₀, z₃) = held_none 5 e _ (omega arith) (omega arith) z₂ in
    let (d₀, z₄) = held_none 4 d _ (omega arith) (omega arith) z₃ in
    let (c₀, z₅) = held_none 3 c _ (omega arith) (omega arith) z₄ in
    let (b₀, z₆) = held_none 2 b _ (omega arith) (omega arith) z₅ in
    let (a₀, z₇) = held_none 1 a _ (omega arith) (omega arith) z₆ in
    rw (a₀, b₀, c₀, d₀, e₀, f₀, g₀)

all_seven : (hands : List ℕ) (side : ℕ)
    → all_held hands side ≡ seven (held hands side 1) (held hands side 2) (held hands side 3) (held hands side 4) (held hands side 5) (held hands side 6) (held hands side 7) []
unfolding all_held concat run
all_seven hands side = refl

seven_append : (a b c d e f g : ℕ) (r : List ℕ) → seven a b c d e f g [] ++ r ≡ seven a b c d e f g r
seven_append a b c d e f g r = simp append_assoc

pub hand_came : (hands : List ℕ) (side : ℕ) → ((k : ℕ) → 1 ≤ k → k ≤ 7 → held hands side k ≤ 99) → {s : List ℕ} {at : ℕ} (r : List ℕ)
    → Stands s at (or_none (all_held hands side) ++ (10 ∷ r)) → Came (hand_at s at) (λ n. hand (counts_of hands side) (cursor n)) s (10 ∷ r)
unfolding hand_at
hand_came hands side few {s} {at} r st =
    go (held hands side 1) (held hands side 2) (held hands side 3) (held hands side 4) (held hands side 5) (held hands side 6) (held hands side 7)
    (few 1 (omega arith) (omega arith)) (few 2 (omega arith) (omega arith)) (few 3 (omega arith) (omega arith)) (few 4 (omega arith) (omega arith))
    (few 5 (omega arith) (omega arith)) (few 6 (omega arith) (omega arith)) (few 7 (omega arith) (omega arith)) (rw (all_seven hands side) at st)
  where
    go : (a b c d e f g : ℕ) → a ≤ 99 → b ≤ 99 → c ≤ 99 → d ≤ 99 → e ≤ 99 → f ≤ 99 → g ≤ 99 → Stands s at (or_none (seven a b c d e f g []) ++ (10 ∷ r))
        → Came (hand_at s at) (λ n. hand (a ∷ b ∷ c ∷ d ∷ e ∷ f ∷ g ∷ []) (cursor n)) s (10 ∷ r)
    go a b c d e f g ha hb hc hd he hf hg st = either (eqb (length (seven a b c d e f g [])) 0) refl st
      where
        either : (t : Bool) → eqb (length (seven a b c d e f g [])) 0 ≡ t → Stands s at (pick t none_tag (seven a b c d e f g []) ++ (10 ∷ r))
            → Came (hand_at s at) (λ n. hand (a ∷ b ∷ c ∷ d ∷ e ∷ f ∷ g ∷ []) (cursor n)) s (10 ∷ r)
        either true q st =
            let z = seven_none a b c d e f g (eqb-true _ 0 q) in
            then (tag_reads none_tag) st tt λ e₁ i₁ l₁.
            record { end = e₁; is = rw (i₁, z); left = l₁ }
        either false q st =
            let st' : Stands s at (seven a b c d e f g (10 ∷ r)) = rw (seven_append a b c d e f g (10 ∷ r)) at st in
            let o : eqb (get_or (seven a b c d e f g (10 ∷ r)) 0 0) 227 ≡ false = (pads (get_or (seven a b c d e f g (10 ∷ r)) 0 0) (seven_off a b c d e f g (10 ∷ r) refl)).1 in
            let z : tag_at none_tag s at ≡ None = byte_fails 227 (129 ∷ 170 ∷ 227 ∷ 129 ∷ 151 ∷ []) st' o in
            came (seven_came a b c d e f g ha hb hc hd he hf hg r st') λ e₁ i₁ l₁.
            record { end = e₁; is = rw (z, i₁); left = l₁ }
