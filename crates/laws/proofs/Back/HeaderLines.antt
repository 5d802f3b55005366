-- A header line reads back: it is no # line, no preset, no side to move and no hand, and its key ends at the ： that is written.
-- Assumes nothing.
use Rattle.std.specs.Prelude.{Option, Some, None}
use Prim.Native.Nat.{ℕ, zero, suc, ◌+◌, ◌-◌, ◌≤◌, ◌<◌}
use native.Mathlib.Omega.{arith}
use mathlib.Core.Path.{◌≡◌, refl, sym, ap, ◌∙◌, subst}
use mathlib.Core.List.{List, [], ◌∷◌, ◌++◌, append_assoc}
use mathlib.Core.Bool.{Bool, true, false, not, false≢true, true≢false}
use lib.ListN.{length, get_or, drop, take, length-append}
use lib.Dec.{eqb}
use borrow.Author.Tests.{eqb-true, ne_eqb, eq-eqb, not-true}
use Rattle.spell.proofs.Written.{stands_other}
use Rattle.lists.specs.Pick.{pick}
use Rattle.lists.specs.Repeat.{more}
use Rattle.lists.proofs.Laws.{pick_both}
use Rattle.lists.proofs.Stand.{Stands, Came, Reads, Any, then, stands_past, stands_same, stands_between, stands_seam, byte_0}
use Rattle.text.specs.Text.{cursor, on_place, is_text, prefix_from, stands_at, tag_at, break_at, wide_space, pad_width, padding_at, wide_colon, key_from, key_at}
use Rattle.text.proofs.Widths.{past_stop, past_more, pad_within}
use Rattle.spell.specs.Tables.{Spelling, sides}
use Rattle.spell.specs.Spell.{on_spelled, first_of}
use Rattle.spell.proofs.Counts.{tag_reads}
use Rattle.jkf.specs.Model.{Header}
use Rattle.kakinoki.specs.Informations.{hash_lines_at, padded_end_at, ends_line, preset_line_at, turn_line_at, empty_hand, held_at, hand_said, hand_line_at, value_at, key_value_at, header_at, of_pair, keyed_at, hands_or_keyed_at, information_at, information_item}
use Rattle.spell.specs.Words.{turn_tag, hands_tag}
use Rattle.kakinoki.specs.declared.Held.TheVariants.{NoHand}
use Rattle.kakinoki.specs.declared.HandSaid.{HandSaid}
use Rattle.converter.specs.Headers.{header_line}
use Rattle.laws.specs.Sayable.{every_byte, OneLine, begins_hand, HeaderSayable}
use Rattle.laws.proofs.Back.Leaves.{all_append, tail_reads, break-reads}
use Rattle.laws.proofs.Back.PresetLines.{Break, lf, stands_local, prefix_split, one-line_rest, preset_alike, plain}
use Rattle.laws.proofs.Back.Information.{hash_none}
use Rattle.text.specs.declared.Cursor.{Cursor}

-- ---- the key

pub prefix_enough : (t l r : List ℕ) → length t ≤ length l → prefix_from t (l ++ r) ≡ prefix_from t l
unfolding prefix_from
prefix_enough [] l r h = refl
prefix_enough (c ∷ t) [] r h = absurd (omega arith)
prefix_enough (c ∷ t) (y ∷ l) r h = rw (prefix_enough t l r (omega arith))

-- a byte of a key ends it at no other place
record KeyGoes (b : ℕ) (k : List ℕ) : Type 0 where
  pub text : is_text b ≡ true
  pub colon : prefix_from wide_colon (b ∷ (k ++ wide_colon)) ≡ false
  pub rest : key_from (k ++ wide_colon) ≡ k

key_goes : (b : ℕ) (k : List ℕ) → key_from ((b ∷ k) ++ wide_colon) ≡ b ∷ k → KeyGoes b k
unfolding key_from
key_goes b k h = go (is_text b) (prefix_from wide_colon (b ∷ (k ++ wide_colon))) refl refl h
  where
    go : (t u : Bool) → is_text b ≡ t → prefix_from wide_colon (b ∷ (k ++ wide_colon)) ≡ u → pick (pick t u true) [] (b ∷ key_from (k ++ wide_colon)) ≡ b ∷ k → KeyGoes b k
    go true true e f q = let z : ◌≡◌ {A = ℕ} 0 1 = cc in absurd (omega arith)
    go true false e f q = record { text = e; colon = f; rest = cc }
    go false u e f q = let z : ◌≡◌ {A = ℕ} 0 1 = cc in absurd (omega arith)

pub key-text : (k : List ℕ) → key_from (k ++ wide_colon) ≡ k → OneLine k
key-text [] h = refl
key-text (b ∷ k) h = let g = key_goes b k h in rw (g.text, key-text k g.rest)

key-from : (k r : List ℕ) → key_from (k ++ wide_colon) ≡ k → key_from (k ++ (wide_colon ++ r)) ≡ k
unfolding key_from prefix_from
key-from [] r h = refl
key-from (b ∷ k) r h =
    let g = key_goes b k h in
    let e : prefix_from wide_colon (b ∷ (k ++ (wide_colon ++ r))) ≡ false =
    ap (λ (l : List ℕ). prefix_from wide_colon (b ∷ l)) (sym (append_assoc k wide_colon r))
    ∙ prefix_enough wide_colon (b ∷ (k ++ wide_colon)) r (omega (arith, length-append k wide_colon)) ∙ g.colon in
    rw (g.text, e, key-from k r g.rest)

-- ---- no side to move

-- what begins a key with another byte than the colon's lies in the key
abbrev no_colon : List ℕ → Bool
no_colon t = every_byte (λ b. not (eqb 239 b)) t

prefix_before : (t k v : List ℕ) → no_colon t ≡ true → prefix_from t (k ++ (wide_colon ++ v)) ≡ true → (j : List ℕ) × (k ≡ t ++ j)
unfolding prefix_from
prefix_before [] k v n h = (k, refl)
prefix_before (c ∷ t) [] v n h =
    let (p, q) = pick_both (not (eqb 239 c)) (no_colon t) n in
    let z : eqb 239 c ≡ true = (pick_both (eqb 239 c) _ h).0 in
    absurd (false≢true (sym (not-true (eqb 239 c) p) ∙ z))
prefix_before (c ∷ t) (y ∷ k) v n h =
    let (p, q) = pick_both (not (eqb 239 c)) (no_colon t) n in
    let (a, b) = pick_both (eqb y c) (prefix_from t (k ++ (wide_colon ++ v))) h in
    let (j, e) = prefix_before t k v q b in
    (j, ap (λ (z : ℕ). z ∷ k) (eqb-true y c a) ∙ ap (λ (l : List ℕ). c ∷ l) e)

not_break : (c : ℕ) → is_text c ≡ true → (eqb c 10 ≡ false) × (eqb c 13 ≡ false)
not_break c h = (ne_eqb c 10 (λ e. true≢false (sym h ∙ ap is_text e)), ne_eqb c 13 (λ e. true≢false (sym h ∙ ap is_text e)))

-- where no padding stands before the colon, the line is not over
stays : (c : ℕ) (l : List ℕ) {s : List ℕ} {at : ℕ} → is_text c ≡ true → Stands s at (c ∷ l) → pad_width s at ≡ 0 → padded_end_at s at ≡ None
unfolding padded_end_at break_at
stays c l {s} {at} h st z = let (p, q) = not_break c h in rw (past_stop pad_width s at z, byte_0 st, p, q)

wide-none : (k v : List ℕ) → prefix_from wide_space (k ++ (wide_colon ++ v)) ≡ true → (j : List ℕ) × (k ≡ wide_space ++ j)
wide-none k v h = prefix_before wide_space k v refl h

colon_stays : (v : List ℕ) {s : List ℕ} {at : ℕ} → Stands s at (wide_colon ++ v) → padded_end_at s at ≡ None
unfolding pad_width
colon_stays v {s} {at} st = stays 239 _ refl st (rw (byte_0 st, other))
  where
    other : stands_at wide_space s at ≡ false
    other = stands_other wide_space (239 ∷ []) _ st refl

pad_colon_step : (n : ℕ) (k v : List ℕ) → ((k v : List ℕ) → length k ≤ n → OneLine k → (s : List ℕ) (at : ℕ) → Stands s at (k ++ (wide_colon ++ v)) → padded_end_at s at ≡ None)
    → length k ≤ suc n → OneLine k → (s : List ℕ) (at : ℕ) → Stands s at (k ++ (wide_colon ++ v)) → padded_end_at s at ≡ None
unfolding pad_width padded_end_at stands_at
pad_colon_step n [] v ih h o s at st = colon_stays v st
pad_colon_step n (b ∷ k) v ih h o s at st = go (eqb b 32) (prefix_from wide_space ((b ∷ k) ++ (wide_colon ++ v))) refl refl
  where
    past : (t j : List ℕ) → 0 < length t → b ∷ k ≡ t ++ j → pad_width s at ≡ length t → padded_end_at s at ≡ None
    past t j z e w =
        let o' = one-line_rest t j (subst OneLine e o) in
        let l = stands_past t (j ++ (wide_colon ++ v)) s at (stands_same (ap (λ (l : List ℕ). l ++ (wide_colon ++ v)) e ∙ append_assoc t j (wide_colon ++ v)) st) in
        let m : length (b ∷ k) ≡ length t + length j = ap length e ∙ length-append t j in
        let ne : pad_width s at ≡ 0 → ⊥ = λ q. omega arith in
        ap (break_at s) (past_more pad_width s at pad_within ne ∙ ap (λ (n : ℕ). padding_at s (at + n)) w) ∙ ih j v (omega (arith, m)) o' s (at + length t) l

    go : (t u : Bool) → eqb b 32 ≡ t → prefix_from wide_space ((b ∷ k) ++ (wide_colon ++ v)) ≡ u → padded_end_at s at ≡ None
    go true u e f = past (b ∷ []) k (omega arith) refl (rw (byte_0 st, e))
    go false true e f = let (j, q) = wide-none (b ∷ k) v f in past wide_space j (omega arith) q (rw (byte_0 st, e, st.rest, f))
    go false false e f = stays b _ (pick_both (is_text b) (every_byte is_text k) o).0 st (rw (byte_0 st, e, st.rest, f))

pad_colon : (n : ℕ) (k v : List ℕ) → length k ≤ n → OneLine k → (s : List ℕ) (at : ℕ) → Stands s at (k ++ (wide_colon ++ v)) → padded_end_at s at ≡ None
pad_colon zero [] v h o s at st = colon_stays v st
pad_colon zero (b ∷ k) v h o s at st = absurd (omega arith)
pad_colon (suc n) k v h o s at st = pad_colon_step n k v (pad_colon n) h o s at st

-- no spelling of a table has the colon's first byte: a test that antt computes
abbrev free : List Spelling → Bool
free [] = true
free (e ∷ es) = pick (no_colon e.bytes) (free es) false

module _ (k v : List ℕ) (o : OneLine k) {s : List ℕ} {at : ℕ} (st : Stands s at (k ++ (wide_colon ++ v))) where
  -- 番 after a side, in the key
  turn-tag : (n : ℕ) (t j : List ℕ) → k ≡ t ++ j → on_place (tag_at turn_tag s (at + length t)) (λ d. ends_line s n d.at) None ≡ None
  unfolding tag_at stands_at
  turn-tag n t j e = go (prefix_from turn_tag (j ++ (wide_colon ++ v))) refl
    where
      l : Stands s (at + length t) (j ++ (wide_colon ++ v))
      l = stands_past t (j ++ (wide_colon ++ v)) s at (stands_same (ap (λ (l : List ℕ). l ++ (wide_colon ++ v)) e ∙ append_assoc t j (wide_colon ++ v)) st)

      go : (u : Bool) → prefix_from turn_tag (j ++ (wide_colon ++ v)) ≡ u → on_place (tag_at turn_tag s (at + length t)) (λ d. ends_line s n d.at) None ≡ None
      go true f =
          let (i, q) = prefix_before turn_tag j v refl f in
          let m = stands_past turn_tag (i ++ (wide_colon ++ v)) s (at + length t) (stands_same (ap (λ (l : List ℕ). l ++ (wide_colon ++ v)) q) l) in
          let z = pad_colon (length i) i v (omega arith) (one-line_rest turn_tag i (subst OneLine q (one-line_rest t j (subst OneLine e o)))) s (at + length t + 3) m in
          rw (l.rest, f, z)
      go false f = rw (l.rest, f)

  turn_fails : (es : List Spelling) → free es ≡ true
      → on_spelled (first_of es s at) (λ n c. on_place (tag_at turn_tag s c.at) (λ d. ends_line s n d.at) None) None ≡ None
  unfolding first_of stands_at
  turn_fails [] h = refl
  turn_fails (e ∷ es) h = let (p, q) = pick_both (no_colon e.bytes) (free es) h in go (prefix_from e.bytes (k ++ (wide_colon ++ v))) refl p (turn_fails es q)
    where
      Ended : Option (ℕ × Cursor) → Option (ℕ × Cursor)
      Ended r = on_spelled r (λ n c. on_place (tag_at turn_tag s c.at) (λ d. ends_line s n d.at) None) None

      go : (u : Bool) → prefix_from e.bytes (k ++ (wide_colon ++ v)) ≡ u → no_colon e.bytes ≡ true → Ended (first_of es s at) ≡ None
          → Ended (pick (prefix_from e.bytes (drop at s)) (Some (e.number, cursor (at + length e.bytes))) (first_of es s at)) ≡ None
      go true f p ih = let (j, q) = prefix_before e.bytes k v p f in rw (st.rest, f) (turn-tag e.number e.bytes j q)
      go false f p ih = rw (st.rest, f) ih

  pub no_turn : turn_line_at s at ≡ None
  unfolding turn_line_at
  no_turn = turn_fails sides refl

-- ---- no hand

prefix_after : (a b w : List ℕ) → prefix_from (a ++ b) (a ++ w) ≡ prefix_from b w
unfolding prefix_from
prefix_after [] b w = refl
prefix_after (c ∷ a) b w = rw (eq-eqb c c refl) (prefix_after a b w)

module _ (u : List ℕ) {x : List ℕ} (b : Break x) {s : List ℕ} {at : ℕ} (st : Stands s at (u ++ x)) where
  hand_fails : (es : List Spelling) → plain es ≡ true → begins_hand es u ≡ false
      → on_spelled (first_of es s at) (λ side c. on_place (tag_at hands_tag s c.at) (λ d. held_at side s d.at) (hand_said NoHand empty_hand)) (hand_said NoHand empty_hand) ≡ hand_said NoHand empty_hand
  unfolding first_of tag_at
  hand_fails [] h n = refl
  hand_fails (e ∷ es) h n =
      let (p, q) = pick_both (every_byte is_text e.bytes) (plain es) h in
      go (prefix_from e.bytes u) refl (prefix_from (e.bytes ++ hands_tag) u) refl n p (hand_fails es q)
    where
      Held : Option (ℕ × Cursor) → HandSaid
      Held r = on_spelled r (λ side c. on_place (tag_at hands_tag s c.at) (λ d. held_at side s d.at) (hand_said NoHand empty_hand)) (hand_said NoHand empty_hand)

      go : (t : Bool) → prefix_from e.bytes u ≡ t → (y : Bool) → prefix_from (e.bytes ++ hands_tag) u ≡ y → pick y true (begins_hand es u) ≡ false → OneLine e.bytes
          → (begins_hand es u ≡ false → Held (first_of es s at) ≡ hand_said NoHand empty_hand)
          → Held (pick (stands_at e.bytes s at) (Some (e.number, cursor (at + length e.bytes))) (first_of es s at)) ≡ hand_said NoHand empty_hand
      go true f true g n p ih = absurd (true≢false n)
      go true f false g n p ih =
          let (w, q) = prefix_split e.bytes u f in
          let l = stands_past e.bytes (w ++ x) s at (stands_same (ap (λ (l : List ℕ). l ++ x) q ∙ append_assoc e.bytes w x) st) in
          let z : prefix_from hands_tag w ≡ false = sym (prefix_after e.bytes hands_tag w) ∙ ap (prefix_from (e.bytes ++ hands_tag)) (sym q) ∙ g in
          rw (stands_local e.bytes u b p st, f, stands_local hands_tag w b refl l, z)
      go false f true g n p ih = absurd (true≢false n)
      go false f false g n p ih = rw (stands_local e.bytes u b p st, f) (ih n)

  pub no-hand : begins_hand sides u ≡ false → hand_line_at s at ≡ hand_said NoHand empty_hand
  unfolding hand_line_at
  no-hand n = hand_fails sides refl n

-- ---- the line

pub first_byte : (t r : List ℕ) → 0 < length t → get_or (t ++ r) 0 0 ≡ get_or t 0 0
first_byte [] r h = absurd (omega arith)
first_byte (b ∷ t) r h = refl

line-parts : (k v r : List ℕ) → (((k ++ wide_colon) ++ v) ++ (10 ∷ [])) ++ r ≡ k ++ (wide_colon ++ (v ++ (10 ∷ r)))
line-parts k v r = simp append_assoc

line_body : (k v r : List ℕ) → (((k ++ wide_colon) ++ v) ++ (10 ∷ [])) ++ r ≡ ((k ++ wide_colon) ++ v) ++ (10 ∷ r)
line_body k v r = append_assoc ((k ++ wide_colon) ++ v) (10 ∷ []) r

pub header_item : (h : Header) → HeaderSayable h → Reads information_item (λ e. more e (of_pair h)) (header_line h) Any
unfolding header_line information_item information_at hands_or_keyed_at keyed_at key_value_at value_at header_at key_at
header_item h f = record { run = λ s at r st c. go s at r st }
  where
    body : List ℕ
    body = (h.key ++ wide_colon) ++ h.value

    o : OneLine body
    o = all_append is_text (h.key ++ wide_colon) h.value (all_append is_text h.key wide_colon (key-text h.key f.key) refl) f.value

    go : (s : List ℕ) (at : ℕ) (r : List ℕ) → Stands s at (header_line h ++ r) → Came (information_item s at) (λ e. more e (of_pair h)) s r
    go s at r st =
        let n : ℕ = at + length h.key in
        let st₁ : Stands s at (h.key ++ (wide_colon ++ (h.value ++ (10 ∷ r)))) = stands_same (line-parts h.key h.value r) st in
        let st₂ : Stands s at (body ++ (10 ∷ r)) = stands_same (line_body h.key h.value r) st in
        let z₁ : hash_lines_at s at ≡ at = hash_none st₁ (ap (λ (b : ℕ). eqb b 35) (first_byte h.key _ f.some) ∙ f.no_hash) in
        let z₂ : preset_line_at s at ≡ None = preset_alike body o (lf {r = []}) (lf {r = r}) (stands_seam [] (header_line h)) st₂ f.no_preset in
        let z₃ : turn_line_at s at ≡ None = no_turn h.key (h.value ++ (10 ∷ r)) (key-text h.key f.key) st₁ in
        let z₄ : hand_line_at s at ≡ hand_said NoHand empty_hand = no-hand body lf st₂ f.no_hand in
        let k₁ : key_from (drop at s) ≡ h.key = ap key_from st₁.rest ∙ key-from h.key (h.value ++ (10 ∷ r)) f.key in
        let ne : eqb (length h.key) 0 ≡ false = ne_eqb (length h.key) 0 (λ e. let g = f.some in omega arith) in
        let l₁ : Stands s n (wide_colon ++ (h.value ++ (10 ∷ r))) = stands_past h.key _ s at st₁ in
        then (tag_reads wide_colon) l₁ tt λ e₂ i₂ l₂.
        then (tail_reads h.value f.value) l₂ refl λ e₃ i₃ l₃.
        then break-reads l₃ tt λ e₄ i₄ l₄.
        let t : take (e₃ - e₂) (drop e₂ s) ≡ h.value = stands_between h.value l₂ l₃ in
        record { end = e₄; is = rw (z₁, z₂, z₃, z₄, k₁, ne, i₂, i₃, i₄, t); left = l₄ }
