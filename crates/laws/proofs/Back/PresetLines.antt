-- Whether a line is a preset depends on the line alone: not on what follows it, nor on which break ends it.
-- Assumes nothing.
use Rattle.std.specs.Prelude.{Option, Some, None}
use Prim.Native.Nat.{ℕ, zero, suc, ◌+◌, ◌≤◌, ◌<◌}
use native.Mathlib.Nat.{add-zero}
use native.Mathlib.Omega.{arith}
use mathlib.Core.Path.{◌≡◌, refl, sym, ap, ◌∙◌, subst}
use mathlib.Core.List.{List, [], ◌∷◌, ◌++◌, append_assoc}
use mathlib.Core.Bool.{Bool, true, false, false≢true, true≢false}
use lib.ListN.{length, get_or, length-append}
use lib.Dec.{eqb}
use borrow.Author.Tests.{eqb-true, ne_eqb}
use Rattle.lists.specs.Pick.{pick}
use Rattle.lists.proofs.Laws.{pick_both}
use Rattle.lists.proofs.Stand.{Stands, stands_past, stands_same, byte_0, byte_1}
use Rattle.text.specs.Text.{cursor, on_place, is_text, prefix_from, stands_at, tag_at, break_at, wide_space, pad_width, padding_at}
use Rattle.text.proofs.Widths.{past_stop, past_more, pad_within}
use Rattle.spell.specs.Tables.{Spelling, presets}
use Rattle.spell.specs.Spell.{on_spelled, first_of}
use Rattle.spell.proofs.Written.{stands_here}
use Rattle.kakinoki.specs.Informations.{padded_end_at, ends_line, preset_line_at}
use Rattle.spell.specs.Words.{preset_tag}
use Rattle.laws.specs.Sayable.{every_byte, OneLine}
use Rattle.text.specs.declared.Cursor.{Cursor}

-- a break, and what follows it
pub data Break : List ℕ → Type 0 where
  lf : {r : List ℕ} → Break (10 ∷ r)
  crlf : {r : List ℕ} → Break (13 ∷ 10 ∷ r)

pub break_off : {x : List ℕ} → Break x → is_text (get_or x 0 0) ≡ false
break_off lf = refl
break_off crlf = refl

-- ---- a byte string

text-other : (b c : ℕ) → is_text b ≡ true → is_text c ≡ false → eqb c b ≡ false
text-other b c h k = ne_eqb c b (λ e. true≢false (sym h ∙ ap is_text (sym e) ∙ k))

-- a text of one line stands before a break only if it stands in the line
pub prefix_local : (t u : List ℕ) {x : List ℕ} → Break x → OneLine t → prefix_from t (u ++ x) ≡ prefix_from t u
unfolding prefix_from
prefix_local [] u b h = refl
prefix_local (c ∷ t) [] lf h = rw (text-other c 10 (pick_both (is_text c) (every_byte is_text t) h).0 refl)
prefix_local (c ∷ t) [] crlf h = rw (text-other c 13 (pick_both (is_text c) (every_byte is_text t) h).0 refl)
prefix_local (c ∷ t) (y ∷ u) b h = rw (prefix_local t u b (pick_both (is_text c) (every_byte is_text t) h).1)

pub stands_local : (t u : List ℕ) {x : List ℕ} → Break x → OneLine t → {s : List ℕ} {at : ℕ} → Stands s at (u ++ x) → stands_at t s at ≡ prefix_from t u
unfolding stands_at
stands_local t u b h st = rw st.rest (prefix_local t u b h)

pub prefix_split : (t u : List ℕ) → prefix_from t u ≡ true → (v : List ℕ) × (u ≡ t ++ v)
unfolding prefix_from
prefix_split [] u h = (u, refl)
prefix_split (c ∷ t) [] h = absurd (false≢true h)
prefix_split (c ∷ t) (y ∷ u) h =
    let (p, q) = pick_both (eqb y c) (prefix_from t u) h in
    let (v, e) = prefix_split t u q in
    (v, ap (λ (z : ℕ). z ∷ u) (eqb-true y c p) ∙ ap (λ (l : List ℕ). c ∷ l) e)

pub one-line_rest : (t v : List ℕ) → OneLine (t ++ v) → OneLine v
one-line_rest [] v h = h
one-line_rest (c ∷ t) v h = one-line_rest t v (pick_both (is_text c) (every_byte is_text (t ++ v)) h).1

nil_prefix : prefix_from wide_space [] ≡ false
unfolding prefix_from
nil_prefix = refl

-- no spelling of a table has a break: a test that antt computes
abbrev pub plain : List Spelling → Bool
plain [] = true
plain (e ∷ es) = pick (every_byte is_text e.bytes) (plain es) false

-- ---- padding

-- a line is padding and then something that begins none, or nothing
record Padded (w : List ℕ) : Type 0 where
  pub front : List ℕ
  pub rest : List ℕ
  pub parts : w ≡ front ++ rest
  pub ends : (x : List ℕ) → Break x → (s : List ℕ) (at : ℕ) → Stands s at (w ++ x) → padding_at s at ≡ at + length front

pad_none : (w : List ℕ) → ((x : List ℕ) → Break x → (s : List ℕ) (at : ℕ) → Stands s at (w ++ x) → pad_width s at ≡ 0) → Padded w
pad_none w h = record { front = []; rest = w; parts = refl; ends = λ x b s at st. past_stop pad_width s at (h x b s at st) ∙ sym (add-zero at) }

pad_more : (t w : List ℕ) → 0 < length t → ((x : List ℕ) → Break x → (s : List ℕ) (at : ℕ) → Stands s at ((t ++ w) ++ x) → pad_width s at ≡ length t) → Padded w → Padded (t ++ w)
pad_more t w n h p = record {
  front = t ++ p.front;
  rest = p.rest;
  parts = ap (λ (l : List ℕ). t ++ l) p.parts ∙ sym (append_assoc t p.front p.rest);
  ends = λ x b s at st.
      let e = h x b s at st in
      let l = stands_past t (w ++ x) s at (stands_same (append_assoc t w x) st) in
      let ne : pad_width s at ≡ 0 → ⊥ = λ z. omega arith in
      past_more pad_width s at pad_within ne
      ∙ ap (λ (n : ℕ). padding_at s (at + n)) e
      ∙ p.ends x b s (at + length t) l
      ∙ omega (arith, length-append t p.front);
}

pad_nil : Padded []
unfolding pad_width
pad_nil = pad_none [] (λ x b s at st. rw (byte_0 st) (none b st))
  where
    none : {x : List ℕ} {s : List ℕ} {at : ℕ} → Break x → Stands s at ([] ++ x) → ◌≡◌ {A = ℕ} (pick (eqb (get_or x 0 0) 32) 1 (pick (stands_at wide_space s at) 3 0)) 0
    none lf st = rw (stands_local wide_space [] lf refl st, nil_prefix)
    none crlf st = rw (stands_local wide_space [] crlf refl st, nil_prefix)

pad_step : (n : ℕ) (w : List ℕ) → ((w : List ℕ) → length w ≤ n → OneLine w → Padded w) → length w ≤ suc n → OneLine w → Padded w
unfolding pad_width
pad_step n [] ih h o = pad_nil
pad_step n (b ∷ w) ih h o = go (eqb b 32) (prefix_from wide_space (b ∷ w)) refl refl
  where
    go : (t u : Bool) → eqb b 32 ≡ t → prefix_from wide_space (b ∷ w) ≡ u → Padded (b ∷ w)
    go true u e f = pad_more (b ∷ []) w (omega arith) (λ x k s at st. rw (byte_0 st, e)) (ih w (omega arith) (one-line_rest (b ∷ []) w o))
    go false true e f =
        let (v, q) = prefix_split wide_space (b ∷ w) f in
        let m : length (b ∷ w) ≡ length wide_space + length v = ap length q ∙ length-append wide_space v in
        subst Padded (sym q)
        (pad_more wide_space v (omega arith) (λ x k s at st. rw (byte_0 st, stands_here wide_space (v ++ x) st)) (ih v (omega (arith, m)) (one-line_rest wide_space v (subst OneLine q o))))
    go false false e f = pad_none (b ∷ w) (λ x k s at st. rw (byte_0 st, e, stands_local wide_space (b ∷ w) k refl st, f))

pad_split : (n : ℕ) (w : List ℕ) → length w ≤ n → OneLine w → Padded w
pad_split zero [] h o = pad_nil
pad_split zero (b ∷ w) h o = absurd (omega arith)
pad_split (suc n) w h o = pad_step n w (pad_split n) h o

-- ---- a preset

-- the line is over where nothing is left of it, and only there
break_is : (z : List ℕ) → OneLine z → {x : List ℕ} → Break x → {s : List ℕ} {at : ℕ} → Stands s at (z ++ x)
    → (e : ℕ) × (break_at s at ≡ pick (eqb (length z) 0) (Some (cursor e)) None)
unfolding break_at
break_is [] o lf {at = at} st = (at + 1, rw (byte_0 st))
break_is [] o crlf {at = at} st = (at + 2, rw (byte_0 st, byte_1 st))
break_is (c ∷ z) o b {at = at} st =
    let h = (pick_both (is_text c) (every_byte is_text z) o).0 in
    let z : eqb (suc (length z)) 0 ≡ false = ne_eqb (suc (length z)) 0 (λ e. omega arith) in
    (at, rw (byte_0 st, ten c h, thirteen c h, z))
  where
    ten : (c : ℕ) → is_text c ≡ true → eqb c 10 ≡ false
    ten c h = ne_eqb c 10 (λ e. true≢false (sym h ∙ ap is_text e))

    thirteen : (c : ℕ) → is_text c ≡ true → eqb c 13 ≡ false
    thirteen c h = ne_eqb c 13 (λ e. true≢false (sym h ∙ ap is_text e))

over_is : (w : List ℕ) (p : Padded w) → OneLine w → {x : List ℕ} → Break x → {s : List ℕ} {at : ℕ} → Stands s at (w ++ x)
    → (e : ℕ) × (padded_end_at s at ≡ pick (eqb (length p.rest) 0) (Some (cursor e)) None)
unfolding padded_end_at
over_is w p o {x} b {s} {at} st =
    let l = stands_past p.front (p.rest ++ x) s at (stands_same (ap (λ (l : List ℕ). l ++ x) p.parts ∙ append_assoc p.front p.rest x) st) in
    let (e, i) = break_is p.rest (one-line_rest p.front p.rest (subst OneLine p.parts o)) b l in
    (e, rw (p.ends x b s at st) i)

-- so two places at which a line stands end it alike
ends_alike : (n : ℕ) (w : List ℕ) → OneLine w → {x y : List ℕ} → Break x → Break y → {s s' : List ℕ} {at at' : ℕ} → Stands s at (w ++ x) → Stands s' at' (w ++ y)
    → ends_line s n at ≡ None → ends_line s' n at' ≡ None
ends_alike n w o b c {s} {s'} {at} {at'} st su q =
    let p = pad_split (length w) w (omega arith) o in
    let (e, i) = over_is w p o b st in
    let (f, j) = over_is w p o c su in
    go e f (eqb (length p.rest) 0) (padded_end_at s at) (padded_end_at s' at') i j q
  where
    go : (e f : ℕ) (t : Bool) (u v : Option Cursor) → u ≡ pick t (Some (cursor e)) None → v ≡ pick t (Some (cursor f)) None
        → on_place {A = Option (ℕ × Cursor)} u (λ e. Some (n, e)) None ≡ None → on_place {A = Option (ℕ × Cursor)} v (λ e. Some (n, e)) None ≡ None
    go e f true u v i j q = let z : ◌≡◌ {A = Option (ℕ × Cursor)} (Some (n, cursor e)) None = rw i at q in let y : ◌≡◌ {A = ℕ} 0 1 = cc in absurd (omega arith)
    go e f false u v i j q = rw j

module _ {x y : List ℕ} (b : Break x) (c : Break y) where
  first_alike : (es : List Spelling) → plain es ≡ true → (v : List ℕ) → OneLine v → {s s' : List ℕ} {at at' : ℕ} → Stands s at (v ++ x) → Stands s' at' (v ++ y)
      → on_spelled (first_of es s at) (λ n d. ends_line s n d.at) None ≡ None → on_spelled (first_of es s' at') (λ n d. ends_line s' n d.at) None ≡ None
  unfolding first_of
  first_alike [] h v o st su = λ q. refl
  first_alike (e ∷ es) h v o {s} {s'} {at} {at'} st su =
      let (p, k) = pick_both (every_byte is_text e.bytes) (plain es) h in
      go (prefix_from e.bytes v) refl (stands_local e.bytes v b p st) (stands_local e.bytes v c p su) (first_alike es k v o st su)
    where
      Ended : List ℕ → Option (ℕ × Cursor) → Option (ℕ × Cursor)
      Ended s r = on_spelled r (λ n d. ends_line s n d.at) None

      go : (t : Bool) → prefix_from e.bytes v ≡ t → stands_at e.bytes s at ≡ prefix_from e.bytes v → stands_at e.bytes s' at' ≡ prefix_from e.bytes v
          → (Ended s (first_of es s at) ≡ None → Ended s' (first_of es s' at') ≡ None)
          → Ended s (pick (stands_at e.bytes s at) (Some (e.number, cursor (at + length e.bytes))) (first_of es s at)) ≡ None
          → Ended s' (pick (stands_at e.bytes s' at') (Some (e.number, cursor (at' + length e.bytes))) (first_of es s' at')) ≡ None
      go true f i j ih q =
          let (w, z) = prefix_split e.bytes v f in
          let l = stands_past e.bytes (w ++ x) s at (stands_same (ap (λ (l : List ℕ). l ++ x) z ∙ append_assoc e.bytes w x) st) in
          let m = stands_past e.bytes (w ++ y) s' at' (stands_same (ap (λ (l : List ℕ). l ++ y) z ∙ append_assoc e.bytes w y) su) in
          rw (j, f) (ends_alike e.number w (one-line_rest e.bytes w (subst OneLine z o)) b c l m (rw (i, f) at q))
      go false f i j ih q = rw (j, f) (ih (rw (i, f) at q))

-- a line that is no preset at one place is none at another
pub preset_alike : (v : List ℕ) → OneLine v → {x y : List ℕ} → Break x → Break y → {s s' : List ℕ} {at at' : ℕ} → Stands s at (v ++ x) → Stands s' at' (v ++ y)
    → preset_line_at s at ≡ None → preset_line_at s' at' ≡ None
unfolding preset_line_at tag_at
preset_alike v o {x} {y} b c {s} {s'} {at} {at'} st su = go (prefix_from preset_tag v) refl (stands_local preset_tag v b refl st) (stands_local preset_tag v c refl su)
  where
    Ended : List ℕ → ℕ → Option (ℕ × Cursor)
    Ended s at = on_spelled (first_of presets s at) (λ n d. ends_line s n d.at) None

    go : (t : Bool) → prefix_from preset_tag v ≡ t → stands_at preset_tag s at ≡ prefix_from preset_tag v → stands_at preset_tag s' at' ≡ prefix_from preset_tag v
        → on_place (pick (stands_at preset_tag s at) (Some (cursor (at + 12))) None) (λ c. Ended s c.at) None ≡ None
        → on_place (pick (stands_at preset_tag s' at') (Some (cursor (at' + 12))) None) (λ c. Ended s' c.at) None ≡ None
    go true f i j q =
        let (w, z) = prefix_split preset_tag v f in
        let l = stands_past preset_tag (w ++ x) s at (stands_same (ap (λ (l : List ℕ). l ++ x) z) st) in
        let m = stands_past preset_tag (w ++ y) s' at' (stands_same (ap (λ (l : List ℕ). l ++ y) z) su) in
        rw (j, f) (first_alike b c presets refl w (one-line_rest preset_tag w (subst OneLine z o)) l m (rw (i, f) at q))
    go false f i j q = rw (j, f)
