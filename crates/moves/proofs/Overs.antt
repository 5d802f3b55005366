-- From one place of a line to a later one stands text: words and numbers are text, so that the line ends where it ends from before them.
-- Assumes nothing.
use Rattle.std.specs.Prelude.{Some, Ok}
use Prim.Native.Nat.{ℕ, zero, suc, ◌+◌, ◌-◌, ◌≤◌, ◌<◌}
use native.Mathlib.Nat.{le_refl}
use native.Mathlib.Omega.{arith}
use mathlib.Core.Path.{◌≡◌, refl, sym, ap, subst, ◌∙◌}
use mathlib.Core.List.{List, [], ◌∷◌}
use mathlib.Core.Bool.{Bool, true, false}
use lib.ListN.{length, get_or}
use lib.Dec.{eqb, ltb}
use borrow.Author.Tests.{ltb-true, ltb-false, eqb-true, ne_eqb}
use Rattle.lists.specs.Pick.{pick}
use Rattle.lists.proofs.Laws.{by_pick, pick_both, drop_step}
use Rattle.text.specs.Text.{cursor, is_text, prefix_from, stands_at, tag_at, text_at, break_at, tail_at, line_end_at, digits_at}
use Rattle.text.specs.declared.Cursor.{Cursor}
use Rattle.text.proofs.Laws.{span_ge, span-on, span_off, span-end, stands_fits, tag_back}
use Rattle.text.proofs.Answers.{digits_fit}
use Rattle.spell.specs.Spell.{first_of}
use Rattle.spell.specs.Tables.{Spelling}
use Rattle.spell.proofs.Answers.{OnSpelled, is_as, is_not, as_is}
use Rattle.moves.proofs.Figures.{value_is}
use Rattle.moves.proofs.Shortcuts.{digits_along}

-- ---- texts

module _ (s : List ℕ) where
  -- the text from the next place on ends no sooner
  next-later : (at : ℕ) → text_at s at ≤ text_at s (at + 1)
  next-later at = go (ltb at (length s)) refl (is_text (get_or s at 0)) refl (span_ge is_text s (at + 1))
    where
      go : (t : Bool) → ltb at (length s) ≡ t → (u : Bool) → is_text (get_or s at 0) ≡ u → at + 1 ≤ text_at s (at + 1) → text_at s at ≤ text_at s (at + 1)
      go true p true q h = omega (arith, span-on is_text s at (ltb-true _ _ p) q)
      go true p false q h = omega (arith, span_off is_text s at (ltb-true _ _ p) q)
      go false p u q h = omega (arith, span-end is_text s at (ltb-false _ _ p))

  -- nor from k places on
  text-more : (k at e : ℕ) → e ≡ at + k → text_at s at ≤ text_at s e
  text-more zero at e q = let z : at ≡ e = omega arith in omega (arith, ap (text_at s) z)
  text-more (suc k) at e q = omega (arith, next-later at, text-more k (at + 1) e (omega arith))

  -- nor from any later place
  pub text-later : (at e : ℕ) → at ≤ e → text_at s at ≤ text_at s e
  text-later at e h = text-more (e - at) at e (omega arith)

  -- it ends in the text
  pub text-within : (at : ℕ) → at ≤ length s → text_at s at ≤ length s
  text-within at h = omega (arith, text-later at (length s) h, span-end is_text s (length s) (le_refl (length s)))

  -- the break of a line stands where its text ends
  pub line-break : (at : ℕ) → line_end_at s at ≡ break_at s (text_at s at)
  unfolding line_end_at tail_at break_at
  line-break at = go (eqb (get_or s (text_at s at) 0) 13) (eqb (get_or s (text_at s at + 1) 0) 10) refl refl
    where
      go : (t u : Bool) → eqb (get_or s (text_at s at) 0) 13 ≡ t → eqb (get_or s (text_at s at + 1) 0) 10 ≡ u → line_end_at s at ≡ break_at s (text_at s at)
      go true true p q = rw (p, q, p, q)
      go true false p q = rw (p, q, ne_eqb (get_or s (text_at s at) 0) 10 (λ e. omega (arith, eqb-true (get_or s (text_at s at) 0) 13 p)))
      go false u p q = rw (p, p)

-- ---- words are text

-- from one place to a later one stands text
pub record Over (s : List ℕ) (at e : ℕ) : Type 0 where
  pub past : at < e
  pub text : text_at s at ≡ text_at s e

-- text after text
pub over_on : {s : List ℕ} {a b c : ℕ} → Over s a b → Over s b c → Over s a c
over_on o n =
    let p = o.past in
    let q = n.past in
    record { past = omega arith; text = o.text ∙ n.text }

-- every byte of a word is text: a test that antt computes
abbrev pub texts : List ℕ → Bool
texts [] = true
texts (b ∷ t) = pick (is_text b) (texts t) false

-- and it has one
abbrev pub is_word : List ℕ → Bool
is_word [] = false
is_word (b ∷ t) = texts (b ∷ t)

-- a byte string that stands at a place has its first byte there and the others after it
stands_next : (b : ℕ) (t s : List ℕ) (at : ℕ) → stands_at (b ∷ t) s at ≡ true → (at < length s) × (get_or s at 0 ≡ b) × (stands_at t s (at + 1) ≡ true)
unfolding stands_at prefix_from
stands_next b t s at e =
    let h : at < length s = omega (arith, stands_fits (b ∷ t) s at e) in
    let (p, q) = pick_both (eqb (get_or s at 0) b) (stands_at t s (at + 1)) (rw (drop_step s at h) at e) in
    (h, eqb-true (get_or s at 0) b p, q)

-- the bytes of a word that stands at a place are text
stands_text : (t s : List ℕ) (at : ℕ) → texts t ≡ true → stands_at t s at ≡ true → text_at s at ≡ text_at s (at + length t)
stands_text [] s at w e = let z : at ≡ at + 0 = omega arith in ap (text_at s) z
stands_text (b ∷ t) s at w e =
    let (u, v) = pick_both (is_text b) (texts t) w in
    let (h, p, q) = stands_next b t s at e in
    let z : at + 1 + length t ≡ at + suc (length t) = omega arith in
    span-on is_text s at h (ap is_text p ∙ u) ∙ stands_text t s (at + 1) v q ∙ ap (text_at s) z

-- so a word is passed over text
stands_over : (t s : List ℕ) (at : ℕ) → is_word t ≡ true → stands_at t s at ≡ true → Over s at (at + length t)
stands_over (b ∷ t) s at w e = record { past = omega arith; text = stands_text (b ∷ t) s at w e }
stands_over [] s at w e = let z : ◌≡◌ {A = ℕ} 0 1 = cc in absurd (omega arith)

-- by a tag
pub tag_over : (t s : List ℕ) (at : ℕ) {c : Cursor} → is_word t ≡ true → tag_at t s at ≡ Some c → Over s at c.at
tag_over t s at {c} w e = let (p, q) = tag_back t s at c e in subst (Over s at) (sym q) (stands_over t s at w p)

-- all spellings of a table are words
abbrev pub words : List Spelling → Bool
words [] = true
words (e ∷ es) = pick (is_word e.bytes) (words es) false

-- by a spelling of a table
spelled_over : (es : List Spelling) → words es ≡ true → (s : List ℕ) (at : ℕ) → OnSpelled (λ n c. Over s at c.at) (first_of es s at)
unfolding first_of
spelled_over [] w s at = is_not
spelled_over (e ∷ es) w s at =
    let (p, q) = pick_both (is_word e.bytes) (words es) w in
    by_pick (OnSpelled (λ n c. Over s at c.at)) (stands_at e.bytes s at) (Some (e.number, cursor (at + length e.bytes))) (first_of es s at)
    (λ t. is_as (stands_over e.bytes s at p t)) (λ t. spelled_over es q s at)

-- the same where it is known which
pub first_over : (es : List Spelling) (s : List ℕ) (at : ℕ) {n : ℕ} {c : Cursor} → words es ≡ true → first_of es s at ≡ Some (n, c) → Over s at c.at
first_over es s at w e = as_is (spelled_over es w s at) e

-- by a number
pub digits_over : (largest : ℕ) (s : List ℕ) (at : ℕ) {n : ℕ} {c : Cursor} → digits_at largest s at ≡ Ok (n, c) → Over s at c.at
digits_over largest s at e = record { past = (value_is (digits_fit largest s at) e).past; text = value_is (digits_along s largest at) e }
