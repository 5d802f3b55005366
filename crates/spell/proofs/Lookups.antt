-- A character of three bytes is found at once by the slot of its code.
-- Assumes nothing.
use Rattle.std.specs.Prelude.{Option, Some, None}
use Prim.Native.Nat.{ℕ, zero, suc, ◌+◌, ◌-◌, ◌/◌, ◌%◌, ◌≤◌, ◌<◌}
use native.Mathlib.Omega.{arith}
use mathlib.Core.Path.{◌≡◌, refl, sym, ap, ◌∙◌}
use mathlib.Core.List.{List, [], ◌∷◌, ◌++◌}
use mathlib.Core.Bool.{Bool, true, false, false≢true}
use lib.ListN.{length, get_or, drop}
use lib.Dec.{eqb, ltb, leb}
use borrow.Author.Tests.{eq-eqb, ne_eqb, eqb-true, eqb-false, lt-ltb, le-ltb, ltb-true, ltb-false, leb-true}
use Rattle.lists.specs.Pick.{pick}
use Rattle.lists.proofs.Laws.{pick_both}
use Rattle.text.specs.Text.{cursor, prefix_from, stands_at, same}
use Rattle.text.specs.declared.Cursor.{Cursor}
use Rattle.text.proofs.Laws.{stands_fits, same_is, same_refl, lengths_differ}
use Rattle.spell.specs.Tables.{Spelling, kinds, numerals, files}
use Rattle.spell.specs.Spell.{first_of, number_spelled, code, code_of}
use Rattle.spell.specs.Words.{promotes}
use Rattle.spell.specs.inner.Codes.{all_bytes, bytes_of, code_at, three_at}
use Rattle.spell.specs.inner.Slots.{look, number_in, numeral_slots, kind_slots, promoted_of, promoted_in}
use Rattle.spell.proofs.Codes.{Near, near, key_of, key-at, key-bytes, bytes-key, key_stands, stands_key}
use Rattle.spell.proofs.Written.{holds, found, number-held}

-- ---- what stands at a place has its code

prefix_key : (t l : List ℕ) → 3 ≤ length t → prefix_from t l ≡ true → code l ≡ code t
unfolding prefix_from
prefix_key [] l h e = absurd (omega arith)
prefix_key (a ∷ []) l h e = absurd (omega arith)
prefix_key (a ∷ b ∷ []) l h e = absurd (omega arith)
prefix_key (a ∷ b ∷ c ∷ t) [] h e = absurd (false≢true e)
prefix_key (a ∷ b ∷ c ∷ t) (x ∷ []) h e = let (_, e₁) = pick_both (eqb x a) _ e in absurd (false≢true e₁)
prefix_key (a ∷ b ∷ c ∷ t) (x ∷ y ∷ []) h e =
    let (_, e₁) = pick_both (eqb x a) _ e in
    let (_, e₂) = pick_both (eqb y b) _ e₁ in
    absurd (false≢true e₂)
prefix_key (a ∷ b ∷ c ∷ t) (x ∷ y ∷ z ∷ l) h e =
    let (p, e₁) = pick_both (eqb x a) _ e in
    let (q, e₂) = pick_both (eqb y b) _ e₁ in
    let (r, _) = pick_both (eqb z c) (prefix_from t l) e₂ in
    omega (arith, eqb-true x a p, eqb-true y b q, eqb-true z c r)

stands_has : (t s : List ℕ) (at : ℕ) → 3 ≤ length t → stands_at t s at ≡ true → code_at s at ≡ code t
unfolding stands_at
stands_has t s at h e = sym (key-at s at) ∙ prefix_key t (drop at s) h e

-- every spelling has three bytes or more: a test that antt computes
abbrev pub wide : List Spelling → Bool
wide [] = true
wide (e ∷ es) = pick (leb 3 (length e.bytes)) (wide es) false

-- none stands where fewer than three bytes do
pub short-first : (es : List Spelling) → wide es ≡ true → (s : List ℕ) (at : ℕ) → length s < at + 3 → first_of es s at ≡ None
unfolding first_of
short-first [] h s at k = refl
short-first (e ∷ es) h s at k = go (stands_at e.bytes s at) refl (short-first es w.1 s at k)
  where
    w : (3 ≤ length e.bytes) × (wide es ≡ true)
    w = let (p, q) = pick_both (leb 3 (length e.bytes)) (wide es) h in (leb-true _ _ p, q)

    go : (u : Bool) → stands_at e.bytes s at ≡ u → first_of es s at ≡ None → pick u (Some (e.number, cursor (at + length e.bytes))) (first_of es s at) ≡ None
    go true t ih = absurd (omega (arith, stands_fits e.bytes s at t, w.0))
    go false t ih = ih

-- ---- two tables of which no spelling of one begins as one of the other

abbrev apart_from : ℕ → List Spelling → Bool
apart_from x [] = true
apart_from x (e ∷ es) = pick (eqb x (code e.bytes)) false (apart_from x es)

abbrev pub apart : List Spelling → List Spelling → Bool
apart [] fs = true
apart (e ∷ es) fs = pick (apart_from (code e.bytes) fs) (apart es fs) false

not_apart : (x : ℕ) (fs : List Spelling) → wide fs ≡ true → apart_from x fs ≡ true → (s : List ℕ) (at : ℕ) → code_at s at ≡ x → first_of fs s at ≡ None
unfolding first_of
not_apart x [] w h s at k = refl
not_apart x (f ∷ fs) w h s at k = go (λ a. not_apart x fs v.1 a s at k) (stands_at f.bytes s at) refl (eqb x (code f.bytes)) refl h
  where
    v : (3 ≤ length f.bytes) × (wide fs ≡ true)
    v = let (p, q) = pick_both (leb 3 (length f.bytes)) (wide fs) w in (leb-true _ _ p, q)

    go : (apart_from x fs ≡ true → first_of fs s at ≡ None) → (u : Bool) → stands_at f.bytes s at ≡ u → (t : Bool) → eqb x (code f.bytes) ≡ t → pick t false (apart_from x fs) ≡ true
        → pick u (Some (f.number, cursor (at + length f.bytes))) (first_of fs s at) ≡ None
    go ih u e true q a = absurd (false≢true a)
    go ih true e false q a = absurd (eqb-false x (code f.bytes) q (sym k ∙ stands_has f.bytes s at v.0 e))
    go ih false e false q a = ih a

-- where a spelling of the first stands, none of the second does
pub apart_first : (es fs : List Spelling) → wide es ≡ true → wide fs ≡ true → apart es fs ≡ true → (s : List ℕ) (at n : ℕ) (c : Cursor) → first_of es s at ≡ Some (n, c) → first_of fs s at ≡ None
unfolding first_of
apart_first [] fs w v h s at n c q = let z : ◌≡◌ {A = ℕ} 0 1 = cc in absurd (omega arith)
apart_first (e ∷ es) fs w v h s at n c q = go (λ r. apart_first es fs w₁.1 v h₁.1 s at n c r) (stands_at e.bytes s at) refl q
  where
    w₁ : (3 ≤ length e.bytes) × (wide es ≡ true)
    w₁ = let (p, r) = pick_both (leb 3 (length e.bytes)) (wide es) w in (leb-true _ _ p, r)

    h₁ : (apart_from (code e.bytes) fs ≡ true) × (apart es fs ≡ true)
    h₁ = pick_both (apart_from (code e.bytes) fs) (apart es fs) h

    go : (first_of es s at ≡ Some (n, c) → first_of fs s at ≡ None) → (u : Bool) → stands_at e.bytes s at ≡ u
        → pick u (Some (e.number, cursor (at + length e.bytes))) (first_of es s at) ≡ Some (n, c) → first_of fs s at ≡ None
    go ih true t r = not_apart (code e.bytes) fs v h₁.0 s at (stands_has e.bytes s at w₁.0 t)
    go ih false t r = ih r

-- ---- characters of three bytes by their keys

-- the number of the first spelling of three bytes with a code; 0 where there is none
abbrev pub number_by : List Spelling → ℕ → ℕ
number_by [] x = 0
number_by (e ∷ es) x =
    let r = number_by es x in pick (eqb (length e.bytes) 3) (pick (eqb x (code e.bytes)) e.number r) r

-- the spellings of more bytes
abbrev pub longer : List Spelling → List Spelling
longer [] = []
longer (e ∷ es) = pick (eqb (length e.bytes) 3) (longer es) (e ∷ longer es)

-- Every spelling has three bytes, of which none is 0, and a number that is not 0, or more bytes that begin as no such spelling of all.
abbrev pub keyed : List Spelling → List Spelling → Bool
keyed all [] = true
keyed all (e ∷ es) =
    pick (eqb (length e.bytes) 3)
    (pick (all_bytes e.bytes) (pick (ltb 0 e.number) (keyed all es) false) false)
    (pick (leb 3 (length e.bytes)) (pick (eqb (number_by all (code e.bytes)) 0) (keyed all es) false) false)

module _ (all : List Spelling) (s : List ℕ) (at : ℕ) (near : Near (drop at s)) where
  -- a number that is found by the code is found in the table
  first_three : (es : List Spelling) → keyed all es ≡ true → (n : ℕ) → 0 < n → number_by all (code_at s at) ≡ n → number_by es (code_at s at) ≡ n
      → first_of es s at ≡ Some (n, cursor (at + 3))
  unfolding first_of
  first_three [] h n p a q = absurd (omega arith)
  first_three (e ∷ es) h n p a q = go (λ k r. first_three es k n p a r) (eqb (length e.bytes) 3) refl h q
    where
      Rest : Type 0
      Rest = keyed all es ≡ true → number_by es (code_at s at) ≡ n → first_of es s at ≡ Some (n, cursor (at + 3))

      here : Rest → length e.bytes ≡ 3 → (u : Bool) → stands_at e.bytes s at ≡ u → pick u e.number (number_by es (code_at s at)) ≡ n → keyed all es ≡ true
          → pick u (Some (e.number, cursor (at + length e.bytes))) (first_of es s at) ≡ Some (n, cursor (at + 3))
      here ih z true t q k = ap (λ (m : ℕ). Some (m, cursor (at + length e.bytes))) q ∙ ap (λ (m : ℕ). Some (n, cursor (at + m))) z
      here ih z false t q k = ih k q

      there : Rest → 3 ≤ length e.bytes → number_by all (code e.bytes) ≡ 0 → (u : Bool) → stands_at e.bytes s at ≡ u → number_by es (code_at s at) ≡ n → keyed all es ≡ true
          → pick u (Some (e.number, cursor (at + length e.bytes))) (first_of es s at) ≡ Some (n, cursor (at + 3))
      there ih w z true t q k =
          let y : n ≡ 0 = sym a ∙ ap (number_by all) (stands_has e.bytes s at w t) ∙ z in
          absurd (omega arith)
      there ih w z false t q k = ih k q

      go : Rest → (u : Bool) → eqb (length e.bytes) 3 ≡ u
          → pick u (pick (all_bytes e.bytes) (pick (ltb 0 e.number) (keyed all es) false) false)
          (pick (leb 3 (length e.bytes)) (pick (eqb (number_by all (code e.bytes)) 0) (keyed all es) false) false) ≡ true
          → pick u (pick (eqb (code_at s at) (code e.bytes)) e.number (number_by es (code_at s at))) (number_by es (code_at s at)) ≡ n
          → pick (stands_at e.bytes s at) (Some (e.number, cursor (at + length e.bytes))) (first_of es s at) ≡ Some (n, cursor (at + 3))
      go ih true z h q =
          let (b, h₁) = pick_both (all_bytes e.bytes) _ h in
          let (_, k) = pick_both (ltb 0 e.number) (keyed all es) h₁ in
          let z₁ = eqb-true (length e.bytes) 3 z in
          here ih z₁ (stands_at e.bytes s at) refl (ap (λ (u : Bool). pick u e.number (number_by es (code_at s at))) (stands_key e.bytes s at z₁ b near) ∙ q) k
      go ih false z h q =
          let (w, h₁) = pick_both (leb 3 (length e.bytes)) _ h in
          let (m, k) = pick_both (eqb (number_by all (code e.bytes)) 0) (keyed all es) h₁ in
          there ih (leb-true _ _ w) (eqb-true _ _ m) (stands_at e.bytes s at) refl q k

  -- where none is, the longer ones are left
  first_longer : (es : List Spelling) → keyed all es ≡ true → number_by es (code_at s at) ≡ 0 → first_of es s at ≡ first_of (longer es) s at
  unfolding first_of
  first_longer [] h q = refl
  first_longer (e ∷ es) h q = go (λ k r. first_longer es k r) (eqb (length e.bytes) 3) refl h q
    where
      Rest : Type 0
      Rest = keyed all es ≡ true → number_by es (code_at s at) ≡ 0 → first_of es s at ≡ first_of (longer es) s at

      here : Rest → 0 < e.number → (u : Bool) → pick u e.number (number_by es (code_at s at)) ≡ 0 → keyed all es ≡ true
          → pick u (Some (e.number, cursor (at + length e.bytes))) (first_of es s at) ≡ first_of (longer es) s at
      here ih p true q k = absurd (omega arith)
      here ih p false q k = ih k q

      go : Rest → (u : Bool) → eqb (length e.bytes) 3 ≡ u
          → pick u (pick (all_bytes e.bytes) (pick (ltb 0 e.number) (keyed all es) false) false)
          (pick (leb 3 (length e.bytes)) (pick (eqb (number_by all (code e.bytes)) 0) (keyed all es) false) false) ≡ true
          → pick u (pick (eqb (code_at s at) (code e.bytes)) e.number (number_by es (code_at s at))) (number_by es (code_at s at)) ≡ 0
          → pick (stands_at e.bytes s at) (Some (e.number, cursor (at + length e.bytes))) (first_of es s at) ≡ first_of (pick u (longer es) (e ∷ longer es)) s at
      go ih true z h q =
          let (b, h₁) = pick_both (all_bytes e.bytes) _ h in
          let (p, k) = pick_both (ltb 0 e.number) (keyed all es) h₁ in
          let z₁ = eqb-true (length e.bytes) 3 z in
          here ih (ltb-true _ _ p) (stands_at e.bytes s at) (ap (λ (u : Bool). pick u e.number (number_by es (code_at s at))) (stands_key e.bytes s at z₁ b near) ∙ q) k
      go ih false z h q =
          let (w, h₁) = pick_both (leb 3 (length e.bytes)) _ h in
          let (m, k) = pick_both (eqb (number_by all (code e.bytes)) 0) (keyed all es) h₁ in
          ap (λ (r : Option (ℕ × Cursor)). pick (stands_at e.bytes s at) (Some (e.number, cursor (at + length e.bytes))) r) (ih k q)

-- ---- slots

-- a row of the slot of a code: it has the code, and then its number is that of the code, or it has not
pub number-some : (l : List (ℕ × ℕ)) (m : ℕ) {x row : ℕ} → row ≡ look l (x % m) → row / 16 ≡ x → row % 16 ≡ number_in l m x
unfolding number_in
number-some l m e h = rw (← e, eq-eqb _ _ h)

pub number-none : (l : List (ℕ × ℕ)) (m : ℕ) {x row : ℕ} → row ≡ look l (x % m) → (row / 16 ≡ x → ⊥) → 0 ≡ number_in l m x
unfolding number_in
number-none l m e h = rw (← e, ne_eqb _ _ h)

-- every slot has a code and its number
abbrev pub sound : List Spelling → List (ℕ × ℕ) → Bool
sound all [] = true
sound all ((k, v) ∷ l) = pick (eqb (number_by all (v / 16)) (v % 16)) (pick (ltb 0 (v % 16)) (sound all l) false) false

sound-look : (all : List Spelling) (l : List (ℕ × ℕ)) → sound all l ≡ true → (h x : ℕ) → x < 16777216 → look l h / 16 ≡ x
    → (number_by all x ≡ look l h % 16) × (0 < look l h % 16)
sound-look all [] t h x p q = absurd (omega arith)
sound-look all ((k, v) ∷ l) t h x p q = go (λ t₂ r. sound-look all l t₂ h x p r) (eqb h k) q
  where
    go : (sound all l ≡ true → look l h / 16 ≡ x → (number_by all x ≡ look l h % 16) × (0 < look l h % 16)) → (u : Bool) → pick u v (look l h) / 16 ≡ x → (number_by all x ≡ pick u v (look l h) % 16) × (0 < pick u v (look l h) % 16)
    go ih true q =
        let (m, t₁) = pick_both (eqb (number_by all (v / 16)) (v % 16)) _ t in
        let (n, _) = pick_both (ltb 0 (v % 16)) (sound all l) t₁ in
        (ap (number_by all) (sym q) ∙ eqb-true _ _ m, ltb-true _ _ n)
    go ih false q =
        let (_, t₁) = pick_both (eqb (number_by all (v / 16)) (v % 16)) _ t in
        let (_, t₂) = pick_both (ltb 0 (v % 16)) (sound all l) t₁ in
        ih t₂ q

-- and every code of three bytes is in its slot
abbrev pub complete : List (ℕ × ℕ) → ℕ → List Spelling → Bool
complete l m [] = true
complete l m (e ∷ es) =
    pick (eqb (length e.bytes) 3) (pick (eqb (look l (code e.bytes % m) / 16) (code e.bytes)) (complete l m es) false) (complete l m es)

complete_look : (l : List (ℕ × ℕ)) (m : ℕ) (es : List Spelling) → complete l m es ≡ true → (x : ℕ) → (look l (x % m) / 16 ≡ x → ⊥) → number_by es x ≡ 0
complete_look l m [] t x q = refl
complete_look l m (e ∷ es) t x q = go (λ k. complete_look l m es k x q) (eqb (length e.bytes) 3) t (eqb x (code e.bytes)) refl
  where
    go : (complete l m es ≡ true → number_by es x ≡ 0) → (u : Bool) → pick u (pick (eqb (look l (code e.bytes % m) / 16) (code e.bytes)) (complete l m es) false) (complete l m es) ≡ true
        → (v : Bool) → eqb x (code e.bytes) ≡ v → pick u (pick v e.number (number_by es x)) (number_by es x) ≡ 0
    go ih true t true w =
        let (r, _) = pick_both (eqb (look l (code e.bytes % m) / 16) (code e.bytes)) (complete l m es) t in
        let y : x ≡ code e.bytes = eqb-true x (code e.bytes) w in
        absurd (q (ap (λ (k : ℕ). look l (k % m) / 16) y ∙ eqb-true _ _ r ∙ sym y))
    go ih true t false w =
        let (_, k) = pick_both (eqb (look l (code e.bytes % m) / 16) (code e.bytes)) (complete l m es) t in
        ih k
    go ih false t v w = ih t

-- a code is below 2^24
pub key-small : (s : List ℕ) (at : ℕ) → Near (drop at s) → code_at s at < 16777216
key-small s at n = let a = n.first in let b = n.second in let c = n.third in omega (arith, key-at s at)

-- ---- the number of three bytes

-- they are a spelling where they have its code
same_code : (t : List ℕ) (a b c : ℕ) → length t ≡ 3 → all_bytes t ≡ true → a < 256 → b < 256 → c < 256 → same t (a ∷ b ∷ c ∷ []) ≡ eqb (code_of a b c) (code t)
same_code t a b c h k p q r = go (same t (a ∷ b ∷ c ∷ [])) refl
  where
    go : (u : Bool) → same t (a ∷ b ∷ c ∷ []) ≡ u → u ≡ eqb (code_of a b c) (code t)
    go true e = sym (eq-eqb (code_of a b c) (code t) (sym (ap code (same_is t _ e))))
    go false e = sym (ne_eqb (code_of a b c) (code t) (λ z. false≢true (sym e ∙ ap (same t) (sym (bytes-key a b c p q r) ∙ ap bytes_of z ∙ key-bytes t h k) ∙ same_refl t)))

-- so their number is that of their code
by_code : (all es : List Spelling) → keyed all es ≡ true → (a b c : ℕ) → a < 256 → b < 256 → c < 256 → number_by es (code_of a b c) ≡ number_spelled es (a ∷ b ∷ c ∷ [])
unfolding number_spelled
by_code all [] h a b c p q r = refl
by_code all (e ∷ es) h a b c p q r = go (eqb (length e.bytes) 3) refl h (λ k. by_code all es k a b c p q r)
  where
    go : (u : Bool) → eqb (length e.bytes) 3 ≡ u
        → pick u (pick (all_bytes e.bytes) (pick (ltb 0 e.number) (keyed all es) false) false)
        (pick (leb 3 (length e.bytes)) (pick (eqb (number_by all (code e.bytes)) 0) (keyed all es) false) false) ≡ true
        → (keyed all es ≡ true → number_by es (code_of a b c) ≡ number_spelled es (a ∷ b ∷ c ∷ []))
        → pick u (pick (eqb (code_of a b c) (code e.bytes)) e.number (number_by es (code_of a b c))) (number_by es (code_of a b c))
        ≡ pick (same e.bytes (a ∷ b ∷ c ∷ [])) e.number (number_spelled es (a ∷ b ∷ c ∷ []))
    go true z h ih =
        let (w, h₁) = pick_both (all_bytes e.bytes) _ h in
        let (_, k) = pick_both (ltb 0 e.number) (keyed all es) h₁ in
        rw (same_code e.bytes a b c (eqb-true _ _ z) w p q r, ih k)
    go false z h ih =
        let (_, h₁) = pick_both (leb 3 (length e.bytes)) _ h in
        let (_, k) = pick_both (eqb (number_by all (code e.bytes)) 0) (keyed all es) h₁ in
        rw (lengths_differ e.bytes (a ∷ b ∷ c ∷ []) (eqb-false _ _ z)) (ih k)

module _ (es : List Spelling) (l : List (ℕ × ℕ)) (m : ℕ) (k : keyed es es ≡ true) (t : sound es l ≡ true) (u : complete l m es ≡ true) where
  -- it is found by its slot
  pub slot-number : (a b c : ℕ) → a < 256 → b < 256 → c < 256 → number_in l m (code_of a b c) ≡ number_spelled es (a ∷ b ∷ c ∷ [])
  unfolding number_in
  slot-number a b c p q r = go (eqb (look l (x % m) / 16) x) refl
    where
      x : ℕ
      x = code_of a b c

      go : (v : Bool) → eqb (look l (x % m) / 16) x ≡ v → pick v (look l (x % m) % 16) 0 ≡ number_spelled es (a ∷ b ∷ c ∷ [])
      go true w = sym (sound-look es l t (x % m) x (omega arith) (eqb-true _ _ w)).0 ∙ by_code es es k a b c p q r
      go false w = sym (complete_look l m es u x (eqb-false _ _ w)) ∙ by_code es es k a b c p q r

-- n is the number of the three bytes at a place
module _ (es : List Spelling) (l : List (ℕ × ℕ)) (m : ℕ) (k : keyed es es ≡ true) (t : sound es l ≡ true) (u : complete l m es ≡ true)
    (s : List ℕ) (at : ℕ) (bytes : (i : ℕ) → get_or s i 0 < 256) (n : ℕ) (is : n ≡ number_spelled es (three_at s at)) where
  near₁ : Near (drop at s)
  near₁ = near s at bytes

  e : n ≡ number_in l m (code_at s at)
  unfolding code_at
  e = is ∙ sym (slot-number es l m k t u _ _ _ (bytes at) (bytes (at + 1)) (bytes (at + 2)))

  -- what stands in the slot
  abbrev held : ℕ
  held = look l (code_at s at % m)

  held_known : held / 16 ≡ code_at s at → (number_by es (code_at s at) ≡ held % 16) × (0 < held % 16)
  held_known = sound-look es l t (code_at s at % m) (code_at s at) (key-small s at near₁)

  -- it has a number
  pub slot-first : (n ≡ 0 → ⊥) → first_of es s at ≡ Some (n, cursor (at + 3))
  unfolding number_in
  slot-first q = go (eqb (held / 16) (code_at s at)) refl e
    where
      go : (v : Bool) → eqb (held / 16) (code_at s at) ≡ v → n ≡ pick v (held % 16) 0 → first_of es s at ≡ Some (n, cursor (at + 3))
      go true w z =
          let (o, p) = held_known (eqb-true _ _ w) in
          let o₁ : number_by es (code_at s at) ≡ n = o ∙ sym z in
          first_three es s at near₁ es k n (omega arith) o₁ o₁
      go false w z = absurd (q z)

  -- it has none
  pub slot_longer : n ≡ 0 → first_of es s at ≡ first_of (longer es) s at
  unfolding number_in
  slot_longer q = go (eqb (held / 16) (code_at s at)) refl e
    where
      go : (v : Bool) → eqb (held / 16) (code_at s at) ≡ v → n ≡ pick v (held % 16) 0 → first_of es s at ≡ first_of (longer es) s at
      go true w z = let (_, p) = held_known (eqb-true _ _ w) in absurd (omega arith)
      go false w z = first_longer es s at near₁ es k (complete_look l m es u (code_at s at) (eqb-false _ _ w))

  -- nor is any longer
  pub slot_not : longer es ≡ [] → n ≡ 0 → first_of es s at ≡ None
  unfolding first_of
  slot_not z q = slot_longer q ∙ ap (λ (fs : List Spelling). first_of fs s at) z

-- ---- files, whose keys are one after another

file-number : (d : ℕ) → d < 9 → number_by files (15711377 + d) ≡ d + 1
file-number zero h = refl
file-number (suc zero) h = refl
file-number (suc (suc zero)) h = refl
file-number (suc (suc (suc zero))) h = refl
file-number (suc (suc (suc (suc zero)))) h = refl
file-number (suc (suc (suc (suc (suc zero))))) h = refl
file-number (suc (suc (suc (suc (suc (suc zero)))))) h = refl
file-number (suc (suc (suc (suc (suc (suc (suc zero))))))) h = refl
file-number (suc (suc (suc (suc (suc (suc (suc (suc zero)))))))) h = refl
file-number (suc (suc (suc (suc (suc (suc (suc (suc (suc d))))))))) h = absurd (omega arith)

file-none : (x : ℕ) → (15711377 ≤ x → x ≤ 15711385 → ⊥) → number_by files x ≡ 0
file-none x h = rw (ne_eqb x 15711377 (λ e. h (omega arith) (omega arith)), ne_eqb x 15711378 (λ e. h (omega arith) (omega arith)), ne_eqb x 15711379 (λ e. h (omega arith) (omega arith)), ne_eqb x 15711380 (λ e. h (omega arith) (omega arith)), ne_eqb x 15711381 (λ e. h (omega arith) (omega arith)), ne_eqb x 15711382 (λ e. h (omega arith) (omega arith)), ne_eqb x 15711383 (λ e. h (omega arith) (omega arith)), ne_eqb x 15711384 (λ e. h (omega arith) (omega arith)), ne_eqb x 15711385 (λ e. h (omega arith) (omega arith)))

module _ (s : List ℕ) (at : ℕ) (near : Near (drop at s)) (x : ℕ) (e : x ≡ code_at s at) where
  pub file-first : 15711377 ≤ x → x ≤ 15711385 → first_of files s at ≡ Some (x - 15711376, cursor (at + 3))
  file-first l u =
      let y : 15711377 + (x - 15711377) ≡ x = omega arith in
      let z : x - 15711377 + 1 ≡ x - 15711376 = omega arith in
      let n : number_by files (code_at s at) ≡ x - 15711376 = ap (number_by files) (sym (y ∙ e)) ∙ file-number (x - 15711377) (omega arith) ∙ z in
      first_three files s at near files refl (x - 15711376) (omega arith) n n

  pub file_not : (15711377 ≤ x → x ≤ 15711385 → ⊥) → first_of files s at ≡ None
  unfolding first_of
  file_not h = first_longer files s at near files refl (ap (number_by files) (sym e) ∙ file-none x h)

-- ---- 成 before a kind

-- 成 and a kind of 2 to 4 are spelled as one kind: a test that antt computes
abbrev joins : List (ℕ × ℕ) → Bool
joins [] = true
joins ((k, v) ∷ l) =
    pick (ltb (v % 16) 2) (joins l)
    (pick (ltb 4 (v % 16)) (joins l)
    (pick (holds kinds (v % 16 + 8) (230 ∷ 136 ∷ 144 ∷ bytes_of (v / 16))) (joins l) false))

joins_look : (l : List (ℕ × ℕ)) → joins l ≡ true → (h x : ℕ) → x < 16777216 → look l h / 16 ≡ x → 2 ≤ look l h % 16 → look l h % 16 ≤ 4
    → holds kinds (look l h % 16 + 8) (230 ∷ 136 ∷ 144 ∷ bytes_of x) ≡ true
joins_look [] t h x p q a b = absurd (omega arith)
joins_look ((k, v) ∷ l) t h x p q a b = go (λ t. joins_look l t h x p) (eqb h k) (ltb (v % 16) 2) (ltb 4 (v % 16)) refl refl t q a b
  where
    At : ℕ → Type 0
    At r = r / 16 ≡ x → 2 ≤ r % 16 → r % 16 ≤ 4 → holds kinds (r % 16 + 8) (230 ∷ 136 ∷ 144 ∷ bytes_of x) ≡ true

    go : (joins l ≡ true → At (look l h)) → (u d e : Bool) → ltb (v % 16) 2 ≡ d → ltb 4 (v % 16) ≡ e
        → pick d (joins l) (pick e (joins l) (pick (holds kinds (v % 16 + 8) (230 ∷ 136 ∷ 144 ∷ bytes_of (v / 16))) (joins l) false)) ≡ true
        → At (pick u v (look l h))
    go ih true true e i j t q a b = absurd (omega (arith, ltb-true (v % 16) 2 i))
    go ih true false true i j t q a b = absurd (omega (arith, ltb-true 4 (v % 16) j))
    go ih true false false i j t q a b = rw (← q) (pick_both (holds kinds (v % 16 + 8) (230 ∷ 136 ∷ 144 ∷ bytes_of (v / 16))) (joins l) t).0
    go ih false true e i j t q a b = ih t q a b
    go ih false false true i j t q a b = ih t q a b
    go ih false false false i j t q a b = ih (pick_both (holds kinds (v % 16 + 8) (230 ∷ 136 ∷ 144 ∷ bytes_of (v / 16))) (joins l) t).1 q a b

-- what makes a promoted kind, and how that is spelled
promoted_is : (x : ℕ) → x < 16777216 → (promoted_in x ≡ 0 → ⊥) → holds kinds (promoted_in x) (230 ∷ 136 ∷ 144 ∷ bytes_of x) ≡ true
unfolding promoted_in number_in same
promoted_is x h q = go (eqb (row / 16) x) (ltb (row % 16) 2) (ltb 4 (row % 16)) refl refl refl q
  where
    row : ℕ
    row = look kind_slots (x % 35)

    made : Bool → ℕ
    made u = let k = pick u (row % 16) 0 in pick (ltb k 2) 0 (pick (ltb 4 k) 0 (k + 8))

    go : (u d e : Bool) → eqb (row / 16) x ≡ u → ltb (row % 16) 2 ≡ d → ltb 4 (row % 16) ≡ e → (made u ≡ 0 → ⊥)
        → holds kinds (made u) (230 ∷ 136 ∷ 144 ∷ bytes_of x) ≡ true
    go false d e w i j q = absurd (q refl)
    go true true e w i j q = absurd (q (rw i))
    go true false true w i j q = absurd (q (rw (i, j)))
    go true false false w i j q = rw (i, j) (joins_look kind_slots refl (x % 35) x h (eqb-true _ _ w) (ltb-false _ _ i) (ltb-false _ _ j))

-- so that is its number
promoted-code : (a b c : ℕ) → a < 256 → b < 256 → c < 256 → promoted_in (code_of a b c) ≡ number_spelled kinds (promotes ++ (a ∷ b ∷ c ∷ []))
unfolding number_spelled promoted_in number_in same
promoted-code a b c p q r = go (eqb (promoted_in x) 0) refl
  where
    x : ℕ
    x = code_of a b c

    joined : (k n : ℕ) (t : List ℕ) → code t ≡ k → promoted_in k ≡ n → t ≡ a ∷ b ∷ c ∷ [] → promoted_in x ≡ n
    joined k n t e f z = ap (λ (l : List ℕ). promoted_in (code l)) (sym z) ∙ ap promoted_in e ∙ f

    none : promoted_in x ≡ 0 → (t u v : Bool) → same (233 ∷ 166 ∷ 153 ∷ []) (a ∷ b ∷ c ∷ []) ≡ t → same (230 ∷ 161 ∷ 130 ∷ []) (a ∷ b ∷ c ∷ []) ≡ u
        → same (233 ∷ 138 ∷ 128 ∷ []) (a ∷ b ∷ c ∷ []) ≡ v → ◌≡◌ {A = ℕ} (pick t 10 (pick u 11 (pick v 12 0))) 0
    none z true u v e f g = let y : promoted_in x ≡ 10 = joined 15312537 10 (233 ∷ 166 ∷ 153 ∷ []) refl refl (same_is _ _ e) in absurd (omega arith)
    none z false true v e f g = let y : promoted_in x ≡ 11 = joined 15114626 11 (230 ∷ 161 ∷ 130 ∷ []) refl refl (same_is _ _ f) in absurd (omega arith)
    none z false false true e f g = let y : promoted_in x ≡ 12 = joined 15305344 12 (233 ∷ 138 ∷ 128 ∷ []) refl refl (same_is _ _ g) in absurd (omega arith)
    none z false false false e f g = refl

    go : (v : Bool) → eqb (promoted_in x) 0 ≡ v → promoted_in x ≡ number_spelled kinds (promotes ++ (a ∷ b ∷ c ∷ []))
    go true w = let z = eqb-true _ _ w in z ∙ sym (none z _ _ _ refl refl refl)
    go false w =
        sym (number-held kinds (promoted_in x) (promotes ++ (a ∷ b ∷ c ∷ [])) refl
        (ap (λ (t : List ℕ). holds kinds (promoted_in x) (promotes ++ t)) (sym (bytes-key a b c p q r)) ∙ promoted_is x (omega arith) (eqb-false _ _ w)))

pub promoted-number : (a b c : ℕ) → a < 256 → b < 256 → c < 256 → promoted_of (number_spelled kinds (a ∷ b ∷ c ∷ [])) ≡ number_spelled kinds (promotes ++ (a ∷ b ∷ c ∷ []))
unfolding promoted_in
promoted-number a b c p q r = ap promoted_of (sym (slot-number kinds kind_slots 35 refl refl refl a b c p q r)) ∙ promoted-code a b c p q r

-- 香, 桂 and 銀 alone make one
pub promoted-low : (k : ℕ) → k < 2 → ◌≡◌ {A = ℕ} 0 (promoted_of k)
promoted-low k h = rw (lt-ltb k 2 h)

pub promoted-high : (k : ℕ) → 2 ≤ k → 4 < k → ◌≡◌ {A = ℕ} 0 (promoted_of k)
promoted-high k h l = rw (le-ltb k 2 h, lt-ltb 4 k l)

pub promoted-some : (k : ℕ) → 2 ≤ k → k ≤ 4 → k + 8 ≡ promoted_of k
promoted-some k h l = rw (le-ltb k 2 h, le-ltb 4 k l)

-- ---- what is known of three bytes of a slice

module _ (s : List ℕ) (at : ℕ) (bytes : (i : ℕ) → get_or s i 0 < 256) where
  pub numeral_known : (number_spelled numerals (three_at s at) ≡ 0 → ⊥) → first_of numerals s at ≡ Some (number_spelled numerals (three_at s at), cursor (at + 3))
  numeral_known q = slot-first numerals numeral_slots 17 refl refl refl s at bytes _ refl q

  pub kind_known : (number_spelled kinds (three_at s at) ≡ 0 → ⊥) → first_of kinds s at ≡ Some (number_spelled kinds (three_at s at), cursor (at + 3))
  kind_known q = slot-first kinds kind_slots 35 refl refl refl s at bytes _ refl q

  pub file_known : get_or s at 0 ≡ 239 → get_or s (at + 1) 0 ≡ 188 → 145 ≤ get_or s (at + 2) 0 → get_or s (at + 2) 0 ≤ 153
      → first_of files s at ≡ Some (get_or s (at + 2) 0 - 144, cursor (at + 3))
  file_known a b l u =
      let x = key_of s at (at + 1) (at + 2) refl refl in
      let z : code_at s at - 15711376 ≡ get_or s (at + 2) 0 - 144 = omega arith in
      file-first s at (near s at bytes) (code_at s at) refl (omega arith) (omega arith) ∙ ap (λ (n : ℕ). Some (n, cursor (at + 3))) z

  -- 成 and three bytes more
  pub promoted_known : get_or s at 0 ≡ 230 → get_or s (at + 1) 0 ≡ 136 → get_or s (at + 2) 0 ≡ 144 → at + 6 ≤ length s → (number_spelled kinds (promotes ++ three_at s (at + 3)) ≡ 0 → ⊥)
      → first_of kinds s at ≡ Some (number_spelled kinds (promotes ++ three_at s (at + 3)), cursor (at + 6))
  unfolding code_at
  promoted_known a b c h q =
      let x : ℕ = code_at s (at + 3) in
      let k : code_at s at ≡ 15108240 = omega (arith, key_of s at (at + 1) (at + 2) refl refl) in
      let y : promoted_in x ≡ number_spelled kinds (promotes ++ three_at s (at + 3)) = promoted-code _ _ _ (bytes (at + 3)) (bytes (at + 3 + 1)) (bytes (at + 3 + 2)) in
      let st : drop at s ≡ 230 ∷ 136 ∷ 144 ∷ bytes_of x ++ drop (at + 3 + 3) s =
      key_stands s at bytes (omega arith) ∙ ap (λ (y : ℕ). bytes_of y ++ drop (at + 3) s) k ∙ ap (λ (l : List ℕ). 230 ∷ 136 ∷ 144 ∷ l) (key_stands s (at + 3) bytes (omega arith)) in
      found kinds (promoted_in x) (230 ∷ 136 ∷ 144 ∷ bytes_of x) refl (promoted_is x (key-small s (at + 3) (near s (at + 3) bytes)) (λ z. q (sym y ∙ z))) (drop (at + 3 + 3) s) (record { rest = st; within = omega arith })
      ∙ ap (λ (n : ℕ). Some (n, cursor (at + 6))) y
