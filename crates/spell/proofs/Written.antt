-- What is written by one table is read by another that has its spellings, if in that one no spelling starts another. That tables are such
-- are tests, which antt computes.
-- Assumes nothing.
use Rattle.std.specs.Prelude.{Some, None}
use Prim.Native.Nat.{ℕ, ◌+◌, ◌-◌, ◌≤◌}
use native.Mathlib.Omega.{arith}
use mathlib.Core.Path.{◌≡◌, refl, sym, ap, ◌∙◌}
use mathlib.Core.List.{List, [], ◌∷◌, ◌++◌}
use mathlib.Core.Bool.{Bool, true, false, true≢false, false≢true}
use lib.ListN.{length}
use lib.Dec.{eqb}
use borrow.Author.Tests.{eqb-true, eqb-false, eq-eqb, ne_eqb}
use Rattle.lists.specs.Pick.{pick}
use Rattle.lists.proofs.Laws.{pick_both, pick-none, range_at}
use Rattle.lists.proofs.Stand.{Stands, Reads, Any, stands_past}
use Rattle.text.specs.Text.{cursor, prefix_from, stands_at, same}
use Rattle.text.proofs.Laws.{same_is}
use Rattle.spell.specs.Tables.{Spelling, move_kinds, kinds, specials, presets, numerals, files}
use Rattle.spell.specs.Spell.{first_of, number_spelled, spelled, has_number}

-- ---- the tests

-- one of two texts starts the other
abbrev pub clash : List ℕ → List ℕ → Bool
clash [] b = true
clash (x ∷ a) [] = true
clash (x ∷ a) (y ∷ b) = pick (eqb x y) (clash a b) false

-- a text and the spellings of a table do not start one another
abbrev pub clear : List ℕ → List Spelling → Bool
clear a [] = true
clear a (e ∷ es) = pick (clash a e.bytes) false (clear a es)

-- no spelling of a table starts another
abbrev pub alone : List Spelling → Bool
alone [] = true
alone (e ∷ es) = pick (clear e.bytes es) (alone es) false

-- a table spells a number so
abbrev pub holds : List Spelling → ℕ → List ℕ → Bool
holds [] n b = false
holds (e ∷ es) n b = pick (pick (eqb e.number n) (same e.bytes b) false) true (holds es n b)

-- a table has all the spellings of another
abbrev pub covers : List Spelling → List Spelling → Bool
covers es [] = true
covers es (w ∷ ws) = pick (holds es w.number w.bytes) (covers es ws) false

-- ---- what they say

clash_sym : (a b : List ℕ) → clash a b ≡ clash b a
clash_sym [] [] = refl
clash_sym [] (y ∷ b) = refl
clash_sym (x ∷ a) [] = refl
clash_sym (x ∷ a) (y ∷ b) = go (eqb x y) refl (clash_sym a b)
  where
    go : (u : Bool) → eqb x y ≡ u → clash a b ≡ clash b a → pick u (clash a b) false ≡ pick (eqb y x) (clash b a) false
    go true e ih = rw (eq-eqb y x (sym (eqb-true x y e))) ih
    go false e ih = rw (ne_eqb y x (λ q. eqb-false x y e (sym q)))

-- a text stands at the start of itself
prefix_here : (t r : List ℕ) → prefix_from t (t ++ r) ≡ true
unfolding prefix_from
prefix_here [] r = refl
prefix_here (b ∷ t) r = rw (eq-eqb b b refl, prefix_here t r)

-- one that does not clash with it does not
prefix_other : (a t r : List ℕ) → clash a t ≡ false → prefix_from a (t ++ r) ≡ false
unfolding prefix_from
prefix_other [] t r h = absurd (true≢false h)
prefix_other (x ∷ a) [] r h = absurd (true≢false h)
prefix_other (x ∷ a) (y ∷ t) r h = go (eqb x y) refl (prefix_other a t r) h
  where
    go : (u : Bool) → eqb x y ≡ u → (clash a t ≡ false → prefix_from a (t ++ r) ≡ false) → pick u (clash a t) false ≡ false
        → pick (eqb y x) (prefix_from a (t ++ r)) false ≡ false
    go true e ih w = rw (eq-eqb y x (sym (eqb-true x y e))) (ih w)
    go false e ih w = rw (ne_eqb y x (λ q. eqb-false x y e (sym q)))

pub stands_here : {s : List ℕ} {at : ℕ} (t r : List ℕ) → Stands s at (t ++ r) → stands_at t s at ≡ true
unfolding stands_at
stands_here t r st = rw st.rest (prefix_here t r)

pub stands_other : {s : List ℕ} {at : ℕ} (a t r : List ℕ) → Stands s at (t ++ r) → clash a t ≡ false → stands_at a s at ≡ false
unfolding stands_at
stands_other a t r st h = rw st.rest (prefix_other a t r h)

-- the first of a table is the one looked for, or another that does not start it
clear_held : (a : List ℕ) (es : List Spelling) (n : ℕ) (b : List ℕ) → clear a es ≡ true → holds es n b ≡ true → clash a b ≡ false
clear_held a [] n b h k = absurd (false≢true k)
clear_held a (e ∷ es) n b h k =
    let (p, q) = pick-none (clash a e.bytes) (clear a es) h in
    go (pick (eqb e.number n) (same e.bytes b) false) refl p (clear_held a es n b q) k
  where
    go : (u : Bool) → pick (eqb e.number n) (same e.bytes b) false ≡ u → clash a e.bytes ≡ false → (holds es n b ≡ true → clash a b ≡ false)
        → pick u true (holds es n b) ≡ true → clash a b ≡ false
    go true w p ih k = rw (← same_is e.bytes b (pick_both (eqb e.number n) (same e.bytes b) w).1) p
    go false w p ih k = ih k

-- what a table spells is found where it stands
pub found : (es : List Spelling) (n : ℕ) (b : List ℕ) → alone es ≡ true → holds es n b ≡ true → {s : List ℕ} {at : ℕ} (r : List ℕ)
    → Stands s at (b ++ r) → first_of es s at ≡ Some (n, cursor (at + length b))
unfolding first_of
found [] n b h k r st = absurd (false≢true k)
found (e ∷ es) n b h k {s} {at} r st = go (pick (eqb e.number n) (same e.bytes b) false) refl (λ k. found es n b p.1 k r st) k
  where
    p : (clear e.bytes es ≡ true) × (alone es ≡ true)
    p = pick_both (clear e.bytes es) (alone es) h

    go : (u : Bool) → pick (eqb e.number n) (same e.bytes b) false ≡ u → (holds es n b ≡ true → first_of es s at ≡ Some (n, cursor (at + length b)))
        → pick u true (holds es n b) ≡ true
        → pick (stands_at e.bytes s at) (Some (e.number, cursor (at + length e.bytes))) (first_of es s at) ≡ Some (n, cursor (at + length b))
    go true w ih k =
        let (x, y) = pick_both (eqb e.number n) (same e.bytes b) w in
        rw (same_is e.bytes b y, stands_here b r st, eqb-true e.number n x)
    go false w ih k = rw (stands_other e.bytes b r st (clear_held e.bytes es n b p.0 k)) (ih k)

clash_self : (t : List ℕ) → clash t t ≡ true
clash_self [] = refl
clash_self (x ∷ t) = rw (eq-eqb x x refl) (clash_self t)

-- and has its number
pub number-held : (es : List Spelling) (n : ℕ) (b : List ℕ) → alone es ≡ true → holds es n b ≡ true → number_spelled es b ≡ n
unfolding number_spelled
number-held [] n b h k = absurd (false≢true k)
number-held (e ∷ es) n b h k = go (eqb e.number n) (same e.bytes b) refl refl (number-held es n b p.1) k
  where
    p : (clear e.bytes es ≡ true) × (alone es ≡ true)
    p = pick_both (clear e.bytes es) (alone es) h

    go : (u v : Bool) → eqb e.number n ≡ u → same e.bytes b ≡ v → (holds es n b ≡ true → number_spelled es b ≡ n) → pick (pick u v false) true (holds es n b) ≡ true
        → pick v e.number (number_spelled es b) ≡ n
    go true true w s ih k = eqb-true e.number n w
    go false true w s ih k = absurd (true≢false (sym (clash_self b) ∙ ap (λ (t : List ℕ). clash t b) (sym (same_is e.bytes b s)) ∙ clear_held e.bytes es n b p.0 k))
    go true false w s ih k = ih k
    go false false w s ih k = ih k

covers_spelled : (es ws : List Spelling) (n : ℕ) → covers es ws ≡ true → has_number ws n ≡ true → holds es n (spelled ws n) ≡ true
unfolding has_number spelled
covers_spelled es [] n h k = absurd (false≢true k)
covers_spelled es (w ∷ ws) n h k =
    let (p, q) = pick_both (holds es w.number w.bytes) (covers es ws) h in
    go (eqb w.number n) refl p (covers_spelled es ws n q) k
  where
    go : (u : Bool) → eqb w.number n ≡ u → holds es w.number w.bytes ≡ true → (has_number ws n ≡ true → holds es n (spelled ws n) ≡ true)
        → pick u true (has_number ws n) ≡ true → holds es n (pick u w.bytes (spelled ws n)) ≡ true
    go true e p ih k = rw (← eqb-true w.number n e) p
    go false e p ih k = ih k

-- ---- reading what is written gives the number

pub spelled-reads : (es ws : List Spelling) (n : ℕ) → alone es ≡ true → covers es ws ≡ true → has_number ws n ≡ true
    → Reads (first_of es) (λ e. Some (n, cursor e)) (spelled ws n) Any
spelled-reads es ws n h k m = record {
  run = λ s at r st c.
      record { end = at + length (spelled ws n); is = found es n (spelled ws n) h (covers_spelled es ws n k m) r st; left = stands_past (spelled ws n) r s at st };
}

-- a text that no spelling of a table starts, or is started by, is none of the table
pub first_fails : (es : List Spelling) (t : List ℕ) → clear t es ≡ true → {s : List ℕ} {at : ℕ} (r : List ℕ) → Stands s at (t ++ r) → first_of es s at ≡ None
unfolding first_of
first_fails [] t h r st = refl
first_fails (e ∷ es) t h r st =
    let (p, q) = pick-none (clash t e.bytes) (clear t es) h in
    rw (stands_other e.bytes t r st (clash_sym e.bytes t ∙ p)) (first_fails es t q r st)

module _ (n : ℕ) where
  pub move-kind-reads : has_number move_kinds n ≡ true → Reads (first_of kinds) (λ e. Some (n, cursor e)) (spelled move_kinds n) Any
  unfolding same
  move-kind-reads h = spelled-reads kinds move_kinds n refl refl h

  pub board-kind-reads : has_number kinds n ≡ true → Reads (first_of kinds) (λ e. Some (n, cursor e)) (spelled kinds n) Any
  unfolding same
  board-kind-reads h = spelled-reads kinds kinds n refl refl h

  pub special_reads : has_number specials n ≡ true → Reads (first_of specials) (λ e. Some (n, cursor e)) (spelled specials n) Any
  unfolding same
  special_reads h = spelled-reads specials specials n refl refl h

  pub preset-reads : has_number presets n ≡ true → Reads (first_of presets) (λ e. Some (n, cursor e)) (spelled presets n) Any
  unfolding same
  preset-reads h = spelled-reads presets presets n refl refl h

  pub numeral_reads : has_number numerals n ≡ true → Reads (first_of numerals) (λ e. Some (n, cursor e)) (spelled numerals n) Any
  unfolding same
  numeral_reads h = spelled-reads numerals numerals n refl refl h

  pub file-reads : has_number files n ≡ true → Reads (first_of files) (λ e. Some (n, cursor e)) (spelled files n) Any
  unfolding same
  file-reads h = spelled-reads files files n refl refl h

-- ---- the bytes that are written

module _ (n : ℕ) where
  pub file-bytes : 1 ≤ n → n ≤ 9 → spelled files n ≡ 239 ∷ 188 ∷ (144 + n) ∷ []
  unfolding spelled same
  file-bytes h k = same_is _ _ (range_at (λ i. same (spelled files i) (239 ∷ 188 ∷ (144 + i) ∷ [])) 9 1 n refl h (omega arith))

  -- a promoted 香, 桂 or 銀 has 成 before it
  pub promoted-bytes : 10 ≤ n → n ≤ 12 → spelled move_kinds n ≡ 230 ∷ 136 ∷ 144 ∷ spelled move_kinds (n - 8)
  unfolding spelled same
  promoted-bytes h k = same_is _ _ (range_at (λ i. same (spelled move_kinds i) (230 ∷ 136 ∷ 144 ∷ spelled move_kinds (i - 8))) 3 10 n refl h (omega arith))
