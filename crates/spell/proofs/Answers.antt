-- What is known of an answer of a table: how far it goes, and that its number is the table's.
-- Assumes nothing.
use Rattle.std.specs.Prelude.{Option, Some, None}
use Prim.Native.Nat.{ℕ, zero, suc, ◌+◌, ◌≤◌, ◌<◌, max}
use native.Mathlib.Omega.{arith}
use mathlib.Core.Path.{◌≡◌, refl, sym, subst, ◌∙◌}
use mathlib.Core.List.{List, [], ◌∷◌}
use mathlib.Core.Bool.{Bool, true, false, false≢true}
use lib.ListN.{length}
use lib.Dec.{eqb, ltb}
use borrow.Author.Tests.{ltb-true, eq-eqb}
use Rattle.lists.specs.Pick.{pick}
use Rattle.lists.proofs.Laws.{by_pick, pick_both}
use Rattle.text.specs.Text.{cursor, stands_at}
use Rattle.text.specs.declared.Cursor.{Cursor}
use Rattle.text.proofs.Laws.{stands_fits}
use Rattle.text.proofs.Ends.{stands_end}
use Rattle.spell.specs.Tables.{Spelling}
use Rattle.spell.specs.Spell.{on_spelled, first_of, has_number}

-- the number and the place of an answer satisfy P
pub data OnSpelled (P : ℕ → Cursor → Type 0) : Option (ℕ × Cursor) → Type 0 where
  is_as : {n : ℕ} {c : Cursor} → P n c → OnSpelled P (Some (n, c))
  is_not : OnSpelled P None

pub by_spelled : {A : Type 0} (Q : A → Type 0) {d : A} (z : Q d) {P : ℕ → Cursor → Type 0} {r : Option (ℕ × Cursor)} {f : ℕ → Cursor → A}
    → OnSpelled P r → ((n : ℕ) (c : Cursor) → P n c → Q (f n c)) → Q (on_spelled r f d)
by_spelled Q z (is_as {n} {c} h) k = k n c h
by_spelled Q z is_not k = z

-- what an answer says of its values, where it is known which they are
pub as_is : {P : ℕ → Cursor → Type 0} {r : Option (ℕ × Cursor)} {n : ℕ} {c : Cursor} → OnSpelled P r → r ≡ Some (n, c) → P n c
as_is {P} {n = n} {c = c} (is_as {n = m} {c = d} h) e =
    let p : ◌≡◌ {A = ℕ × Cursor} (m, d) (n, c) = cc in
    subst (λ (x : ℕ × Cursor). P x.0 x.1) p h
as_is is_not e = let z : ◌≡◌ {A = ℕ} 0 1 = cc in absurd (omega arith)

-- a spelling that was found ends in the text
pub first-within : (es : List Spelling) (s : List ℕ) (at : ℕ) → OnSpelled (λ n c. c.at ≤ max at (length s)) (first_of es s at)
unfolding first_of
first-within [] s at = is_not
first-within (e ∷ es) s at =
    by_pick (OnSpelled (λ n c. c.at ≤ max at (length s))) (stands_at e.bytes s at) (Some (e.number, cursor (at + length e.bytes))) (first_of es s at)
    (λ t. is_as (stands_fits e.bytes s at t)) (λ t. first-within es s at)

-- every number of a table is below m, and every spelling has a byte: a test that antt computes
abbrev pub below : ℕ → List Spelling → Bool
below m [] = true
below m (e ∷ es) = pick (ltb e.number m) (pick (ltb 0 (length e.bytes)) (below m es) false) false

-- its number is the table's, and it goes on from its place
pub record Known (m at n : ℕ) (c : Cursor) : Type 0 where
  pub small : n < m
  pub past : at < c.at

pub first_known : (m : ℕ) (es : List Spelling) → below m es ≡ true → (s : List ℕ) (at : ℕ) → OnSpelled (Known m at) (first_of es s at)
unfolding first_of
first_known m [] h s at = is_not
first_known m (e ∷ es) h s at =
    let (p, h₁) = pick_both (ltb e.number m) _ h in
    let (q, r) = pick_both (ltb 0 (length e.bytes)) (below m es) h₁ in
    let p₁ : e.number < m = ltb-true _ _ p in
    let q₁ : 0 < length e.bytes = ltb-true _ _ q in
    by_pick (OnSpelled (Known m at)) (stands_at e.bytes s at) (Some (e.number, cursor (at + length e.bytes))) (first_of es s at)
    (λ t. is_as (record { small = p₁; past = omega arith })) (λ t. first_known m es r s at)

-- nothing is found at the end of a text or past it
pub first-end : (m : ℕ) (es : List Spelling) → below m es ≡ true → (s : List ℕ) (at : ℕ) → length s ≤ at → first_of es s at ≡ None
unfolding first_of
first-end m [] h s at k = refl
first-end m (e ∷ es) h s at k =
    let (_, h₁) = pick_both (ltb e.number m) _ h in
    let (q, r) = pick_both (ltb 0 (length e.bytes)) (below m es) h₁ in
    rw (stands_end s at k e.bytes (ltb-true _ _ q), first-end m es r s at k)

-- ---- the number is the table's

pub first_has : (es : List Spelling) (s : List ℕ) (at : ℕ) → OnSpelled (λ n c. has_number es n ≡ true) (first_of es s at)
unfolding first_of has_number
first_has [] s at = is_not
first_has (e ∷ es) s at =
    by_pick (OnSpelled (λ n c. has_number (e ∷ es) n ≡ true)) (stands_at e.bytes s at) (Some (e.number, cursor (at + length e.bytes))) (first_of es s at)
    (λ t. is_as here) (λ t. go (first_has es s at))
  where
    here : has_number (e ∷ es) e.number ≡ true
    here = rw (eq-eqb e.number e.number refl)

    go : {r : Option (ℕ × Cursor)} → OnSpelled (λ n c. has_number es n ≡ true) r → OnSpelled (λ n c. has_number (e ∷ es) n ≡ true) r
    go (is_as {n} {c} h) = is_as (by_pick (λ b. b ≡ true) (eqb e.number n) true (has_number es n) (λ t. refl) (λ t. h))
    go is_not = is_not

-- what two laws say of one answer
pub both_spelled : {P Q : ℕ → Cursor → Type 0} {r : Option (ℕ × Cursor)} → OnSpelled P r → OnSpelled Q r → OnSpelled (λ n c. P n c × Q n c) r
both_spelled (is_as h) (is_as k) = is_as (h, k)
both_spelled is_not is_not = is_not

has_some : (es : List Spelling) (n : ℕ) → has_number es 0 ≡ false → has_number es n ≡ true → 1 ≤ n
has_some es zero z h = let w : false ≡ true = sym z ∙ h in absurd (false≢true w)
has_some es (suc n) z h = omega arith

-- where a table does not have 0, its numbers are from 1 on
pub first_some : (es : List Spelling) → has_number es 0 ≡ false → (s : List ℕ) (at : ℕ) → OnSpelled (λ n c. 1 ≤ n) (first_of es s at)
first_some es z s at = go (first_has es s at)
  where
    go : {r : Option (ℕ × Cursor)} → OnSpelled (λ n c. has_number es n ≡ true) r → OnSpelled (λ n c. 1 ≤ n) r
    go (is_as {n} {c} h) = is_as (has_some es n z h)
    go is_not = is_not
