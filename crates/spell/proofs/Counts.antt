-- Laws of counts: how long they are written, and how large they are read.
-- Assumes nothing.
use Rattle.std.specs.Prelude.{Option, Some, None}
use Prim.Native.Nat.{ℕ, ◌+◌, ◌*◌, ◌/◌, ◌%◌, ◌≤◌, ◌<◌}
use native.Mathlib.Omega.{arith}
use mathlib.Core.Path.{◌≡◌, refl}
use mathlib.Core.List.{List, [], ◌∷◌, ◌++◌, append_assoc}
use mathlib.Core.Bool.{Bool, true, false}
use lib.ListN.{length, length-append}
use lib.Dec.{eqb, leb, ltb}
use borrow.Author.Tests.{lt-ltb, le-ltb, leb-true, ltb-true, ltb-false}
use Rattle.lists.specs.Pick.{pick}
use Rattle.lists.proofs.Laws.{by_pick, pick_both, range_at}
use Rattle.lists.proofs.Stand.{Stands, Came, Reads, Any, then, stands_past, stands_same}
use Rattle.text.specs.Text.{cursor, tag_at}
use Rattle.text.proofs.Answers.{by_place}
use Rattle.text.proofs.Ends.{tag_end}
use Rattle.spell.specs.Tables.{Spelling, numerals}
use Rattle.spell.specs.Spell.{first_of, spelled, has_number}
use Rattle.spell.specs.Count.{ten, tens_at, hand_count_at, tens_text, count_text}
use Rattle.spell.proofs.Written.{stands_here, first_fails, numeral_reads}
use Rattle.spell.proofs.Answers.{OnSpelled, is_as, is_not, by_spelled, Known, first_known, first-end}
use Rattle.text.specs.declared.Cursor.{Cursor}

-- ---- written

-- no spelling of a table is longer than m: a test that antt computes
abbrev pub short : ℕ → List Spelling → Bool
short m [] = true
short m (e ∷ es) = pick (leb (length e.bytes) m) (short m es) false

pub spelled-short : (m : ℕ) (es : List Spelling) → short m es ≡ true → (n : ℕ) → length (spelled es n) ≤ m
unfolding spelled
spelled-short m [] h n = omega arith
spelled-short m (e ∷ es) h n =
    let (p, q) = pick_both (leb (length e.bytes) m) (short m es) h in
    by_pick (λ (t : List ℕ). length t ≤ m) (eqb e.number n) e.bytes (spelled es n) (λ _. leb-true _ _ p) (λ _. spelled-short m es q n)

pub numeral_short : (n : ℕ) → length (spelled numerals n) ≤ 3
numeral_short n = spelled-short 3 numerals refl n

pub tens-none : (t : ℕ) → t < 1 → tens_text t ≡ []
unfolding tens_text
tens-none t h = rw (le-ltb 0 t (omega arith))

pub tens-one : (t : ℕ) → 1 ≤ t → t < 2 → tens_text t ≡ ten
unfolding tens_text
tens-one t h k = rw (lt-ltb 0 t (omega arith), le-ltb 1 t (omega arith))

pub tens-more : (t : ℕ) → 2 ≤ t → tens_text t ≡ spelled numerals t ++ ten
unfolding tens_text
tens-more t h = rw (lt-ltb 0 t (omega arith), lt-ltb 1 t (omega arith))

pub count-above : (n : ℕ) → 99 < n → count_text n ≡ []
unfolding count_text
count-above n h = rw (lt-ltb 99 n h)

pub count-parts : (n : ℕ) → n ≤ 99 → count_text n ≡ tens_text (n / 10) ++ spelled numerals (n % 10)
unfolding count_text
count-parts n h = rw (le-ltb 99 n h)

pub tens-short : (t : ℕ) → length (tens_text t) ≤ 6
unfolding tens_text
tens-short t =
    by_pick P (ltb 0 t) (pick (ltb 1 t) (spelled numerals t) [] ++ ten) []
    (λ _. by_pick (λ (l : List ℕ). P (l ++ ten)) (ltb 1 t) (spelled numerals t) []
    (λ _. omega (arith, length-append (spelled numerals t) ten, numeral_short t)) (λ _. omega arith))
    (λ _. omega arith)
  where
    P : List ℕ → Type 0
    P l = length l ≤ 6

-- ---- read

pub numeral_small : (s : List ℕ) (at : ℕ) → OnSpelled (Known 10 at) (first_of numerals s at)
numeral_small s at = first_known 10 numerals refl s at

pub tens-small : (s : List ℕ) (at : ℕ) → OnSpelled (λ t c. t ≤ 90) (tens_at s at)
unfolding tens_at
tens-small s at =
    by_spelled Q (by_place Q is_not (tag_at ten s at) (λ e. is_as (omega arith))) (numeral_small s at)
    (λ d c k. let h = k.small in by_place Q is_not (tag_at ten s c.at) (λ e. is_as (omega arith)))
  where
    Q : Option (ℕ × Cursor) → Type 0
    Q = OnSpelled (λ t c. t ≤ 90)

-- ---- reading what is written

-- a byte string is read where it stands
pub tag_reads : (t : List ℕ) → Reads (tag_at t) (λ e. Some (cursor e)) t Any
unfolding tag_at
tag_reads t = record { run = λ s at r st c. record { end = at + length t; is = rw (stands_here t r st); left = stands_past t r s at st } }

numeral_has : (n : ℕ) → 1 ≤ n → n < 10 → has_number numerals n ≡ true
unfolding has_number
numeral_has n h k = range_at (has_number numerals) 9 1 n refl h k

-- there is none for 0
numeral_none : spelled numerals 0 ≡ []
unfolding spelled
numeral_none = refl

-- neither a numeral nor 十 stands where a text stands
pub record Over (r : List ℕ) : Type 0 where
  pub numeral : (s : List ℕ) (at : ℕ) → Stands s at r → first_of numerals s at ≡ None
  pub tens : (s : List ℕ) (at : ℕ) → Stands s at r → tag_at ten s at ≡ None

tens-reads : (t : ℕ) → 1 ≤ t → t < 10 → Reads tens_at (λ e. Some (t * 10, cursor e)) (tens_text t) Any
unfolding tens_at
tens-reads t h k = record {
  run = λ s at r st c. go (ltb t 2) refl s at r st;
}
  where
    go : (u : Bool) → ltb t 2 ≡ u → (s : List ℕ) (at : ℕ) (r : List ℕ) → Stands s at (tens_text t ++ r) → Came (tens_at s at) (λ e. Some (t * 10, cursor e)) s r
    go true u s at r st =
        let z : t * 10 ≡ 10 = omega (arith, ltb-true t 2 u) in
        let st' : Stands s at (ten ++ r) = rw (tens-one t h (ltb-true t 2 u)) at st in
        then (tag_reads ten) st' tt λ e i l.
        record { end = e; is = rw (first_fails numerals ten refl r st', i, z); left = l }
    go false u s at r st =
        let st' = stands_same (append_assoc (spelled numerals t) ten r) (rw (tens-more t (ltb-false t 2 u)) at st) in
        then (numeral_reads t (numeral_has t h k)) st' tt λ e₁ i₁ l₁.
        then (tag_reads ten) l₁ tt λ e₂ i₂ l₂.
        record { end = e₂; is = rw (i₁, i₂); left = l₂ }

-- a numeral without 十 after it is no tens
tens_fail : (s : List ℕ) (at n e : ℕ) → first_of numerals s at ≡ Some (n, cursor e) → tag_at ten s e ≡ None → tens_at s at ≡ None
unfolding tens_at
tens_fail s at n e h k = rw (h, k)

pub count-reads : (n : ℕ) → 0 < n → n ≤ 99 → Reads hand_count_at (λ e. Some (n, cursor e)) (count_text n) Over
unfolding hand_count_at
count-reads n h k = record {
  run = λ s at r st c. go (ltb n 10) (ltb (n % 10) 1) refl refl s at r (rw (count-parts n k) at st) c;
}
  where
    go : (u v : Bool) → ltb n 10 ≡ u → ltb (n % 10) 1 ≡ v → (s : List ℕ) (at : ℕ) (r : List ℕ)
        → Stands s at (tens_text (n / 10) ++ spelled numerals (n % 10) ++ r) → Over r → Came (hand_count_at s at) (λ e. Some (n, cursor e)) s r
    go true v u w s at r st c =
        let l : n < 10 = ltb-true n 10 u in
        let z : n % 10 ≡ n = omega arith in
        let st' : Stands s at (spelled numerals n ++ r) = rw (tens-none (n / 10) (omega arith), z) at st in
        then (numeral_reads n (numeral_has n h l)) st' tt λ e i l₁.
        record { end = e; is = rw (tens_fail s at n e i (c.tens s e l₁), i); left = l₁ }
    go false true u w s at r st c =
        let l : 10 ≤ n = ltb-false n 10 u in
        let z : n % 10 ≡ 0 = omega (arith, ltb-true (n % 10) 1 w) in
        let q : n / 10 * 10 ≡ n = omega arith in
        then (tens-reads (n / 10) (omega arith) (omega arith)) (stands_same (append_assoc (tens_text (n / 10)) (spelled numerals (n % 10)) r) st) tt λ e i l₁.
        let l₂ : Stands s e r = rw (z, numeral_none) at l₁ in
        record { end = e; is = rw (i, c.numeral s e l₂, q); left = l₂ }
    go false false u w s at r st c =
        let l : 10 ≤ n = ltb-false n 10 u in
        let d : 1 ≤ n % 10 = ltb-false (n % 10) 1 w in
        let q : n / 10 * 10 + n % 10 ≡ n = omega arith in
        then (tens-reads (n / 10) (omega arith) (omega arith)) (stands_same (append_assoc (tens_text (n / 10)) (spelled numerals (n % 10)) r) st) tt λ e₁ i₁ l₁.
        then (numeral_reads (n % 10) (numeral_has (n % 10) d (omega arith))) l₁ tt λ e₂ i₂ l₂.
        record { end = e₂; is = rw (i₁, i₂, q); left = l₂ }

-- ---- past the end

pub count-end : (s : List ℕ) (at : ℕ) → length s ≤ at → hand_count_at s at ≡ None
unfolding hand_count_at tens_at
count-end s at h = let e = first-end 10 numerals refl s at h in rw (e, tag_end s at h ten (omega arith))
