-- A part of a list of bytes, by its place and its length: parts that follow one another make one part, and the bytes of a number that is
-- read somewhere are the two that stand there.
-- Assumes nothing.
use Prim.Native.Nat.{ℕ, ◌+◌, ◌*◌, ◌/◌, ◌%◌, ◌≤◌, ◌<◌}
use native.Mathlib.Nat.{add-zero}
use native.Mathlib.Omega.{arith}
use mathlib.Core.Path.{◌≡◌, refl, sym, ap, ap₂, ◌∙◌}
use mathlib.Core.List.{List, [], ◌∷◌, ◌++◌, append_assoc}
use lib.ListN.{length, get_or, take, drop, take-append-drop, length-drop}
use lib.Seq.{take-length, take_at, drop_at, take-add, drop-drop, length-take-le}
use Rattle.lists.proofs.Laws.{drop_step}
use Rattle.lent.specs.Bytes.{le16, bytes16}
use Rattle.laws.specs.Blocks.{Bytes}
use Rattle.block.proofs.LineTables.{le16-drop}

-- t is the n bytes of b from o on
pub record Part (b : List ℕ) (o n : ℕ) (t : List ℕ) : Type 0 where
  pub is : t ≡ take n (drop o b)

-- a second part, from the first one's end on
pub then : {b t u : List ℕ} {o n m : ℕ} → Part b o n t → Part b (o + n) m u → Part b o (n + m) (t ++ u)
then {b} {t} {u} {o} {n} {m} p q =
    record {
      is =
          ap₂ ◌++◌ p.is (q.is ∙ ap (take m) (sym (drop-drop n o b)))
          ∙ sym (take-add n m (drop o b));
    }

-- the same part by other numbers, and under another name
pub part_from : {b t : List ℕ} {o n : ℕ} (o' : ℕ) → o' ≡ o → Part b o' n t → Part b o n t
part_from o' e p = rw (← e) p

pub part_as : {b t : List ℕ} {o n : ℕ} (t' : List ℕ) → t ≡ t' → Part b o n t' → Part b o n t
part_as t' e p = rw e p

pub part_of : (b : List ℕ) (o n : ℕ) → Part b o n (take n (drop o b))
part_of b o n = record { is = refl }

pub part_length : {b t : List ℕ} {o n : ℕ} → Part b o n t → o + n ≤ length b → length t ≡ n
part_length {b} {t} {o} {n} p h = ap length p.is ∙ length-take-le n (drop o b) (omega (arith, length-drop o b))

-- from o on, b is l
pub record From (b : List ℕ) (o : ℕ) (l : List ℕ) : Type 0 where
  pub is : drop o b ≡ l

-- what begins at a place, and what comes after it
pub front : {b t : List ℕ} {o : ℕ} (q : List ℕ) (n : ℕ) → length t ≡ n → From b o (t ++ q) → Part b o n t
front {b} {t} {o} q n e s = record { is = sym (ap (take n) s.is ∙ take_at t q n e) }

pub past : {b q : List ℕ} {o : ℕ} (t : List ℕ) (n : ℕ) → length t ≡ n → From b o (t ++ q) → From b (o + n) q
past {b} {q} {o} t n e s = record { is = sym (drop-drop n o b) ∙ ap (drop n) s.is ∙ drop_at t q n e }

-- to the end
pub whole_part : {b t : List ℕ} {o : ℕ} → From b o t → Part b o (length t) t
whole_part {b} {t} {o} s = record { is = sym (ap (take (length t)) s.is ∙ take-length t) }

pub from_part : {b t : List ℕ} {o n : ℕ} → Part b o n t → From b o (t ++ drop n (drop o b))
from_part {b} {t} {o} {n} p =
    record { is = sym (ap (λ (l : List ℕ). l ++ drop n (drop o b)) p.is ∙ take-append-drop n (drop o b)) }

-- a part of a part
pub part_in : {b t : List ℕ} {o n : ℕ} (p l q : List ℕ) (i m : ℕ) → Part b o n t → t ≡ p ++ (l ++ q) → length p ≡ i → length l ≡ m → Part b (o + i) m l
part_in {b} {t} {o} {n} p l q i m w e f g =
    let r = drop n (drop o b) in
    let s : From b o (p ++ (l ++ (q ++ r))) = record { is = (from_part w).is ∙ ap (λ (x : List ℕ). x ++ r) e ∙ regroup p l q r } in
    front (q ++ r) m g (past p i f s)
  where
    regroup : (a b c d : List ℕ) → a ++ (b ++ c) ++ d ≡ a ++ (b ++ (c ++ d))
    regroup a b c d = simp append_assoc

-- ---- numbers of two bytes

pub number_at : (b : List ℕ) (o : ℕ) → le16 b o ≡ le16 (drop o b) 0
number_at b o = ap (le16 b) (sym (add-zero o)) ∙ sym (le16-drop b o 0)

-- in a part
pub part_number : {b t : List ℕ} {o n : ℕ} (i : ℕ) → Part b o n t → le16 b (o + i) ≡ le16 (t ++ drop n (drop o b)) i
part_number {b} {t} {o} {n} i p = sym (le16-drop b o i) ∙ ap (λ (l : List ℕ). le16 l i) (from_part p).is

pub part_number₀ : {b t : List ℕ} {o n : ℕ} → Part b o n t → le16 b o ≡ le16 (t ++ drop n (drop o b)) 0
part_number₀ {b} {t} {o} {n} p = number_at b o ∙ ap (λ (l : List ℕ). le16 l 0) (from_part p).is

pub number_part : (b : List ℕ) → Bytes b → (i : ℕ) → i + 1 < length b → Part b i 2 (bytes16 (le16 b i))
number_part b u i h =
    let x = get_or b i 0 in
    let y = get_or b (i + 1) 0 in
    let e₁ : (x + 256 * y) % 256 ≡ x = omega (arith, u i) in
    let q : (x + 256 * y) / 256 ≡ y = omega (arith, u i) in
    let m : y % 256 ≡ y = omega (arith, u (i + 1)) in
    let e₂ : (x + 256 * y) / 256 % 256 ≡ y = ap (λ (z : ℕ). z % 256) q ∙ m in
    record {
      is =
          ap₂ (λ (v w : ℕ). v ∷ w ∷ []) e₁ e₂
          ∙ sym (ap (take 2) (drop_step b i (omega arith) ∙ ap (λ (l : List ℕ). x ∷ l) (drop_step b (i + 1) h)));
    }

-- two and four numbers in a row
pub two_part : (b : List ℕ) → Bytes b → (i : ℕ) → i + 3 < length b → Part b i 4 (bytes16 (le16 b i) ++ bytes16 (le16 b (i + 2)))
two_part b u i h = then (number_part b u i (omega arith)) (number_part b u (i + 2) (omega arith))

pub four_part : (b : List ℕ) → Bytes b → (i : ℕ) → i + 7 < length b
    → Part b i 8 (bytes16 (le16 b i) ++ bytes16 (le16 b (i + 2)) ++ bytes16 (le16 b (i + 4)) ++ bytes16 (le16 b (i + 6)))
four_part b u i h =
    then (then (two_part b u i (omega arith)) (number_part b u (i + 4) (omega arith))) (number_part b u (i + 6) (omega arith))
