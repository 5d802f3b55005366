-- Laws of `Wrote` and `fitting`, by which every writer's promise is met.
--     then        a second text, written from the first one's end on
--     within, sum_fits    where a text ends, for the start of the rest and for the sum
--     unwritten   nothing was written since it did not fit
--     written     it was written since it did
-- Assumes nothing.
use Prim.Native.Nat.{ℕ, zero-le, ◌+◌, ◌-◌, ◌%◌, ◌≤◌, ◌<◌, ◌^◌}
use native.Mathlib.Nat.{lt_of_le_of_lt}
use native.Mathlib.Omega.{arith}
use mathlib.Core.Path.{◌≡◌, refl, sym, ap, ◌∙◌}
use mathlib.Core.List.{List, [], ◌∷◌, ◌++◌, append_assoc, append-nil}
use lib.ListN.{length, get_or, take, drop, set, length-append, length-drop, drop_of_length-le}
use lib.Seq.{take_all, take-length, take_at, drop_at, drop-drop, set_at}
use mir.Syntax.{w8, w64}
use mir.Val.{Fits}
use borrow.Rule.Slice.PartMut.{mid_of, put_mid}
use borrow.Author.Tests.{le-leb, lt-leb}
use Rattle.lists.proofs.Laws.{drop_step}
use Rattle.lent.specs.Bytes.{Wrote, fitting, le16, bytes16}

-- ---- a text that fits, and one that does not

pub fitting-all : (t o : List ℕ) → length t ≤ length o → fitting t o ≡ t
unfolding fitting
fitting-all t o h = rw (le-leb _ _ h)

pub fitting-none : (t o : List ℕ) → length o < length t → fitting t o ≡ []
unfolding fitting
fitting-none t o h = rw (lt-leb _ _ h)

-- an empty text fits
pub fitting_nothing : {t : List ℕ} (o : List ℕ) → t ≡ [] → fitting t o ≡ []
fitting_nothing {t} o e = ap (λ (u : List ℕ). fitting u o) e ∙ fitting-all [] o zero-le

-- into nothing fits nothing
pub fitting_empty : (t : List ℕ) → fitting t [] ≡ []
unfolding fitting
fitting_empty [] = refl
fitting_empty (b ∷ t) = fitting-none (b ∷ t) [] (omega arith)

-- ---- what was written

-- the same text under another name
pub as_text : {t t' o o' : List ℕ} {n : ℕ} → t ≡ t' → Wrote t o o' n → Wrote t' o o' n
as_text {t} {t'} {o} {o'} {n} e w = rw e at w

-- nothing
pub nothing : (o : List ℕ) → Wrote [] o o 0
nothing o = record { count = refl; bytes = refl; fits = zero-le }

-- nothing, since the text does not fit
pub unwritten : (t o : List ℕ) → length o < length t → Wrote (fitting t o) o o 0
unwritten t o h = as_text (sym (fitting-none t o h)) (nothing o)

-- the text, since it fits
pub written : {t o o' : List ℕ} {n : ℕ} → Wrote t o o' n → Wrote (fitting t o) o o' n
written {t} {o} w = as_text (sym (fitting-all t o (omega (arith, w.count, w.fits)))) w

-- the text, for a caller who knows that it fits
pub wrote_all : {t o o' : List ℕ} {n : ℕ} → length t ≤ length o → Wrote (fitting t o) o o' n → Wrote t o o' n
wrote_all {t} {o} h w = as_text (fitting-all t o h) w

-- what the kit's `bytes::copy` says
pub copied : (t o o' : List ℕ) (n : ℕ) → length t ≤ length o → n ≡ length t → o' ≡ take (length t) t ++ drop (length t) o → Wrote t o o' n
copied t o o' n h e f = record { count = e; bytes = f ∙ rw (take-length, e); fits = omega arith }

-- the buffer is as long as before
pub wrote_length : {t o o' : List ℕ} {n : ℕ} → Wrote t o o' n → length o' ≡ length o
wrote_length {t} {o} {o'} {n} w =
    omega (arith, ap length w.bytes, length-append t (drop n o), length-drop n o, w.count, w.fits)

-- what was written ends within it
pub within : {t o o' : List ℕ} {n : ℕ} → Wrote t o o' n → n ≤ length o'
within w = omega (arith, wrote_length w, w.fits)

-- its length is a number of the machine, since the buffer's is
pub sum_fits : {t o o' : List ℕ} {n : ℕ} → Wrote t o o' n → length o < 2 ^ 64 → Fits w64 n
sum_fits w h = record { fits = lt_of_le_of_lt w.fits h }

-- the text stands at the front
pub wrote_front : {t o o' : List ℕ} {n : ℕ} → Wrote t o o' n → take n o' ≡ t
wrote_front {t} {o} {n = n} w = rw w.bytes (take_at t (drop n o) n (sym w.count))

-- a text that fills the buffer is all that it holds
pub wrote_whole : {t o o' : List ℕ} {n : ℕ} → Wrote t o o' n → length o ≡ length t → o' ≡ t
wrote_whole {t} {o} {o'} {n} w e = w.bytes ∙ ap (λ (l : List ℕ). t ++ l) (drop_of_length-le o {i = n} (omega (arith, w.count))) ∙ append-nil t

-- ---- one after another

-- a part that begins at n and runs to the end, and the whole when it is back
pub rest : (o : List ℕ) (n : ℕ) → mid_of n (length o - n) o ≡ drop n o
rest o n = take_all (length o - n) (drop n o) (simp length-drop (omega arith))

pub rest_length : (o : List ℕ) (n : ℕ) → length (mid_of n (length o - n) o) ≡ length o - n
rest_length o n = rw (rest o n) (length-drop n o)

pub back : (o p : List ℕ) (n : ℕ) → put_mid n (length o - n) o p ≡ take n o ++ p
back o p n = rw (drop_of_length-le (drop n o) {i = length o - n} (simp length-drop (omega arith)), append-nil)

pub then : {t₁ t₂ o o₁ p : List ℕ} {n₁ n₂ : ℕ} → Wrote t₁ o o₁ n₁ → Wrote t₂ (mid_of n₁ (length o₁ - n₁) o₁) p n₂
    → Wrote (t₁ ++ t₂) o (put_mid n₁ (length o₁ - n₁) o₁ p) (n₁ + n₂)
then {t₁} {t₂} {o} {o₁} {p} {n₁} {n₂} a b =
    let e₁ : take n₁ o₁ ≡ t₁ = wrote_front a in
    let e₂ : drop n₁ o₁ ≡ drop n₁ o = rw a.bytes (drop_at t₁ (drop n₁ o) n₁ (sym a.count)) in
    record {
      count = omega (arith, length-append t₁ t₂, a.count, b.count);
      bytes =
          back o₁ p n₁ ∙ ap (λ (l : List ℕ). l ++ p) e₁
          ∙ ap (λ (l : List ℕ). t₁ ++ l) (b.bytes ∙ ap (λ (l : List ℕ). t₂ ++ drop n₂ l) (rest o₁ n₁ ∙ e₂) ∙ ap (λ (l : List ℕ). t₂ ++ l) (drop-drop n₂ n₁ o))
          ∙ sym (append_assoc t₁ t₂ (drop (n₁ + n₂) o));
      fits = omega (arith, a.fits, b.fits, rest_length o₁ n₁, wrote_length a);
    }

-- one byte more, stored at the end
pub then_byte : {t o o₁ : List ℕ} {n : ℕ} (b : ℕ) → Wrote t o o₁ n → n < length o → Wrote (t ++ (b ∷ [])) o (set o₁ n b) (n + 1)
then_byte {t} {o} {o₁} {n} b w h =
    let e : drop n o ≡ get_or o n 0 ∷ drop (n + 1) o = drop_step o n h in
    record {
      count = omega (arith, length-append t (b ∷ []), w.count);
      bytes =
          ap (λ (l : List ℕ). set l n b) (w.bytes ∙ ap (λ (l : List ℕ). t ++ l) e) ∙ set_at t (get_or o n 0) (drop (n + 1) o) b n (sym w.count)
          ∙ sym (append_assoc t (b ∷ []) (drop (n + 1) o));
      fits = omega arith;
    }

-- ---- numbers of two bytes

-- the low byte of a number is a byte
pub low_byte : (v : ℕ) → Fits w8 (v % 256)
low_byte v = record { fits = omega arith }

-- what is read where a number was written
pub read16 : (v : ℕ) (r : List ℕ) → v < 65536 → le16 (bytes16 v ++ r) 0 ≡ v
read16 v r h = omega arith
