-- What holds of the values of an answer, and how it is handed on to what is made of them; what an `else` says of an answer.
-- Assumes nothing.
use Rattle.std.specs.Prelude.{Option, Some, None, Result, Ok, Err, IsErrAnd}
use Prim.Native.Nat.{ℕ, ◌≤◌, ◌<◌}
use native.Mathlib.Omega.{arith}
use mathlib.Core.Path.{◌≡◌, refl, ap}
use mathlib.Core.List.{List}
use mathlib.Core.Bool.{false}
use lib.Dec.{eqb, leb}
use borrow.Author.Tests.{leb-true, eqb-false}
use Rattle.lists.specs.Pick.{pick}
use Rattle.lists.proofs.Laws.{by_pick}
use Rattle.text.specs.Text.{cursor, on_place, on_number, by_number, is_digit, span_at, number_at, digits_at}
use Rattle.text.specs.declared.Cursor.{Cursor}
use Rattle.text.specs.declared.FigureError.{FigureError}
use Rattle.text.specs.declared.FigureError.TheVariants.{Absent, TooLarge}
use Rattle.text.proofs.Laws.{span_ge}

-- the value and the place of a number satisfy P
pub data OnNumber (P : ℕ → Cursor → Type 0) : Result (ℕ × Cursor) FigureError → Type 0 where
  value : {n : ℕ} {c : Cursor} → P n c → OnNumber P (Ok (n, c))
  no_digit : OnNumber P (Err Absent)
  too_large : OnNumber P (Err TooLarge)

module _ {A : Type 0} (Q : A → Type 0) {d : A} (z : Q d) where
  pub by_place : (r : Option Cursor) {f : Cursor → A} → ((c : Cursor) → Q (f c)) → Q (on_place r f d)
  by_place (Some c) k = k c
  by_place None k = z

  -- the same, told which place it is
  pub by_past : (r : Option Cursor) {f : Cursor → A} → ((c : Cursor) → r ≡ Some c → Q (f c)) → Q (on_place r f d)
  by_past (Some c) k = k c refl
  by_past None k = z

  pub by-number : {P : ℕ → Cursor → Type 0} {r : Result (ℕ × Cursor) FigureError} {f : ℕ → Cursor → A} → OnNumber P r → ((n : ℕ) (c : Cursor) → P n c → Q (f n c)) → Q (on_number r f d)
  by-number (value {n} {c} h) k = k n c h
  by-number no_digit k = z
  by-number too_large k = z

-- where no number and one too large are told apart
pub by_three : {A : Type 0} (Q : A → Type 0) {none large : A} → Q none → Q large → {P : ℕ → Cursor → Type 0} {r : Result (ℕ × Cursor) FigureError} {f : ℕ → Cursor → A} → OnNumber P r
    → ((n : ℕ) (c : Cursor) → P n c → Q (f n c)) → Q (by_number r f none large)
by_three Q x y (value {n} {c} h) k = k n c h
by_three Q x y no_digit k = x
by_three Q x y too_large k = y

-- a number that was read is at most the largest allowed, and it goes on from its place
pub record Counted (largest at n : ℕ) (c : Cursor) : Type 0 where
  pub small : n ≤ largest
  pub past : at < c.at

pub digits_fit : (largest : ℕ) (s : List ℕ) (at : ℕ) → OnNumber (Counted largest at) (digits_at largest s at)
unfolding digits_at
digits_fit largest s at =
    let n : ℕ = number_at s at 0 in
    let e : ℕ = span_at is_digit s at in
    by_pick (OnNumber (Counted largest at)) (eqb e at) (Err Absent) (pick (leb n largest) (Ok (n, cursor e)) (Err TooLarge)) (λ t. no_digit)
    (λ t. by_pick (OnNumber (Counted largest at)) (leb n largest) (Ok (n, cursor e)) (Err TooLarge)
    (λ u. value (record { small = leb-true _ _ u; past = further t (span_ge is_digit s at) })) (λ u. too_large))
  where
    further : {e : ℕ} → eqb e at ≡ false → at ≤ e → at < e
    further {e} t h = let ne : e ≡ at → ⊥ = eqb-false e at t in omega arith

-- the `else` of a `let .. else` on a number: why there is none does not matter
pub number_else : {A : Type 0} {r : Result (ℕ × Cursor) FigureError} {e : FigureError} (f : ℕ → Cursor → A) (d : A) → r ≡ Err e → on_number r f d ≡ d
number_else {e = Absent} f d h = ap (λ x. on_number x f d) h
number_else {e = TooLarge} f d h = ap (λ x. on_number x f d) h

-- what a `?` hands on is the error itself
pub error_of : {A E : Type 0} {r : Result A E} {e : E} → IsErrAnd r (λ f. f ≡ e) → r ≡ Err e
error_of {r = Err f} h = ap Err h
error_of {r = Ok x} h = elim h [ ]
