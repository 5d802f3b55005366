-- One predicate for each answer of the crate, saying what holds of its values and its place, and how it is handed on to what is made of them.
-- Assumes nothing.
use Rattle.std.specs.Prelude.{Option, Some, None, Result, Ok, Err}
use Prim.Native.Nat.{ℕ}
use mathlib.Core.Path.{ap, ◌≡◌, subst}
use Rattle.text.specs.declared.Cursor.{Cursor}
use Rattle.jkf.specs.declared.Clock.{Clock}
use Rattle.jkf.specs.declared.Target.{Target}
use Rattle.jkf.specs.declared.Entry.{Entry}
use Rattle.moves.specs.Moves.{on_aim, on_source, on_clocked, on_what}
use Rattle.text.specs.declared.FigureError.{FigureError}
use Rattle.text.specs.declared.FigureError.TheVariants.{Absent, TooLarge}
use Rattle.moves.specs.declared.Remark.{Remark}
use Rattle.moves.specs.declared.MoveLine.{MoveLine}

pub data OnAim (P : Target → Cursor → Type 0) : Option (Target × Cursor) → Type 0 where
  to : {t : Target} {c : Cursor} → P t c → OnAim P (Some (t, c))
  no_aim : OnAim P None

pub data OnSource (P : Option (ℕ × ℕ) → Cursor → Type 0) : Result (Option (ℕ × ℕ) × Cursor) FigureError → Type 0 where
  out : {o : Option (ℕ × ℕ)} {c : Cursor} → P o c → OnSource P (Ok (o, c))
  no_source : OnSource P (Err Absent)
  too_large_source : OnSource P (Err TooLarge)

pub data OnClocked (P : Clock → Cursor → Type 0) : Option (Clock × Cursor) → Type 0 where
  shows : {k : Clock} {c : Cursor} → P k c → OnClocked P (Some (k, c))
  no_clock : OnClocked P None

pub data OnWhat (P : Entry → Cursor → Type 0) : Option (Entry × Cursor) → Type 0 where
  is : {e : Entry} {c : Cursor} → P e c → OnWhat P (Some (e, c))
  nothing : OnWhat P None

pub data OnRemark (P : Cursor → Cursor → Cursor → Type 0) : Option Remark → Type 0 where
  stands : {from to next : Cursor} → P from to next → OnRemark P (Some (record { from = from; to = to; next = next }))
  no_remark : OnRemark P None

pub data OnMoveLine (P : ℕ → Entry → Cursor → Type 0) : Option MoveLine → Type 0 where
  numbered : {n : ℕ} {e : Entry} {c : Cursor} → P n e c → OnMoveLine P (Some (record { number = n; entry = e; next = c }))
  no_line : OnMoveLine P None

module _ {A : Type 0} (Q : A → Type 0) {d : A} (z : Q d) where
  pub by_aim : {P : Target → Cursor → Type 0} {r : Option (Target × Cursor)} {f : Target → Cursor → A} → OnAim P r → ((t : Target) (c : Cursor) → P t c → Q (f t c)) → Q (on_aim r f d)
  by_aim (to {t} {c} h) k = k t c h
  by_aim no_aim k = z

  pub by_source : {P : Option (ℕ × ℕ) → Cursor → Type 0} {r : Result (Option (ℕ × ℕ) × Cursor) FigureError} {f : Option (ℕ × ℕ) → Cursor → A} → OnSource P r → ((o : Option (ℕ × ℕ)) (c : Cursor) → P o c → Q (f o c)) → Q (on_source r f d)
  by_source (out {o} {c} h) k = k o c h
  by_source no_source k = z
  by_source too_large_source k = z

  pub by_clocked : {P : Clock → Cursor → Type 0} {r : Option (Clock × Cursor)} {f : Clock → Cursor → A} → OnClocked P r → ((t : Clock) (c : Cursor) → P t c → Q (f t c)) → Q (on_clocked r f d)
  by_clocked (shows {k} {c} h) g = g k c h
  by_clocked no_clock g = z

  pub by_what : {P : Entry → Cursor → Type 0} {r : Option (Entry × Cursor)} {f : Entry → Cursor → A} → OnWhat P r → ((e : Entry) (c : Cursor) → P e c → Q (f e c)) → Q (on_what r f d)
  by_what (is {e} {c} h) k = k e c h
  by_what nothing k = z

-- what is known of an answer, where it is known which it is

line_of : {P : ℕ → Entry → Cursor → Type 0} {n : ℕ} {e : Entry} {c : Cursor} → OnMoveLine P (Some (record { number = n; entry = e; next = c })) → P n e c
line_of (numbered h) = h

pub line_is : {P : ℕ → Entry → Cursor → Type 0} {r : Option MoveLine} {n : ℕ} {e : Entry} {c : Cursor} → OnMoveLine P r → r ≡ Some (record { number = n; entry = e; next = c }) → P n e c
line_is {P} h q = line_of (subst (OnMoveLine P) q h)

remark-of : {P : Cursor → Cursor → Cursor → Type 0} {from to next : Cursor} → OnRemark P (Some (record { from = from; to = to; next = next })) → P from to next
remark-of (stands h) = h

pub remark_is : {P : Cursor → Cursor → Cursor → Type 0} {r : Option Remark} {from to next : Cursor} → OnRemark P r → r ≡ Some (record { from = from; to = to; next = next }) → P from to next
remark_is {P} h q = remark-of (subst (OnRemark P) q h)

-- the `else` of a `let .. else` on a source: why there is none does not matter
pub source_else : {A : Type 0} {r : Result (Option (ℕ × ℕ) × Cursor) FigureError} {e : FigureError} (f : Option (ℕ × ℕ) → Cursor → A) (d : A) → r ≡ Err e → on_source r f d ≡ d
source_else {e = Absent} f d h = ap (λ x. on_source x f d) h
source_else {e = TooLarge} f d h = ap (λ x. on_source x f d) h
