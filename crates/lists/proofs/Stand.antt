-- What stands at a place, and what it is to be read there.
-- Assumes nothing.
use Prim.Native.Nat.{ℕ, ◌+◌, ◌-◌, ◌≤◌}
use native.Mathlib.Nat.{add-zero}
use native.Mathlib.Omega.{arith}
use mathlib.Core.Path.{◌≡◌, refl, sym, ap, ◌∙◌}
use mathlib.Core.List.{List, ◌++◌}
use mathlib.Core.Bool.{Bool, false}
use lib.ListN.{length, get_or, drop, take, length-append, length-drop}
use lib.Seq.{drop-append_seam, drop-drop, drop_at, take_at, get_or-drop}

-- from the place on, the text is l
pub record Stands (s : List ℕ) (at : ℕ) (l : List ℕ) : Type 0 where
  pub rest : drop at s ≡ l
  pub within : at ≤ length s

-- the answer a is the one that holds an end, and from that end on the text is r
pub record Came {A : Type 0} (a : A) (found : ℕ → A) (s r : List ℕ) : Type 0 where
  pub end : ℕ
  pub is : a ≡ found end
  pub left : Stands s end r

-- f reads the text t, wherever it stands and whatever follows it that C holds of
pub record Reads {A : Type 0} (f : List ℕ → ℕ → A) (found : ℕ → A) (t : List ℕ) (C : List ℕ → Type 0) : Type 0 where
  pub run : (s : List ℕ) (at : ℕ) (r : List ℕ) → Stands s at (t ++ r) → C r → Came (f s at) found s r

-- go on from where it ended: the end is a variable there, so terms stay small
pub then : {A : Type 0} {f : List ℕ → ℕ → A} {found : ℕ → A} {t : List ℕ} {C : List ℕ → Type 0} {s : List ℕ} {at : ℕ} {r : List ℕ} {B : Type 0}
    → Reads f found t C → Stands s at (t ++ r) → C r → ((e : ℕ) → f s at ≡ found e → Stands s e r → B) → B
then {s = s} {at = at} {r = r} h st c k = let w = h.run s at r st c in k w.end w.is w.left

-- the same for one that was read already
pub came : {A : Type 0} {a : A} {found : ℕ → A} {s r : List ℕ} {B : Type 0} → Came a found s r → ((e : ℕ) → a ≡ found e → Stands s e r → B) → B
came w k = k w.end w.is w.left

-- no condition
abbrev pub Any : List ℕ → Type 0
Any r = Unit {0}

-- what follows does not begin with a byte of a class
abbrev pub Off : (ℕ → Bool) → List ℕ → Type 0
Off f r = f (get_or r 0 0) ≡ false

pub stands_seam : (p l : List ℕ) → Stands (p ++ l) (length p) l
stands_seam p l = record { rest = drop-append_seam p l; within = omega (arith, length-append p l) }

pub stands_same : {s : List ℕ} {at : ℕ} {l m : List ℕ} → l ≡ m → Stands s at l → Stands s at m
stands_same e st = record { rest = st.rest ∙ e; within = st.within }

-- past a piece
pub stands_past : (t r s : List ℕ) (at : ℕ) → Stands s at (t ++ r) → Stands s (at + length t) r
stands_past t r s at st =
    let n : length (drop at s) ≡ length (t ++ r) = ap length st.rest in
    record {
      rest = sym (drop-drop (length t) at s) ∙ ap (drop (length t)) st.rest ∙ drop_at t r (length t) refl;
      within = let w = st.within in omega (arith, n, length-append t r, length-drop at s);
    }

-- a place is known by what stands there
pub stands_one : {s : List ℕ} {at e : ℕ} {l : List ℕ} → Stands s at l → Stands s e l → at ≡ e
stands_one {s} {at} {e} {l} st su =
    let n : length (drop at s) ≡ length l = ap length st.rest in
    let m : length (drop e s) ≡ length l = ap length su.rest in
    let v = st.within in
    let w = su.within in
    omega (arith, n, m, length-drop at s, length-drop e s)

-- the bytes at a place
pub byte_0 : {s : List ℕ} {at : ℕ} {l : List ℕ} → Stands s at l → get_or s at 0 ≡ get_or l 0 0
byte_0 {s} {at} {l} st = let z : at ≡ at + 0 = sym (add-zero at) in ap (λ i. get_or s i 0) z ∙ sym (get_or-drop at s 0 0) ∙ ap (λ (m : List ℕ). get_or m 0 0) st.rest

pub byte_1 : {s : List ℕ} {at : ℕ} {l : List ℕ} → Stands s at l → get_or s (at + 1) 0 ≡ get_or l 1 0
byte_1 {s} {at} {l} st = sym (get_or-drop at s 1 0) ∙ ap (λ (m : List ℕ). get_or m 1 0) st.rest

-- what stands between two places
pub stands_between : (t : List ℕ) {r s : List ℕ} {a e : ℕ} → Stands s a (t ++ r) → Stands s e r → take (e - a) (drop a s) ≡ t
stands_between t {r} {s} {a} {e} st su =
    let z : a + length t ≡ e = stands_one (stands_past t r s a st) su in
    let n : e - a ≡ length t = omega arith in
    rw (n, st.rest) (take_at t r (length t) refl)

-- the promise in its plain form
pub reads_back : {A : Type 0} {f : List ℕ → ℕ → A} {found : ℕ → A} {t : List ℕ} {C : List ℕ → Type 0} → Reads f found t C
    → (p r : List ℕ) → C r → f (p ++ (t ++ r)) (length p) ≡ found (length p + length t)
reads_back {found = found} {t = t} h p r c =
    let st = stands_seam p (t ++ r) in
    let w = h.run (p ++ (t ++ r)) (length p) r st c in
    w.is ∙ ap found (stands_one w.left (stands_past t r (p ++ (t ++ r)) (length p) st))
