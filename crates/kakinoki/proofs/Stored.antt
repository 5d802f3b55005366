-- A buffer that is filled in two parts: the second part is lent from where the first ends, or from the end of the buffer.
-- Assumes nothing.
use Prim.Native.Nat.{ℕ, suc, ◌+◌, ◌-◌, ◌≤◌, min}
use native.Mathlib.Omega.{arith}
use native.Mathlib.Decide.{dec_le}
use mathlib.Core.Path.{◌≡◌, refl, sym, ap, ◌∙◌}
use mathlib.Core.List.{List, [], ◌∷◌, ◌++◌}
use lib.ListN.{length, take, drop, set, take-append-drop}
use lib.Seq.{set_out, sets, length-take-le}
use borrow.Rule.Slice.PartMut.{mid_of, put_mid}
use Rattle.lent.proofs.Writes.{rest, back}
use Rattle.lent.specs.Stored.{put}
use Rattle.lent.proofs.Regions.{sets_more}

sets_cons : (x : ℕ) (l : List ℕ) (i : ℕ) (u : List ℕ) → sets (x ∷ l) (suc i) u ≡ x ∷ sets l i u
sets_cons x l i [] = refl
sets_cons x l i (a ∷ u) = sets_cons x (set l i a) (suc i) u

-- what begins past a front leaves it
sets_behind : (xs ys : List ℕ) (u : List ℕ) → sets (xs ++ ys) (length xs) u ≡ xs ++ sets ys 0 u
sets_behind [] ys u = refl
sets_behind (x ∷ xs) ys u = sets_cons x (xs ++ ys) (length xs) u ∙ ap (λ (l : List ℕ). x ∷ l) (sets_behind xs ys u)

-- past the end nothing is stored
sets_out : (u o : List ℕ) (p : ℕ) → length o ≤ p → sets o p u ≡ o
sets_out [] o p h = refl
sets_out (a ∷ u) o p h = ap (λ (l : List ℕ). sets l (suc p) u) (set_out o p a h) ∙ sets_out u o (suc p) (omega arith)

sets_rest : (o u : List ℕ) (k : ℕ) → k ≤ length o → take k o ++ sets (drop k o) 0 u ≡ sets o k u
sets_rest o u k h =
    sym (sets_behind (take k o) (drop k o) u) ∙ ap (λ (l : List ℕ). sets l (length (take k o)) u) (take-append-drop k o)
    ∙ ap (λ (n : ℕ). sets o n u) (length-take-le k o h)

-- from where t ends, or from the end
sets_min : (o u : List ℕ) (n : ℕ) → sets o (min n (length o)) u ≡ sets o n u
sets_min o u n = go (dec_le n (length o))
  where
    go : Dec (n ≤ length o) → sets o (min n (length o)) u ≡ sets o n u
    go (yes h) = let e : min n (length o) ≡ n = omega arith in ap (λ (k : ℕ). sets o k u) e
    go (no h) = sets_out u o (min n (length o)) (omega arith) ∙ sym (sets_out u o n (omega arith))

pub two_parts : (t u o o₁ o₂ : List ℕ) (k : ℕ) → o₁ ≡ put o 0 t → k ≡ min (length t) (length o₁) → o₂ ≡ put (mid_of k (length o₁ - k) o₁) 0 u
    → put_mid k (length o₁ - k) o₁ o₂ ≡ put o 0 (t ++ u)
unfolding put
two_parts t u o o₁ o₂ k e m f =
    let z : 0 + length t ≡ length t = omega arith in
    back o₁ o₂ k ∙ ap (λ (l : List ℕ). take k o₁ ++ l) (f ∙ ap (λ (l : List ℕ). sets l 0 u) (rest o₁ k)) ∙ sets_rest o₁ u k (omega arith)
    ∙ ap (λ (n : ℕ). sets o₁ n u) m ∙ sets_min o₁ u (length t) ∙ ap (λ (l : List ℕ). sets l (length t) u) e
    ∙ ap (λ (n : ℕ). sets (sets o 0 t) n u) (sym z) ∙ sets_more t u o 0
