-- The order of numbers, of lists of bytes and of keys: how one stands to a third follows from how both stand to a second.
-- Assumes nothing.
use Prim.Native.Nat.{ℕ, ◌<◌}
use native.Mathlib.Omega.{arith}
use mathlib.Core.Path.{◌≡◌, refl, sym, ap, ◌∙◌, subst}
use mathlib.Core.List.{List, [], ◌∷◌}
use mathlib.Core.Bool.{Bool, true, false}
use lib.Dec.{ltb}
use borrow.Author.Tests.{ltb-true, ltb-false, lt-ltb, le-ltb}
use Rattle.lists.specs.Pick.{pick}
use Rattle.text.specs.Text.{key_at}
use Rattle.std.specs.declared.cmp.Ordering.{Ordering}
use Rattle.std.specs.declared.cmp.Ordering.TheVariants.{Less, Equal, Greater}
use Rattle.sorted.specs.Sorted.{on_order, compared, by_bytes, by_key}

-- how x stands to z, given how x stands to y and y to z
abbrev pub Chain : Ordering → Ordering → Ordering → Type 0
Chain Less Less o = o ≡ Less
Chain Less Equal o = o ≡ Less
Chain Less Greater o = Unit {0}
Chain Equal p o = o ≡ p
Chain Greater Less o = Unit {0}
Chain Greater Equal o = o ≡ Greater
Chain Greater Greater o = o ≡ Greater

-- how y stands to x, given how x stands to y
abbrev pub flip : Ordering → Ordering
flip Less = Greater
flip Equal = Equal
flip Greater = Less

-- ---- numbers

abbrev Is : Ordering → ℕ → ℕ → Type 0
Is Less x y = x < y
Is Equal x y = x ≡ y
Is Greater x y = y < x

compared_is : (x y : ℕ) → Is (compared x y) x y
unfolding compared
compared_is x y = go (ltb x y) (ltb y x) refl refl
  where
    go : (t u : Bool) → ltb x y ≡ t → ltb y x ≡ u → Is (pick t Less (pick u Greater Equal)) x y
    go true u e f = ltb-true x y e
    go false true e f = ltb-true y x f
    go false false e f = omega (arith, ltb-false x y e, ltb-false y x f)

pub is_less : (x y : ℕ) → x < y → compared x y ≡ Less
unfolding compared
is_less x y h = simp (lt-ltb x y h)

pub is_equal : (x y : ℕ) → x ≡ y → compared x y ≡ Equal
unfolding compared
is_equal x y h = simp (le-ltb x y (omega arith), le-ltb y x (omega arith))

pub is_greater : (x y : ℕ) → y < x → compared x y ≡ Greater
unfolding compared
is_greater x y h = simp (le-ltb x y (omega arith), lt-ltb y x h)

compared_chain : (x y z : ℕ) → Chain (compared x y) (compared y z) (compared x z)
compared_chain x y z = go (compared x y) (compared y z) (compared_is x y) (compared_is y z)
  where
    go : (p q : Ordering) → Is p x y → Is q y z → Chain p q (compared x z)
    go Less Less h k = is_less x z (omega arith)
    go Less Equal h k = is_less x z (omega arith)
    go Less Greater h k = tt
    go Equal Less h k = is_less x z (omega arith)
    go Equal Equal h k = is_equal x z (omega arith)
    go Equal Greater h k = is_greater x z (omega arith)
    go Greater Less h k = tt
    go Greater Equal h k = is_greater x z (omega arith)
    go Greater Greater h k = is_greater x z (omega arith)

compared_flip : (x y : ℕ) → compared y x ≡ flip (compared x y)
compared_flip x y = go (compared x y) (compared_is x y)
  where
    go : (p : Ordering) → Is p x y → compared y x ≡ flip p
    go Less h = is_greater y x h
    go Equal h = is_equal y x (sym h)
    go Greater h = is_less y x h

-- ---- lists of bytes

less_any : (q : Ordering) → Chain Less q Less
less_any Less = refl
less_any Equal = refl
less_any Greater = tt

any_less : (q : Ordering) → Chain q Less Less
any_less Less = refl
any_less Equal = refl
any_less Greater = tt

greater_any : (q : Ordering) → Chain Greater q Greater
greater_any Less = tt
greater_any Equal = refl
greater_any Greater = refl

any_greater : (q : Ordering) → Chain q Greater Greater
any_greater Less = tt
any_greater Equal = refl
any_greater Greater = refl

pub bytes_chain : (a b c : List ℕ) → Chain (by_bytes a b) (by_bytes b c) (by_bytes a c)
unfolding by_bytes
bytes_chain [] [] c = refl
bytes_chain [] (y ∷ ys) [] = tt
bytes_chain [] (y ∷ ys) (z ∷ zs) = less_any (by_bytes (y ∷ ys) (z ∷ zs))
bytes_chain (x ∷ xs) [] [] = refl
bytes_chain (x ∷ xs) [] (z ∷ zs) = tt
bytes_chain (x ∷ xs) (y ∷ ys) [] = any_greater (by_bytes (x ∷ xs) (y ∷ ys))
bytes_chain (x ∷ xs) (y ∷ ys) (z ∷ zs) = go (compared x y) (compared y z) (compared x z) (compared_chain x y z) (by_bytes xs ys) (by_bytes ys zs) (by_bytes xs zs) (bytes_chain xs ys zs)
  where
    go : (p q r : Ordering) → Chain p q r → (u v w : Ordering) → Chain u v w → Chain (on_order p Less u Greater) (on_order q Less v Greater) (on_order r Less w Greater)
    go Less Less r t u v w k = ap (λ (r : Ordering). on_order r Less w Greater) t
    go Less Equal r t u v w k = subst (λ (r : Ordering). Chain Less v (on_order r Less w Greater)) (sym t) (less_any v)
    go Less Greater r t u v w k = tt
    go Equal Less r t u v w k = subst (λ (r : Ordering). Chain u Less (on_order r Less w Greater)) (sym t) (any_less u)
    go Equal Equal r t u v w k = subst (λ (r : Ordering). Chain u v (on_order r Less w Greater)) (sym t) k
    go Equal Greater r t u v w k = subst (λ (r : Ordering). Chain u Greater (on_order r Less w Greater)) (sym t) (any_greater u)
    go Greater Less r t u v w k = tt
    go Greater Equal r t u v w k = subst (λ (r : Ordering). Chain Greater v (on_order r Less w Greater)) (sym t) (greater_any v)
    go Greater Greater r t u v w k = ap (λ (r : Ordering). on_order r Less w Greater) t

pub bytes_flip : (a b : List ℕ) → by_bytes b a ≡ flip (by_bytes a b)
unfolding by_bytes
bytes_flip [] [] = refl
bytes_flip [] (y ∷ b) = refl
bytes_flip (x ∷ a) [] = refl
bytes_flip (x ∷ a) (y ∷ b) = go (compared x y) (compared y x) (compared_flip x y) (bytes_flip a b)
  where
    go : (p q : Ordering) → q ≡ flip p → by_bytes b a ≡ flip (by_bytes a b) → on_order q Less (by_bytes b a) Greater ≡ flip (on_order p Less (by_bytes a b) Greater)
    go Less q e h = ap (λ (q : Ordering). on_order q Less (by_bytes b a) Greater) e
    go Equal q e h = ap (λ (q : Ordering). on_order q Less (by_bytes b a) Greater) e ∙ h
    go Greater q e h = ap (λ (q : Ordering). on_order q Less (by_bytes b a) Greater) e

-- ---- keys

pub key_chain : (s : List ℕ) (x y z : ℕ) → Chain (by_key s x y) (by_key s y z) (by_key s x z)
key_chain s x y z = bytes_chain (key_at s x) (key_at s y) (key_at s z)

pub key_flip : (s : List ℕ) (x y : ℕ) → by_key s y x ≡ flip (by_key s x y)
key_flip s x y = bytes_flip (key_at s x) (key_at s y)
