-- Places packed with the leads of their keys: they stand as their keys do, so what is kept of the packs is what is kept of the places, packed.
-- Assumes nothing.
use Prim.Native.Nat.{ℕ, zero, suc, ◌+◌, ◌*◌, ◌-◌, ◌≤◌, ◌<◌, ◌%◌, min}
use native.Mathlib.Numerals.{add-one}
use native.Mathlib.Nat.{le_refl, mul-mod_left}
use native.Mathlib.Omega.{arith}
use native.Mathlib.Decide.{dec_lt}
use mathlib.Core.Path.{◌≡◌, refl, sym, ap, ◌∙◌}
use mathlib.Core.Logic.{◌⊎◌, inl, inr}
use mathlib.Core.List.{List, [], ◌∷◌, ◌++◌, map, map-append}
use mathlib.Core.Bool.{Bool, true, false, true≢false}
use lib.ListN.{length, drop, length-map}
use lib.Dec.{eqb}
use borrow.Author.Tests.{eqb-false}
use Rattle.lists.specs.All.{All, none, next}
use Rattle.lists.specs.Pick.{pick}
use Rattle.text.specs.Text.{key_at}
use Rattle.std.specs.declared.cmp.Ordering.{Ordering}
use Rattle.sorted.specs.declared.MergeStep.{MergeStep}
use Rattle.std.specs.declared.cmp.Ordering.TheVariants.{Less, Equal, Greater}
use Rattle.sorted.specs.Sorted.{on_order, by_bytes, by_key, enter, enter_all, kept}
use Rattle.sorted.specs.inner.Orders.{merge}
use Rattle.sorted.specs.inner.Heads.{head_of}
use Rattle.sorted.specs.inner.Packs.{lead_from, KeyBytes, Lead, packed, pack_lead, pack_place, lead_told, by_pack, Packable, packs, step_of}
use Rattle.sorted.proofs.Orders.{Chain, flip, bytes_chain, bytes_flip, is_less, is_equal, is_greater}
use Rattle.sorted.proofs.Merges.{enter_all_halves, enter_all-length}
use Rattle.sorted.proofs.Kept.{enter-all, kept-all}
use Rattle.sorted.proofs.Keys.{key_more}

-- ---- the lead of a key

-- one digit more, and a zero where the key has ended
lead_on : (n v b : ℕ) (k l : List ℕ) → k ≡ b ∷ l → lead_from (n + 1) v k ≡ lead_from n (v * 256 + b) l
unfolding lead_from
lead_on n v b k l e = rw (e, add-one)

lead_off : (n v : ℕ) (k : List ℕ) → k ≡ [] → lead_from (n + 1) v k ≡ lead_from n (v * 256) k
unfolding lead_from
lead_off n v k e = rw (e, add-one)

bytes_on : (n b : ℕ) (k l : List ℕ) → k ≡ b ∷ l → b < 256 → KeyBytes n l → KeyBytes (n + 1) k
unfolding KeyBytes
bytes_on n b k l e h g = rw (e, add-one) (h, g)

bytes_off : (n : ℕ) (k : List ℕ) → k ≡ [] → KeyBytes (n + 1) k
unfolding KeyBytes
bytes_off n k e = rw (e, add-one) tt

-- a number with n digits more
unfoldable pub widened : ℕ → ℕ → ℕ
widened zero m = m
widened (suc n) m = widened n (m * 256)

widened_on : (n m : ℕ) → widened (n + 1) m ≡ widened n (m * 256)
unfolding widened
widened_on n m = rw add-one

widened_up : (n m k : ℕ) → m ≤ k → widened n m ≤ widened n k
unfolding widened
widened_up zero m k h = h
widened_up (suc n) m k h = widened_up n (m * 256) (k * 256) (omega arith)

widened_more : (n m : ℕ) → m ≤ widened n m
unfolding widened
widened_more zero m = le_refl m
widened_more (suc n) m = omega (arith, widened_more n (m * 256))

-- of the lead of k, v is what was read, and `left` digits of l are to follow
pub record Leading (k l : List ℕ) (v left : ℕ) : Type 0 where
  pub goes-on : lead_from left v l ≡ lead_from 6 0 k
  pub bytes : KeyBytes left l → KeyBytes 6 k
  pub small : widened left (v + 1) ≤ 281474976710656

pub leading_start : (k : List ℕ) → Leading k k 0 6
unfolding widened
leading_start k = record { goes-on = refl; bytes = λ b. b; small = le_refl 281474976710656 }

pub leading_end : (k l : List ℕ) (v left : ℕ) → Leading k l v left → left ≡ 0 → Lead k v
unfolding lead_from KeyBytes widened
leading_end k l v zero w e = record { value = w.goes-on; bytes = w.bytes tt; small = omega (arith, w.small) }
leading_end k l v (suc n) w e = absurd (omega arith)

module _ {k l : List ℕ} {v left : ℕ} (w : Leading k l v left) (h : 0 < left) where
  one : left - 1 + 1 ≡ left
  one = omega arith

  room : widened (left - 1) ((v + 1) * 256) ≤ 281474976710656
  room = omega (arith, w.small, sym (widened_on (left - 1) (v + 1)) ∙ ap (λ (n : ℕ). widened n (v + 1)) one)

  pub leading_fits : v * 256 + 256 ≤ 281474976710656
  leading_fits = omega (arith, room, widened_more (left - 1) ((v + 1) * 256))

  pub leading_on : (b : ℕ) (m : List ℕ) → l ≡ b ∷ m → b < 256 → Leading k m (v * 256 + b) (left - 1)
  leading_on b m e g =
      record {
        goes-on = sym (lead_on (left - 1) v b l m e) ∙ ap (λ (n : ℕ). lead_from n v l) one ∙ w.goes-on;
        bytes = λ x. w.bytes (rw one at (bytes_on (left - 1) b l m e g x));
        small = omega (arith, room, widened_up (left - 1) (v * 256 + b + 1) ((v + 1) * 256) (omega arith));
      }

  pub leading_off : (m : List ℕ) → l ≡ [] → m ≡ [] → Leading k m (v * 256) (left - 1)
  leading_off m e f =
      record {
        goes-on = ap (lead_from (left - 1) (v * 256)) (f ∙ sym e) ∙ sym (lead_off (left - 1) v l e) ∙ ap (λ (n : ℕ). lead_from n v l) one ∙ w.goes-on;
        bytes = λ x. w.bytes (rw one at (bytes_off (left - 1) l e));
        small = omega (arith, room, widened_up (left - 1) (v * 256 + 1) ((v + 1) * 256) (omega arith));
      }

-- ---- leads in order

no_bytes : (n : ℕ) → KeyBytes n []
unfolding KeyBytes
no_bytes zero = tt
no_bytes (suc n) = tt

not_less : {P : Type 0} (k : List ℕ) → by_bytes k [] ≡ Less → P
unfolding by_bytes
not_less [] e = let z : ◌≡◌ {A = ℕ} 0 1 = cc in absurd (omega arith)
not_less (x ∷ k) e = let z : ◌≡◌ {A = ℕ} 0 1 = cc in absurd (omega arith)

-- where a lead is less, the key is
lead_less : (n : ℕ) (k l : List ℕ) (v w : ℕ) → KeyBytes n k → KeyBytes n l → lead_from n v k < lead_from n w l → (v < w) ⊎ ((v ≡ w) × (by_bytes k l ≡ Less))
unfolding lead_from KeyBytes by_bytes
lead_less zero k l v w f g h = inl h
lead_less (suc n) [] [] v w f g h = go (lead_less n [] [] (v * 256) (w * 256) (no_bytes n) (no_bytes n) h)
  where
    go : (v * 256 < w * 256) ⊎ ((v * 256 ≡ w * 256) × (by_bytes [] [] ≡ Less)) → (v < w) ⊎ ((v ≡ w) × (by_bytes [] [] ≡ Less))
    go (inl t) = inl (omega arith)
    go (inr t) = not_less [] t.1
lead_less (suc n) [] (b ∷ l) v w f g h = go (lead_less n [] l (v * 256) (w * 256 + b) (no_bytes n) g.1 h) (dec_lt v w)
  where
    go : (v * 256 < w * 256 + b) ⊎ ((v * 256 ≡ w * 256 + b) × (by_bytes [] l ≡ Less)) → Dec (v < w) → (v < w) ⊎ ((v ≡ w) × (by_bytes [] (b ∷ l) ≡ Less))
    go t (yes u) = inl u
    go (inl t) (no u) = inr (omega (arith, g.0), refl)
    go (inr t) (no u) = inr (omega (arith, g.0, t.0), refl)
lead_less (suc n) (a ∷ k) [] v w f g h = go (lead_less n k [] (v * 256 + a) (w * 256) f.1 (no_bytes n) h)
  where
    go : (v * 256 + a < w * 256) ⊎ ((v * 256 + a ≡ w * 256) × (by_bytes k [] ≡ Less)) → (v < w) ⊎ ((v ≡ w) × (by_bytes (a ∷ k) [] ≡ Less))
    go (inl t) = inl (omega arith)
    go (inr t) = not_less k t.1
lead_less (suc n) (a ∷ k) (b ∷ l) v w f g h = go (lead_less n k l (v * 256 + a) (w * 256 + b) f.1 g.1 h) (dec_lt v w)
  where
    go : (v * 256 + a < w * 256 + b) ⊎ ((v * 256 + a ≡ w * 256 + b) × (by_bytes k l ≡ Less)) → Dec (v < w) → (v < w) ⊎ ((v ≡ w) × (by_bytes (a ∷ k) (b ∷ l) ≡ Less))
    go t (yes u) = inl u
    go (inl t) (no u) = inr (omega (arith, f.0, g.0), rw (is_less a b (omega (arith, f.0, g.0))))
    go (inr t) (no u) = inr (omega (arith, f.0, g.0, t.0), rw (is_equal a b (omega (arith, f.0, g.0, t.0))) t.1)

key_less : (k l : List ℕ) → KeyBytes 6 k → KeyBytes 6 l → lead_from 6 0 k < lead_from 6 0 l → by_bytes k l ≡ Less
key_less k l f g h = go (lead_less 6 k l 0 0 f g h)
  where
    go : (0 < 0) ⊎ ((◌≡◌ {A = ℕ} 0 0) × (by_bytes k l ≡ Less)) → by_bytes k l ≡ Less
    go (inl t) = absurd (omega arith)
    go (inr t) = t.1

-- where two leads are equal, what follows them decides
lead_same : (n : ℕ) (k l : List ℕ) (v w : ℕ) → KeyBytes n k → KeyBytes n l → n ≤ length k → n ≤ length l → lead_from n v k ≡ lead_from n w l
    → (v ≡ w) × (by_bytes k l ≡ by_bytes (drop n k) (drop n l))
unfolding lead_from KeyBytes by_bytes
lead_same zero k l v w f g x y h = (h, refl)
lead_same (suc n) [] l v w f g x y h = absurd (omega arith)
lead_same (suc n) (a ∷ k) [] v w f g x y h = absurd (omega arith)
lead_same (suc n) (a ∷ k) (b ∷ l) v w f g x y h =
    let t = lead_same n k l (v * 256 + a) (w * 256 + b) f.1 g.1 (omega arith) (omega arith) h in
    (omega (arith, f.0, g.0, t.0), rw (is_equal a b (omega (arith, f.0, g.0, t.0))) t.1)

-- a lead whose last byte is not zero is of a key that is as long
zero_last : (n v : ℕ) → lead_from n (v * 256) [] % 256 ≡ 0
unfolding lead_from
zero_last zero v = mul-mod_left v 256
zero_last (suc n) v = zero_last n (v * 256)

lead_long : (n v : ℕ) (k : List ℕ) → (lead_from (suc n) v k % 256 ≡ 0 → ⊥) → suc n ≤ length k
unfolding lead_from
lead_long zero v [] h = absurd (h (zero_last zero v))
lead_long zero v (b ∷ k) h = omega arith
lead_long (suc n) v [] h = absurd (h (zero_last (suc n) v))
lead_long (suc n) v (b ∷ k) h = omega (arith, lead_long n (v * 256 + b) k h)

-- what a key has behind its first bytes begins behind them
long-head : (k : List ℕ) → 0 < length k → 0 < head_of k
long-head [] h = absurd (omega arith)
long-head (b ∷ k) h = omega arith

key-drop : (s : List ℕ) (n p : ℕ) → n ≤ length (key_at s p) → key_at s (p + n) ≡ drop n (key_at s p)
key-drop s zero p h = let e : p + zero ≡ p = omega arith in ap (key_at s) e
key-drop s (suc n) p h =
    let m = (key_more s p (long-head (key_at s p) (omega arith))).parts in
    let e : p + suc n ≡ p + 1 + n = omega arith in
    ap (key_at s) e ∙ key-drop s n (p + 1) (omega (arith, ap length m)) ∙ sym (ap (drop (suc n)) m)

module _ (s : List ℕ) (p q : ℕ) (f : KeyBytes 6 (key_at s p)) (g : KeyBytes 6 (key_at s q)) where
  abbrev x : ℕ
  x = lead_from 6 0 (key_at s p)

  abbrev y : ℕ
  y = lead_from 6 0 (key_at s q)

  behind : x ≡ y → by_key s p q ≡ by_bytes (key_at s (p + lead_told x)) (key_at s (q + lead_told y))
  unfolding lead_told
  behind e = go (eqb (x % 256) 0) (eqb (y % 256) 0) refl refl
    where
      go : (t u : Bool) → eqb (x % 256) 0 ≡ t → eqb (y % 256) 0 ≡ u → by_key s p q ≡ by_bytes (key_at s (p + pick t 0 6)) (key_at s (q + pick u 0 6))
      go true true h k = let a : p ≡ p + 0 = omega arith in let b : q ≡ q + 0 = omega arith in ap (λ (n : ℕ). by_key s n q) a ∙ ap (by_key s (p + 0)) b
      go true false h k = absurd (true≢false (sym h ∙ ap (λ (n : ℕ). eqb (n % 256) 0) e ∙ k))
      go false true h k = absurd (true≢false (sym k ∙ ap (λ (n : ℕ). eqb (n % 256) 0) (sym e) ∙ h))
      go false false h k =
          let m = lead_long 5 0 (key_at s p) (eqb-false _ _ h) in
          let n = lead_long 5 0 (key_at s q) (eqb-false _ _ k) in
          (lead_same 6 (key_at s p) (key_at s q) 0 0 f g m n e).1
          ∙ ap (λ (l : List ℕ). by_bytes l (drop 6 (key_at s q))) (sym (key-drop s 6 p m)) ∙ ap (by_bytes (key_at s (p + 6))) (sym (key-drop s 6 q n))

  -- so a lead before what it leaves of each of two keys changes nothing
  lead_first : by_key s p q ≡ by_bytes (x ∷ key_at s (p + lead_told x)) (y ∷ key_at s (q + lead_told y))
  unfolding by_bytes
  lead_first = go (dec_lt x y) (dec_lt y x)
    where
      go : Dec (x < y) → Dec (y < x) → by_key s p q ≡ by_bytes (x ∷ key_at s (p + lead_told x)) (y ∷ key_at s (q + lead_told y))
      go (yes h) d = rw (is_less x y h) (key_less (key_at s p) (key_at s q) f g h)
      go (no h) (yes d) = rw (is_greater x y d) (bytes_flip (key_at s q) (key_at s p) ∙ ap flip (key_less (key_at s q) (key_at s p) g f d))
      go (no h) (no d) = let e : x ≡ y = omega arith in rw (is_equal x y e) (behind e)

-- ---- packs

pub packed_is : (s : List ℕ) (p q t r : ℕ) → (q ≡ p) × (q < 65536) → Lead (key_at s q) r → t ≡ p → (r * 65536 + t ≡ packed s p) × Packable s p
unfolding packed
packed_is s p q t r e w f =
    let v : r ≡ lead_from 6 0 (key_at s p) = w.value ∙ ap (λ (n : ℕ). lead_from 6 0 (key_at s n)) e.0 in
    (omega arith, record { narrow = omega arith; bytes = rw e.0 at w.bytes })

module _ {s : List ℕ} {p : ℕ} (h : Packable s p) where
  lead_in : pack_lead (packed s p) ≡ lead_from 6 0 (key_at s p)
  unfolding packed
  lead_in = omega (arith, h.narrow)

  place_in : pack_place (packed s p) ≡ p
  unfolding packed
  place_in = omega (arith, h.narrow)

pack_key : (s : List ℕ) (p : ℕ) → Packable s p
    → pack_lead (packed s p) ∷ key_at s (pack_place (packed s p) + lead_told (pack_lead (packed s p))) ≡ lead_from 6 0 (key_at s p) ∷ key_at s (p + lead_told (lead_from 6 0 (key_at s p)))
pack_key s p f =
    ap (λ (l : ℕ). l ∷ key_at s (pack_place (packed s p) + lead_told l)) (lead_in f)
    ∙ ap (λ (n : ℕ). lead_from 6 0 (key_at s p) ∷ key_at s (n + lead_told (lead_from 6 0 (key_at s p)))) (place_in f)

pack_same : (s : List ℕ) (p q : ℕ) → Packable s p → Packable s q → by_key s p q ≡ by_pack s (packed s p) (packed s q)
pack_same s p q f g =
    lead_first s p q f.bytes g.bytes
    ∙ sym (ap (λ (k : List ℕ). by_bytes k (pack_lead (packed s q) ∷ key_at s (pack_place (packed s q) + lead_told (pack_lead (packed s q))))) (pack_key s p f)
    ∙ ap (by_bytes (lead_from 6 0 (key_at s p) ∷ key_at s (p + lead_told (lead_from 6 0 (key_at s p))))) (pack_key s q g))

pack_chain : (s : List ℕ) (x y z : ℕ) → Chain (by_pack s x y) (by_pack s y z) (by_pack s x z)
pack_chain s x y z =
    bytes_chain (pack_lead x ∷ key_at s (pack_place x + lead_told (pack_lead x))) (pack_lead y ∷ key_at s (pack_place y + lead_told (pack_lead y))) (pack_lead z ∷ key_at s (pack_place z + lead_told (pack_lead z)))

-- packs by their leads, and where these are equal by what follows in their keys
module _ (s : List ℕ) (x y : ℕ) where
  pack_less : pack_lead x < pack_lead y → by_pack s x y ≡ Less
  unfolding by_bytes
  pack_less h = rw (is_less (pack_lead x) (pack_lead y) h)

  pack_greater : pack_lead y < pack_lead x → by_pack s x y ≡ Greater
  unfolding by_bytes
  pack_greater h = rw (is_greater (pack_lead x) (pack_lead y) h)

  pub pack_keys : (d : ℕ) → d ≡ lead_told (pack_lead x) → pack_lead x ≡ pack_lead y → by_pack s x y ≡ by_key s (pack_place x + d) (pack_place y + d)
  unfolding by_bytes
  pack_keys d e h =
      rw (is_equal (pack_lead x) (pack_lead y) h)
      (ap (λ (n : ℕ). by_key s (pack_place x + n) (pack_place y + lead_told (pack_lead y))) (sym e)
      ∙ ap (λ (n : ℕ). by_key s (pack_place x + d) (pack_place y + n)) (ap lead_told (sym h) ∙ sym e))

abbrev step : ℕ → ℕ → ℕ → MergeStep
step l r v = record { left = l; right = r; value = v }

-- the step where leads differ, reckoned from which number is less
pub apart : (s : List ℕ) (x y : ℕ) → (pack_lead x ≡ pack_lead y → ⊥) → (t v : ℕ) → (x < y → t ≡ 1) × (y ≤ x → t ≡ 0) × (t ≤ 1) → v ≡ min x y
    → (record { left = t; right = 1 - t; value = v } ≡ step_of (by_pack s x y) x y) × (t ≤ 1) × (1 - t ≤ 1) × (1 ≤ t + (1 - t))
apart s x y n t v b e = go (dec_lt x y)
  where
    same : {l r w l' r' w' : ℕ} → l ≡ l' → r ≡ r' → w ≡ w' → step l r w ≡ step l' r' w'
    same p q u = rw (p, q, u)

    go : Dec (x < y) → (step t (1 - t) v ≡ step_of (by_pack s x y) x y) × (t ≤ 1) × (1 - t ≤ 1) × (1 ≤ t + (1 - t))
    go (yes h) =
        let k : t ≡ 1 = b.0 h in
        (same k (omega arith) (omega arith) ∙ ap (λ (o : Ordering). step_of o x y) (sym (pack_less s x y (omega arith))), omega arith, omega arith, omega arith)
    go (no h) =
        let k : t ≡ 0 = b.1 (omega arith) in
        let m : pack_lead y < pack_lead x = omega (arith, n) in
        (same k (omega arith) (omega arith) ∙ ap (λ (o : Ordering). step_of o x y) (sym (pack_greater s x y m)), omega arith, omega arith, omega arith)

pub packs-length : (s ps : List ℕ) → length (packs s ps) ≤ length ps
unfolding packs
packs-length s ps = omega (arith, enter_all-length (by_pack s) [] (map (packed s) ps), length-map ps (packed s))

-- any split of the places will do
pub packs_halves : (s xs ys : List ℕ) → packs s (xs ++ ys) ≡ merge (by_pack s) (packs s xs) (packs s ys)
unfolding packs
packs_halves s xs ys = ap (enter_all (by_pack s) []) (map-append (packed s) xs ys) ∙ enter_all_halves (by_pack s) (pack_chain s) (map (packed s) xs) (map (packed s) ys)

-- ---- what is kept of packs, unpacked

module _ (s : List ℕ) where
  enter-packed : (l : List ℕ) (p : ℕ) → All (Packable s) l → Packable s p → map (packed s) (enter (by_key s) l p) ≡ enter (by_pack s) (map (packed s) l) (packed s p)
  unfolding enter
  enter-packed [] p none g = refl
  enter-packed (x ∷ l) p (next f h) g = go (by_key s x p) (by_pack s (packed s x) (packed s p)) (pack_same s x p f g) (enter-packed l p h g)
    where
      go : (q r : Ordering) → q ≡ r → map (packed s) (enter (by_key s) l p) ≡ enter (by_pack s) (map (packed s) l) (packed s p)
          → map (packed s) (on_order q (x ∷ enter (by_key s) l p) (p ∷ l) (p ∷ x ∷ l))
          ≡ on_order r (packed s x ∷ enter (by_pack s) (map (packed s) l) (packed s p)) (packed s p ∷ map (packed s) l) (packed s p ∷ packed s x ∷ map (packed s) l)
      go Less r e k = rw (← e, k)
      go Equal r e k = rw (← e)
      go Greater r e k = rw (← e)

  all-packed : (l ps : List ℕ) → All (Packable s) l → All (Packable s) ps → map (packed s) (enter_all (by_key s) l ps) ≡ enter_all (by_pack s) (map (packed s) l) (map (packed s) ps)
  unfolding enter_all
  all-packed l [] h none = refl
  all-packed l (p ∷ ps) h (next f g) =
      all-packed (enter (by_key s) l p) ps (enter-all (by_key s) (Packable s) l p h f) g
      ∙ ap (λ (k : List ℕ). enter_all (by_pack s) k (map (packed s) ps)) (enter-packed l p h f)

  places_in : (ps : List ℕ) → All (Packable s) ps → map pack_place (map (packed s) ps) ≡ ps
  places_in [] none = refl
  places_in (p ∷ ps) (next f g) = rw (place_in f, places_in ps g)

  pub unpacked : (ps : List ℕ) → All (Packable s) ps → map pack_place (packs s ps) ≡ kept s ps
  unfolding packs kept
  unpacked ps h = ap (map pack_place) (sym (all-packed [] ps none h)) ∙ places_in (enter_all (by_key s) [] ps) (kept-all s ps (Packable s) h)
