-- Buffers that are copied to, merged into, sorted into and cleared.
-- Assumes nothing.
use Prim.Native.Nat.{ℕ, ◌+◌, ◌-◌, ◌≤◌, ◌<◌, zero-le}
use native.Mathlib.Numerals.{add-one}
use native.Mathlib.Omega.{arith}
use mathlib.Core.Path.{◌≡◌, refl, sym, ap, ◌∙◌}
use mathlib.Core.List.{List, [], ◌∷◌, ◌++◌, map, append_assoc}
use lib.ListN.{length, get_or, drop, take, set, drop_of_length-le, length-drop, length-take, length-append, length-set, take-append-drop, replicate, length-map, get_or-map}
use lib.Seq.{set_at, take-suc, length-take-le, take-suc-set, take_all, take_at, append_snoc, take-append-le, take-take, drop_at, get_or-take}
use borrow.Author.Tests.{le-ltb}
use borrow.Rule.Slice.PartMut.{put_mid}
use Rattle.lists.specs.All.{All, none, next}
use Rattle.lists.proofs.Laws.{drop_step}
use Rattle.std.specs.declared.cmp.Ordering.{Ordering}
use Rattle.std.specs.declared.cmp.Ordering.TheVariants.{Less, Equal, Greater}
use Rattle.sorted.specs.declared.MergeStep.{MergeStep}
use Rattle.sorted.specs.Sorted.{enter, enter_all, kept, kept_count, kept_buffer}
use Rattle.sorted.specs.inner.Orders.{merge, Leads}
use Rattle.sorted.specs.inner.Packs.{packed, pack_place, by_pack, Packable, packs, Packs, step_of}
use Rattle.sorted.proofs.Merges.{merge_nil, less, equal, greater}
use Rattle.sorted.proofs.Packs.{packs-length, packs_halves, unpacked}

-- ---- copying

pub copy_more : (f o₀ o : List ℕ) (i : ℕ) → length f ≤ length o₀ → i < length f → o ≡ take i f ++ drop i o₀
    → set o i (get_or f i 0) ≡ take (i + 1) f ++ drop (i + 1) o₀
copy_more f o₀ o i h k e =
    let n : length (take i f) ≡ i = length-take-le i f (omega arith) in
    let d : drop i o₀ ≡ get_or o₀ i 0 ∷ drop (i + 1) o₀ = drop_step o₀ i (omega arith) in
    let t : take (i + 1) f ≡ take i f ++ (get_or f i 0 ∷ []) = ap (λ (m : ℕ). take m f) (add-one i) ∙ take-suc f i 0 k in
    ap (λ (l : List ℕ). set l i (get_or f i 0)) (e ∙ ap (λ (l : List ℕ). take i f ++ l) d)
    ∙ set_at (take i f) (get_or o₀ i 0) (drop (i + 1) o₀) (get_or f i 0) i n
    ∙ sym (append_snoc (take i f) (get_or f i 0) (drop (i + 1) o₀)) ∙ ap (λ (l : List ℕ). l ++ drop (i + 1) o₀) (sym t)

-- the part of a list from a place to its end
rest : (o : List ℕ) (n : ℕ) → take (length o - n) (drop n o) ≡ drop n o
rest o n = take_all (length o - n) (drop n o) (simp length-drop (omega arith))

-- ---- merging

-- what stands in the buffer, and what is left of both runs
pub record Merging (o : ℕ → ℕ → Ordering) (a b out : List ℕ) (i j k : ℕ) : Type 0 where
  pub i_in : i ≤ length a
  pub j_in : j ≤ length b
  pub k_in : k ≤ i + j
  pub room : length a + length b ≤ length out
  pub made : merge o a b ≡ take k out ++ merge o (drop i a) (drop j b)

pub merging_start : (o : ℕ → ℕ → Ordering) (a b out : List ℕ) → length a + length b ≤ length out → Merging o a b out 0 0 0
merging_start o a b out h = record { i_in = zero-le; j_in = zero-le; k_in = zero-le; room = h; made = refl }

one-more : (l out m m' : List ℕ) (k v : ℕ) → k < length out → l ≡ take k out ++ m → m ≡ v ∷ m' → l ≡ take (k + 1) (set out k v) ++ m'
one-more l out m m' k v h e f =
    let t : take (k + 1) (set out k v) ≡ take k out ++ (v ∷ []) = ap (λ (n : ℕ). take n (set out k v)) (add-one k) ∙ take-suc-set out k v h in
    e ∙ ap (λ (x : List ℕ). take k out ++ x) f ∙ sym (append_snoc (take k out) v m') ∙ ap (λ (x : List ℕ). x ++ m') (sym t)

module _ {o : ℕ → ℕ → Ordering} {a b out : List ℕ} {i j k : ℕ} (w : Merging o a b out i j k) where
  merging_more : (v i' j' : ℕ) → i' ≤ length a → j' ≤ length b → i + j < i' + j' → merge o (drop i a) (drop j b) ≡ v ∷ merge o (drop i' a) (drop j' b)
      → Merging o a b (set out k v) i' j' (k + 1)
  merging_more v i' j' g h n e =
      record {
        i_in = g;
        j_in = h;
        k_in = omega (arith, w.k_in);
        room = omega (arith, w.room, length-set out k v);
        made = one-more _ out _ _ k v (omega (arith, w.k_in, w.room)) w.made e;
      }

  -- the step that the first of what is left of both runs asks for
  pub merging_step : (x y : ℕ) (t : MergeStep) → i < length a → j < length b → x ≡ get_or a i 0 → y ≡ get_or b j 0 → t ≡ step_of (o x y) x y
      → Merging o a b (set out k t.value) (i + t.left) (j + t.right) (k + 1)
  merging_step x y t h g e f q = rw q (go (o x y) refl)
    where
      d : drop i a ≡ x ∷ drop (i + 1) a
      d = drop_step a i h ∙ ap (λ (v : ℕ). v ∷ drop (i + 1) a) (sym e)

      d' : drop j b ≡ y ∷ drop (j + 1) b
      d' = drop_step b j g ∙ ap (λ (v : ℕ). v ∷ drop (j + 1) b) (sym f)

      plus_zero : (n : ℕ) → n ≡ n + 0
      plus_zero n = omega arith

      go : (p : Ordering) → o x y ≡ p → Merging o a b (set out k (step_of p x y).value) (i + (step_of p x y).left) (j + (step_of p x y).right) (k + 1)
      go Less r = merging_more x (i + 1) (j + 0) (omega arith) (omega arith) (omega arith) (less o d d' r ∙ ap (λ (m : ℕ). x ∷ merge o (drop (i + 1) a) (drop m b)) (plus_zero j))
      go Equal r = merging_more y (i + 1) (j + 1) (omega arith) (omega arith) (omega arith) (equal o d d' r)
      go Greater r = merging_more y (i + 0) (j + 1) (omega arith) (omega arith) (omega arith) (greater o d d' r ∙ ap (λ (m : ℕ). y ∷ merge o (drop m a) (drop (j + 1) b)) (plus_zero i))

  pub left_b : i ≡ length a → merge o a b ≡ take k out ++ take (length b - j) (drop j b)
  unfolding merge
  left_b e = w.made ∙ ap (λ (l : List ℕ). take k out ++ merge o l (drop j b)) (drop_of_length-le a {i = i} (omega arith)) ∙ ap (λ (l : List ℕ). take k out ++ l) (sym (rest b j))

  pub left_a : j ≡ length b → merge o a b ≡ take k out ++ take (length a - i) (drop i a)
  left_a e =
      w.made ∙ ap (λ (l : List ℕ). take k out ++ merge o (drop i a) l) (drop_of_length-le b {i = j} (omega arith))
      ∙ ap (λ (l : List ℕ). take k out ++ l) (merge_nil o (drop i a) ∙ sym (rest a i))

-- the rest is copied behind what stands there
pub leads-then : (l o m p d : List ℕ) (k r : ℕ) → k ≤ length o → l ≡ take k o ++ m → r ≡ length m → p ≡ m ++ d → Leads l (put_mid k (length o - k) o p) (k + r)
leads-then l o m p d k r h e f g =
    let n : length (take k o) ≡ k = length-take-le k o h in
    let z : List ℕ = drop (length o - k) (drop k o) in
    let c : length (take k o ++ m) ≡ k + r = omega (arith, length-append (take k o) m) in
    let s : put_mid k (length o - k) o p ≡ (take k o ++ m) ++ (d ++ z)
    = ap (λ (x : List ℕ). take k o ++ (x ++ z)) g ∙ ap (λ (x : List ℕ). take k o ++ x) (append_assoc m d z) ∙ sym (append_assoc (take k o) m (d ++ z)) in
    record {
      count = sym c ∙ ap length (sym e);
      front = ap (take (k + r)) s ∙ take_at (take k o ++ m) (d ++ z) (k + r) c ∙ sym e;
      fits = omega (arith, ap length s, length-append (take k o ++ m) (d ++ z));
    }

-- ---- sorting: none, one, and two halves

pub packs-none : (s f o : List ℕ) → length f ≡ 0 → Packs s f o 0
unfolding packs enter_all
packs-none s [] o e = record { leads = record { count = refl; front = refl; fits = zero-le }; each = none }
packs-none s (x ∷ f) o e = absurd (omega arith)

pub packs-one : (s f o : List ℕ) (v : ℕ) → length f ≡ 1 → 1 ≤ length o → (v ≡ packed s (get_or f 0 0)) × Packable s (get_or f 0 0) → Packs s f (set o 0 v) 1
unfolding packs enter_all enter
packs-one s [] o v e h p = absurd (omega arith)
packs-one s (x ∷ []) [] v e h p = absurd (omega arith)
packs-one s (x ∷ []) (y ∷ o) v e h p = record { leads = record { count = refl; front = ap (λ (v : ℕ). v ∷ []) p.0; fits = h }; each = next p.1 none }
packs-one s (x ∷ y ∷ f) o v e h p = absurd (omega arith)

as_leads : {l l' o : List ℕ} {n : ℕ} → l ≡ l' → Leads l o n → Leads l' o n
as_leads e w = rw e at w

all_both : {P : ℕ → Type 0} (l m : List ℕ) → All P l → All P m → All P (l ++ m)
all_both [] m none h = h
all_both (x ∷ l) m (next a g) h = next a (all_both l m g h)

pub packs_in : {s ps o : List ℕ} {r : ℕ} → Packs s ps o r → r ≤ length ps
packs_in {s} {ps} w = omega (arith, w.leads.count, packs-length s ps)

-- the first h places of f sorted into the front of t, and the others into the front of p
pub record Halves (s f t p : List ℕ) (i j h : ℕ) : Type 0 where
  pub first : Packs s (take h f) t i
  pub second : Packs s (take (length f - h) (drop h f)) p j
  pub in_places : h ≤ length f
  pub in_scratch : h ≤ length t

module _ {s f t p : List ℕ} {i j h : ℕ} (w : Halves s f t p i j h) where
  pub first_in : i ≤ h
  first_in = omega (arith, packs_in w.first, length-take h f)

  pub second_in : h + j ≤ length f
  second_in = omega (arith, w.in_places, packs_in w.second, length-take (length f - h) (drop h f), length-drop h f)

  whole : take h f ++ take (length f - h) (drop h f) ≡ f
  whole = ap (λ (x : List ℕ). take h f ++ x) (rest f h) ∙ take-append-drop h f

  pub packs_two : {o : List ℕ} {r : ℕ}
      → Leads (merge (by_pack s) (take i (put_mid h (length t - h) t p)) (take (h + j - h) (drop h (put_mid h (length t - h) t p)))) o r → Packs s f o r
  packs_two {o} {r} v =
      let z = drop (length t - h) (drop h t) in
      let n : length (take h t) ≡ h = length-take-le h t w.in_scratch in
      let c : h + j - h ≡ j = omega arith in
      let e₁ : take i (take h t ++ (p ++ z)) ≡ packs s (take h f)
      = take-append-le i (take h t) (p ++ z) (omega (arith, first_in)) ∙ take-take i h t first_in ∙ w.first.leads.front in
      let e₂ : take (h + j - h) (drop h (take h t ++ (p ++ z))) ≡ packs s (take (length f - h) (drop h f))
      = ap (λ (m : ℕ). take m (drop h (take h t ++ (p ++ z)))) c ∙ ap (take j) (drop_at (take h t) (p ++ z) h n) ∙ take-append-le j p z w.second.leads.fits ∙ w.second.leads.front in
      record {
        leads = as_leads (
            ap (λ (x : List ℕ). merge (by_pack s) x (take (h + j - h) (drop h (take h t ++ (p ++ z))))) e₁ ∙ ap (merge (by_pack s) (packs s (take h f))) e₂
            ∙ sym (packs_halves s (take h f) (take (length f - h) (drop h f))) ∙ ap (packs s) whole
            ) v;
        each = rw whole at (all_both (take h f) (take (length f - h) (drop h f)) w.first.each w.second.each);
      }

-- ---- unpacking

pub unpack_more : (u o₀ o : List ℕ) (n i : ℕ) → n ≤ length u → n ≤ length o₀ → i < n → o ≡ take i (map pack_place (take n u)) ++ drop i o₀
    → set o i (pack_place (get_or u i 0)) ≡ take (i + 1) (map pack_place (take n u)) ++ drop (i + 1) o₀
unpack_more u o₀ o n i h g k e =
    let m : length (map pack_place (take n u)) ≡ n = length-map (take n u) pack_place ∙ length-take-le n u h in
    let d : get_or (map pack_place (take n u)) i 0 ≡ pack_place (get_or u i 0) = get_or-map pack_place (take n u) i 0 ∙ ap pack_place (get_or-take n u i 0 k) in
    ap (set o i) (sym d) ∙ copy_more (map pack_place (take n u)) o₀ o i (omega arith) (omega arith) e

pub unpacked_leads : (s ps u o o' : List ℕ) (r : ℕ) → Packs s ps u r → r ≤ length o → o' ≡ map pack_place (take r u) ++ drop r o → Leads (kept s ps) o' r
unpacked_leads s ps u o o' r w h e =
    let k : map pack_place (take r u) ≡ kept s ps = ap (map pack_place) w.leads.front ∙ unpacked s ps w.each in
    let m : length (map pack_place (take r u)) ≡ r = length-map (take r u) pack_place ∙ length-take-le r u w.leads.fits in
    record {
      count = sym m ∙ ap length k;
      front = ap (take r) e ∙ take_at (map pack_place (take r u)) (drop r o) r m ∙ k;
      fits = omega (arith, ap length e, length-append (map pack_place (take r u)) (drop r o));
    }

-- ---- zeros behind

-- what was sorted, with zeros behind it, is what is promised
pub sorted_is : (s ps o o' out : List ℕ) (r : ℕ) → length ps ≤ 13107 → length ps ≤ length o → length o' ≡ length o
    → Leads (kept s ps) o' r → out ≡ take r o' ++ replicate (length o' - r) 0 → (r ≡ kept_count s ps o) × (out ≡ kept_buffer s ps o)
unfolding kept_count kept_buffer
sorted_is s ps o o' out r h g e w f =
    let n : length o' - r ≡ length o - length (kept s ps) = omega (arith, w.count) in
    simp (le-ltb 13107 (length ps) h, le-ltb (length o) (length ps) g)
    (w.count, f ∙ ap (λ (x : List ℕ). x ++ replicate (length o' - r) 0) w.front ∙ ap (λ (m : ℕ). kept s ps ++ replicate m 0) n)
