-- Where a search through lines ends: it goes past each line before that, and the line there, if there is one, ends it.
--     Passes                           a search, told line by line
--     above-passes, below-passes, before-passes     the lines that start above j; that do not start below s; that hang on no line before line k
--     Leads, leads                     where it ends
--     Runs, behind                     the same of the lines from line k on, by their numbers among all
-- Assumes nothing.
use Prim.Native.Nat.{ℕ, zero, suc, ◌+◌, ◌-◌, ◌≤◌, ◌<◌}
use native.Mathlib.Omega.{arith}
use native.Mathlib.Decide.{dec_le, dec_lt}
use mathlib.Core.Path.{◌≡◌, refl, sym, ap, ◌∙◌, subst}
use mathlib.Core.Bool.{Bool}
use mathlib.Core.List.{List, [], ◌∷◌}
use lib.ListN.{length, get_or, drop, length-drop}
use lib.Seq.{get_or-drop}
use borrow.Author.Tests.{le-leb, lt-leb}
use Rattle.lists.specs.Pick.{pick}
use Rattle.jkf.specs.Model.{Line}
use Rattle.jkf.specs.Attaching.{Play}
use Rattle.jkf.specs.Trees.{not_before}
use Rattle.edit.specs.Edit.{above, not_below}

-- ---- a search

-- h counts what it goes past, up to the first that ends it
pub record Passes {A : Type 0} (past ends : A → Type 0) (h : List A → ℕ) : Type 0 where
  pub none : h [] ≡ 0
  pub first : (x : A) (xs : List A) → past x → h (x ∷ xs) ≡ suc (h xs)
  pub stop : (x : A) (xs : List A) → ends x → h (x ∷ xs) ≡ 0
  pub side : (x : A) → Dec (ends x)
  pub goes : (x : A) → (ends x → ⊥) → past x

pub above_passes : (j : ℕ) → Passes (λ (p : Play). j < p.start) (λ (p : Play). p.start ≤ j) (above j)
unfolding above
above_passes j =
    record {
      none = refl;
      first = λ p ps l. ap (λ (t : Bool). pick t 0 (suc (above j ps))) (lt-leb p.start j l);
      stop = λ p ps l. ap (λ (t : Bool). pick t 0 (suc (above j ps))) (le-leb p.start j l);
      side = λ p. dec_le p.start j;
      goes = λ p n. omega (arith, n);
    }

pub below_passes : (s : ℕ) → Passes (λ (p : Play). s ≤ p.start) (λ (p : Play). p.start < s) (not_below s)
unfolding not_below
below_passes s =
    record {
      none = refl;
      first = λ p ps l. rw (le-leb s p.start l);
      stop = λ p ps l. rw (lt-leb s p.start l);
      side = λ p. dec_lt p.start s;
      goes = λ p n. omega (arith, n);
    }

pub before_passes : (k : ℕ) → Passes (λ (l : Line). k ≤ l.parent) (λ (l : Line). l.parent < k) (not_before k)
unfolding not_before
before_passes k =
    record {
      none = refl;
      first = λ l ls h. rw (le-leb k l.parent h);
      stop = λ l ls h. rw (lt-leb k l.parent h);
      side = λ l. dec_lt l.parent k;
      goes = λ l n. omega (arith, n);
    }

-- ---- where it ends

-- it goes past the first n of these, and the next one ends it
pub record Leads {A : Type 0} (d : A) (past ends : A → Type 0) (xs : List A) (n : ℕ) : Type 0 where
  pub within : n ≤ length xs
  pub each : (i : ℕ) → i < n → past (get_or xs i d)
  pub next : n < length xs → ends (get_or xs n d)

module _ {A : Type 0} (d : A) {past ends : A → Type 0} where
  lead_none : Leads d past ends [] 0
  lead_none = record { within = omega arith; each = λ i h. absurd (omega arith); next = λ h. absurd (omega arith) }

  lead_stop : (x : A) (xs : List A) → ends x → Leads d past ends (x ∷ xs) 0
  lead_stop x xs h = record { within = omega arith; each = λ i l. absurd (omega arith); next = λ l. h }

  lead_more : (x : A) (xs : List A) (n : ℕ) → past x → Leads d past ends xs n → Leads d past ends (x ∷ xs) (suc n)
  lead_more x xs n h r = record { within = omega (arith, r.within); each = each; next = λ l. r.next (omega arith) }
    where
      each : (i : ℕ) → i < suc n → past (get_or (x ∷ xs) i d)
      each zero l = h
      each (suc i) l = r.each i (omega arith)

  pub leads : {h : List A → ℕ} → Passes past ends h → (xs : List A) → Leads d past ends xs (h xs)
  leads w [] = subst (Leads d past ends []) (sym w.none) lead_none
  leads {h} w (x ∷ xs) = go (w.side x) (leads w xs)
    where
      go : Dec (ends x) → Leads d past ends xs (h xs) → Leads d past ends (x ∷ xs) (h (x ∷ xs))
      go (yes e) r = subst (Leads d past ends (x ∷ xs)) (sym (w.stop x xs e)) (lead_stop x xs e)
      go (no e) r = let p = w.goes x e in subst (Leads d past ends (x ∷ xs)) (sym (w.first x xs p)) (lead_more x xs (h xs) p r)

-- ---- of the lines from line k on

pub record Runs {A : Type 0} (d : A) (past ends : A → Type 0) (xs : List A) (k n : ℕ) : Type 0 where
  pub within : k + n ≤ length xs
  pub each : (i : ℕ) → k ≤ i → i < k + n → past (get_or xs i d)
  pub next : k + n < length xs → ends (get_or xs (k + n) d)

pub behind : {A : Type 0} (d : A) {past ends : A → Type 0} {h : List A → ℕ} → Passes past ends h → (xs : List A) (k : ℕ) → k ≤ length xs
    → Runs d past ends xs k (h (drop k xs))
behind {A} d {past} {ends} {h} w xs k l = record { within = omega (arith, length-drop k xs, r.within); each = each; next = next }
  where
    r : Leads d past ends (drop k xs) (h (drop k xs))
    r = leads d w (drop k xs)

    each : (i : ℕ) → k ≤ i → i < k + h (drop k xs) → past (get_or xs i d)
    each i a b =
        let e : k + (i - k) ≡ i = omega arith in
        subst past (get_or-drop k xs (i - k) d ∙ ap (λ (q : ℕ). get_or xs q d) e) (r.each (i - k) (omega arith))

    next : k + h (drop k xs) < length xs → ends (get_or xs (k + h (drop k xs)) d)
    next b = subst ends (get_or-drop k xs (h (drop k xs)) d) (r.next (omega (arith, length-drop k xs)))
