-- Laws of characters that are passed one after another: padding, and UTF-8.
-- Assumes nothing.
use Prim.Native.Nat.{ℕ, ◌+◌, ◌≤◌, ◌<◌, max}
use native.Mathlib.Omega.{arith}
use mathlib.Core.Path.{◌≡◌, refl, sym, ap, ◌∙◌}
use mathlib.Core.List.{List}
use mathlib.Core.Bool.{false}
use lib.ListN.{length, get_or}
use lib.Dec.{eqb, ltb}
use borrow.Author.Tests.{ltb-true, eqb-true, eqb-false, eq-eqb, ne_eqb}
use Rattle.lists.specs.Pick.{pick}
use Rattle.lists.specs.Repeat.{Step, more, stop, Ended}
use Rattle.lists.proofs.Laws.{class_in, in_list, by_pick}
use Rattle.lists.proofs.Repeats.{Goes, repeat_more, repeat_stop}
use Rattle.text.specs.Text.{stands_at, wide_space, pad_width, width_step, past_all}
use Rattle.text.specs.Utf8.{size_of, lowest_of, highest_of, second_of, is_next, char_width}
use Rattle.text.proofs.Laws.{stands_fits}

-- every character ends in the text
abbrev pub Within : (List ℕ → ℕ → ℕ) → Type 0
Within w = (s : List ℕ) (at : ℕ) → at + w s at ≤ max at (length s)

width_goes : (w : List ℕ → ℕ → ℕ) → Within w → (s : List ℕ) → Goes (width_step (w s)) (length s)
width_goes w h s at a at' a' =
    by_pick (λ (r : Step (Unit {0})). r ≡ more at' a' → (at < at') × (at' ≤ length s)) (eqb (w s at) 0) stop (more (at + w s at) a)
    (λ z q. let n : ◌≡◌ {A = ℕ} 0 1 = cc in absurd (omega arith))
    (λ z q. let n : at + w s at ≡ at' = cc in
    let p : w s at ≡ 0 → ⊥ = eqb-false _ _ z in
    (omega arith, omega (arith, h s at)))

module _ (w : List ℕ → ℕ → ℕ) (s : List ℕ) (at : ℕ) where
  -- no character stands here
  pub past_stop : w s at ≡ 0 → past_all w s at ≡ at
  unfolding past_all
  past_stop h = ap (λ (e : Ended (Unit {0})). e.at) (repeat_stop (width_step (w s)) (length s) at tt (rw (eq-eqb _ _ h)))

  -- one does
  pub past_more : Within w → (w s at ≡ 0 → ⊥) → past_all w s at ≡ past_all w s (at + w s at)
  unfolding past_all
  past_more i h = ap (λ (e : Ended (Unit {0})). e.at) (repeat_more (width_step (w s)) (length s) (width_goes w i s) at tt (at + w s at) tt (rw (ne_eqb _ _ h)))

-- a turn of the loop that passes them: n is the width that the code measured, and it is not 0
pub record Turn (w : List ℕ → ℕ → ℕ) (s : List ℕ) (at n : ℕ) : Type 0 where
  pub on : at < at + n
  pub within : at + n ≤ length s
  pub same : past_all w s at ≡ past_all w s (at + n)

pub turn : (w : List ℕ → ℕ → ℕ) → Within w → (s : List ℕ) (at n : ℕ) → n ≡ w s at → (n ≡ 0 → ⊥) → Turn w s at n
turn w i s at n e h =
    let z : w s at ≡ 0 → ⊥ = λ q. h (e ∙ q) in
    record {
      on = omega arith;
      within = omega (arith, i s at);
      same = past_more w s at i z ∙ ap (λ (m : ℕ). past_all w s (at + m)) (sym e);
    }

-- ---- padding

pub pad_within : Within pad_width
unfolding pad_width
pad_within s at =
    by_pick P (eqb (get_or s at 0) 32) 1 (pick (stands_at wide_space s at) 3 0)
    (λ h. omega (arith, in_list s at (omega (arith, eqb-true (get_or s at 0) 32 h))))
    (λ h. by_pick P (stands_at wide_space s at) 3 0 (λ t. stands_fits wide_space s at t) (λ t. omega arith))
  where
    P : ℕ → Type 0
    P n = at + n ≤ max at (length s)

-- ---- UTF-8

pub next_zero : is_next 0 ≡ false
unfolding is_next
next_zero = refl

-- no second byte, and no later one, is 0
second_zero : (b : ℕ) → second_of b 0 ≡ false
unfolding second_of lowest_of
second_zero b =
    by_pick P (eqb b 224) 160 (pick (eqb b 240) 144 128) (λ e. refl) (λ e. by_pick P (eqb b 240) 144 128 (λ e. refl) (λ e. refl))
  where
    P : ℕ → Type 0
    P n = pick (ltb 0 n) false (ltb 0 (highest_of b)) ≡ false

pub char_within : Within char_width
unfolding char_width
char_within s at =
    by_pick P (ltb at (length s)) _ 0
    (λ h. by_pick P (ltb n 2) n _ (λ e. omega (arith, ltb-true at (length s) h, ltb-true n 2 e))
    (λ e. by_pick P (second_of (get_or s at 0) (get_or s (at + 1) 0)) _ 0
    (λ e₁. by_pick P (eqb n 2) 2 _ (λ _. omega (arith, class_in (second_of (get_or s at 0)) s (at + 1) (second_zero _) e₁))
    (λ _. by_pick P (is_next (get_or s (at + 2) 0)) _ 0
    (λ e₂. by_pick P (eqb n 3) 3 _ (λ _. omega (arith, class_in is_next s (at + 2) next_zero e₂))
    (λ _. by_pick P (is_next (get_or s (at + 3) 0)) 4 0 (λ e₃. omega (arith, class_in is_next s (at + 3) next_zero e₃)) (λ _. omega arith)))
    (λ _. omega arith)))
    (λ _. omega arith)))
    (λ _. omega arith)
  where
    n : ℕ
    n = size_of (get_or s at 0)

    P : ℕ → Type 0
    P w = at + w ≤ max at (length s)
