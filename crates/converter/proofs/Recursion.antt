-- The text of the lines is the Rust's recursion: a line writes its variations, and each of those is a line again.
--     line-text        the text of a line and of all that hangs from it is its own, then those of the lines on it
--     whole-text       the text of all lines that are shown is that recursion from line 0 on
-- Assumes nothing.
use Prim.Native.Nat.{ℕ, zero, suc, ◌+◌, ◌-◌, ◌≤◌, ◌<◌}
use native.Mathlib.Omega.{arith}
use native.Mathlib.Decide.{dec_lt}
use mathlib.Core.Path.{◌≡◌, refl, sym, ap, ◌∙◌, subst}
use mathlib.Core.Bool.{Bool, true, false}
use mathlib.Core.List.{List, [], ◌∷◌, ◌++◌, append-nil}
use lib.Dec.{eqb}
use borrow.Author.Tests.{eq-eqb, ne_eqb}
use Rattle.lists.specs.Pick.{pick}
use Rattle.jkf.specs.Model.{Line}
use Rattle.jkf.specs.Trees.{itself, through, not_before}
use Rattle.jkf.proofs.Chains.{from_then}
use Rattle.jkf.proofs.Branching.{Branched}
use Rattle.jkf.proofs.Reaching.{Reaches, reach_is, after_run}
use Rattle.block.specs.Encode.{concat}
use Rattle.block.specs.Decode.{run, decode, start_of, entry_count, line_in}
use Rattle.block.proofs.Tabling.{concat-none}
use Rattle.block.proofs.Hanging.{sound_branched}
use Rattle.converter.specs.declared.Mode.{Mode}
use Rattle.converter.specs.Said.{said_line, said_lines}
use Rattle.converter.specs.Show.{number_line, main_text, variation_text, lines_text}
use Rattle.converter.specs.inner.Branches.{lines_on, variations_on, reach_of, line_text}
use Rattle.block.specs.inner.Sounds.{Sound}
use Rattle.converter.specs.inner.Lines.{line_said, ShownLines}
use Rattle.converter.proofs.Runs.{concat-first, concat-cut}
use Rattle.converter.proofs.Branches.{before-all, line_reaches, branched_front}
use Rattle.converter.proofs.Playing.{lines-text}

-- ---- the lines on a line

module _ (f : ℕ → Line) (p : ℕ) where
  on_none : (x : ℕ) → lines_on f p x 0 ≡ []
  unfolding lines_on
  on_none x = refl

  on-first : (x m : ℕ) → (f x).parent ≡ p → lines_on f p x (suc m) ≡ x ∷ lines_on f p (x + 1) m
  unfolding lines_on
  on-first x m e = rw (eq-eqb _ _ e)

  on-other : (x m : ℕ) → ((f x).parent ≡ p → ⊥) → lines_on f p x (suc m) ≡ lines_on f p (x + 1) m
  unfolding lines_on
  on-other x m e = rw (ne_eqb _ _ e)

  on_no : (m x : ℕ) → ((i : ℕ) → x ≤ i → i < x + m → (f i).parent ≡ p → ⊥) → lines_on f p x m ≡ []
  on_no zero x h = on_none x
  on_no (suc m) x h = on-other x m (h x (omega arith) (omega arith)) ∙ on_no m (x + 1) (λ i a b. h i (omega arith) (omega arith))

  on_both : (a x b : ℕ) → lines_on f p x (a + b) ≡ lines_on f p x a ++ lines_on f p (x + a) b
  unfolding lines_on
  on_both zero x b =
      let e : 0 + b ≡ b = omega arith in
      let z : x ≡ x + 0 = omega arith in
      ap (lines_on f p x) e ∙ ap (λ (q : ℕ). lines_on f p q b) z
  on_both (suc a) x b =
      let e : suc a + b ≡ suc (a + b) = omega arith in
      let z : x + 1 + a ≡ x + suc a = omega arith in
      ap (lines_on f p x) e ∙ go (eqb (f x).parent p) (on_both a (x + 1) b ∙ ap (λ (q : ℕ). lines_on f p (x + 1) a ++ lines_on f p q b) z)
    where
      go : (t : Bool) → lines_on f p (x + 1) (a + b) ≡ lines_on f p (x + 1) a ++ lines_on f p (x + suc a) b
          → pick t (x ∷ lines_on f p (x + 1) (a + b)) (lines_on f p (x + 1) (a + b))
          ≡ pick t (x ∷ lines_on f p (x + 1) a) (lines_on f p (x + 1) a) ++ lines_on f p (x + suc a) b
      go true ih = ap (λ (r : List ℕ). x ∷ r) ih
      go false ih = ih

concat_nil : {X Y : Type 0} (part : X → List Y) → concat part [] ≡ []
concat_nil part = unfold concat in refl

concat-one : {X Y : Type 0} (part : X → List Y) (x : X) (xs : List X) → concat part (x ∷ xs) ≡ part x ++ concat part xs
concat-one part x xs = unfold concat in refl

-- ---- the text of a line

module _ (f : ℕ → Line) (start count : ℕ → ℕ) {n : ℕ} (g : Branched start count (λ i. (f i).parent) n) where
  abbrev parent : ℕ → ℕ
  parent i = (f i).parent

  abbrev reach : ℕ → ℕ
  reach = reach_of f n

  abbrev text : ℕ → List ℕ
  text = line_text f n

  runs : (k : ℕ) → k < n → Reaches parent n k (reach k)
  runs k h =
      let e : k + (n - k) ≡ n = omega arith in
      let z : n - (k + 1) ≡ n - k - 1 = omega arith in
      subst (λ (m : ℕ). Reaches parent m k (reach k)) e (line_reaches f k (n - k) (omega arith) (ap (λ (m : ℕ). 1 + not_before k (run f (k + 1) m)) z))

  module _ (p : ℕ) (line : p < n) where
    abbrev e : ℕ
    e = p + reach p

    -- the run of a line on p ends in the run of p
    inside : (x : ℕ) → p < x → x < e → parent x ≡ p → x + reach x ≤ e
    inside x a b q = go (dec_lt e (x + reach x))
      where
        w : e ≤ n
        w = (runs p line).within

        l : x < n
        l = omega (arith, w)

        go : Dec (e < x + reach x) → x + reach x ≤ e
        go (no c) = omega arith
        go (yes c) =
            let u = (runs x l).within in
            let h = (reach_is start count parent g (runs x l) e (omega arith)).1 (omega arith, c) in
            let v = (reach_is start count parent g (runs p line) e (omega arith)).0 (from_then (through (itself q)) h) in
            absurd (omega (arith, v.1))

    -- the line after it, in the run of p, hangs on p too
    onward : (x : ℕ) → p < x → x < e → parent x ≡ p → x + reach x < e → parent (x + reach x) ≡ p
    onward x a b q h =
        let w = (runs p line).within in
        let r = runs x (omega arith) in
        let s = r.some in
        omega (arith, after_run start count parent g r (omega arith) (omega arith), (runs p line).each (x + reach x) (omega arith) h)

    -- of a line on p and the lines that hang from it, it alone is on p
    alone : (x : ℕ) → p < x → x < e → parent x ≡ p → lines_on f p x (reach x) ≡ x ∷ []
    alone x a b q =
        let w = (runs p line).within in
        let r = runs x (omega arith) in
        let s = r.some in
        let t : suc (reach x - 1) ≡ reach x = omega arith in
        ap (lines_on f p x) (sym t) ∙ on-first f p x (reach x - 1) q
        ∙ ap (λ (l : List ℕ). x ∷ l) (on_no f p (reach x - 1) (x + 1) (λ i c d z. omega (arith, r.each i (omega arith) (omega arith))))

    siblings : (m x : ℕ) → e - x < m → p < x → x ≤ e → (x < e → parent x ≡ p) → concat variation_text (run f x (e - x)) ≡ concat text (lines_on f p x (e - x))
    siblings zero x h a b q = absurd (omega arith)
    siblings (suc m) x h a b q = go (dec_lt x e) (siblings m (x + reach x))
      where
        go : Dec (x < e)
            → (e - (x + reach x) < m → p < x + reach x → x + reach x ≤ e → (x + reach x < e → parent (x + reach x) ≡ p)
            → concat variation_text (run f (x + reach x) (e - (x + reach x))) ≡ concat text (lines_on f p (x + reach x) (e - (x + reach x))))
            → concat variation_text (run f x (e - x)) ≡ concat text (lines_on f p x (e - x))
        go (no c) ih =
            let z : e - x ≡ 0 = omega arith in
            ap (λ (t : ℕ). concat variation_text (run f x t)) z ∙ concat-none variation_text f x
            ∙ sym (ap (λ (t : ℕ). concat text (lines_on f p x t)) z ∙ ap (concat text) (on_none f p x) ∙ concat_nil text)
        go (yes c) ih =
            let r = reach x in
            let w = (runs p line).within in
            let s = (runs x (omega arith)).some in
            let i = inside x a c (q c) in
            let z : e - x - r ≡ e - (x + r) = omega arith in
            let y : e - x ≡ r + (e - (x + r)) = omega arith in
            concat-cut variation_text f x r (e - x) (omega arith)
            ∙ ap (λ (t : ℕ). text x ++ concat variation_text (run f (x + r) t)) z
            ∙ ap (λ (t : List ℕ). text x ++ t) (ih (omega arith) (omega arith) i (onward x a c (q c)))
            ∙ sym
            (ap (λ (t : ℕ). concat text (lines_on f p x t)) y
            ∙ ap (concat text) (on_both f p r x (e - (x + r)))
            ∙ ap (λ (l : List ℕ). concat text (l ++ lines_on f p (x + r) (e - (x + r)))) (alone x a c (q c))
            ∙ concat-one text x (lines_on f p (x + r) (e - (x + r))))

    -- past the run no line is on p
    none-past : (m : ℕ) → e + m ≤ n → lines_on f p e m ≡ []
    none-past m h =
        on_no f p m e (λ i a b q. omega (arith, ((reach_is start count parent g (runs p line) i (omega arith)).0 (through (itself q))).1))

    -- the first line of the run, if there is one, hangs on p
    first_on : p + 1 < e → parent (p + 1) ≡ p
    first_on h =
        let w = (runs p line).within in
        omega (arith, (runs p line).each (p + 1) (omega arith) h, (g.each (p + 1) (omega arith) (omega arith)).before)

    -- the text of what hangs from p but of p itself
    under_text : concat variation_text (run f (p + 1) (reach p - 1)) ≡ concat text (variations_on f n p)
    under_text =
        let s = (runs p line).some in
        let w = (runs p line).within in
        let z : reach p - 1 ≡ e - (p + 1) = omega arith in
        let y : n - (p + 1) ≡ e - (p + 1) + (n - e) = omega arith in
        let v : p + 1 + (e - (p + 1)) ≡ e = omega arith in
        ap (λ (t : ℕ). concat variation_text (run f (p + 1) t)) z
        ∙ siblings (suc (e - (p + 1))) (p + 1) (omega arith) (omega arith) (omega arith) first_on
        ∙ sym
        (ap (λ (t : ℕ). concat text (lines_on f p (p + 1) t)) y
        ∙ ap (concat text)
        (on_both f p (e - (p + 1)) (p + 1) (n - e)
        ∙ ap (λ (q : ℕ). lines_on f p (p + 1) (e - (p + 1)) ++ lines_on f p q (n - e)) v
        ∙ ap (λ (l : List ℕ). lines_on f p (p + 1) (e - (p + 1)) ++ l) (none-past (n - e) (omega arith))
        ∙ append-nil (lines_on f p (p + 1) (e - (p + 1)))))

    text_splits : text p ≡ variation_text (f p) ++ concat text (variations_on f n p)
    text_splits =
        concat-first variation_text f p (reach p) (runs p line).some ∙ ap (λ (t : List ℕ). variation_text (f p) ++ t) under_text

-- ---- in a sound block, of which n lines are shown

module _ (mode : Mode) (b : List ℕ) {n : ℕ} (d : Sound b) (s : ShownLines b n) where
  said_branched : Branched (start_of b) (entry_count b) (λ i. (line_said mode b i).parent) n
  unfolding said_line
  said_branched = branched_front (line_in b) (start_of b) (entry_count b) (sound_branched b d) n s.most

  pub line-text : (k : ℕ) → k < n
      → line_text (line_said mode b) n k ≡ variation_text (line_said mode b k) ++ concat (line_text (line_said mode b) n) (variations_on (line_said mode b) n k)
  line-text k h = text_splits (line_said mode b) (start_of b) (entry_count b) said_branched k h

  pub whole-text : lines_text (said_lines mode (decode b).lines)
      ≡ (number_line ++ main_text (line_said mode b 0)) ++ concat (line_text (line_said mode b) n) (variations_on (line_said mode b) n 0)
  whole-text =
      let f = line_said mode b in
      let z : n - 1 ≡ reach_of f n 0 - 1 = omega (arith, before-all f (n - 1) 1, s.some) in
      sym (lines-text mode b s)
      ∙ ap (λ (t : List ℕ). (number_line ++ main_text (f 0)) ++ t)
      (ap (λ (m : ℕ). concat variation_text (run f 1 m)) z ∙ under_text f (start_of b) (entry_count b) said_branched 0 s.some)
