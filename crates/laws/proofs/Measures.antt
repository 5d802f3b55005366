-- What `measure` tells of a text is what `fill` goes by: both refuse early by one definition, and both ask for one length.   (02, request (vii))
-- Assumes nothing.
use Rattle.std.specs.Prelude.{Option, Some, None}
use Prim.Native.Nat.{ℕ, ◌≤◌, ◌<◌}
use native.Mathlib.Omega.{arith}
use mathlib.Core.Path.{◌≡◌, refl, sym, ap, ap₂, subst}
use mathlib.Core.List.{List}
use lib.ListN.{length, replicate}
use lib.Dec.{ltb}
use borrow.Author.Tests.{ltb-true, ltb-false}
use Rattle.lists.proofs.Laws.{by_pick}
use Rattle.jkf.specs.declared.Answer.{Answer}
use Rattle.jkf.specs.declared.Answer.TheVariants.{Done, BlockTooLong, BufferShort, NoEntry}
use Rattle.jkf.specs.Answers.{figures, Outcome, refuse}
use Rattle.jkf.specs.Attaching.{Hung, on_hung, first, all, all_hung}
use Rattle.block.specs.Encode.{encode}
use Rattle.filling.specs.Filling.{at_front}
use Rattle.parser.specs.Parse.{parse, record_of, needed}
use Rattle.parser.specs.Read.{on_early, early_of, measured, measure_of, filled_with, read_stored, fill_of}
use Rattle.laws.specs.Measures.{FilledOrLoose, filled, loose, MeasuresHold}
use Rattle.laws.proofs.Forming.{EarlySays, refuses, passes, early_says}

module _ (s : List ℕ) where
  abbrev n : ℕ
  n = needed (parse s)

  abbrev t : ℕ
  t = (parse s).taken

  -- ---- what both answer, case by case

  data Measures : Answer → Outcome → List ℕ → Type 0 where
    early : {a : Answer} {o : List ℕ} → 0 < (figures a).number → (figures a).number ≤ 3 → Measures a (refuse a o) o
    long : {o : List ℕ} → Measures (BlockTooLong n) (refuse (BlockTooLong n) o) o
    short : {o : List ℕ} → length o < n → Measures (Done n t) (refuse (BufferShort n) o) o
    stored : {x : Outcome} {o : List ℕ} → n ≤ length o → FilledOrLoose n t x.answer → Measures (Done n t) x o

  filled-cases : (o : List ℕ) → FilledOrLoose n t (filled_with (parse s) o).answer
  unfolding filled_with
  filled-cases o = go (all_hung (parse s).plays)
    where
      go : (h : Hung) → FilledOrLoose n t (on_hung {A = Outcome} h (λ k ply. record { answer = NoEntry k ply; buffer = replicate (length o) 0 })
          (record { answer = Done t n; buffer = at_front (encode (record_of (parse s))) o })).answer
      go (first k ply) = loose k ply
      go all = filled

  passed_cases : (o : List ℕ) → Measures (measured n t) (read_stored (parse s) o) o
  unfolding measured read_stored
  passed_cases o =
      by_pick (λ (u : Unit {0}). Measures (measured n t) (read_stored (parse s) o) o) (ltb 65535 n) tt tt (λ l. rw l long)
      (λ l. by_pick (λ (u : Unit {0}). Measures (measured n t) (read_stored (parse s) o) o) (ltb (length o) n) tt tt
      (λ r. rw (l, r) (short (ltb-true (length o) n r))) (λ r. rw (l, r) (stored (ltb-false (length o) n r) (filled-cases o))))

  cases : (o : List ℕ) → Measures (measure_of s) (fill_of s o) o
  unfolding measure_of fill_of
  cases o = go (early_of s) (early_says s)
    where
      go : (e : Option Answer) → EarlySays s e → Measures (on_early e (λ a. a) (measured n t)) (on_early e (λ a. refuse a o) (read_stored (parse s) o)) o
      go (Some a) (refuses h k) = early h k
      go None (passes w) = passed_cases o

  -- ---- the theorems

  same-figures : {a b : Answer} → a ≡ b → ((figures a).number ≡ (figures b).number) × ((figures a).first ≡ (figures b).first) × ((figures a).second ≡ (figures b).second)
  same-figures e = (ap (λ (x : Answer). (figures x).number) e, ap (λ (x : Answer). (figures x).first) e, ap (λ (x : Answer). (figures x).second) e)

  fills : (k m : ℕ) {a : Answer} {x : Outcome} {o : List ℕ} → Measures a x o → a ≡ Done k m → k ≤ length o → FilledOrLoose k m x.answer
  unfolding figures
  fills k m (early h _) e r = absurd (omega (arith, (same-figures e).0))
  fills k m long e r = absurd (omega (arith, (same-figures e).0))
  fills k m (short l) e r = absurd (omega (arith, (same-figures e).1))
  fills k m (stored {x} _ f) e r = let (_, a, b) = same-figures e in subst (λ (i : ℕ). FilledOrLoose k i x.answer) b (subst (λ (i : ℕ). FilledOrLoose i t x.answer) a f)

  is_short : (k m : ℕ) {a : Answer} {x : Outcome} {o : List ℕ} → Measures a x o → a ≡ Done k m → length o < k → x ≡ refuse (BufferShort k) o
  unfolding figures
  is_short k m (early h _) e r = absurd (omega (arith, (same-figures e).0))
  is_short k m long e r = absurd (omega (arith, (same-figures e).0))
  is_short k m (short {o} l) e r = ap (λ (i : ℕ). refuse (BufferShort i) o) (same-figures e).1
  is_short k m (stored h f) e r = absurd (omega (arith, (same-figures e).1))

  is_refused : {a : Answer} {x : Outcome} {o : List ℕ} → Measures a x o → 0 < (figures a).number → x ≡ refuse a o
  unfolding figures
  is_refused (early h _) r = refl
  is_refused long r = refl
  is_refused (short l) r = absurd (omega arith)
  is_refused (stored h f) r = absurd (omega arith)

  -- the other way
  of_filled : (m k : ℕ) {x : Answer} → FilledOrLoose n t x → x ≡ Done m k → Done n t ≡ Done k m
  unfolding figures
  of_filled m k filled e = let (_, a, b) = same-figures e in ap₂ Done b a
  of_filled m k (loose i ply) e = absurd (omega (arith, (same-figures e).0))

  was_done : (m k : ℕ) {a : Answer} {x : Outcome} {o : List ℕ} → Measures a x o → x.answer ≡ Done m k → a ≡ Done k m
  unfolding figures
  was_done m k (early h _) e = absurd (omega (arith, (same-figures e).0))
  was_done m k long e = absurd (omega (arith, (same-figures e).0))
  was_done m k (short l) e = absurd (omega (arith, (same-figures e).0))
  was_done m k (stored h f) e = of_filled m k f e

  not_short : (k : ℕ) {x : Answer} → FilledOrLoose n t x → x ≡ BufferShort k → ⊥
  unfolding figures
  not_short k filled e = omega (arith, (same-figures e).0)
  not_short k (loose i ply) e = omega (arith, (same-figures e).0)

  was_short : (k : ℕ) {a : Answer} {x : Outcome} {o : List ℕ} → Measures a x o → x.answer ≡ BufferShort k → (m : ℕ) × (a ≡ Done k m)
  unfolding figures
  was_short k (early h l) e = absurd (omega (arith, (same-figures e).0))
  was_short k long e = absurd (omega (arith, (same-figures e).0))
  was_short k (short l) e = (t, ap (λ (i : ℕ). Done i t) (same-figures e).1)
  was_short k (stored h f) e = absurd (not_short k f e)

  was_loose : (i ply : ℕ) {a : Answer} {x : Outcome} {o : List ℕ} → Measures a x o → x.answer ≡ NoEntry i ply → (k : ℕ) × (m : ℕ) × (a ≡ Done k m) × (k ≤ length o)
  unfolding figures
  was_loose i ply (early h l) e = absurd (omega (arith, (same-figures e).0))
  was_loose i ply long e = absurd (omega (arith, (same-figures e).0))
  was_loose i ply (short l) e = absurd (omega (arith, (same-figures e).0))
  was_loose i ply (stored h f) e = (n, t, refl, h)

pub measures_hold : MeasuresHold
measures_hold s =
    record {
      measured_fills = λ k m e o r. fills s k m (cases s o) e r;
      measured-short = λ k m e o r. is_short s k m (cases s o) e r;
      measured-refused = λ a e h o. subst (λ (b : Answer). fill_of s o ≡ refuse b o) e (is_refused s (cases s o) (subst (λ (b : Answer). 0 < (figures b).number) (sym e) h));
      filled-measured = λ o m k e. was_done s m k (cases s o) e;
      short-measured = λ o k e. was_short s k (cases s o) e;
      loose-measured = λ o i ply e. was_loose s i ply (cases s o) e;
    }
