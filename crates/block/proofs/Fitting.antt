-- The 20 bytes of an entry, tested where they stand: a field that is not used is zero, the marks are those of what is there, and every
-- other byte is the entry's own, so that the bytes are those of the entry that they say.
--     target_is, origin-is, time-without, time-timed   the fields, by the marks
--     kind-slot, kind-later                             the 15 bytes before the numbers, by their sort
--     entry_row                                         the 20 bytes of entry k
-- Assumes nothing.
use Rattle.std.specs.Prelude.{Option, Some, None}
use Prim.Native.Nat.{ℕ, zero, suc, ◌+◌, ◌*◌, ◌/◌, ◌%◌, ◌≤◌, ◌<◌}
use native.Mathlib.Omega.{arith}
use native.Mathlib.Decide.{dec_le, dec_lt}
use mathlib.Core.Path.{◌≡◌, refl, sym, ap, ap₂, subst, ◌∙◌}
use mathlib.Core.List.{List, [], ◌∷◌, ◌++◌}
use mathlib.Core.Bool.{Bool, true, false}
use lib.ListN.{length, get_or, take, drop, replicate, length-append, length-take}
use lib.Seq.{take-add, length-take-le, get_or-drop}
use lib.Dec.{eqb, leb, ltb}
use borrow.Author.Tests.{eq-eqb, ne_eqb, le-leb, lt-leb, lt-ltb, le-ltb, eqb-true, eqb-false, leb-true}
use Rattle.lists.specs.Pick.{pick}
use Rattle.lists.specs.Test.{Test, ◌equals◌, holds, ◌and◌, each, flag}
use Rattle.lists.proofs.Laws.{drop_step, pick_both, range_at}
use Rattle.lists.proofs.Tests.{says, answers}
use Rattle.lent.specs.Bytes.{le16, bytes16}
use Rattle.jkf.specs.declared.Special.{Special}
use Rattle.jkf.specs.declared.Special.TheVariants.{Toryo, Chudan, Sennichite, TimeUp, IllegalMove, IllegalActionBlack, IllegalActionWhite, Jishogi, Kachi, Hikiwake, Matta, Tsumi, Fuzumi, Error}
use Rattle.jkf.specs.declared.Clock.TheVariants.{Hms, Ms}
use Rattle.jkf.specs.declared.Time.{Time}
use Rattle.jkf.specs.declared.Time.TheVariants.{Untimed, Timed}
use Rattle.jkf.specs.declared.Target.{Target}
use Rattle.jkf.specs.declared.Target.TheVariants.{Same, Square}
use Rattle.block.proofs.EntriesBack.{entry_length}
use Rattle.block.proofs.Entering.{target-length, origin-length, head-length, time-length}
use Rattle.block.specs.inner.Tests.{time_test, move_test, end_test, head_test_of, comments_test, row_test}
use Rattle.block.specs.EntryBytes.{from_mark, same_mark, hour_mark, time_mark, target_bytes, origin_bytes, clock_bytes, time_bytes, entry_head, entry_bytes, clock_of, time_in, target_in, origin_in, move_in, entry_in}
use Rattle.jkf.specs.Entries.{special_number, special_of, time_of}
use Rattle.block.specs.Decode.{run, move_place, comment_count}
use Rattle.text.specs.Text.{same}
use Rattle.text.proofs.Laws.{lengths_differ}
use Rattle.block.specs.Sound.{kind_test, entry_test, comments_before}
use Rattle.block.proofs.LineTables.{le16-drop}

-- ---- tests

-- two tests that pass together
pub by_truth : (t u : Bool) → (t ≡ true → u ≡ true) → (u ≡ true → t ≡ true) → t ≡ u
by_truth true true f g = refl
by_truth true false f g = sym (f refl)
by_truth false true f g = g refl
by_truth false false f g = refl

-- a test by itself
pick_id : (t : Bool) → pick t true false ≡ t
pick_id true = refl
pick_id false = refl

-- a test of which nothing comes
pick-none : (t : Bool) → pick t false false ≡ false
pick-none true = refl
pick-none false = refl

-- ---- the same bytes

-- in two parts
same-append : (a b c d : List ℕ) → length a ≡ length c → same (a ++ b) (c ++ d) ≡ pick (same a c) (same b d) false
unfolding same
same-append [] b [] d e = refl
same-append [] b (y ∷ c) d e = absurd (omega arith)
same-append (x ∷ a) b [] d e = absurd (omega arith)
same-append (x ∷ a) b (y ∷ c) d e = rw (same-append a b c d (omega arith)) (nested (eqb x y) (same a c) (same b d))
  where
    nested : (t u v : Bool) → pick t (pick u v false) false ≡ pick (pick t u false) v false
    nested true u v = refl
    nested false u v = refl

-- bytes that are all zero
zeros_if : (s : List ℕ) → ((i : ℕ) → i < length s → get_or s i 0 ≡ 0) → same s (replicate (length s) 0) ≡ true
unfolding same
zeros_if [] h = refl
zeros_if (x ∷ s) h = rw (eq-eqb x 0 (h 0 (omega arith))) (zeros_if s (λ i l. h (suc i) (omega arith)))

zeros_then : (s : List ℕ) → same s (replicate (length s) 0) ≡ true → (i : ℕ) → i < length s → get_or s i 0 ≡ 0
unfolding same
zeros_then [] h i l = absurd (omega arith)
zeros_then (x ∷ s) h zero l = eqb-true x 0 (pick_both (eqb x 0) (same s (replicate (length s) 0)) h).0
zeros_then (x ∷ s) h (suc i) l = zeros_then s (pick_both (eqb x 0) (same s (replicate (length s) 0)) h).1 i (omega arith)

-- as `all_zero` tests them
pub zeros : (s : List ℕ) (n : ℕ) → length s ≡ n → flag (each (length s) (λ i. get_or s i 0 equals 0)) ≡ same s (replicate n 0)
zeros s n e =
    let t : Test = each (length s) (λ i. get_or s i 0 equals 0) in
    by_truth (flag t) (same s (replicate (length s) 0)) (λ h. zeros_if s (says t h)) (λ h. answers t (zeros_then s h))
    ∙ ap (λ (m : ℕ). same s (replicate m 0)) e

-- ---- a row

module _ (l : List ℕ) (h : 20 ≤ length l) where
  -- n bytes from a place on
  row-run : (n i : ℕ) → i + n ≤ 20 → take n (drop i l) ≡ run (λ j. get_or l j 0) i n
  unfolding run
  row-run zero i k = refl
  row-run (suc n) i k =
      ap (take (suc n)) (drop_step l i (omega arith)) ∙ ap (λ (r : List ℕ). get_or l i 0 ∷ r) (row-run n (i + 1) (omega arith))

  -- a square may be any, 同 has two zeros; an origin that is not known has two zeros
  pub target_is : same (take 2 (drop 4 l)) (target_bytes (target_in l))
      ≡ pick (eqb (get_or l 8 0 / 2 % 2) 1) (pick (eqb (get_or l 4 0) 0) (eqb (get_or l 5 0) 0) false) true
  unfolding same target_in run
  target_is = rw (row-run 2 4 (omega arith)) (go (eqb (get_or l 8 0 / 2 % 2) 1) (get_or l 4 0) (get_or l 5 0))
    where
      go : (t : Bool) (x y : ℕ) → same (x ∷ y ∷ []) (target_bytes (pick t Same (Square x y))) ≡ pick t (pick (eqb x 0) (eqb y 0) false) true
      go true x y = rw (pick_id (eqb y 0))
      go false x y = rw (eq-eqb x x refl, eq-eqb y y refl)

  pub origin_is : same (take 2 (drop 6 l)) (origin_bytes (origin_in l))
      ≡ pick (eqb (get_or l 8 0 % 2) 1) true (pick (eqb (get_or l 6 0) 0) (eqb (get_or l 7 0) 0) false)
  unfolding same origin_in run
  origin_is = rw (row-run 2 6 (omega arith)) (go (eqb (get_or l 8 0 % 2) 1) (get_or l 6 0) (get_or l 7 0))
    where
      go : (t : Bool) (x y : ℕ) → same (x ∷ y ∷ []) (origin_bytes (pick t (Some (x, y)) None)) ≡ pick t true (pick (eqb x 0) (eqb y 0) false)
      go true x y = rw (eq-eqb x x refl, eq-eqb y y refl)
      go false x y = rw (pick_id (eqb y 0))

  -- ---- the time

  -- without a time
  pub time_without : (get_or l 8 0 / 4 % 2 ≡ 1 → ⊥) → flag (time_test l) ≡ pick (ltb (get_or l 8 0) 4) (same (take 6 (drop 9 l)) (replicate 6 0)) false
  unfolding time_in
  time_without n = rw (ne_eqb _ _ n) (ap (λ (t : Bool). pick t (same (take 6 (drop 9 l)) (replicate 6 0)) false) (few (get_or l 8 0)))
    where
      few : (m : ℕ) → eqb m (m % 4 + 0) ≡ ltb m 4
      few m = go (dec_lt m 4)
        where
          go : Dec (m < 4) → eqb m (m % 4 + 0) ≡ ltb m 4
          go (yes k) = eq-eqb m (m % 4 + 0) (omega arith) ∙ sym (lt-ltb m 4 k)
          go (no k) = ne_eqb m (m % 4 + 0) (λ e. omega arith) ∙ sym (le-ltb m 4 (omega arith))

  -- two clocks: an hour without its mark is zero
  clock_same : (t u : Bool) (x₀ x₁ x₂ y₀ y₁ y₂ : ℕ)
      → same (x₀ ∷ x₁ ∷ x₂ ∷ y₀ ∷ y₁ ∷ y₂ ∷ []) (clock_bytes (clock_of t x₀ x₁ x₂) ++ clock_bytes (clock_of u y₀ y₁ y₂))
      ≡ pick (pick t true (eqb x₀ 0)) (pick u true (eqb y₀ 0)) false
  unfolding same
  clock_same true true x₀ x₁ x₂ y₀ y₁ y₂ = rw (eq-eqb x₀ x₀ refl, eq-eqb x₁ x₁ refl, eq-eqb x₂ x₂ refl, eq-eqb y₀ y₀ refl, eq-eqb y₁ y₁ refl, eq-eqb y₂ y₂ refl)
  clock_same true false x₀ x₁ x₂ y₀ y₁ y₂ = rw (eq-eqb x₀ x₀ refl, eq-eqb x₁ x₁ refl, eq-eqb x₂ x₂ refl, eq-eqb y₁ y₁ refl, eq-eqb y₂ y₂ refl) (pick_id (eqb y₀ 0))
  clock_same false true x₀ x₁ x₂ y₀ y₁ y₂ = rw (eq-eqb x₁ x₁ refl, eq-eqb x₂ x₂ refl, eq-eqb y₀ y₀ refl, eq-eqb y₁ y₁ refl, eq-eqb y₂ y₂ refl)
  clock_same false false x₀ x₁ x₂ y₀ y₁ y₂ = rw (eq-eqb x₁ x₁ refl, eq-eqb x₂ x₂ refl, eq-eqb y₁ y₁ refl, eq-eqb y₂ y₂ refl, pick_id (eqb y₀ 0))

  -- a number below 32 by its bits
  bits : (m : ℕ) → m < 32 → m ≡ m % 4 + 4 * (m / 4 % 2) + 8 * (m / 8 % 2) + 16 * (m / 16 % 2)
  bits m k = eqb-true m _ (range_at (λ n. eqb n (n % 4 + 4 * (n / 4 % 2) + 8 * (n / 8 % 2) + 16 * (n / 16 % 2))) 32 0 m refl (omega arith) (omega arith))

  -- the marks of a time with these hours: those of a number below 32
  marks-same : (m : ℕ) (t u : Bool) (x₀ x₁ x₂ y₀ y₁ y₂ : ℕ) → m / 4 % 2 ≡ 1 → eqb (m / 8 % 2) 1 ≡ t → eqb (m / 16 % 2) 1 ≡ u
      → eqb m (m % 4 + (4 + hour_mark 8 (clock_of t x₀ x₁ x₂) + hour_mark 16 (clock_of u y₀ y₁ y₂))) ≡ ltb m 32
  marks-same m t u x₀ x₁ x₂ y₀ y₁ y₂ h p q = go t u p q
    where
      small : (n : ℕ) → (m < 32 → m ≡ m % 4 + n) → (m ≡ m % 4 + n → m < 32) → eqb m (m % 4 + n) ≡ ltb m 32
      small n f g = on (dec_lt m 32)
        where
          on : Dec (m < 32) → eqb m (m % 4 + n) ≡ ltb m 32
          on (yes k) = eq-eqb m (m % 4 + n) (f k) ∙ sym (lt-ltb m 32 k)
          on (no k) = ne_eqb m (m % 4 + n) (λ e. k (g e)) ∙ sym (le-ltb m 32 (omega arith))

      go : (t u : Bool) → eqb (m / 8 % 2) 1 ≡ t → eqb (m / 16 % 2) 1 ≡ u
          → eqb m (m % 4 + (4 + hour_mark 8 (clock_of t x₀ x₁ x₂) + hour_mark 16 (clock_of u y₀ y₁ y₂))) ≡ ltb m 32
      go true true p q =
          let p' = eqb-true (m / 8 % 2) 1 p in
          let q' = eqb-true (m / 16 % 2) 1 q in
          small 28 (λ k. omega (arith, bits m k)) (λ e. omega arith)
      go true false p q =
          let p' = eqb-true (m / 8 % 2) 1 p in
          let q' = eqb-false (m / 16 % 2) 1 q in
          small 12 (λ k. omega (arith, bits m k)) (λ e. omega arith)
      go false true p q =
          let p' = eqb-false (m / 8 % 2) 1 p in
          let q' = eqb-true (m / 16 % 2) 1 q in
          small 20 (λ k. omega (arith, bits m k)) (λ e. omega arith)
      go false false p q =
          let p' = eqb-false (m / 8 % 2) 1 p in
          let q' = eqb-false (m / 16 % 2) 1 q in
          small 4 (λ k. omega (arith, bits m k)) (λ e. omega arith)

  -- with one
  pub time_timed : get_or l 8 0 / 4 % 2 ≡ 1
      → flag (time_test l)
      ≡ pick (ltb (get_or l 8 0) 32)
      (pick (pick (eqb (get_or l 8 0 / 8 % 2) 1) true (eqb (get_or l 9 0) 0)) (pick (eqb (get_or l 8 0 / 16 % 2) 1) true (eqb (get_or l 12 0) 0)) false)
      false
  unfolding time_in run
  time_timed e =
      let m = get_or l 8 0 in
      rw (eq-eqb (m / 4 % 2) 1 e, row-run 6 9 (omega arith))
      (ap₂ (λ (t u : Bool). pick t u false)
      (marks-same m (eqb (m / 8 % 2) 1) (eqb (m / 16 % 2) 1) (get_or l 9 0) (get_or l 10 0) (get_or l 11 0) (get_or l 12 0) (get_or l 13 0) (get_or l 14 0) e refl refl)
      (clock_same (eqb (m / 8 % 2) 1) (eqb (m / 16 % 2) 1) (get_or l 9 0) (get_or l 10 0) (get_or l 11 0) (get_or l 12 0) (get_or l 13 0) (get_or l 14 0)))

  -- ---- the bytes before the numbers

  -- cut in two
  cut : (n m : ℕ) (c d : List ℕ) → n ≤ 20 → length c ≡ n → same (take (n + m) l) (c ++ d) ≡ pick (same (take n l) c) (same (take m (drop n l)) d) false
  cut n m c d k e =
      ap (λ (s : List ℕ). same s (c ++ d)) (take-add n m l)
      ∙ same-append (take n l) (take m (drop n l)) c d (length-take-le n l (omega arith) ∙ sym e)

  -- and its first part in two
  on : {t u : Bool} (v : Bool) → t ≡ u → pick t v false ≡ pick u v false
  on v e = ap (λ (t : Bool). pick t v false) e

  -- one byte
  one_same : (i y : ℕ) → i < 20 → same (take 1 (drop i l)) (y ∷ []) ≡ eqb (get_or l i 0) y
  unfolding same run
  one_same i y k = rw (row-run 1 i (omega arith)) (pick_id (eqb (get_or l i 0) y))

  -- a slot
  pub kind-slot : (k : ℕ) → get_or l 0 0 ≡ 0 → flag (head_test_of k l) ≡ pick (eqb k 0) (same (take 15 l) (replicate 15 0)) false
  unfolding entry_in entry_head
  kind-slot k e = rw (eq-eqb (get_or l 0 0) 0 e)

  -- an ending: its number is one of 0 to 13
  special_same : (x : ℕ) → eqb x (special_number (special_of x)) ≡ leb x 13
  special_same x = by_truth (eqb x (special_number (special_of x))) (leb x 13) there back
    where
      small : (s : Special) → special_number s ≤ 13
      small Toryo = omega arith
      small Chudan = omega arith
      small Sennichite = omega arith
      small TimeUp = omega arith
      small IllegalMove = omega arith
      small IllegalActionBlack = omega arith
      small IllegalActionWhite = omega arith
      small Jishogi = omega arith
      small Kachi = omega arith
      small Hikiwake = omega arith
      small Matta = omega arith
      small Tsumi = omega arith
      small Fuzumi = omega arith
      small Error = omega arith

      there : eqb x (special_number (special_of x)) ≡ true → leb x 13 ≡ true
      there e = le-leb x 13 (omega (arith, eqb-true x (special_number (special_of x)) e, small (special_of x)))

      back : leb x 13 ≡ true → eqb x (special_number (special_of x)) ≡ true
      back e = range_at (λ n. eqb n (special_number (special_of n))) 14 0 x refl (omega arith) (omega (arith, leb-true x 13 e))

  -- its marks are the time's and no other
  end-marks : (m : ℕ) (t : Time) → eqb m (time_mark t) ≡ pick (eqb m (m % 4 + time_mark t)) (eqb (m % 4) 0) false
  end-marks m t = by_truth (eqb m (time_mark t)) (pick (eqb m (m % 4 + time_mark t)) (eqb (m % 4) 0) false) there back
    where
      four : (t : Time) → time_mark t % 4 ≡ 0
      four Untimed = refl
      four (Timed (Hms h m s) (Hms h' m' s')) = refl
      four (Timed (Hms h m s) (Ms m' s')) = refl
      four (Timed (Ms m s) (Hms h' m' s')) = refl
      four (Timed (Ms m s) (Ms m' s')) = refl

      there : eqb m (time_mark t) ≡ true → pick (eqb m (m % 4 + time_mark t)) (eqb (m % 4) 0) false ≡ true
      there e =
          let q : m ≡ time_mark t = eqb-true m (time_mark t) e in
          let z : m % 4 ≡ 0 = ap (λ (i : ℕ). i % 4) q ∙ four t in
          rw (eq-eqb m (m % 4 + time_mark t) (omega arith), eq-eqb (m % 4) 0 z)

      back : pick (eqb m (m % 4 + time_mark t)) (eqb (m % 4) 0) false ≡ true → eqb m (time_mark t) ≡ true
      back e =
          let (p, q) = pick_both (eqb m (m % 4 + time_mark t)) (eqb (m % 4) 0) e in
          eq-eqb m (time_mark t) (omega (arith, eqb-true m (m % 4 + time_mark t) p, eqb-true (m % 4) 0 q))

  -- the tests in the order of the code
  end_order : (s z a b t : Bool) → pick (pick (pick s z false) (pick a b false) false) t false ≡ pick (pick a t false) (pick s (pick b z false) false) false
  end_order false z a b t = sym (pick-none (pick a t false))
  end_order true false a b t = sym (rw (pick-none b, pick-none (pick a t false)))
  end_order true true false b t = refl
  end_order true true true b true = refl
  end_order true true true b false = pick-none b

  -- its first two bytes
  two_same : (x y : ℕ) → get_or l 0 0 ≡ x → same (take 2 l) (x ∷ y ∷ []) ≡ eqb (get_or l 1 0) y
  unfolding same run
  two_same x y e = rw (row-run 2 0 (omega arith), eq-eqb (get_or l 0 0) x e) (pick_id (eqb (get_or l 1 0) y))

  -- all of it
  end_same : (x : ℕ) (t : Time) → get_or l 1 0 ≡ x → get_or l 0 0 ≡ 2
      → same (take 15 l) ((2 ∷ special_number (special_of x) ∷ 0 ∷ 0 ∷ 0 ∷ 0 ∷ 0 ∷ 0 ∷ time_mark t ∷ []) ++ time_bytes t)
      ≡ pick (pick (eqb (get_or l 8 0) (get_or l 8 0 % 4 + time_mark t)) (same (take 6 (drop 9 l)) (time_bytes t)) false)
      (pick (leb x 13) (pick (eqb (get_or l 8 0 % 4) 0) (same (take 6 (drop 2 l)) (replicate 6 0)) false) false)
      false
  end_same x t e e₀ =
      let m = get_or l 8 0 in
      let n = special_number (special_of x) in
      let b = same (take 6 (drop 9 l)) (time_bytes t) in
      let z = same (take 6 (drop 2 l)) (replicate 6 0) in
      cut 9 6 (2 ∷ n ∷ 0 ∷ 0 ∷ 0 ∷ 0 ∷ 0 ∷ 0 ∷ time_mark t ∷ []) (time_bytes t) (omega arith) refl
      ∙ on b
      (cut 8 1 (2 ∷ n ∷ 0 ∷ 0 ∷ 0 ∷ 0 ∷ 0 ∷ 0 ∷ []) (time_mark t ∷ []) (omega arith) refl
      ∙ ap₂ (λ (u v : Bool). pick u v false)
      (cut 2 6 (2 ∷ n ∷ []) (replicate 6 0) (omega arith) refl ∙ on z (two_same 2 n e₀ ∙ ap (λ (i : ℕ). eqb i n) e ∙ special_same x))
      (one_same 8 (time_mark t) (omega arith) ∙ end-marks m t))
      ∙ end_order (leb x 13) z (eqb m (m % 4 + time_mark t)) (eqb (m % 4) 0) b

  kind-end : (k : ℕ) → get_or l 0 0 ≡ 2 → flag (head_test_of k l) ≡ pick (leb 1 k) (pick (flag (time_test l)) (flag (end_test l)) false) false
  unfolding entry_in entry_head
  kind-end k e =
      rw (ne_eqb (get_or l 0 0) 0 (λ z. omega arith), eq-eqb (get_or l 0 0) 2 e)
      (ap (λ (t : Bool). pick (leb 1 k) t false) (end_same (get_or l 1 0) (time_in l) refl e))

  -- a move: its two low marks are those of origin and target
  low-marks : from_mark (origin_in l) + same_mark (target_in l) ≡ get_or l 8 0 % 4
  unfolding origin_in target_in
  low-marks = go (eqb (get_or l 8 0 % 2) 1) (eqb (get_or l 8 0 / 2 % 2) 1) refl refl
    where
      go : (t u : Bool) → eqb (get_or l 8 0 % 2) 1 ≡ t → eqb (get_or l 8 0 / 2 % 2) 1 ≡ u
          → from_mark (pick t (Some (get_or l 6 0, get_or l 7 0)) None) + same_mark (pick u Same (Square (get_or l 4 0) (get_or l 5 0))) ≡ get_or l 8 0 % 4
      go true true p q = omega (arith, eqb-true (get_or l 8 0 % 2) 1 p, eqb-true (get_or l 8 0 / 2 % 2) 1 q)
      go true false p q = let q' = eqb-false (get_or l 8 0 / 2 % 2) 1 q in omega (arith, eqb-true (get_or l 8 0 % 2) 1 p)
      go false true p q = let p' = eqb-false (get_or l 8 0 % 2) 1 p in omega (arith, eqb-true (get_or l 8 0 / 2 % 2) 1 q)
      go false false p q =
          let p' = eqb-false (get_or l 8 0 % 2) 1 p in
          let q' = eqb-false (get_or l 8 0 / 2 % 2) 1 q in
          omega arith

  -- the tests in the order of the code
  move_order : (k c p q r x t o s z : Bool)
      → pick (pick k (pick c (pick p (pick q r false) false) false) false) (pick (pick (pick (pick x t false) o false) s false) z false) false
      ≡ pick k (pick x (pick (pick s z false) (pick c (pick p (pick q (pick r (pick t o false) false) false) false) false) false) false) false
  move_order false c p q r x t o s z = refl
  move_order true c p q r false t o s z = pick-none (pick c (pick p (pick q r false) false) false)
  move_order true c p q r true t o false z = rw (pick-none (pick t o false)) (pick-none (pick c (pick p (pick q r false) false) false))
  move_order true c p q r true t o true false =
      rw (pick-none (pick (pick t o false) true false)) (pick-none (pick c (pick p (pick q r false) false) false))
  move_order true false p q r true t o true true = refl
  move_order true true false q r true t o true true = refl
  move_order true true true false r true t o true true = refl
  move_order true true true true r true t o true true = rw (pick_id (pick t o false), pick_id (pick t o false))

  -- its first four bytes
  four_same : same (take 4 l) (1 ∷ get_or l 1 0 ∷ get_or l 2 0 ∷ get_or l 3 0 ∷ []) ≡ eqb (get_or l 0 0) 1
  unfolding same run
  four_same =
      rw (row-run 4 0 (omega arith), eq-eqb (get_or l 1 0) (get_or l 1 0) refl, eq-eqb (get_or l 2 0) (get_or l 2 0) refl, eq-eqb (get_or l 3 0) (get_or l 3 0) refl)
      (pick_id (eqb (get_or l 0 0) 1))

  -- all of it
  move_same : (m m' : ℕ) (t : Target) (o : Option (ℕ × ℕ)) (z : List ℕ) → m ≡ m'
      → same (take 15 l) ((1 ∷ get_or l 1 0 ∷ get_or l 2 0 ∷ get_or l 3 0 ∷ []) ++ target_bytes t ++ origin_bytes o ++ (m ∷ []) ++ z)
      ≡ pick
      (pick (pick (pick (eqb (get_or l 0 0) 1) (same (take 2 (drop 4 l)) (target_bytes t)) false) (same (take 2 (drop 6 l)) (origin_bytes o)) false) (eqb (get_or l 8 0) m') false)
      (same (take 6 (drop 9 l)) z)
      false
  move_same m m' t o z e =
      let a : List ℕ = 1 ∷ get_or l 1 0 ∷ get_or l 2 0 ∷ get_or l 3 0 ∷ [] in
      let six : length (a ++ target_bytes t) ≡ 6 = omega (arith, length-append a (target_bytes t), target-length t) in
      let eight : length (a ++ target_bytes t ++ origin_bytes o) ≡ 8 = omega (arith, length-append (a ++ target_bytes t) (origin_bytes o), six, origin-length o) in
      let nine : length (a ++ target_bytes t ++ origin_bytes o ++ (m ∷ [])) ≡ 9 = omega (arith, length-append (a ++ target_bytes t ++ origin_bytes o) (m ∷ []), eight) in
      cut 9 6 (a ++ target_bytes t ++ origin_bytes o ++ (m ∷ [])) z (omega arith) nine
      ∙ on (same (take 6 (drop 9 l)) z)
      (cut 8 1 (a ++ target_bytes t ++ origin_bytes o) (m ∷ []) (omega arith) eight
      ∙ ap₂ (λ (u v : Bool). pick u v false)
      (cut 6 2 (a ++ target_bytes t) (origin_bytes o) (omega arith) six
      ∙ on (same (take 2 (drop 6 l)) (origin_bytes o))
      (cut 4 2 a (target_bytes t) (omega arith) refl ∙ on (same (take 2 (drop 4 l)) (target_bytes t)) four_same))
      (one_same 8 m (omega arith) ∙ ap (eqb (get_or l 8 0)) e))

  kind-move : (k : ℕ) → (get_or l 0 0 ≡ 0 → ⊥) → (get_or l 0 0 ≡ 2 → ⊥)
      → flag (head_test_of k l) ≡ pick (leb 1 k) (pick (eqb (get_or l 0 0) 1) (pick (flag (time_test l)) (flag (move_test l)) false) false) false
  unfolding entry_in entry_head move_in
  kind-move k n m =
      let c = get_or l 1 0 in
      let p = get_or l 2 0 in
      let q = get_or l 3 0 in
      rw (ne_eqb (get_or l 0 0) 0 n, ne_eqb (get_or l 0 0) 2 m)
      (ap (λ (t : Bool). pick (pick (leb 1 k) (pick (leb c 1) (pick (leb 1 p) (pick (leb p 14) (leb q 2) false) false) false) false) t false)
      (move_same (from_mark (origin_in l) + same_mark (target_in l) + time_mark (time_in l)) (get_or l 8 0 % 4 + time_mark (time_in l)) (target_in l) (origin_in l)
      (time_bytes (time_in l)) (ap (λ (i : ℕ). i + time_mark (time_in l)) low-marks))
      ∙ move_order (leb 1 k) (leb c 1) (leb 1 p) (leb p 14) (leb q 2) (eqb (get_or l 0 0) 1) (same (take 2 (drop 4 l)) (target_bytes (target_in l)))
      (same (take 2 (drop 6 l)) (origin_bytes (origin_in l))) (eqb (get_or l 8 0) (get_or l 8 0 % 4 + time_mark (time_in l))) (same (take 6 (drop 9 l)) (time_bytes (time_in l))))

  -- an entry that is no slot
  pub kind-later : (k : ℕ) → (get_or l 0 0 ≡ 0 → ⊥)
      → flag (head_test_of k l)
      ≡ pick (leb 1 k)
      (pick (flag (time_test l)) (pick (eqb (get_or l 0 0) 1) (flag (move_test l)) (pick (eqb (get_or l 0 0) 2) (flag (end_test l)) false)) false)
      false
  kind-later k n = go (eqb (get_or l 0 0) 2) refl
    where
      order : (x t m : Bool) → pick x (pick t m false) false ≡ pick t (pick x m false) false
      order true t m = refl
      order false t m = sym (pick-none t)

      go : (u : Bool) → eqb (get_or l 0 0) 2 ≡ u
          → flag (head_test_of k l)
          ≡ pick (leb 1 k) (pick (flag (time_test l)) (pick (eqb (get_or l 0 0) 1) (flag (move_test l)) (pick u (flag (end_test l)) false)) false) false
      go true e =
          let q = eqb-true (get_or l 0 0) 2 e in
          kind-end k q
          ∙ ap (λ (u : Bool). pick (leb 1 k) (pick (flag (time_test l)) (pick u (flag (move_test l)) (flag (end_test l))) false) false)
          (sym (ne_eqb (get_or l 0 0) 1 (λ z. omega arith)))
      go false e =
          kind-move k n (eqb-false (get_or l 0 0) 2 e)
          ∙ ap (λ (u : Bool). pick (leb 1 k) u false) (order (eqb (get_or l 0 0) 1) (flag (time_test l)) (flag (move_test l)))

  -- ---- the 20 bytes

  -- a number of two bytes
  pair_same : (i v : ℕ) → i + 1 < 20 → get_or l i 0 < 256 → get_or l (i + 1) 0 < 256
      → same (take 2 (drop i l)) (bytes16 v) ≡ eqb (le16 l i) (v % 65536)
  unfolding same run
  pair_same i v k x y =
      rw (row-run 2 i (omega arith))
      (by_truth (pick (eqb p (v % 256)) (pick (eqb q (v / 256 % 256)) true false) false) (eqb (p + 256 * q) (v % 65536)) there back)
    where
      p : ℕ
      p = get_or l i 0

      q : ℕ
      q = get_or l (i + 1) 0

      there : pick (eqb p (v % 256)) (pick (eqb q (v / 256 % 256)) true false) false ≡ true → eqb (p + 256 * q) (v % 65536) ≡ true
      there e =
          let (f, g) = pick_both (eqb (get_or l i 0) (v % 256)) (pick (eqb (get_or l (i + 1) 0) (v / 256 % 256)) true false) e in
          let (g', _) = pick_both (eqb (get_or l (i + 1) 0) (v / 256 % 256)) true g in
          eq-eqb (get_or l i 0 + 256 * get_or l (i + 1) 0) (v % 65536)
          (omega (arith, eqb-true (get_or l i 0) (v % 256) f, eqb-true (get_or l (i + 1) 0) (v / 256 % 256) g'))

      back : eqb (p + 256 * q) (v % 65536) ≡ true → pick (eqb p (v % 256)) (pick (eqb q (v / 256 % 256)) true false) false ≡ true
      back e =
          let f = eqb-true (get_or l i 0 + 256 * get_or l (i + 1) 0) (v % 65536) e in
          rw (eq-eqb (get_or l i 0) (v % 256) (omega (arith, f)), eq-eqb (get_or l (i + 1) 0) (v / 256 % 256) (omega (arith, f)))

  -- the first comment, cut to 16 bits
  mod_pick : (t : Bool) (n : ℕ) → pick t 0 n % 65536 ≡ pick t 0 (n % 65536)
  mod_pick true n = refl
  mod_pick false n = refl

  -- the tests in the order of the code
  row_order : (k s z f : Bool) → pick k (pick (pick (pick s z false) f false) true false) false ≡ pick (pick k s false) (pick z f false) false
  row_order false s z f = refl
  row_order true false z f = refl
  row_order true true z f = pick_id (pick z f false)

  -- the bytes before the numbers, and the numbers
  row_is : (k n next : ℕ) → n ≡ le16 l 18 → ((i : ℕ) → get_or l i 0 < 256)
      → flag (kind_test k (entry_in l) and holds (same (take 20 l) (entry_bytes (entry_in l) (pick (eqb n 0) 0 next) n)))
      ≡ pick (flag (head_test_of k l)) (flag (comments_test next l)) false
  unfolding entry_bytes
  row_is k n next e small =
      let w = entry_in l in
      let a = entry_head w ++ time_bytes (time_of w) in
      let f = pick (eqb n 0) 0 next in
      let t = flag (kind_test k w) in
      let first : f % 65536 ≡ pick (eqb (le16 l 18) 0) 0 (next % 65536) =
      mod_pick (eqb n 0) next ∙ ap (λ (i : ℕ). pick (eqb i 0) 0 (next % 65536)) e in
      let last : eqb (le16 l 18) (n % 65536) ≡ true = eq-eqb (le16 l 18) (n % 65536) (omega (arith, e, small 18, small 19)) in
      let fifteen : length a ≡ 15 = omega (arith, length-append (entry_head w) (time_bytes (time_of w)), head-length w, time-length (time_of w)) in
      let sixteen : length (a ++ (0 ∷ [])) ≡ 16 = omega (arith, length-append a (0 ∷ []), fifteen) in
      let eighteen : length (a ++ (0 ∷ []) ++ bytes16 f) ≡ 18 = omega (arith, length-append (a ++ (0 ∷ [])) (bytes16 f), sixteen) in
      ap (λ (u : Bool). pick t u false)
      (cut 18 2 (a ++ (0 ∷ []) ++ bytes16 f) (bytes16 n) (omega arith) eighteen
      ∙ ap₂ (λ (u v : Bool). pick u v false)
      (cut 16 2 (a ++ (0 ∷ [])) (bytes16 f) (omega arith) sixteen
      ∙ ap₂ (λ (u v : Bool). pick u v false)
      (cut 15 1 a (0 ∷ []) (omega arith) fifteen ∙ ap (λ (u : Bool). pick (same (take 15 l) a) u false) (one_same 15 0 (omega arith)))
      (pair_same 16 f (omega arith) (small 16) (small 17) ∙ ap (eqb (le16 l 16)) first))
      (pair_same 18 n (omega arith) (small 18) (small 19) ∙ last))
      ∙ row_order t (same (take 15 l) a) (eqb (get_or l 15 0) 0) (eqb (le16 l 16) (pick (eqb (le16 l 18) 0) 0 (next % 65536)))

-- ---- entry k of a block

module _ (b : List ℕ) (k : ℕ) where
  -- what stands from its row on
  abbrev L : List ℕ
  L = drop (move_place b k) b

  -- there are fewer than 20 bytes
  entry-short : length L < 20 → flag (entry_test b k) ≡ false
  entry-short h =
      let n = comment_count b k in
      let f = pick (eqb n 0) 0 (comments_before b k) in
      rw (lengths_differ (take 20 L) (entry_bytes (entry_in L) f n) (λ e. omega (arith, length-take 20 L, entry_length (entry_in L) f n)))
      (pick-none (flag (kind_test k (entry_in L))))

  -- there are 20
  entry_is : (next : ℕ) → next ≡ comments_before b k → 20 ≤ length L → ((i : ℕ) → get_or b i 0 < 256)
      → flag (entry_test b k) ≡ pick (flag (head_test_of k L)) (flag (comments_test next L)) false
  entry_is next e h small =
      ap (λ (i : ℕ). flag (kind_test k (entry_in L) and holds (same (take 20 L) (entry_bytes (entry_in L) (pick (eqb (comment_count b k) 0) 0 i) (comment_count b k))))) (sym e)
      ∙ row_is L h k (comment_count b k) next (sym (le16-drop b (move_place b k) 18))
      (λ i. subst (λ (x : ℕ). x < 256) (sym (get_or-drop (move_place b k) b i 0)) (small (move_place b k + i)))

  -- its row says all
  pub entry-row : (next : ℕ) → next ≡ comments_before b k → ((i : ℕ) → get_or b i 0 < 256) → flag (entry_test b k) ≡ flag (row_test k next L)
  entry-row next e small = go (dec_le 20 (length L))
    where
      go : Dec (20 ≤ length L) → flag (entry_test b k) ≡ flag (row_test k next L)
      go (yes h) = entry_is next e h small ∙ rw (le-leb 20 (length L) h)
      go (no h) = let s : length L < 20 = omega arith in entry-short s ∙ rw (lt-leb 20 (length L) s)
