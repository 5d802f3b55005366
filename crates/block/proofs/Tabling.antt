-- Rows in a table, lists one after the other, and what a function makes of numbers in a row: where a row or a part stands, and how
-- long what stands before it is. All of it is induction on the list or on how many there are, for any rows and any state.
--     table-length, table-row     a table of rows of w bytes; row k of it
--     run_is, run-getD            a run is the list that it agrees with at each place
--     run-add, run-cut, run-next  a run in two parts; the first one, or one more at the end
--     table-grows, concat-grows   what a run's rows or parts add up to, one after the other
--     part_at                     where the part of element k stands
-- Assumes nothing.
use Prim.Native.Nat.{ℕ, zero, suc, ◌+◌, ◌*◌, ◌-◌, ◌≤◌, ◌<◌}
use native.Mathlib.Nat.{not-suc-le-zero, add-zero, zero-add, suc-add, mul-suc, mul-zero, add_comm}
use native.Mathlib.Numerals.{add-one}
use native.Mathlib.Omega.{arith}
use mathlib.Core.Path.{◌≡◌, refl, sym, ap, ap₂, ◌∙◌}
use mathlib.Core.List.{List, [], ◌∷◌, ◌++◌, map, append_assoc, append-nil}
use lib.ListN.{length, get_or, take, drop, length-append, take-append-drop, get_or-append}
use lib.Seq.{drop-cons, drop_at, take_at, take-suc, length-take-le, ext_get_or, get_or-append-add}
use Rattle.block.specs.Encode.{table, concat}
use Rattle.block.specs.Decode.{run}
use Rattle.block.specs.Sound.{sum}

-- ---- tables

module _ {S X : Type 0} (row : S → X → List ℕ) (step : S → X → S) where
  -- the state after some elements
  unfoldable pub after : S → List X → S
  after s [] = s
  after s (x ∷ xs) = after (step s x) xs

  pub after_append : (s : S) (xs ys : List X) → after s (xs ++ ys) ≡ after (after s xs) ys
  unfolding after
  after_append s [] ys = refl
  after_append s (x ∷ xs) ys = after_append (step s x) xs ys

  pub table-append : (s : S) (xs ys : List X) → table row step s (xs ++ ys) ≡ table row step s xs ++ table row step (after s xs) ys
  unfolding table after
  table-append s [] ys = refl
  table-append s (x ∷ xs) ys =
      ap (λ (l : List ℕ). row s x ++ l) (table-append (step s x) xs ys)
      ∙ sym (append_assoc (row s x) (table row step (step s x) xs) (table row step (after (step s x) xs) ys))

  pub table_snoc : (s : S) (xs : List X) (x : X) → table row step s (xs ++ (x ∷ [])) ≡ table row step s xs ++ row (after s xs) x
  unfolding table
  table_snoc s xs x =
      table-append s xs (x ∷ []) ∙ ap (λ (l : List ℕ). table row step s xs ++ l) (append-nil (row (after s xs) x))

  -- cut around element k
  pub table-cut : (d : X) (s : S) (xs : List X) (k : ℕ) → k < length xs
      → table row step s xs
      ≡ table row step s (take k xs) ++ (row (after s (take k xs)) (get_or xs k d) ++ table row step (step (after s (take k xs)) (get_or xs k d)) (drop (suc k) xs))
  unfolding table
  table-cut d s xs k h =
      let e : xs ≡ take k xs ++ (get_or xs k d ∷ drop (suc k) xs) = sym (take-append-drop k xs) ∙ ap (λ (l : List X). take k xs ++ l) (drop-cons xs k d h) in
      ap (table row step s) e ∙ table-append s (take k xs) (get_or xs k d ∷ drop (suc k) xs)

  module _ (w : ℕ) (wide : (s : S) (x : X) → length (row s x) ≡ w) where
    pub table-length : (s : S) (xs : List X) → length (table row step s xs) ≡ w * length xs
    unfolding table
    table-length s [] = sym (mul-zero w)
    table-length s (x ∷ xs) =
        length-append (row s x) (table row step (step s x) xs) ∙ rw (wide s x, table-length (step s x) xs, mul-suc w (length xs), add_comm w (w * length xs))

    pub table_before : (s : S) (xs : List X) (k : ℕ) → k ≤ length xs → length (table row step s (take k xs)) ≡ w * k
    table_before s xs k h = table-length s (take k xs) ∙ ap (λ (i : ℕ). w * i) (length-take-le k xs h)

    -- from row k on there is the row of element k, in the state after the k before it
    pub table-row : (d : X) (s : S) (xs : List X) (r : List ℕ) (k : ℕ) → k < length xs
        → drop (w * k) (table row step s xs ++ r)
        ≡ row (after s (take k xs)) (get_or xs k d) ++ (table row step (step (after s (take k xs)) (get_or xs k d)) (drop (suc k) xs) ++ r)
    table-row d s xs r k h =
        let x = get_or xs k d in
        let t = after s (take k xs) in
        let p = table row step s (take k xs) in
        let q = table row step (step t x) (drop (suc k) xs) in
        ap (λ (l : List ℕ). drop (w * k) (l ++ r)) (table-cut d s xs k h)
        ∙ ap (drop (w * k)) (append_assoc p (row t x ++ q) r)
        ∙ drop_at p ((row t x ++ q) ++ r) (w * k) (table_before s xs k (omega arith))
        ∙ append_assoc (row t x) q r

-- ---- runs

module _ {X : Type 0} (f : ℕ → X) where
  pub length_run : (k n : ℕ) → length (run f k n) ≡ n
  unfolding run
  length_run k zero = refl
  length_run k (suc n) = ap suc (length_run (k + 1) n)

  pub run_none : (k : ℕ) → run f k 0 ≡ []
  unfolding run
  run_none k = refl

  pub run-get_or : (d : X) (k n i : ℕ) → i < n → get_or (run f k n) i d ≡ f (k + i)
  unfolding run
  run-get_or d k zero i h = absurd (not-suc-le-zero h)
  run-get_or d k (suc n) zero h = ap f (sym (add-zero k))
  run-get_or d k (suc n) (suc i) h =
      let e : k + 1 + i ≡ k + suc i = omega arith in
      run-get_or d (k + 1) n i (omega arith) ∙ ap f e

  pub run-add : (k m n : ℕ) → run f k (m + n) ≡ run f k m ++ run f (k + m) n
  unfolding run
  run-add k zero n = rw (zero-add, add-zero)
  run-add k (suc m) n =
      let e : k + 1 + m ≡ k + suc m = omega arith in
      ap (run f k) (suc-add m n) ∙ ap (λ (l : List X). f k ∷ l) (run-add (k + 1) m n ∙ ap (λ (j : ℕ). run f (k + 1) m ++ run f j n) e)

  -- a front, and what is left
  pub run-cut : (k i n : ℕ) → i ≤ n → run f k n ≡ run f k i ++ run f (k + i) (n - i)
  run-cut k i n h = let e : n ≡ i + (n - i) = omega arith in ap (run f k) e ∙ run-add k i (n - i)

  pub take-run : (k n : ℕ) → k ≤ n → take k (run f 0 n) ≡ run f 0 k
  take-run k n h = ap (take k) (run-cut 0 k n h) ∙ take_at (run f 0 k) (run f (0 + k) (n - k)) k (length_run 0 k)

  pub drop-run : (k n : ℕ) → k ≤ n → drop k (run f 0 n) ≡ run f k (n - k)
  drop-run k n h =
      ap (drop k) (run-cut 0 k n h)
      ∙ drop_at (run f 0 k) (run f (0 + k) (n - k)) k (length_run 0 k)
      ∙ ap (λ (i : ℕ). run f i (n - k)) (zero-add k)

  -- the first one, then the others
  pub run_suc : (k n : ℕ) → run f k (suc n) ≡ f k ∷ run f (k + 1) n
  unfolding run
  run_suc k n = refl

  pub run-first : (k n : ℕ) → 1 ≤ n → run f k n ≡ f k ∷ run f (k + 1) (n - 1)
  run-first k n h = let e : n ≡ suc (n - 1) = omega arith in ap (run f k) e ∙ run_suc k (n - 1)

  -- so of what is left of n after i
  pub run-next : (k n i : ℕ) → i < n → run f k (n - i) ≡ f k ∷ run f (k + 1) (n - (i + 1))
  run-next k n i h = let e : n - i ≡ suc (n - (i + 1)) = omega arith in ap (run f k) e ∙ run_suc k (n - (i + 1))

  pub run_end : (k n i : ℕ) → n ≤ i → run f k (n - i) ≡ []
  run_end k n i h = let e : n - i ≡ 0 = omega arith in ap (run f k) e ∙ run_none k

  -- one more at the end
  pub run_more : (k n : ℕ) → run f k (n + 1) ≡ run f k n ++ (f (k + n) ∷ [])
  unfolding run
  run_more k n = run-add k n 1

  pub run_snoc : (n : ℕ) → run f 0 (suc n) ≡ run f 0 n ++ (f n ∷ [])
  unfolding run
  run_snoc n = ap (run f 0) (sym (add-one n)) ∙ run-add 0 n 1 ∙ ap (λ (j : ℕ). run f 0 n ++ (f j ∷ [])) (zero-add n)

  pub run_is : (d : X) (k : ℕ) (xs : List X) → ((i : ℕ) → i < length xs → f (k + i) ≡ get_or xs i d) → run f k (length xs) ≡ xs
  run_is d k xs h =
      ext_get_or d (run f k (length xs)) xs (length_run k (length xs))
      (λ i l. let m : i < length xs = omega (arith, length_run k (length xs)) in run-get_or d k (length xs) i m ∙ h i m)

  pub run-all : (d : X) (n : ℕ) (xs : List X) → n ≡ length xs → ((i : ℕ) → i < length xs → f i ≡ get_or xs i d) → run f 0 n ≡ xs
  run-all d n xs e h = ap (run f 0) e ∙ run_is d 0 xs (λ i l. ap f (zero-add i) ∙ h i l)

  -- of what is made of the numbers, something is made
  pub map-run : {Y : Type 0} (g : X → Y) (k n : ℕ) → map g (run f k n) ≡ run (λ (i : ℕ). g (f i)) k n
  unfolding run
  map-run g k zero = refl
  map-run g k (suc n) = ap (λ l. g (f k) ∷ l) (map-run g (k + 1) n)

-- ---- lists one after the other

module _ {X Y : Type 0} (part : X → List Y) where
  pub concat-append : (xs ys : List X) → concat part (xs ++ ys) ≡ concat part xs ++ concat part ys
  unfolding concat
  concat-append [] ys = refl
  concat-append (x ∷ xs) ys = ap (λ (l : List Y). part x ++ l) (concat-append xs ys) ∙ sym (append_assoc (part x) (concat part xs) (concat part ys))

  pub concat_snoc : (xs : List X) (x : X) → concat part (xs ++ (x ∷ [])) ≡ concat part xs ++ part x
  unfolding concat
  concat_snoc xs x = concat-append xs (x ∷ []) ∙ ap (λ (l : List Y). concat part xs ++ l) (append-nil (part x))

  -- cut around element k
  pub concat-cut : (d : X) (xs : List X) (k : ℕ) → k < length xs
      → concat part xs ≡ concat part (take k xs) ++ (part (get_or xs k d) ++ concat part (drop (suc k) xs))
  unfolding concat
  concat-cut d xs k h =
      let e : xs ≡ take k xs ++ (get_or xs k d ∷ drop (suc k) xs) = sym (take-append-drop k xs) ∙ ap (λ (l : List X). take k xs ++ l) (drop-cons xs k d h) in
      ap (concat part) e ∙ concat-append (take k xs) (get_or xs k d ∷ drop (suc k) xs)

  -- from where the part of element k begins there is that part
  pub part_at : (d : X) (xs : List X) (r : List Y) (k : ℕ) → k < length xs
      → drop (length (concat part (take k xs))) (concat part xs ++ r) ≡ part (get_or xs k d) ++ (concat part (drop (suc k) xs) ++ r)
  part_at d xs r k h =
      let p = concat part (take k xs) in
      let x = part (get_or xs k d) in
      let q = concat part (drop (suc k) xs) in
      ap (λ (l : List Y). drop (length p) (l ++ r)) (concat-cut d xs k h)
      ∙ ap (drop (length p)) (append_assoc p (x ++ q) r)
      ∙ drop_at p ((x ++ q) ++ r) (length p) refl
      ∙ append_assoc x q r

  -- element j of the part of element k
  pub part_get_or : (c : Y) (d : X) (xs : List X) (k j : ℕ) → k < length xs → j < length (part (get_or xs k d))
      → get_or (concat part xs) (length (concat part (take k xs)) + j) c ≡ get_or (part (get_or xs k d)) j c
  part_get_or c d xs k j h l =
      let p = concat part (take k xs) in
      let x = part (get_or xs k d) in
      let q = concat part (drop (suc k) xs) in
      ap (λ (t : List Y). get_or t (length p + j) c) (concat-cut d xs k h)
      ∙ get_or-append-add p (x ++ q) j c
      ∙ get_or-append x q c j l

  pub concat-next : (d : X) (xs : List X) (k : ℕ) → k < length xs
      → length (concat part (take (suc k) xs)) ≡ length (concat part (take k xs)) + length (part (get_or xs k d))
  concat-next d xs k h =
      ap (λ (l : List X). length (concat part l)) (take-suc xs k d h)
      ∙ ap length (concat_snoc (take k xs) (get_or xs k d))
      ∙ length-append (concat part (take k xs)) (part (get_or xs k d))

  -- the part of element k ends within the whole
  pub part_within : (d : X) (xs : List X) (k : ℕ) → k < length xs
      → length (concat part (take k xs)) + length (part (get_or xs k d)) ≤ length (concat part xs)
  part_within d xs k h =
      let p = concat part (take k xs) in
      let x = part (get_or xs k d) in
      let q = concat part (drop (suc k) xs) in
      omega (arith, ap length (concat-cut d xs k h), length-append p (x ++ q), length-append x q)

  -- what stands before element k is as long as the sum of the parts' lengths
  pub concat-sum : (d : X) (g : ℕ → ℕ) (xs : List X) → ((i : ℕ) → i < length xs → g i ≡ length (part (get_or xs i d)))
      → (k : ℕ) → k ≤ length xs → sum g k ≡ length (concat part (take k xs))
  unfolding sum concat
  concat-sum d g xs e zero h = refl
  concat-sum d g xs e (suc k) h =
      ap₂ ◌+◌ (concat-sum d g xs e k (omega arith)) (e k h) ∙ sym (concat-next d xs k h)

-- the parts of a run
module _ {X Y : Type 0} (part : X → List Y) (f : ℕ → X) (k : ℕ) where
  pub concat-none : concat part (run f k 0) ≡ []
  unfolding concat run
  concat-none = refl

  -- one more at the end
  pub concat-more : (n : ℕ) → concat part (run f k (n + 1)) ≡ concat part (run f k n) ++ part (f (k + n))
  concat-more n = ap (concat part) (run_more f k n) ∙ concat_snoc part (run f k n) (f (k + n))

  pub concat_longer : (n : ℕ) → length (concat part (run f k (n + 1))) ≡ length (concat part (run f k n)) + length (part (f (k + n)))
  concat_longer n = ap length (concat-more n) ∙ length-append (concat part (run f k n)) (part (f (k + n)))

-- a state that counts: after some elements it has moved on by what their parts are long
pub after_adds : {X Y : Type 0} (row : ℕ → X → List ℕ) (step : ℕ → X → ℕ) (part : X → List Y) → ((s : ℕ) (x : X) → step s x ≡ s + length (part x))
    → (s : ℕ) (xs : List X) → after row step s xs ≡ s + length (concat part xs)
unfolding after concat
after_adds row step part e s [] = sym (add-zero s)
after_adds row step part e s (x ∷ xs) =
    after_adds row step part e (step s x) xs ∙ omega (arith, e s x, length-append (part x) (concat part xs))

-- ---- what a run adds up to, one more at a time

pub concat_grows : {X Y : Type 0} (part : X → List Y) (f : ℕ → X) (whole : ℕ → List Y) (n : ℕ)
    → whole 0 ≡ [] → ((i : ℕ) → i < n → whole i ++ part (f i) ≡ whole (suc i)) → concat part (run f 0 n) ≡ whole n
unfolding concat run
concat_grows part f whole zero z g = sym z
concat_grows part f whole (suc n) z g =
    ap (concat part) (run_snoc f n) ∙ concat_snoc part (run f 0 n) (f n)
    ∙ ap (λ l. l ++ part (f n)) (concat_grows part f whole n z (λ i h. g i (omega arith)))
    ∙ g n (omega arith)

module _ {S X : Type 0} (row : S → X → List ℕ) (step : S → X → S) (f : ℕ → X) (state : ℕ → S) where
  after_run : (n : ℕ) → ((i : ℕ) → i < n → step (state i) (f i) ≡ state (suc i)) → after row step (state 0) (run f 0 n) ≡ state n
  unfolding after run
  after_run zero e = refl
  after_run (suc n) e =
      ap (after row step (state 0)) (run_snoc f n) ∙ after_append row step (state 0) (run f 0 n) (f n ∷ [])
      ∙ ap (λ (s : S). step s (f n)) (after_run n (λ i h. e i (omega arith)))
      ∙ e n (omega arith)

  pub table_grows : (whole : ℕ → List ℕ) (n : ℕ) → whole 0 ≡ [] → ((i : ℕ) → i < n → step (state i) (f i) ≡ state (suc i))
      → ((i : ℕ) → i < n → whole i ++ row (state i) (f i) ≡ whole (suc i)) → table row step (state 0) (run f 0 n) ≡ whole n
  unfolding table run
  table_grows whole zero z e g = sym z
  table_grows whole (suc n) z e g =
      let e' : (i : ℕ) → i < n → step (state i) (f i) ≡ state (suc i) = λ i h. e i (omega arith) in
      ap (table row step (state 0)) (run_snoc f n) ∙ table_snoc row step (state 0) (run f 0 n) (f n)
      ∙ ap₂ (λ (l : List ℕ) (s : S). l ++ row s (f n)) (table_grows whole n z e' (λ i h. g i (omega arith))) (after_run n e')
      ∙ g n (omega arith)
