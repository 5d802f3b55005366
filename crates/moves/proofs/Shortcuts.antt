-- The code's shorter ways through a move line are those of the definitions.
-- Assumes nothing.
use Rattle.std.specs.Prelude.{Option, Some, None, Result, Ok, Err}
use Prim.Native.Nat.{ℕ, zero, suc, ◌+◌, ◌≤◌, ◌<◌}
use native.Mathlib.Omega.{arith}
use mathlib.Core.Path.{◌≡◌, refl, sym, ap, ◌∙◌}
use mathlib.Core.List.{List, [], ◌∷◌}
use mathlib.Core.Bool.{Bool, true, false, true≢false}
use lib.ListN.{length, get_or}
use lib.Dec.{eqb, leb, ltb}
use borrow.Author.Tests.{ne_eqb, eqb-true, eqb-false, ltb-true, ltb-false}
use Rattle.lists.specs.Pick.{pick}
use Rattle.lists.proofs.Laws.{by_pick, drop_step, pick_both}
use Rattle.text.specs.Text.{cursor, on_place, on_number, by_number, is_blank, is_text, is_digit, prefix_from, span_at, stands_at, tag_at, text_at, break_at, tail_end, tail_at, line_end_at, blanks_at, number_at, digits_at}
use Rattle.text.specs.declared.Cursor.{Cursor}
use Rattle.text.specs.declared.FigureError.{FigureError}
use Rattle.text.specs.declared.FigureError.TheVariants.{Absent, TooLarge}
use Rattle.text.proofs.Laws.{span-end, span-on, span_off, digit_bounds, stands_fits, stands_short, stands_off, tag_back}
use Rattle.text.proofs.Answers.{OnNumber, value, no_digit, too_large, by-number, by_three, by_past}
use Rattle.spell.specs.Spell.{on_spelled, first_of}
use Rattle.spell.specs.Tables.{spelling, files, numerals, specials}
use Rattle.spell.proofs.Lookups.{apart_first}
use Rattle.jkf.specs.declared.Clock.TheVariants.{Hms, Ms}
use Rattle.jkf.specs.declared.Target.{Target}
use Rattle.jkf.specs.declared.Target.TheVariants.{Same, Square}
use Rattle.jkf.specs.declared.Time.TheVariants.{Untimed}
use Rattle.jkf.specs.declared.Entry.{Entry}
use Rattle.moves.specs.Moves.{colon, on_clocked, on_what, on_move_line, timing, square_at, move_to_at, kind_to_origin_at, move_at, what_at, figure_at, hms_at, ms_at, clock_at, spaced_at, clocks_at, time_at, color_of, finished, move_line_at, kept_at, comment_line_at, move_line_end_at, begins_comment, ending_at}
use Rattle.spell.specs.Words.{same_word}
use Rattle.moves.specs.declared.Timing.{Timing}
use Rattle.moves.specs.declared.MoveLine.{MoveLine}
use Rattle.moves.proofs.Answers.{OnClocked, shows, no_clock, by_clocked}
use Rattle.jkf.specs.declared.Clock.{Clock}

-- ---- a special or a move

-- where 同 stands, no special does
same_apart : (s : List ℕ) (at : ℕ) → stands_at same_word s at ≡ true → first_of specials s at ≡ None
unfolding first_of
same_apart s at t = apart_first (spelling 0 same_word ∷ []) specials refl refl refl s at 0 (cursor (at + 3)) (rw t)

-- nor where a file does
square_apart : (s : List ℕ) (at : ℕ) (t : Target) (c : Cursor) → square_at s at ≡ Some (t, c) → first_of specials s at ≡ None
unfolding square_at
square_apart s at t c q = go (first_of files s at) refl q
  where
    go : (r : Option (ℕ × Cursor)) → first_of files s at ≡ r
        → on_spelled {A = Option (Target × Cursor)} r (λ x c. on_spelled {A = Option (Target × Cursor)} (first_of numerals s c.at) (λ y d. Some (Square x y, d)) None) None ≡ Some (t, c) → first_of specials s at ≡ None
    go (Some (x, d)) e q = apart_first files specials refl refl refl s at x d e
    go None e q = let z : ◌≡◌ {A = ℕ} 0 1 = cc in absurd (omega arith)

aim_apart : (s : List ℕ) (at : ℕ) (t : Target) (c : Cursor) → move_to_at s at ≡ Some (t, c) → first_of specials s at ≡ None
unfolding move_to_at tag_at
aim_apart s at t c q = go (stands_at same_word s at) refl q
  where
    go : (u : Bool) → stands_at same_word s at ≡ u
        → on_place (pick u (Some (cursor (at + 3))) None) (λ c. on_place (tag_at (227 ∷ 128 ∷ 128 ∷ []) s c.at) (λ d. Some (Same, d)) (Some (Same, c))) (square_at s at) ≡ Some (t, c)
        → first_of specials s at ≡ None
    go true e q = same_apart s at e
    go false e q = square_apart s at t c q

-- what has a target is a move
pub what-move : (s : List ℕ) (at : ℕ) (t : Target) (c : Cursor) → move_to_at s at ≡ Some (t, c) → what_at s at ≡ kind_to_origin_at t s c.at
unfolding what_at move_at
what-move s at t c q = rw (aim_apart s at t c q, q)

-- and what has none can only be a special
pub what-ending : (s : List ℕ) (at : ℕ) → move_to_at s at ≡ None → what_at s at ≡ ending_at s at
unfolding what_at move_at
what-ending s at q = rw q (alone (ending_at s at))
  where
    alone : (w : Option (Entry × Cursor)) → on_what w (λ e c. Some (e, c)) None ≡ w
    alone (Some (e, c)) = refl
    alone None = refl

-- ---- a clock in one pass

-- from the second figure on, after the first
abbrev pub clock_from : List ℕ → ℕ → ℕ → Option (Clock × Cursor)
clock_from s a at =
    on_number (digits_at 255 s at)
    (λ b c. on_place (tag_at colon s c.at)
    (λ d. on_number (digits_at 255 s d.at) (λ n e. Some (Hms a b n, e)) (Some (Ms a b, c)))
    (Some (Ms a b, c)))
    None

clock-from : (s : List ℕ) (a at : ℕ)
    → on_clocked (on_number (figure_at s at) (λ m d. on_number (digits_at 255 s d.at) (λ n e. Some (Hms a m n, e)) None) None) (λ k e. Some (k, e))
    (on_number (digits_at 255 s at) (λ n d. Some (Ms a n, d)) None) ≡ clock_from s a at
unfolding figure_at
clock-from s a at = go (digits_at 255 s at)
  where
    third : (b : ℕ) (c : Cursor) (r : Result (ℕ × Cursor) FigureError)
        → on_clocked {A = Option (Clock × Cursor)} (on_number {A = Option (Clock × Cursor)} r (λ n e. Some (Hms a b n, e)) None) (λ k e. Some (k, e)) (Some (Ms a b, c)) ≡ on_number {A = Option (Clock × Cursor)} r (λ n e. Some (Hms a b n, e)) (Some (Ms a b, c))
    third b c (Ok (n, e)) = refl
    third b c (Err Absent) = refl
    third b c (Err TooLarge) = refl

    second : (b : ℕ) (c : Cursor) (p : Option Cursor)
        → on_clocked {A = Option (Clock × Cursor)} (on_number {A = Option (Clock × Cursor)} (on_place p (λ e. Ok (b, e)) (Err Absent)) (λ m d. on_number (digits_at 255 s d.at) (λ n e. Some (Hms a m n, e)) None) None) (λ k e. Some (k, e)) (Some (Ms a b, c))
        ≡ on_place {A = Option (Clock × Cursor)} p (λ d. on_number (digits_at 255 s d.at) (λ n e. Some (Hms a b n, e)) (Some (Ms a b, c))) (Some (Ms a b, c))
    second b c (Some d) = third b c (digits_at 255 s d.at)
    second b c None = refl

    go : (r : Result (ℕ × Cursor) FigureError)
        → on_clocked {A = Option (Clock × Cursor)} (on_number {A = Option (Clock × Cursor)} (by_number r (λ n c. on_place (tag_at colon s c.at) (λ e. Ok (n, e)) (Err Absent)) (Err Absent) (Err TooLarge)) (λ m d. on_number (digits_at 255 s d.at) (λ n e. Some (Hms a m n, e)) None) None) (λ k e. Some (k, e))
        (on_number {A = Option (Clock × Cursor)} r (λ n d. Some (Ms a n, d)) None)
        ≡ on_number {A = Option (Clock × Cursor)} r (λ b c. on_place (tag_at colon s c.at) (λ d. on_number (digits_at 255 s d.at) (λ n e. Some (Hms a b n, e)) (Some (Ms a b, c))) (Some (Ms a b, c))) None
    go (Ok (b, c)) = second b c (tag_at colon s c.at)
    go (Err Absent) = refl
    go (Err TooLarge) = refl

pub clock_is : (s : List ℕ) (at : ℕ) → clock_at s at ≡ on_number (figure_at s at) (λ a c. clock_from s a c.at) None
unfolding clock_at hms_at ms_at
clock_is s at = go (figure_at s at)
  where
    go : (r : Result (ℕ × Cursor) FigureError)
        → on_clocked (on_number r (λ h c. on_number (figure_at s c.at) (λ m d. on_number (digits_at 255 s d.at) (λ n e. Some (Hms h m n, e)) None) None) None) (λ k e. Some (k, e))
        (on_number r (λ m c. on_number (digits_at 255 s c.at) (λ n d. Some (Ms m n, d)) None) None)
        ≡ on_number r (λ a c. clock_from s a c.at) None
    go (Ok (a, c)) = clock-from s a c.at
    go (Err Absent) = refl
    go (Err TooLarge) = refl

-- ---- a time is text

module _ (s : List ℕ) where
  -- from one place to another only text is passed
  abbrev pub Along : ℕ → ℕ → Type 0
  Along a b = text_at s a ≡ text_at s b

  pub span_along : (f : ℕ → Bool) → ((b : ℕ) → f b ≡ true → is_text b ≡ true) → (k at : ℕ) → length s ≤ at + k → Along at (span_at f s at)
  span_along f t zero at h = ap (text_at s) (sym (span-end f s at (omega arith)))
  span_along f t (suc k) at h = go (ltb at (length s)) refl (f (get_or s at 0)) refl (span_along f t k (at + 1) (omega arith))
    where
      go : (u : Bool) → ltb at (length s) ≡ u → (v : Bool) → f (get_or s at 0) ≡ v → Along (at + 1) (span_at f s (at + 1)) → Along at (span_at f s at)
      go true p true q ih = let i = ltb-true at (length s) p in span-on is_text s at i (t (get_or s at 0) q) ∙ ih ∙ ap (text_at s) (sym (span-on f s at i q))
      go true p false q ih = ap (text_at s) (sym (span_off f s at (ltb-true at (length s) p) q))
      go false p v q ih = ap (text_at s) (sym (span-end f s at (ltb-false at (length s) p)))

  blank-text : (b : ℕ) → is_blank b ≡ true → is_text b ≡ true
  blank-text b = by_pick (λ u. u ≡ true → is_text b ≡ true) (eqb b 32) true (eqb b 9) (λ p q. ap is_text (eqb-true b 32 p)) (λ p q. ap is_text (eqb-true b 9 q))

  digit-text : (b : ℕ) → is_digit b ≡ true → is_text b ≡ true
  digit-text b t = let h = digit_bounds b t in rw (ne_eqb b 10 (λ e. omega arith), ne_eqb b 13 (λ e. omega arith))

  pub blanks_along : (at : ℕ) → Along at (blanks_at s at)
  blanks_along at = span_along is_blank blank-text (length s) at (omega arith)

  pub digits_along : (largest at : ℕ) → OnNumber (λ n c. Along at c.at) (digits_at largest s at)
  unfolding digits_at
  digits_along largest at =
      let n : ℕ = number_at s at 0 in
      let e : ℕ = span_at is_digit s at in
      by_pick (OnNumber (λ n c. Along at c.at)) (eqb e at) (Err Absent) (pick (leb n largest) (Ok (n, cursor e)) (Err TooLarge)) (λ t. no_digit)
      (λ t. by_pick (OnNumber (λ n c. Along at c.at)) (leb n largest) (Ok (n, cursor e)) (Err TooLarge)
      (λ u. value (span_along is_digit digit-text (length s) at (omega arith))) (λ u. too_large))

  one_stands : (b at : ℕ) → at < length s → stands_at (b ∷ []) s at ≡ true → get_or s at 0 ≡ b
  unfolding stands_at prefix_from
  one_stands b at h e = eqb-true (get_or s at 0) b (pick_both (eqb (get_or s at 0) b) true (rw (drop_step s at h) at e)).0

  tag_along : (b : ℕ) → is_text b ≡ true → (at : ℕ) (c : Cursor) → tag_at (b ∷ []) s at ≡ Some c → Along at c.at
  tag_along b t at c e =
      let (p, q) = tag_back (b ∷ []) s at c e in
      let h : at < length s = omega (arith, stands_fits (b ∷ []) s at p) in
      span-on is_text s at h (ap is_text (one_stands b at h p) ∙ t) ∙ ap (text_at s) (sym q)

  figure_along : (at : ℕ) → OnNumber (λ n c. Along at c.at) (figure_at s at)
  unfolding figure_at
  figure_along at =
      by_three (OnNumber (λ n c. Along at c.at)) no_digit too_large (digits_along 255 at)
      (λ n c h. by_past (OnNumber (λ n c. Along at c.at)) no_digit (tag_at colon s c.at) (λ e q. value (h ∙ tag_along 58 refl c.at e q)))

  hms_along : (at : ℕ) → OnClocked (λ k c. Along at c.at) (hms_at s at)
  unfolding hms_at
  hms_along at =
      by-number (OnClocked (λ k c. Along at c.at)) no_clock (figure_along at)
      (λ h c p. by-number (OnClocked (λ k c. Along at c.at)) no_clock (figure_along c.at)
      (λ m d q. by-number (OnClocked (λ k c. Along at c.at)) no_clock (digits_along 255 d.at) (λ n e r. shows (p ∙ q ∙ r))))

  ms_along : (at : ℕ) → OnClocked (λ k c. Along at c.at) (ms_at s at)
  unfolding ms_at
  ms_along at =
      by-number (OnClocked (λ k c. Along at c.at)) no_clock (figure_along at)
      (λ m c p. by-number (OnClocked (λ k c. Along at c.at)) no_clock (digits_along 255 c.at) (λ n d q. shows (p ∙ q)))

  clock_along : (at : ℕ) → OnClocked (λ k c. Along at c.at) (clock_at s at)
  unfolding clock_at
  clock_along at = by_clocked (OnClocked (λ k c. Along at c.at)) (ms_along at) (hms_along at) (λ k c p. shows p)

  spaced_along : (at : ℕ) → OnClocked (λ k c. Along at c.at) (spaced_at s at)
  unfolding spaced_at
  spaced_along at =
      by_clocked (OnClocked (λ k c. Along at c.at)) no_clock (clock_along (blanks_at s at)) (λ k c p. shows (blanks_along at ∙ p ∙ blanks_along c.at))

  clocks_along : (b at : ℕ) (none : Timing) → Along b at → Along b none.next.at → Along b (clocks_at s at none).next.at
  unfolding clocks_at
  clocks_along b at none h z =
      by_clocked (λ (t : Timing). Along b t.next.at) z (spaced_along at)
      (λ now c p. by_past (λ (t : Timing). Along b t.next.at) z (tag_at (47 ∷ []) s c.at)
      (λ d q. by_clocked (λ (t : Timing). Along b t.next.at) z (spaced_along d.at)
      (λ total e r. by_past (λ (t : Timing). Along b t.next.at) z (tag_at (41 ∷ []) s e.at)
      (λ f v. h ∙ p ∙ tag_along 47 refl c.at d q ∙ r ∙ tag_along 41 refl e.at f v))))

  time_along : (at : ℕ) → Along at (time_at s at).next.at
  unfolding time_at
  time_along at =
      by_past (λ (t : Timing). Along at t.next.at) refl (tag_at (40 ∷ []) s at)
      (λ c p. clocks_along at c.at (timing Untimed (cursor at)) (tag_along 40 refl at c p) refl)

  -- the line ends where it ends from before the time
  line_along : (a b : ℕ) → Along a b → line_end_at s a ≡ line_end_at s b
  unfolding line_end_at tail_at
  line_along a b p = ap (λ (e : ℕ). on_place (tail_end s e) (λ c. break_at s c.at) None) p

  time-line : (d : ℕ) → line_end_at s (time_at s (blanks_at s d)).next.at ≡ line_end_at s d
  time-line d = sym (line_along d (time_at s (blanks_at s d)).next.at (blanks_along d ∙ time_along (blanks_at s d)))

-- ---- the place past a move line

abbrev line_at : List ℕ → ℕ → Entry → Cursor → Option MoveLine
line_at s n e d =
    on_place (line_end_at s (time_at s (blanks_at s d.at)).next.at) (λ f. Some (record { number = n; entry = (finished (color_of n) (time_at s (blanks_at s d.at)).time e); next = f })) None

place-line : (n : ℕ) (e : Entry) (p : Option Cursor) → on_move_line (on_place p (λ f. Some (record { number = n; entry = e; next = f })) None) (λ n e c. Some c) None ≡ p
place-line n e (Some c) = refl
place-line n e None = refl

pub line-end_is : (s : List ℕ) (at : ℕ)
    → move_line_end_at s at ≡ on_number (digits_at 18446744073709551615 s (blanks_at s at)) (λ n c. on_what (what_at s (blanks_at s c.at)) (λ e d. line_end_at s d.at) None) None
unfolding move_line_end_at move_line_at
line-end_is s at = go (digits_at 18446744073709551615 s (blanks_at s at))
  where
    played : (n : ℕ) (w : Option (Entry × Cursor)) → on_move_line (on_what w (λ e d. (line_at s n e d)) None) (λ n e c. Some c) None ≡ on_what w (λ e d. line_end_at s d.at) None
    played n (Some (e, d)) = place-line n (finished (color_of n) (time_at s (blanks_at s d.at)).time e) (line_end_at s (time_at s (blanks_at s d.at)).next.at) ∙ time-line s d.at
    played n None = refl

    go : (r : Result (ℕ × Cursor) FigureError) → on_move_line (on_number r (λ n c. on_what (what_at s (blanks_at s c.at)) (λ e d. (line_at s n e d)) None) None) (λ n e c. Some c) None
        ≡ on_number r (λ n c. on_what (what_at s (blanks_at s c.at)) (λ e d. line_end_at s d.at) None) None
    go (Ok (n, c)) = played n (what_at s (blanks_at s c.at))
    go (Err Absent) = refl
    go (Err TooLarge) = refl

-- where it is there, the line is, and where it is not, there is none
pub line_back : (s : List ℕ) (at : ℕ) (c : Cursor) → move_line_end_at s at ≡ Some c → (n : ℕ) × (e : Entry) × (move_line_at s at ≡ Some (record { number = n; entry = e; next = c }))
unfolding move_line_end_at
line_back s at c q = go (move_line_at s at) q
  where
    go : (r : Option MoveLine) → on_move_line r (λ n e c. Some c) None ≡ Some c → (n : ℕ) × (e : Entry) × (r ≡ Some (record { number = n; entry = e; next = c }))
    go (Some r) q = let z : r.next ≡ c = cc in (r.number, r.entry, ap (λ (x : Cursor). Some (record { number = r.number; entry = r.entry; next = x })) z)
    go None q = let z : ◌≡◌ {A = ℕ} 0 1 = cc in absurd (omega arith)

pub line-none : (s : List ℕ) (at : ℕ) → move_line_end_at s at ≡ None → move_line_at s at ≡ None
unfolding move_line_end_at
line-none s at q = go (move_line_at s at) q
  where
    go : (r : Option MoveLine) → on_move_line r (λ n e c. Some c) None ≡ None → r ≡ None
    go (Some r) q = let z : ◌≡◌ {A = ℕ} 0 1 = cc in absurd (omega arith)
    go None q = refl

-- ---- a comment

module _ (s : List ℕ) (at : ℕ) where
  -- another byte stands here, or none
  no_tag : (b : ℕ) → (get_or s at 0 ≡ b → ⊥) → tag_at (b ∷ []) s at ≡ None
  unfolding tag_at
  no_tag b g = go (ltb at (length s)) refl
    where
      go : (u : Bool) → ltb at (length s) ≡ u → pick (stands_at (b ∷ []) s at) (Some (cursor (at + 1))) None ≡ None
      go true p = rw (stands_off (b ∷ []) s 0 at (omega arith) (ltb-true _ _ p) g)
      go false p = rw (stands_short (b ∷ []) s 0 at (omega arith) (ltb-false _ _ p))

  -- where none begins, none stands
  pub no_comment : begins_comment s at ≡ false → comment_line_at s at ≡ None
  unfolding begins_comment comment_line_at kept_at
  no_comment = go (eqb (get_or s at 0) 42) (eqb (get_or s at 0) 38) refl refl
    where
      go : (u v : Bool) → eqb (get_or s at 0) 42 ≡ u → eqb (get_or s at 0) 38 ≡ v → pick (eqb (get_or s at 0) 42) true (eqb (get_or s at 0) 38) ≡ false → comment_line_at s at ≡ None
      go true v p q h = absurd (true≢false (rw p at h))
      go false true p q h = absurd (true≢false (rw (p, q) at h))
      go false false p q h = rw (no_tag 42 (eqb-false _ _ p), no_tag 38 (eqb-false _ _ q))
