-- What is read is fit: every figure of an answer is in its range, and every answer goes on from its place. One law for each step.
-- So a line's entry is one that a block can hold, and its bytes are bytes.
-- Assumes nothing.
use Rattle.std.specs.Prelude.{Option, Some, Result}
use Prim.Native.Nat.{ℕ, ◌/◌, ◌%◌, ◌≤◌, ◌<◌}
use native.Mathlib.Nat.{le_refl}
use native.Mathlib.Omega.{arith}
use mathlib.Core.Path.{◌≡◌, refl}
use mathlib.Core.List.{List, [], ◌∷◌}
use mathlib.Core.Bool.{true, false}
use lib.ListN.{length}
use lib.Dec.{eqb}
use borrow.Author.Tests.{eqb-true}
use Rattle.lists.proofs.Laws.{range_at}
use Rattle.text.specs.Text.{cursor, tag_at, line_end_at, is_blank, blanks_at, wide_space}
use Rattle.text.specs.declared.Cursor.{Cursor}
use Rattle.text.proofs.Laws.{span_ge, tag_after, After, line-end_after}
use Rattle.text.proofs.Answers.{by_past, by-number, by_three, Counted, digits_fit}
use Rattle.spell.specs.Tables.{Spelling, kinds, specials, numerals, files}
use Rattle.spell.specs.Spell.{first_of, has_number}
use Rattle.spell.proofs.Answers.{OnSpelled, by_spelled, below, Known, first_known, first_has, first_some, both_spelled}
use Rattle.jkf.specs.Entries.{special_number, special_of}
use Rattle.jkf.specs.declared.Clock.{Clock}
use Rattle.jkf.specs.declared.Time.{Time}
use Rattle.jkf.specs.declared.Time.TheVariants.{Untimed, Timed}
use Rattle.jkf.specs.declared.Target.{Target}
use Rattle.jkf.specs.declared.Target.TheVariants.{Square}
use Rattle.jkf.specs.declared.Move.{Move}
use Rattle.jkf.specs.declared.Entry.{Entry}
use Rattle.jkf.specs.declared.Entry.TheVariants.{Moved, End}
use Rattle.moves.specs.Moves.{on_what, square_at, move_to_at, promote_at, origin_at, move_from_at, move_entry, kind_to_origin_at, move_at, what_at, hms_at, ms_at, clock_at, spaced_at, clocks_at, timing, time_at, color_of, finished, move_line_at}
use Rattle.spell.specs.Words.{same_word, promotes, declines, drops}
use Rattle.moves.specs.Fits.{ClockFits, hms_fits, ms_fits, TimeFits, untimed_fits, timed_fits, TargetFits, same_fits, square_fits, OriginFits, from_fits, MoveFits, EntryFits, play_fits, end_fits}
use Rattle.text.specs.declared.FigureError.{FigureError}
use Rattle.moves.specs.declared.Mark.{Mark}
use Rattle.moves.specs.declared.MoveLine.{MoveLine}
use Rattle.moves.specs.declared.Timing.{Timing}
use Rattle.moves.proofs.Figures.{figure_fits}
use Rattle.moves.proofs.Answers.{OnAim, to, no_aim, OnSource, out, no_source, too_large_source, OnClocked, shows, no_clock, OnWhat, is, nothing, OnMoveLine, numbered, no_line, by_aim, by_source, by_clocked, by_what}

-- ---- an answer that is fit and goes on from its place

pub record Read {A : Type 0} (F : A → Type 0) (at : ℕ) (a : A) (c : Cursor) : Type 0 where
  pub fit : F a
  pub past : at < c.at

tag_past : (t s : List ℕ) (at : ℕ) (c : Cursor) → 0 < length t → tag_at t s at ≡ Some c → at < c.at
tag_past t s at c n e = (tag_after t s at c n e).past

-- a spelling of a table that does not have 0
listed : (m : ℕ) (es : List Spelling) → below m es ≡ true → has_number es 0 ≡ false → (s : List ℕ) (at : ℕ) → OnSpelled (λ n c. Known m at n c × (1 ≤ n)) (first_of es s at)
listed m es p z s at = both_spelled (first_known m es p s at) (first_some es z s at)

-- ---- a move

pub square-fits : (s : List ℕ) (at : ℕ) → OnAim (Read TargetFits at) (square_at s at)
unfolding square_at has_number
square-fits s at =
    by_spelled Q no_aim (listed 10 files refl refl s at) (λ x c h. by_spelled Q no_aim (listed 10 numerals refl refl s c.at) (λ y d k. to (seen x y c d h k)))
  where
    Q : Option (Target × Cursor) → Type 0
    Q = OnAim (Read TargetFits at)

    seen : (x y : ℕ) (c d : Cursor) → Known 10 at x c × (1 ≤ x) → Known 10 c.at y d × (1 ≤ y) → Read TargetFits at (Square x y) d
    seen x y c d (h, i) (k, j) =
        let a = h.small in
        let b = k.small in
        let p = h.past in
        let q = k.past in
        record { fit = square_fits i (omega arith) j (omega arith); past = omega arith }

pub move_to_fits : (s : List ℕ) (at : ℕ) → OnAim (Read TargetFits at) (move_to_at s at)
unfolding move_to_at
move_to_fits s at =
    by_past Q (square-fits s at) (tag_at same_word s at)
    (λ c p. let a = tag_past same_word s at c (omega arith) p in
    by_past Q (to (record { fit = same_fits; past = a })) (tag_at wide_space s c.at)
    (λ d q. let b = tag_past wide_space s c.at d (omega arith) q in to (record { fit = same_fits; past = omega arith })))
  where
    Q : Option (Target × Cursor) → Type 0
    Q = OnAim (Read TargetFits at)

pub promote_fits : (s : List ℕ) (at : ℕ) → ((promote_at s at).promote ≤ 2) × (at ≤ (promote_at s at).next.at)
unfolding promote_at
promote_fits s at =
    by_past Q
    (by_past Q (omega arith, omega arith) (tag_at declines s at) (λ c p. let a = tag_past declines s at c (omega arith) p in (omega arith, omega arith)))
    (tag_at promotes s at) (λ c p. let a = tag_past promotes s at c (omega arith) p in (omega arith, omega arith))
  where
    Q : Mark → Type 0
    Q m = (m.promote ≤ 2) × (at ≤ m.next.at)

pub origin-fits : (s : List ℕ) (at : ℕ) → OnSource (Read OriginFits at) (origin_at s at)
unfolding origin_at
origin-fits s at =
    by_past Q no_source (tag_at (40 ∷ []) s at)
    (λ c p. by_three Q no_source too_large_source (digits_fit 255 s c.at)
    (λ n d h. by_past Q no_source (tag_at (41 ∷ []) s d.at)
    (λ e q. out (seen n c d e (tag_past _ s at c (omega arith) p) h (tag_past _ s d.at e (omega arith) q)))))
  where
    Q : Result (Option (ℕ × ℕ) × Cursor) FigureError → Type 0
    Q = OnSource (Read OriginFits at)

    seen : (n : ℕ) (c d e : Cursor) → at < c.at → Counted 255 c.at n d → d.at < e.at → Read OriginFits at (Some (n / 10, n % 10)) e
    seen n c d e a h b =
        let k = h.small in
        let p = h.past in
        record { fit = from_fits {x = n / 10} {y = n % 10} (omega arith) (omega arith) (omega arith); past = omega arith }

pub move-from-fits : (s : List ℕ) (at : ℕ) → OnSource (Read OriginFits at) (move_from_at s at)
unfolding move_from_at
move-from-fits s at =
    by_past (OnSource (Read OriginFits at)) (origin-fits s at) (tag_at drops s at)
    (λ c p. out (record { fit = from_fits {x = 0} {y = 0} (omega arith) (omega arith) (omega arith); past = tag_past drops s at c (omega arith) p }))

pub piece_fits : (t : Target) → TargetFits t → (s : List ℕ) (b at : ℕ) → b ≤ at → OnWhat (Read EntryFits b) (kind_to_origin_at t s at)
unfolding kind_to_origin_at has_number
piece_fits t f s b at g =
    by_spelled Q nothing (listed 15 kinds refl refl s at)
    (λ k c h. by_source Q nothing (move-from-fits s (promote_at s c.at).next.at) (λ o d i. is (seen k c o d h (promote_fits s c.at) i)))
  where
    Q : Option (Entry × Cursor) → Type 0
    Q = OnWhat (Read EntryFits b)

    seen : {m : Mark} (k : ℕ) (c : Cursor) (o : Option (ℕ × ℕ)) (d : Cursor) → Known 15 at k c × (1 ≤ k) → (m.promote ≤ 2) × (c.at ≤ m.next.at) → Read OriginFits m.next.at o d
        → Read EntryFits b (move_entry t k m.promote o) d
    seen k c o d (h, i) (u, v) w =
        let a = h.small in
        let p = h.past in
        let q = w.past in
        let z : 0 ≤ 1 = omega arith in
        let j : k ≤ 14 = omega arith in
        record {
          fit = play_fits (record { side = z; some = i; kind = j; mark = u; target = f; origin = w.fit; time = untimed_fits });
          past = omega arith;
        }

pub move-fits : (s : List ℕ) (at : ℕ) → OnWhat (Read EntryFits at) (move_at s at)
unfolding move_at
move-fits s at = by_aim (OnWhat (Read EntryFits at)) nothing (move_to_fits s at) (λ t c h. let p = h.past in piece_fits t h.fit s at c.at (omega arith))

special_same : (n : ℕ) → n < 14 → special_number (special_of n) ≡ n
special_same n h = eqb-true _ _ (range_at (λ k. eqb (special_number (special_of k)) k) 14 0 n refl (omega arith) h)

pub what-fits : (s : List ℕ) (at : ℕ) → OnWhat (Read EntryFits at) (what_at s at)
unfolding what_at
what-fits s at =
    by_spelled (λ (w : Option (Entry × Cursor)). OnWhat (Read EntryFits at) (on_what w (λ e c. Some (e, c)) (move_at s at))) (move-fits s at) (both_spelled (first_known 14 specials refl s at) (first_has specials s at))
    (λ n c h. is (record { fit = end_fits (rw (special_same n h.0.small) h.1) untimed_fits; past = h.0.past }))

-- ---- a time

pub hms-fits : (s : List ℕ) (at : ℕ) → OnClocked (Read ClockFits at) (hms_at s at)
unfolding hms_at
hms-fits s at =
    by-number Q no_clock (figure_fits s at)
    (λ h c i. by-number Q no_clock (figure_fits s c.at)
    (λ m d j. by-number Q no_clock (digits_fit 255 s d.at)
    (λ n e k. let p = i.past in let q = j.past in let r = k.past in shows (record { fit = hms_fits i.small j.small k.small; past = omega arith }))))
  where
    Q : Option (Clock × Cursor) → Type 0
    Q = OnClocked (Read ClockFits at)

pub ms-fits : (s : List ℕ) (at : ℕ) → OnClocked (Read ClockFits at) (ms_at s at)
unfolding ms_at
ms-fits s at =
    by-number Q no_clock (figure_fits s at)
    (λ m c i. by-number Q no_clock (digits_fit 255 s c.at)
    (λ n d j. let p = i.past in let q = j.past in shows (record { fit = ms_fits i.small j.small; past = omega arith })))
  where
    Q : Option (Clock × Cursor) → Type 0
    Q = OnClocked (Read ClockFits at)

pub clock_fits : (s : List ℕ) (at : ℕ) → OnClocked (Read ClockFits at) (clock_at s at)
unfolding clock_at
clock_fits s at = by_clocked (OnClocked (Read ClockFits at)) (ms-fits s at) (hms-fits s at) (λ k c h. shows h)

pub spaced-fits : (s : List ℕ) (at : ℕ) → OnClocked (Read ClockFits at) (spaced_at s at)
unfolding spaced_at
spaced-fits s at =
    by_clocked (OnClocked (Read ClockFits at)) no_clock (clock_fits s (blanks_at s at))
    (λ k c h. let p = h.past in
    let a = span_ge is_blank s at in
    let b = span_ge is_blank s c.at in
    shows (record { fit = h.fit; past = omega arith }))

-- a time that is fit, and a place from b on
pub record TimingFits (b : ℕ) (t : Timing) : Type 0 where
  pub fit : TimeFits t.time
  pub from : b ≤ t.next.at

pub clocks_fit : (s : List ℕ) (b at : ℕ) (none : Timing) → b ≤ at → TimingFits b none → TimingFits b (clocks_at s at none)
unfolding clocks_at
clocks_fit s b at none g z =
    by_clocked Q z (spaced-fits s at)
    (λ now c h. by_past Q z (tag_at (47 ∷ []) s c.at)
    (λ d p. by_clocked Q z (spaced-fits s d.at)
    (λ total e k. by_past Q z (tag_at (41 ∷ []) s e.at)
    (λ f q. seen now total c d e f h (tag_past _ s c.at d (omega arith) p) k (tag_past _ s e.at f (omega arith) q)))))
  where
    Q : Timing → Type 0
    Q = TimingFits b

    seen : (now total : Clock) (c d e f : Cursor) → Read ClockFits at now c → c.at < d.at → Read ClockFits d.at total e → e.at < f.at → TimingFits b (timing (Timed now total) f)
    seen now total c d e f h i k j =
        let p = h.past in
        let q = k.past in
        record { fit = timed_fits h.fit k.fit; from = omega arith }

pub time-fits : (s : List ℕ) (at : ℕ) → TimingFits at (time_at s at)
unfolding time_at
time-fits s at =
    let z : TimingFits at (timing Untimed (cursor at)) = record { fit = untimed_fits; from = le_refl at } in
    by_past (TimingFits at) z (tag_at (40 ∷ []) s at)
    (λ c p. let a = tag_past (40 ∷ []) s at c (omega arith) p in clocks_fit s at c.at _ (omega arith) z)

-- ---- the line

finished-fits : (c : ℕ) (t : Time) (e : Entry) → c ≤ 1 → TimeFits t → EntryFits e → EntryFits (finished c t e)
unfolding finished
finished-fits c t (Moved m) h f (play_fits g) =
    play_fits (record { side = h; some = g.some; kind = g.kind; mark = g.mark; target = g.target; origin = g.origin; time = f })
finished-fits c t (End x u) h f (end_fits g _) = end_fits g f
finished-fits c t Rattle.jkf.specs.declared.Entry.TheVariants.Slot h f e = elim e [ ]

-- a line's number, its entry and its end
pub record LineFits (s : List ℕ) (at n : ℕ) (e : Entry) (c : Cursor) : Type 0 where
  pub number : n < 18446744073709551616
  pub entry : EntryFits e
  pub end : After at (length s) c

pub move-line-fits : (s : List ℕ) (at : ℕ) → OnMoveLine (LineFits s at) (move_line_at s at)
unfolding move_line_at
move-line-fits s at =
    by-number Q no_line (digits_fit 18446744073709551615 s (blanks_at s at))
    (λ n c h. by_what Q no_line (what-fits s (blanks_at s c.at))
    (λ e d k. by_past Q no_line (line_end_at s (time_at s (blanks_at s d.at)).next.at)
    (λ f q. numbered (seen n c e d f h k (time-fits s (blanks_at s d.at)) (line-end_after s _ f q)))))
  where
    Q : Option MoveLine → Type 0
    Q = OnMoveLine (LineFits s at)

    seen : {t : Timing} (n : ℕ) (c : Cursor) (e : Entry) (d f : Cursor) → Counted 18446744073709551615 (blanks_at s at) n c → Read EntryFits (blanks_at s c.at) e d → TimingFits (blanks_at s d.at) t
        → After t.next.at (length s) f → LineFits s at n (finished (color_of n) t.time e) f
    seen {t} n c e d f h k i j =
        let h₁ = h.small in
        let p = h.past in
        let q = k.past in
        let r = i.from in
        let u = j.past in
        let a = span_ge is_blank s at in
        let b = span_ge is_blank s c.at in
        let g = span_ge is_blank s d.at in
        record {
          number = omega arith;
          entry = finished-fits (color_of n) t.time e (omega arith) i.fit k.fit;
          end = record { past = omega arith; within = j.within };
        }

pub line-fits : (s : List ℕ) (at : ℕ) → OnMoveLine (λ n e c. (n < 18446744073709551616) × EntryFits e) (move_line_at s at)
line-fits s at = go (move-line-fits s at)
  where
    go : {r : Option MoveLine} → OnMoveLine (LineFits s at) r → OnMoveLine (λ n e c. (n < 18446744073709551616) × EntryFits e) r
    go (numbered h) = numbered (h.number, h.entry)
    go no_line = no_line

-- ---- what a block asks

pub play-fits : (m : Move) → EntryFits (Moved m) → MoveFits m
play-fits m (play_fits h) = h

pub kind_fits : (m : Move) → EntryFits (Moved m) → (m.color ≤ 1) × (1 ≤ m.piece) × (m.piece ≤ 14) × (m.promote ≤ 2)
kind_fits m f = let h = play-fits m f in (h.side, h.some, h.kind, h.mark)
