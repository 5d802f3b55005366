-- The line of an entry of the usual form: what its row says, and the bytes of each of its three pieces.
-- Assumes nothing.

use Rattle.std.specs.Prelude.{Option, Some, None}
use Prim.Native.Nat.{ℕ, ◌+◌, ◌-◌, ◌/◌, ◌%◌, ◌≤◌, ◌<◌}
use native.Mathlib.Omega.{arith}
use native.Mathlib.Decide.{dec_lt, ℕ_discrete}
use mathlib.Core.Path.{◌≡◌, refl, sym, ap, ap₂, subst, ◌∙◌}
use mathlib.Core.List.{List, [], ◌∷◌, ◌++◌, append_assoc, append-nil}
use mathlib.Core.Bool.{Bool, true, false, true≢false}
use lib.ListN.{length, get_or, replicate, length-append, length-replicate}
use lib.Dec.{eqb, ltb}
use borrow.Author.Tests.{ne_eqb, lt-ltb, le-ltb, eqb-true, eqb-false, ltb-false, le-leb, lt-leb}
use Rattle.lists.specs.Pick.{pick}
use Rattle.lent.specs.Numbers.{decimal, padded}
use Rattle.lent.proofs.Digits.{decimal-one, decimal-more, decimal-length-one, padded-some, digits_three}
use Rattle.text.specs.Text.{wide_space}
use Rattle.spell.specs.Tables.{move_kinds, numerals, files}
use Rattle.spell.specs.Spell.{spelled, code_of, code}
use Rattle.spell.specs.inner.Codes.{bytes_of}
use Rattle.spell.proofs.Codes.{bytes-key, numeral_bytes, kind-bytes}
use Rattle.spell.proofs.Written.{file-bytes, promoted-bytes}
use Rattle.block.specs.EntryBytes.{marked, clock_of, time_in, target_in, origin_in, move_in, entry_in}
use Rattle.jkf.specs.declared.Clock.TheVariants.{Hms, Ms}
use Rattle.jkf.specs.declared.Time.{Time}
use Rattle.jkf.specs.declared.Time.TheVariants.{Untimed, Timed}
use Rattle.jkf.specs.declared.Move.{Move}
use Rattle.jkf.specs.declared.Target.TheVariants.{Same, Square}
use Rattle.jkf.specs.declared.Entry.TheVariants.{Moved}
use Rattle.spell.specs.Words.{same_word, promotes, declines}
use Rattle.converter.specs.Entries.{target_text, promote_text, origin_text, move_text, move_width, clock_text, time_text, play_text, width_of, entry_line, time_padding, within}
use Rattle.converter.specs.declared.Mode.{Mode}
use Rattle.converter.specs.declared.Mode.TheVariants.{Plain, Whole, Shared}
use Rattle.converter.specs.Said.{as_drop, said_mark, said_origin, said_time, said_move, said_entry}
use Rattle.converter.specs.inner.Usuals.{UsualRow, SaidSo, promoted_text, is_long, spaced, start_text, name_text, clocks_text, usual_line}
use Rattle.converter.proofs.Saying.{mark-promotes, usual_time}
use Rattle.lent.proofs.Room.{room-front}
use Rattle.converter.proofs.Lengthy.{padded-wide, figure_two, place_three, kind-plain, kind-long, same_length, square_length, from-length, ms_parts, hms_parts}

-- ---- numbers

-- a number of two digits
decimal_two : (v : ℕ) → 10 ≤ v → v < 100 → decimal v ≡ (48 + v / 10) ∷ (48 + v % 10) ∷ []
decimal_two v l h = decimal-more v l ∙ ap (λ (t : List ℕ). t ++ ((48 + v % 10) ∷ [])) (decimal-one (v / 10) (omega arith))

-- a number of three
decimal_three : (v : ℕ) → 100 ≤ v → v < 1000 → decimal v ≡ (48 + v / 10 / 10) ∷ (48 + v / 10 % 10) ∷ (48 + v % 10) ∷ []
decimal_three v l h =
    decimal-more v (omega arith) ∙ ap (λ (t : List ℕ). t ++ ((48 + v % 10) ∷ [])) (decimal_two (v / 10) (omega arith) (omega arith))

-- a number to a width, by its digits
padded_as : (w fill v : ℕ) {t : List ℕ} → decimal v ≡ t → padded w fill v ≡ replicate (w - length t) fill ++ t
padded_as w fill v e = padded-some w fill v ∙ ap (λ (t : List ℕ). replicate (w - length t) fill ++ t) e

-- two places: the tens, or what fills them
tens : (fill v : ℕ) → v < 100 → padded 2 fill v ≡ pick (ltb v 10) fill (48 + v / 10) ∷ (48 + v % 10) ∷ []
tens fill v h = go (dec_lt v 10)
  where
    go : Dec (v < 10) → padded 2 fill v ≡ pick (ltb v 10) fill (48 + v / 10) ∷ (48 + v % 10) ∷ []
    go (yes l) =
        let e : 48 + v ≡ 48 + v % 10 = omega arith in
        padded_as 2 fill v (decimal-one v l) ∙ rw (lt-ltb v 10 l) (ap (λ (d : ℕ). fill ∷ d ∷ []) e)
    go (no l) = let g : 10 ≤ v = omega arith in padded_as 2 fill v (decimal_two v g h) ∙ rw (le-ltb v 10 g)

-- the byte in the tens' place: a space below 10
pub blank_none : {b v : ℕ} → v < 10 → b ≡ 32 → b ≡ pick (ltb v 10) 32 (48 + v / 10)
blank_none h e = rw (lt-ltb _ _ h) e

-- and a digit from 10 on
pub blank-some : {b v : ℕ} → 10 ≤ v → b ≡ 48 + v / 10 → b ≡ pick (ltb v 10) 32 (48 + v / 10)
blank-some h e = rw (le-ltb _ _ h) e

-- with zeros the tens are always written
zeros : (v : ℕ) → v < 100 → padded 2 48 v ≡ (48 + v / 10) ∷ (48 + v % 10) ∷ []
zeros v h = tens 48 v h ∙ ap (λ (d : ℕ). d ∷ (48 + v % 10) ∷ []) (go (dec_lt v 10))
  where
    go : Dec (v < 10) → pick (ltb v 10) 48 (48 + v / 10) ≡ 48 + v / 10
    go (yes l) = let e : 48 ≡ 48 + v / 10 = omega arith in rw (lt-ltb v 10 l) e
    go (no l) = let g : 10 ≤ v = omega arith in rw (le-ltb v 10 g)

-- a ply to four places
places : (v : ℕ) → v < 1000 → padded 4 32 v ≡ 32 ∷ spaced v 100 ∷ spaced v 10 ∷ (48 + v % 10) ∷ []
unfolding spaced
places v h = go (dec_lt v 10) (dec_lt v 100)
  where
    go : Dec (v < 10) → Dec (v < 100) → padded 4 32 v ≡ 32 ∷ spaced v 100 ∷ spaced v 10 ∷ (48 + v % 10) ∷ []
    go (yes l) _ =
        let m : v < 100 = omega arith in
        let e : 48 + v ≡ 48 + v % 10 = omega arith in
        padded_as 4 32 v (decimal-one v l) ∙ rw (lt-ltb v 10 l, lt-ltb v 100 m) (ap (λ (d : ℕ). 32 ∷ 32 ∷ 32 ∷ d ∷ []) e)
    go (no l) (yes m) =
        let g : 10 ≤ v = omega arith in
        let e : 48 + v / 10 ≡ 48 + v / 10 % 10 = omega arith in
        padded_as 4 32 v (decimal_two v g m) ∙ rw (le-ltb v 10 g, lt-ltb v 100 m) (ap (λ (d : ℕ). 32 ∷ 32 ∷ d ∷ (48 + v % 10) ∷ []) e)
    go (no l) (no m) =
        let g : 10 ≤ v = omega arith in
        let k : 100 ≤ v = omega arith in
        let e : 48 + v / 10 / 10 ≡ 48 + v / 100 % 10 = omega arith in
        padded_as 4 32 v (decimal_three v k h) ∙ rw (le-ltb v 10 g, le-ltb v 100 k) (ap (λ (d : ℕ). 32 ∷ d ∷ (48 + v / 10 % 10) ∷ (48 + v % 10) ∷ []) e)

-- the line of a move, by its text, its width and its time
line_by : (ply : ℕ) (m : Move) {t : List ℕ} {w : ℕ} {c : Time} → move_text m ≡ t → move_width m ≡ w → m.time ≡ c
    → entry_line ply (Moved m) ≡ (((padded 4 32 ply ++ (32 ∷ [])) ++ t) ++ time_text w c) ++ (10 ∷ [])
unfolding entry_line play_text width_of
line_by ply m e f g = rw (e, f, g)

-- ---- what the row says

-- two tests that failed, taken apart
pick_neither : (t w : Bool) → pick t true w ≡ false → (t ≡ false) × (w ≡ false)
pick_neither true w e = absurd (true≢false e)
pick_neither false w e = (refl, e)

-- a number of 1 to 9
within_is : (x : ℕ) → (1 ≤ x) × (x ≤ 9) → within x ≡ true
within_is x (h, k) = rw (le-leb 1 x h, le-leb x 9 k)

-- the plain text says every row so
pub plain_so : (row : List ℕ) → SaidSo Plain row
unfolding said_mark said_origin promote_text
plain_so row = record { mark = go (eqb (get_or row 3 0) 1) refl; origin = refl }
  where
    go : (t : Bool) → eqb (get_or row 3 0) 1 ≡ t
        → pick (eqb (pick t 0 (get_or row 3 0)) 2) promotes (pick (eqb (pick t 0 (get_or row 3 0)) 1) declines []) ≡ pick (eqb (get_or row 3 0) 2) promotes []
    go true e = rw (eqb-true (get_or row 3 0) 1 e)
    go false e = rw e

-- without 不成 there is only 成 to say
mark_so : (p : ℕ) → (p ≡ 1 → ⊥) → promote_text p ≡ pick (eqb p 2) promotes []
unfolding promote_text
mark_so p n = rw (ne_eqb p 1 n)

-- the others say one without it so
pub whole_so : (row : List ℕ) → (get_or row 3 0 ≡ 1 → ⊥) → SaidSo Whole row
unfolding said_mark said_origin
whole_so row n = record { mark = mark_so (get_or row 3 0) n; origin = refl }

-- where the origin is no drop's
pub shared_so : (row : List ℕ) → (get_or row 3 0 ≡ 1 → ⊥) → (get_or row 6 0 ≡ 0 → ⊥) → SaidSo Shared row
unfolding said_mark said_origin as_drop
shared_so row n o = record { mark = mark_so (get_or row 3 0) n; origin = rw (ne_eqb (get_or row 6 0) 0 o) }

-- the two characters of the target
abbrev pub file_text : List ℕ → List ℕ
file_text row = pick (eqb (get_or row 8 0) 23) same_word (spelled files (get_or row 4 0))

abbrev pub rank_text : List ℕ → List ℕ
rank_text row = pick (eqb (get_or row 8 0) 23) wide_space (spelled numerals (get_or row 5 0))

-- the two of a long name
abbrev pub first_text : List ℕ → List ℕ
first_text row = pick (ltb 9 (get_or row 2 0)) promotes (spelled move_kinds (get_or row 2 0))

abbrev pub second_text : List ℕ → List ℕ
second_text row = pick (ltb 9 (get_or row 2 0)) (spelled move_kinds (get_or row 2 0 - 8)) promotes

module _ (row : List ℕ) (u : UsualRow row) where
  -- its marks are one of two
  by_marks : (P : ℕ → Type 0) → P 21 → P 23 → P (get_or row 8 0)
  by_marks P a b = go (ℕ_discrete (get_or row 8 0) 23)
    where
      go : Dec (get_or row 8 0 ≡ 23) → P (get_or row 8 0)
      go (yes e) = subst P (sym e) b
      go (no n) = subst P (sym (u.target n).marks) a

  -- it is a move
  play_is : entry_in row ≡ Moved (move_in row)
  unfolding entry_in
  play_is = rw u.sort

  -- its time has minutes and seconds, and its total hours besides
  time_is : time_in row ≡ Timed (Ms (get_or row 10 0) (get_or row 11 0)) (Hms (get_or row 12 0) (get_or row 13 0) (get_or row 14 0))
  unfolding time_in
  time_is =
      by_marks
      (λ (m : ℕ).
      pick (marked 4 m)
      (Timed
      (clock_of (marked 8 m) (get_or row 9 0) (get_or row 10 0) (get_or row 11 0))
      (clock_of (marked 16 m) (get_or row 12 0) (get_or row 13 0) (get_or row 14 0)))
      Untimed
      ≡ Timed (Ms (get_or row 10 0) (get_or row 11 0)) (Hms (get_or row 12 0) (get_or row 13 0) (get_or row 14 0)))
      refl refl

  -- its origin is known
  origin_is : origin_in row ≡ Some (get_or row 6 0, get_or row 7 0)
  unfolding origin_in
  origin_is = by_marks (λ (m : ℕ). pick {A = Option (ℕ × ℕ)} (eqb (m % 2) 1) (Some (get_or row 6 0, get_or row 7 0)) None ≡ Some (get_or row 6 0, get_or row 7 0)) refl refl

  -- its target is 同
  same_is : get_or row 8 0 ≡ 23 → target_in row ≡ Same
  unfolding target_in
  same_is e = rw e

  -- or a square
  square_is : (get_or row 8 0 ≡ 23 → ⊥) → target_in row ≡ Square (get_or row 4 0) (get_or row 5 0)
  unfolding target_in
  square_is n = rw (u.target n).marks

  -- ---- the name

  -- a name of one character
  short_is : is_long row ≡ false → (get_or row 2 0 ≤ 9) × (get_or row 3 0 ≡ 2 → ⊥)
  short_is e =
      let (p, q) = pick_neither (ltb 9 (get_or row 2 0)) (eqb (get_or row 3 0) 2) e in
      (ltb-false 9 (get_or row 2 0) p, eqb-false (get_or row 3 0) 2 q)

  -- or of two, which is a promoted kind unless the kind is one of two characters
  long_is : is_long row ≡ true → get_or row 2 0 ≤ 9 → get_or row 3 0 ≡ 2
  long_is e h = eqb-true (get_or row 3 0) 2 (rw (le-ltb 9 (get_or row 2 0) h) at e)

  -- how wide it is
  width_short : is_long row ≡ false → move_width (move_in row) ≡ 10
  unfolding move_width move_in
  width_short e =
      let (h, n) = short_is e in
      let l : get_or row 2 0 < 10 = omega arith in
      rw (origin_is, lt-leb 10 (get_or row 2 0) l, ne_eqb (get_or row 3 0) 2 n)

  -- of a kind of two characters
  width_kind : 10 ≤ get_or row 2 0 → move_width (move_in row) ≡ 12
  unfolding move_width move_in
  width_kind h =
      let (m, n) = u.name.long h in
      rw (origin_is, le-leb 10 (get_or row 2 0) h, le-leb (get_or row 2 0) 12 m, ne_eqb (get_or row 3 0) 2 n)

  -- of a kind that promotes
  width_promoted : get_or row 2 0 ≤ 9 → get_or row 3 0 ≡ 2 → move_width (move_in row) ≡ 12
  unfolding move_width move_in
  width_promoted h e =
      let l : get_or row 2 0 < 10 = omega arith in
      rw (origin_is, lt-leb 10 (get_or row 2 0) l, e)

  -- of either
  width_long : is_long row ≡ true → move_width (move_in row) ≡ 12
  width_long e = go (dec_lt 9 (get_or row 2 0))
    where
      go : Dec (9 < get_or row 2 0) → move_width (move_in row) ≡ 12
      go (yes h) = width_kind h
      go (no h) = let l : get_or row 2 0 ≤ 9 = omega arith in width_promoted l (long_is e l)

  -- ---- how long it is

  -- two characters
  target_six : 6 ≡ length (target_text (target_in row))
  target_six = go (ℕ_discrete (get_or row 8 0) 23)
    where
      go : Dec (get_or row 8 0 ≡ 23) → 6 ≡ length (target_text (target_in row))
      go (yes e) = same_length (same_is e)
      go (no n) =
          let s = u.target n in
          omega (arith, square_length (square_is n), (place_three (get_or row 4 0) (within_is (get_or row 4 0) s.file)).0, (place_three (get_or row 5 0) (within_is (get_or row 5 0) s.rank)).1)

  -- the ply, a space and the target
  start-length : (ply : ℕ) → ply < 1000 → length (start_text ply row) ≡ 11
  unfolding start_text
  start-length ply h =
      omega (
        arith,
        length-append (padded 4 32 ply ++ (32 ∷ [])) (target_text (target_in row)),
        length-append (padded 4 32 ply) (32 ∷ []),
        padded-wide 4 ply (omega (arith, digits_three ply h)) 32,
        target_six,
      )

  -- the kind, 成, the origin and the padding
  name-length : length (name_text row) ≡ 4 + length (spelled move_kinds (get_or row 2 0)) + length (promoted_text row) + (13 - move_width (move_in row))
  unfolding name_text
  name-length =
      let x = get_or row 6 0 in
      let y = get_or row 7 0 in
      let k = spelled move_kinds (get_or row 2 0) in
      let o = origin_text (origin_in row) in
      omega (
        arith,
        length-append ((k ++ promoted_text row) ++ o) (time_padding (move_width (move_in row))),
        length-append (k ++ promoted_text row) o,
        length-append k (promoted_text row),
        length-replicate {A = ℕ} (13 - move_width (move_in row)) 32,
        from-length origin_is,
        decimal-length-one x (omega (arith, u.origin.0)),
        decimal-length-one y (omega (arith, u.origin.1)),
      )

  -- the brackets, two clocks and LF
  clocks-length : length (clocks_text row) ≡ 17
  unfolding clocks_text
  clocks-length =
      let c = u.clocks in
      let m = get_or row 10 0 in
      let s = get_or row 11 0 in
      let h = get_or row 12 0 in
      let n = get_or row 13 0 in
      let z = get_or row 14 0 in
      let a = clock_text 32 47 (Ms m s) in
      let b = clock_text 48 41 (Hms h n z) in
      omega (
        arith,
        length-append (((40 ∷ []) ++ a) ++ b) (10 ∷ []),
        length-append ((40 ∷ []) ++ a) b,
        ms_parts 32 47 m s,
        figure_two m (omega arith) 32,
        figure_two s (omega arith) 48,
        hms_parts 48 41 h n z,
        figure_two h (omega arith) 48,
        figure_two n (omega arith) 48,
        figure_two z (omega arith) 48,
      )

  -- together
  usual_parts : (ply : ℕ) → ply < 1000
      → length (usual_line ply row) ≡ 32 + length (spelled move_kinds (get_or row 2 0)) + length (promoted_text row) + (13 - move_width (move_in row))
  usual_parts ply h =
      omega (
        arith,
        length-append (start_text ply row ++ name_text row) (clocks_text row),
        length-append (start_text ply row) (name_text row),
        start-length ply h,
        name-length,
        clocks-length,
      )

  -- 成 is written
  promoted-some : get_or row 3 0 ≡ 2 → 3 ≡ length (promoted_text row)
  promoted-some e = rw e

  -- or nothing
  promoted-none : (get_or row 3 0 ≡ 2 → ⊥) → 0 ≡ length (promoted_text row)
  promoted-none n = simp (ne_eqb (get_or row 3 0) 2 n)

  -- with a name of one character
  pub usual_short : is_long row ≡ false → (ply : ℕ) → ply < 1000 → 38 ≡ length (usual_line ply row)
  usual_short e ply h =
      let (l, n) = short_is e in
      omega (arith, usual_parts ply h, width_short e, kind-plain (get_or row 2 0) u.name.kind (omega arith), promoted-none n)

  -- with a name of two
  pub usual_long : is_long row ≡ true → (ply : ℕ) → ply < 1000 → 39 ≡ length (usual_line ply row)
  usual_long e ply h = go (dec_lt 9 (get_or row 2 0))
    where
      go : Dec (9 < get_or row 2 0) → 39 ≡ length (usual_line ply row)
      go (yes g) =
          let (m, n) = u.name.long g in
          omega (arith, usual_parts ply h, width_long e, kind-long (get_or row 2 0) g (omega arith), promoted-none n)
      go (no g) =
          let l : get_or row 2 0 ≤ 9 = omega arith in
          omega (arith, usual_parts ply h, width_long e, kind-plain (get_or row 2 0) u.name.kind (omega arith), promoted-some (long_is e l))

  -- ---- its pieces

  -- where the line fits they do
  pub usual_room : (ply : ℕ) {n : ℕ} → length (usual_line ply row) ≤ n → (length (start_text ply row) ≤ n) × (length (start_text ply row ++ name_text row) ≤ n)
  usual_room ply z =
      let y = room-front (start_text ply row ++ name_text row) (clocks_text row) z in
      (room-front (start_text ply row) (name_text row) y, y)

  -- 同 in the file's place
  pub file-same : {k : ℕ} → get_or row 8 0 ≡ 23 → k ≡ 15044748 → bytes_of k ≡ file_text row
  file-same m e = ap bytes_of e ∙ rw m

  -- a file
  pub file_square : {k : ℕ} → (get_or row 8 0 ≡ 23 → ⊥) → k ≡ 15711376 + get_or row 4 0 → bytes_of k ≡ file_text row
  file_square {k} n e =
      let x = get_or row 4 0 in
      let h = (u.target n).file in
      let f : k ≡ code_of 239 188 (144 + x) = omega arith in
      ap bytes_of f ∙ bytes-key 239 188 (144 + x) (omega arith) (omega arith) (omega arith) ∙ sym (file-bytes x h.0 h.1) ∙ rw (ne_eqb (get_or row 8 0) 23 n)

  -- the space after 同
  pub rank_same : {k : ℕ} → get_or row 8 0 ≡ 23 → k ≡ 14909568 → bytes_of k ≡ rank_text row
  rank_same m e = ap bytes_of e ∙ rw m

  -- a rank
  pub rank_square : {k : ℕ} → (get_or row 8 0 ≡ 23 → ⊥) → k ≡ code (spelled numerals (get_or row 5 0)) → bytes_of k ≡ rank_text row
  rank_square n e = let h = (u.target n).rank in numeral_bytes e h.0 h.1 ∙ rw (ne_eqb (get_or row 8 0) 23 n)

  -- the two are the target
  target-text : file_text row ++ rank_text row ≡ target_text (target_in row)
  unfolding target_text
  target-text = go (ℕ_discrete (get_or row 8 0) 23)
    where
      go : Dec (get_or row 8 0 ≡ 23) → file_text row ++ rank_text row ≡ target_text (target_in row)
      go (yes e) = rw (same_is e, e)
      go (no n) = rw (square_is n, ne_eqb (get_or row 8 0) 23 n)

  -- the ply, a space and the target
  pub start-text : {ply a b : ℕ} (f r : ℕ) → ply < 1000 → a ≡ spaced ply 100 → b ≡ spaced ply 10 → bytes_of f ≡ file_text row → bytes_of r ≡ rank_text row
      → (32 ∷ a ∷ b ∷ (48 + ply % 10) ∷ 32 ∷ []) ++ (bytes_of f ++ bytes_of r) ≡ start_text ply row
  unfolding start_text
  start-text {ply} f r h p q e g =
      ap₂ (λ (t v : List ℕ). (t ++ (32 ∷ [])) ++ v)
      (ap₂ (λ (i j : ℕ). 32 ∷ i ∷ j ∷ (48 + ply % 10) ∷ []) p q ∙ sym (places ply h))
      (ap₂ (λ (t v : List ℕ). t ++ v) e g ∙ target-text)

  -- two digits in brackets
  origin-text : 40 ∷ (48 + get_or row 6 0) ∷ (48 + get_or row 7 0) ∷ 41 ∷ [] ≡ origin_text (origin_in row)
  unfolding origin_text
  origin-text = let (h, k) = u.origin in sym (rw (origin_is, decimal-one (get_or row 6 0) (omega arith), decimal-one (get_or row 7 0) (omega arith)))

  -- a name, the origin and the time_padding
  name-text : {t : List ℕ} {n : ℕ} → t ≡ spelled move_kinds (get_or row 2 0) ++ promoted_text row → n ≡ move_width (move_in row)
      → (t ++ (40 ∷ (48 + get_or row 6 0) ∷ (48 + get_or row 7 0) ∷ 41 ∷ [])) ++ time_padding n ≡ name_text row
  unfolding name_text
  name-text {n = n} e w =
      ap₂ (λ (t o : List ℕ). (t ++ o) ++ time_padding n) e origin-text
      ∙ ap (λ (i : ℕ). ((spelled move_kinds (get_or row 2 0) ++ promoted_text row) ++ origin_text (origin_in row)) ++ time_padding i) w

  -- a kind that does not promote stands alone
  not_promoted : (get_or row 3 0 ≡ 2 → ⊥) → spelled move_kinds (get_or row 2 0) ++ promoted_text row ≡ spelled move_kinds (get_or row 2 0)
  not_promoted n = rw (ne_eqb (get_or row 3 0) 2 n) (append-nil (spelled move_kinds (get_or row 2 0)))

  -- a name of one character
  pub short-text : (k : ℕ) → is_long row ≡ false → k ≡ code (spelled move_kinds (get_or row 2 0))
      → bytes_of k ++ (40 ∷ (48 + get_or row 6 0) ∷ (48 + get_or row 7 0) ∷ 41 ∷ 32 ∷ 32 ∷ 32 ∷ []) ≡ name_text row
  short-text k e f =
      let (h, n) = short_is e in
      name-text (kind-bytes f u.name.kind h ∙ sym (not_promoted n)) (sym (width_short e))

  -- the first character of a kind: 成 where it has two
  pub first_kind : {k : ℕ} → k ≡ code (spelled move_kinds (get_or row 2 0)) → bytes_of k ≡ first_text row
  first_kind {k} e = go (dec_lt 9 (get_or row 2 0))
    where
      go : Dec (9 < get_or row 2 0) → bytes_of k ≡ first_text row
      go (yes h) = let (m, n) = u.name.long h in ap bytes_of (e ∙ ap code (promoted-bytes (get_or row 2 0) h m)) ∙ rw (lt-ltb 9 (get_or row 2 0) h)
      go (no h) = let l : get_or row 2 0 ≤ 9 = omega arith in kind-bytes e u.name.kind l ∙ rw (le-ltb 9 (get_or row 2 0) l)

  -- and the kind that this promotes
  pub second-kind : {k : ℕ} → 9 < get_or row 2 0 → k ≡ code (spelled move_kinds (get_or row 2 0 - 8)) → bytes_of k ≡ second_text row
  second-kind h e = let (m, n) = u.name.long h in kind-bytes e (omega arith) (omega arith) ∙ rw (lt-ltb 9 (get_or row 2 0) h)

  -- 成 after the kind
  pub second-promoted : {k : ℕ} → get_or row 2 0 ≤ 9 → k ≡ 15108240 → bytes_of k ≡ second_text row
  second-promoted h e = ap bytes_of e ∙ rw (le-ltb 9 (get_or row 2 0) h)

  -- the two are the kind and its promotion
  long_word : is_long row ≡ true → first_text row ++ second_text row ≡ spelled move_kinds (get_or row 2 0) ++ promoted_text row
  long_word e = go (dec_lt 9 (get_or row 2 0))
    where
      go : Dec (9 < get_or row 2 0) → first_text row ++ second_text row ≡ spelled move_kinds (get_or row 2 0) ++ promoted_text row
      go (yes h) = let (m, n) = u.name.long h in rw (lt-ltb 9 (get_or row 2 0) h) (sym (not_promoted n ∙ promoted-bytes (get_or row 2 0) h m))
      go (no h) = let l : get_or row 2 0 ≤ 9 = omega arith in rw (le-ltb 9 (get_or row 2 0) l, long_is e l)

  -- a name of two characters
  pub long-text : (k l : ℕ) → is_long row ≡ true → bytes_of k ≡ first_text row → bytes_of l ≡ second_text row
      → (bytes_of k ++ bytes_of l) ++ (40 ∷ (48 + get_or row 6 0) ∷ (48 + get_or row 7 0) ∷ 41 ∷ 32 ∷ []) ≡ name_text row
  long-text k l e p q = name-text (ap₂ (λ (t v : List ℕ). t ++ v) p q ∙ long_word e) (sym (width_long e))

  -- the time
  pub clocks-text : {b : ℕ} → b ≡ pick (ltb (get_or row 10 0) 10) 32 (48 + get_or row 10 0 / 10)
      → 40 ∷ b ∷ (48 + get_or row 10 0 % 10) ∷ 58 ∷ (48 + get_or row 11 0 / 10) ∷ (48 + get_or row 11 0 % 10) ∷ 47
      ∷ (48 + get_or row 12 0 / 10) ∷ (48 + get_or row 12 0 % 10) ∷ 58 ∷ (48 + get_or row 13 0 / 10) ∷ (48 + get_or row 13 0 % 10) ∷ 58
      ∷ (48 + get_or row 14 0 / 10) ∷ (48 + get_or row 14 0 % 10) ∷ 41 ∷ 10 ∷ [] ≡ clocks_text row
  unfolding clocks_text clock_text
  clocks-text e =
      let c = u.clocks in
      sym (rw (tens 32 (get_or row 10 0) (omega arith), zeros (get_or row 11 0) (omega arith), zeros (get_or row 12 0) (omega arith), zeros (get_or row 13 0) (omega arith), zeros (get_or row 14 0) (omega arith), e))

  -- ---- what a mode says of it

  module _ {mode : Mode} (v : SaidSo mode row) where
    -- a move
    said_is : said_entry mode (entry_in row) ≡ Moved (said_move mode (move_in row))
    unfolding said_entry
    said_is = rw play_is

    -- with its time as it is
    said-time : said_time mode (time_in row) ≡ Timed (Ms (get_or row 10 0) (get_or row 11 0)) (Hms (get_or row 12 0) (get_or row 13 0) (get_or row 14 0))
    said-time = ap (said_time mode) time_is ∙ usual_time mode (get_or row 10 0) (get_or row 11 0) (get_or row 12 0) (get_or row 13 0) (get_or row 14 0)

    -- and its origin in brackets
    said-origin : said_origin mode (origin_in row) ≡ origin_in row
    said-origin = ap (said_origin mode) origin_is ∙ v.origin ∙ sym origin_is

    -- so as wide as it is
    said_width : move_width (said_move mode (move_in row)) ≡ move_width (move_in row)
    unfolding move_width move_in said_move
    said_width = rw (said-origin, mark-promotes mode (get_or row 3 0))

    -- its time is the one of the row
    said-clocks : (said_move mode (move_in row)).time ≡ Timed (Ms (get_or row 10 0) (get_or row 11 0)) (Hms (get_or row 12 0) (get_or row 13 0) (get_or row 14 0))
    unfolding said_move move_in
    said-clocks = said-time

    -- and its text the target, the name and the origin
    said-text : move_text (said_move mode (move_in row)) ≡ ((target_text (target_in row) ++ spelled move_kinds (get_or row 2 0)) ++ promoted_text row) ++ origin_text (origin_in row)
    unfolding move_text said_move move_in
    said-text = ap₂ (λ (t o : List ℕ). ((target_text (target_in row) ++ spelled move_kinds (get_or row 2 0)) ++ t) ++ o) v.mark (ap origin_text said-origin)

    -- so its line is the three pieces
    pub usual-line : (ply : ℕ) → entry_line ply (said_entry mode (entry_in row)) ≡ usual_line ply row
    unfolding start_text name_text clocks_text time_text
    usual-line ply = ap (entry_line ply) said_is ∙ line_by ply (said_move mode (move_in row)) said-text said_width said-clocks ∙ simp append_assoc
