-- A move line reads back from what is said of its entry where nothing is lost: its mark and its time are said as they are, and its origin in
-- brackets or as 打, which is how (0,0) is read.
-- Assumes nothing.
use Rattle.std.specs.Prelude.{Option, Some, None, Ok}
use Prim.Native.Nat.{ℕ, ◌+◌, ◌*◌, ◌/◌, ◌%◌, ◌≤◌}
use native.Mathlib.Omega.{arith}
use mathlib.Core.Path.{◌≡◌, refl}
use mathlib.Core.List.{List, [], ◌∷◌, ◌++◌, append_assoc}
use mathlib.Core.Bool.{Bool, true, false, false≢true}
use lib.Dec.{eqb}
use borrow.Author.Tests.{eqb-true, eqb-false}
use Rattle.lists.specs.Pick.{pick}
use Rattle.lists.proofs.Laws.{range_at}
use Rattle.lists.proofs.Stand.{Stands, Came, Reads, Any, Off, then, came}
use Rattle.lent.specs.Numbers.{decimal}
use Rattle.text.specs.Text.{cursor, is_blank, wide_space, same, prefix_from}
use Rattle.spell.specs.Tables.{move_kinds, specials, written_specials, numerals, files}
use Rattle.spell.specs.Spell.{first_of, spelled, has_number}
use Rattle.text.proofs.Laws.{same_is}
use Rattle.spell.proofs.Written.{first_fails, move-kind-reads, special_reads, numeral_reads, file-reads, file-bytes}
use Rattle.spell.proofs.Counts.{tag_reads}
use Rattle.jkf.specs.Entries.{special_number, special_of, time_of}
use Rattle.jkf.specs.declared.Special.{Special}
use Rattle.jkf.specs.declared.Special.TheVariants.{Toryo, Chudan, Sennichite, TimeUp, IllegalMove, IllegalActionBlack, IllegalActionWhite, Jishogi, Kachi, Hikiwake, Matta, Tsumi, Fuzumi, Error}
use Rattle.jkf.specs.declared.Time.{Time}
use Rattle.jkf.specs.declared.Time.TheVariants.{Untimed, Timed}
use Rattle.jkf.specs.declared.Target.{Target}
use Rattle.jkf.specs.declared.Target.TheVariants.{Same, Square}
use Rattle.jkf.specs.declared.Move.{Move}
use Rattle.jkf.specs.declared.Entry.{Entry}
use Rattle.jkf.specs.declared.Entry.TheVariants.{Slot, Moved, End}
use Rattle.moves.specs.Moves.{square_at, move_to_at, mark, promote_at, origin_at, move_from_at, move_entry, kind_to_origin_at, move_at, what_at, color_of, finished, move_line_at}
use Rattle.spell.specs.Words.{same_word, promotes, declines, drops}
use Rattle.moves.specs.declared.MoveLine.{MoveLine}
use Rattle.moves.specs.Fits.{TargetFits, same_fits, square_fits, OriginFits, from_fits, MoveFits, EntryFits, play_fits, end_fits, TimeFits}
use Rattle.converter.specs.Entries.{target_text, promote_text, origin_text, move_text, special_text, play_text, width_of, entry_line}
use Rattle.converter.specs.declared.Mode.{Mode}
use Rattle.converter.specs.Said.{said_mark, said_now, said_total, as_drop, said_origin, said_time, said_move, said_entry}
use Rattle.laws.specs.Modes.{LosesNothing, whole, shared}
use Rattle.laws.specs.Sayable.{Follows, slot, move, ending}
use Rattle.laws.proofs.Back.Leaves.{tag_absent, tag_fails, byte_fails, blanks_read, digits-read, decimal-reads, pair_digits, padded_blanks, line-end-reads}
use Rattle.laws.proofs.Back.Times.{time-reads}

-- ---- a move

file_has : (n : ℕ) → 1 ≤ n → n ≤ 9 → has_number files n ≡ true
unfolding has_number
file_has n h k = range_at (has_number files) 9 1 n refl h (omega arith)

numeral_has : (n : ℕ) → 1 ≤ n → n ≤ 9 → has_number numerals n ≡ true
unfolding has_number
numeral_has n h k = range_at (has_number numerals) 9 1 n refl h (omega arith)

kind_has : (n : ℕ) → 1 ≤ n → n ≤ 14 → has_number move_kinds n ≡ true
unfolding has_number
kind_has n h k = range_at (has_number move_kinds) 14 1 n refl h (omega arith)

target-reads : (t : Target) → TargetFits t → Reads move_to_at (λ e. Some (t, cursor e)) (target_text t) Any
unfolding move_to_at square_at target_text
target-reads Same same_fits = record {
  run = λ s at r st c.
      then (tag_reads same_word) st tt λ e₁ i₁ l₁.
      then (tag_reads wide_space) l₁ tt λ e₂ i₂ l₂.
      record { end = e₂; is = rw (i₁, i₂); left = l₂ };
}
target-reads (Square x y) (square_fits a b g h) = record {
  run = λ s at r st c.
      let st' = simp append_assoc at st in
      let z = byte_fails 229 (144 ∷ 140 ∷ []) (rw (file-bytes x a b) at st') refl in
      then (file-reads x (file_has x a b)) st' tt λ e₁ i₁ l₁.
      then (numeral_reads y (numeral_has y g h)) l₁ tt λ e₂ i₂ l₂.
      record { end = e₂; is = rw (z, i₁, i₂); left = l₂ };
}

-- what follows begins with no mark
record Unmarked (r : List ℕ) : Type 0 where
  pub promoted : prefix_from promotes r ≡ false
  pub declined : prefix_from declines r ≡ false

-- a mark that is said stays as it is
mark-said : {mode : Mode} → LosesNothing mode → (p : ℕ) → said_mark mode p ≡ p
unfolding said_mark
mark-said whole p = refl
mark-said shared p = refl

mark-reads : (p : ℕ) → p ≤ 2 → Reads promote_at (λ e. mark p (cursor e)) (promote_text p) Unmarked
unfolding promote_at promote_text
mark-reads p h = record { run = λ s at r st c. go (eqb p 2) (eqb p 1) refl refl s at r st c }
  where
    go : (t u : Bool) → eqb p 2 ≡ t → eqb p 1 ≡ u → (s : List ℕ) (at : ℕ) (r : List ℕ) → Stands s at (pick t promotes (pick u declines []) ++ r) → Unmarked r
        → Came (promote_at s at) (λ e. mark p (cursor e)) s r
    go true u e f s at r st c =
        let q : p ≡ 2 = eqb-true p 2 e in
        then (tag_reads promotes) st tt λ e₁ i₁ l₁.
        record { end = e₁; is = rw (i₁, q); left = l₁ }
    go false true e f s at r st c =
        let q : p ≡ 1 = eqb-true p 1 f in
        then (tag_reads declines) st tt λ e₁ i₁ l₁.
        record { end = e₁; is = rw (tag_fails promotes declines refl r st, i₁, q); left = l₁ }
    go false false e f s at r st c =
        let n₂ : p ≡ 2 → ⊥ = eqb-false p 2 e in
        let n₁ : p ≡ 1 → ⊥ = eqb-false p 1 f in
        let q : p ≡ 0 = omega arith in
        record { end = at; is = rw (tag_absent promotes st c.promoted, tag_absent declines st c.declined, q); left = st }

-- an origin and what is said of it: itself in brackets, or of (0,0) that it is not known
data Told : Option (ℕ × ℕ) → Option (ℕ × ℕ) → Type 0 where
  bracketed : {x y : ℕ} → x ≤ 25 → y ≤ 9 → x * 10 + y ≤ 255 → Told (Some (x, y)) (Some (x, y))
  dropped : Told (Some (0, 0)) None

origin-told : {mode : Mode} → LosesNothing mode → {o : Option (ℕ × ℕ)} → OriginFits o → Told o (said_origin mode o)
unfolding said_origin as_drop
origin-told whole (from_fits h k v) = bracketed h k v
origin-told shared (from_fits {x} {y} h k v) = go (eqb x 0) (eqb y 0) refl refl
  where
    go : (t u : Bool) → eqb x 0 ≡ t → eqb y 0 ≡ u → Told (Some (x, y)) (pick t (pick u None (Some (x, y))) (Some (x, y)))
    go true true e f = rw (eqb-true x 0 e, eqb-true y 0 f) dropped
    go true false e f = bracketed h k v
    go false u e f = bracketed h k v

origin-reads : {o p : Option (ℕ × ℕ)} → Told o p → Reads move_from_at (λ e. Ok (o, cursor e)) (origin_text p) Any
unfolding move_from_at origin_at origin_text
origin-reads dropped = record {
  run = λ s at r st c.
      then (tag_reads drops) st tt λ e₁ i₁ l₁.
      record { end = e₁; is = rw i₁; left = l₁ };
}
origin-reads (bracketed {x} {y} h k v) = record {
  run = λ s at r st c.
      let st' = simp append_assoc at st in
      let a : (x * 10 + y) / 10 ≡ x = omega arith in
      let b : (x * 10 + y) % 10 ≡ y = omega arith in
      let z = byte_fails 230 (137 ∷ 147 ∷ []) st' refl in
      then (tag_reads (40 ∷ [])) st' tt λ e₁ i₁ l₁.
      then (digits-read 255 (decimal x ++ decimal y) (x * 10 + y) (pair_digits x y k) v) (simp (← append_assoc (decimal x) (decimal y)) at l₁) refl λ e₂ i₂ l₂.
      then (tag_reads (41 ∷ [])) l₂ tt λ e₃ i₃ l₃.
      record { end = e₃; is = rw (z, i₁, i₂, i₃, a, b); left = l₃ };
}

origin-begins : {o p : Option (ℕ × ℕ)} → Told o p → (r : List ℕ) → Unmarked (origin_text p ++ r)
unfolding origin_text prefix_from
origin-begins dropped r = record { promoted = refl; declined = refl }
origin-begins (bracketed h k v) r = record { promoted = refl; declined = refl }

-- what a move begins with: no blank, and no ending
target_off : (t : Target) → TargetFits t → (r : List ℕ) → Off is_blank (target_text t ++ r)
unfolding target_text
target_off Same same_fits r = refl
target_off (Square x y) (square_fits a b g h) r = rw (file-bytes x a b)

target-ends : (t : Target) → TargetFits t → {s : List ℕ} {at : ℕ} (r : List ℕ) → Stands s at (target_text t ++ r) → first_of specials s at ≡ None
unfolding target_text
target-ends Same same_fits r st = first_fails specials (same_word ++ wide_space) refl r st
target-ends (Square x y) (square_fits a b g h) r st = first_fails specials (239 ∷ 188 ∷ []) refl _ (rw (file-bytes x a b) at st)

move-reads : {mode : Mode} → LosesNothing mode → (m : Move) → MoveFits m
    → Reads what_at (λ e. Some (move_entry m.to m.piece m.promote m.from, cursor e)) (move_text (said_move mode m)) Any
unfolding what_at move_at kind_to_origin_at move_text said_move
move-reads n m f = record {
  run = λ s at r st c.
      let st' = simp (append_assoc, mark-said n) at st in
      let o = origin-told n f.origin in
      let z = target-ends m.to f.target _ st' in
      then (target-reads m.to f.target) st' tt λ e₁ i₁ l₁.
      then (move-kind-reads m.piece (kind_has m.piece f.some f.kind)) l₁ tt λ e₂ i₂ l₂.
      then (mark-reads m.promote f.mark) l₂ (origin-begins o r) λ e₃ i₃ l₃.
      then (origin-reads o) l₃ tt λ e₄ i₄ l₄.
      record { end = e₄; is = rw (z, i₁, i₂, i₃, i₄); left = l₄ };
}

-- ---- an ending

special_low : (x : Special) → special_number x ≤ 13
special_low Toryo = omega arith
special_low Chudan = omega arith
special_low Sennichite = omega arith
special_low TimeUp = omega arith
special_low IllegalMove = omega arith
special_low IllegalActionBlack = omega arith
special_low IllegalActionWhite = omega arith
special_low Jishogi = omega arith
special_low Kachi = omega arith
special_low Hikiwake = omega arith
special_low Matta = omega arith
special_low Tsumi = omega arith
special_low Fuzumi = omega arith
special_low Error = omega arith

special_back : (x : Special) → special_of (special_number x) ≡ x
special_back Toryo = refl
special_back Chudan = refl
special_back Sennichite = refl
special_back TimeUp = refl
special_back IllegalMove = refl
special_back IllegalActionBlack = refl
special_back IllegalActionWhite = refl
special_back Jishogi = refl
special_back Kachi = refl
special_back Hikiwake = refl
special_back Matta = refl
special_back Tsumi = refl
special_back Fuzumi = refl
special_back Error = refl

special_test : (n : ℕ) → n ≤ 13 → pick (has_number specials n) (same (spelled written_specials n) (spelled specials n)) true ≡ true
unfolding has_number spelled same
special_test n l = range_at (λ n. pick (has_number specials n) (same (spelled written_specials n) (spelled specials n)) true) 14 0 n refl (omega arith) (omega arith)

-- an ending that is read is written by the table that it is read by
special-text : (x : Special) → has_number specials (special_number x) ≡ true → special_text x ≡ spelled specials (special_number x)
unfolding special_text
special-text x h = same_is _ _ (go (has_number specials (special_number x)) h (special_test (special_number x) (special_low x)))
  where
    go : (t : Bool) → t ≡ true → pick t (same (spelled written_specials (special_number x)) (spelled specials (special_number x))) true ≡ true
        → same (spelled written_specials (special_number x)) (spelled specials (special_number x)) ≡ true
    go true e k = k
    go false e k = absurd (false≢true e)

ending-reads : (x : Special) → has_number specials (special_number x) ≡ true → Reads what_at (λ e. Some (End x Untimed, cursor e)) (special_text x) Any
unfolding what_at
ending-reads x h = record {
  run = λ s at r st c.
      then (special_reads (special_number x) h) (rw (special-text x h) at st) tt λ e₁ i₁ l₁.
      record { end = e₁; is = rw (i₁, special_back x); left = l₁ };
}

ending_off : (x : Special) → has_number specials (special_number x) ≡ true → (r : List ℕ) → Off is_blank (special_text x ++ r)
unfolding special_text spelled
ending_off Toryo h r = refl
ending_off Chudan h r = refl
ending_off Sennichite h r = refl
ending_off TimeUp h r = refl
ending_off IllegalMove h r = refl
ending_off IllegalActionBlack h r = refl
ending_off IllegalActionWhite h r = refl
ending_off Jishogi h r = refl
ending_off Kachi h r = refl
ending_off Hikiwake h r = refl
ending_off Matta h r = refl
ending_off Tsumi h r = refl
ending_off Fuzumi h r = refl
ending_off Error h r = refl

-- ---- either

-- an entry before its colour and its time are read
abbrev bare : Entry → Entry
bare Slot = Slot
bare (Moved m) = move_entry m.to m.piece m.promote m.from
bare (End x t) = End x Untimed

play-reads : {mode : Mode} → LosesNothing mode → (e : Entry) → EntryFits e → Reads what_at (λ c. Some (bare e, cursor c)) (play_text (said_entry mode e)) Any
unfolding play_text said_entry
play-reads {mode = mode} n Slot x' = elim x' [ ]
play-reads n (Moved m) (play_fits f) = move-reads n m f
play-reads n (End x t) (end_fits h f) = ending-reads x h

play_off : (mode : Mode) (e : Entry) → EntryFits e → (r : List ℕ) → Off is_blank (play_text (said_entry mode e) ++ r)
unfolding play_text move_text said_entry said_move
play_off mode Slot x' r = elim x' [ ]
play_off mode (Moved m) (play_fits f) r = simp append_assoc (target_off m.to f.target _)
play_off mode (End x t) (end_fits h f) r = ending_off x h r

time-fits_of : {e : Entry} → EntryFits e → TimeFits (time_of e)
time-fits_of (play_fits f) = f.time
time-fits_of (end_fits h f) = f

-- a time that is said stays as it is
time-said : {mode : Mode} → LosesNothing mode → (t : Time) → said_time mode t ≡ t
unfolding said_time said_now said_total
time-said whole Untimed = refl
time-said whole (Timed now total) = refl
time-said shared Untimed = refl
time-said shared (Timed now total) = refl

time_of_said : {mode : Mode} → LosesNothing mode → (e : Entry) → time_of (said_entry mode e) ≡ time_of e
unfolding said_entry said_move
time_of_said n Slot = refl
time_of_said n (Moved m) = time-said n m.time
time_of_said n (End x t) = time-said n t

finished_is : (ply : ℕ) (e : Entry) → Follows ply e → finished (color_of ply) (time_of e) (bare e) ≡ e
unfolding finished
finished_is ply Slot slot = refl
finished_is ply (Moved m) (move h) = rw (← h)
finished_is ply (End x t) ending = refl

pub line_reads : {mode : Mode} → LosesNothing mode → (ply : ℕ) (e : Entry) → ply ≤ 18446744073709551615 → EntryFits e → Follows ply e
    → Reads move_line_at (λ c. Some (record { number = ply; entry = e; next = (cursor c) })) (entry_line ply (said_entry mode e)) Any
unfolding move_line_at entry_line
line_reads {mode} n ply e low f g = record {
  run = λ s at r st c.
      let st' = simp (append_assoc, time_of_said n) at st in
      came (padded_blanks 4 ply _ st') λ e₀ i₀ l₀.
      then (decimal-reads ply low) l₀ refl λ e₁ i₁ l₁.
      then (blanks_read 1) l₁ (play_off mode e f _) λ e₂ i₂ l₂.
      then (play-reads n e f) l₂ tt λ e₃ i₃ l₃.
      then (time-reads (width_of (said_entry mode e)) (time_of e) (time-fits_of f)) l₃ refl λ e₄ i₄ l₄.
      then (line-end-reads [] refl) l₄ tt λ e₅ i₅ l₅.
      record { end = e₅; is = rw (i₀, i₁, i₂, i₃, i₄, i₅, finished_is ply e g); left = l₅ };
}
