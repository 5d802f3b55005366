-- Lines of play read back. A line takes the head of the next one with it: an empty line and 変化 are one skip line.
-- Assumes nothing.
use Rattle.std.specs.Prelude.{Option, Some, None}
use Prim.Native.Nat.{ℕ, ◌≤◌, ◌<◌}
use native.Mathlib.Omega.{arith}
use mathlib.Core.Path.{◌≡◌, refl, ap, ◌∙◌}
use mathlib.Core.List.{List, [], ◌∷◌, ◌++◌, map, append_assoc}
use mathlib.Core.Bool.{Bool, true, false, not, false≢true}
use lib.ListN.{length, get_or, drop, length-drop}
use lib.Dec.{eqb}
use borrow.Author.Tests.{lt-ltb, not-false}
use Rattle.lists.specs.All.{All, none, next}
use Rattle.lists.specs.Pick.{pick}
use Rattle.lists.specs.Repeat.{Ended, ended}
use Rattle.lists.proofs.Stand.{Stands, Came, Reads, Any, then, came, stands_past, byte_0, byte_1, stands_one}
use Rattle.lent.specs.Numbers.{decimal}
use Rattle.text.specs.Text.{cursor, is_text, is_digit}
use Rattle.text.specs.Utf8.{size_of, lowest_of, highest_of, second_of, is_next, char_width, character_at}
use Rattle.text.proofs.Ends.{character_end}
use Rattle.spell.proofs.Written.{stands_other}
use Rattle.jkf.specs.declared.Entry.TheVariants.{Slot}
use Rattle.jkf.specs.Model.{Noted, Line}
use Rattle.jkf.specs.Attaching.{Play, play}
use Rattle.block.specs.Encode.{concat}
use Rattle.moves.specs.Moves.{begins_no_skip, skip_line_at}
use Rattle.spell.specs.Words.{black, white}
use Rattle.plays.specs.Plays.{noted, entries_at, skipped_at, skips_at, variations_at, past_main, main_at, plays_at}
use Rattle.plays.proofs.Items.{skips-none}
use Rattle.plays.proofs.Variations.{variations_more, variations_none, main_is, main_none}
use Rattle.converter.specs.Entries.{entry_line, remarks_text, noted_text, entries_text}
use Rattle.converter.specs.Show.{number_line, variation_tag, variation_head, variation_text}
use Rattle.converter.specs.declared.Mode.{Mode}
use Rattle.converter.specs.Said.{said_noted, said_line}
use Rattle.laws.specs.Modes.{LosesNothing, whole}
use Rattle.laws.specs.Sayable.{every_byte, OneLine}
use Rattle.laws.proofs.Back.Leaves.{all_append, all_of, digit_is, decimal-digits, line-end-reads, padded_off, byte_2, in_text}
use Rattle.text.specs.declared.Cursor.{Cursor}
use Rattle.laws.proofs.Back.Entries.{is_mark, comments-read, EntriesFit, done, also, After, entries_off, entries-read, ply_came}

-- ---- skip lines

-- an LF, or 手, and the rest of a line
lf_skips : (t : List ℕ) → OneLine t → Reads skip_line_at (λ e. Some (cursor e)) ((10 ∷ t) ++ (10 ∷ [])) Any
unfolding skip_line_at begins_no_skip character_at char_width size_of
lf_skips t h = record {
  run = λ s at r st c.
      let b = byte_0 st in
      let k = in_text st in
      let z₁ = stands_other black (10 ∷ []) _ st refl in
      let z₂ = stands_other white (10 ∷ []) _ st refl in
      then (line-end-reads t h) (stands_past (10 ∷ []) ((t ++ (10 ∷ [])) ++ r) s at st) tt λ e₁ i₁ l₁.
      record { end = e₁; is = rw (b, z₁, z₂, lt-ltb _ _ k, i₁); left = l₁ };
}

number-skips : Reads skip_line_at (λ e. Some (cursor e)) number_line Any
unfolding skip_line_at begins_no_skip character_at char_width size_of second_of lowest_of highest_of is_next
number-skips = record {
  run = λ s at r st c.
      let b = byte_0 st in
      let b₁ = byte_1 st in
      let b₂ = byte_2 st in
      let k = in_text st in
      let z₁ = stands_other black (230 ∷ []) _ st refl in
      let z₂ = stands_other white (230 ∷ []) _ st refl in
      then (line-end-reads (230 ∷ 149 ∷ 176 ∷ 45 ∷ 45 ∷ 45 ∷ 45 ∷ 230 ∷ 140 ∷ 135 ∷ 230 ∷ 137 ∷ 139 ∷ 45 ∷ 45 ∷ 45 ∷ 45 ∷ 45 ∷ 45 ∷ 45 ∷ 45 ∷ 45 ∷ 230 ∷ 182 ∷ 136 ∷ 232 ∷ 178 ∷ 187 ∷ 230 ∷ 153 ∷ 130 ∷ 233 ∷ 150 ∷ 147 ∷ 45 ∷ 45 ∷ []) refl)
      (stands_past (230 ∷ 137 ∷ 139 ∷ []) _ s at st) tt λ e₁ i₁ l₁.
      record { end = e₁; is = rw (b, z₁, z₂, lt-ltb _ _ k, b₁, b₂, i₁); left = l₁ };
}

digit-text : (b : ℕ) → is_digit b ≡ true → is_text b ≡ true
digit-text = digit_is is_text refl

head-skips : (n : ℕ) → Reads skip_line_at (λ e. Some (cursor e)) (variation_head n) Any
unfolding variation_head
head-skips n = record {
  run = λ s at r st c.
      let t : List ℕ = variation_tag ++ (decimal n ++ (230 ∷ 137 ∷ 139 ∷ [])) in
      let h : every_byte is_text t ≡ true = all_append is_text (decimal n) (230 ∷ 137 ∷ 139 ∷ []) (all_of is_digit is_text digit-text (decimal n) (decimal-digits n).digits) refl in
      let st' : Stands s at (((10 ∷ t) ++ (10 ∷ [])) ++ r) = simp append_assoc (simp append_assoc at st) in
      (lf_skips t h).run s at r st' tt;
}

-- what begins with a blank or a digit is none
abbrev is_move : ℕ → Bool
is_move b = pick (eqb b 32) true (is_digit b)

skip_fails : {s : List ℕ} {at : ℕ} (r : List ℕ) → Stands s at r → is_move (get_or r 0 0) ≡ true → skip_line_at s at ≡ None
unfolding skip_line_at begins_no_skip
skip_fails {s} {at} r st h = rw (byte_0 st, begins (eqb (get_or r 0 0) 32) (eqb (get_or r 0 0) 42) (is_digit (get_or r 0 0)) _ h)
  where
    begins : (t u v w : Bool) → pick t true v ≡ true → pick t true (pick u true (pick v true w)) ≡ true
    begins true u v w h = refl
    begins false true v w h = refl
    begins false false true w h = refl
    begins false false false w h = absurd (false≢true h)

skip_ends : {s : List ℕ} {at : ℕ} → Stands s at [] → skip_line_at s at ≡ None
unfolding skip_line_at begins_no_skip
skip_ends {s} {at} st =
    let n : length (drop at s) ≡ 0 = ap length st.rest in
    let w = st.within in
    let e : length s ≤ at = omega (arith, n, length-drop at s) in
    rw (character_end s at e) (same (begins_no_skip s at))
  where
    same : (t : Bool) → pick {A = Option Cursor} t None None ≡ None
    same true = refl
    same false = refl

skipped-at : (s : List ℕ) (at e : ℕ) → skip_line_at s at ≡ Some (cursor e) → skipped_at s at ≡ e
unfolding skipped_at
skipped-at s at e h = rw h

skipped_none : (s : List ℕ) (at : ℕ) → skip_line_at s at ≡ None → skipped_at s at ≡ at
unfolding skipped_at
skipped_none s at h = rw h

-- ---- lines of play

-- a variation that can be read back: a start past 0, and some entries, which are fit
pub record LineFits (l : Line) : Type 0 where
  pub later : 0 < l.start
  pub first : Noted
  pub others : List Noted
  pub some : l.entries ≡ first ∷ others
  pub entries : EntriesFit l.start l.entries

abbrev pub as_play : Line → Play
as_play l = play l.start l.entries

entries-move : (ply : ℕ) (e : Noted) (es : List Noted) (r : List ℕ) → is_move (get_or (entries_text ply (e ∷ es) ++ r) 0 0) ≡ true
unfolding entries_text noted_text entry_line
entries-move ply e es r = not-false _ (simp append_assoc (padded_off (λ b. not (is_move b)) 4 ply _ refl refl))

nil_after : After []
nil_after = record { marks = refl; blanks = refl; digits = refl }

variations_after : (ls : List Line) → After (concat variation_text ls)
unfolding concat variation_text variation_head
variations_after [] = nil_after
variations_after (l ∷ ls) = record { marks = refl; blanks = refl; digits = refl }

entries-end : {s : List ℕ} {at : ℕ} → Stands s at [] → entries_at s at ≡ ended at []
unfolding entries_text
entries-end {s} {at} st = then (entries-read whole 1 [] done) st nil_after λ e i l. i ∙ ap (λ (n : ℕ). ended n []) (stands_one l st)

variations_end : {s : List ℕ} {at : ℕ} → Stands s at [] → variations_at s at ≡ ended at []
variations_end {s} {at} st =
    let z = skips-none s at (skip_ends st) in
    variations_none s at (ap (λ (a : ℕ). length (entries_at s a).state) z ∙ ap (λ (r : Ended (List Noted)). length r.state) (entries-end st))

-- variations, from the head of the first on, which the line before has taken
pub variations_came : {mode : Mode} → LosesNothing mode → (ls : List Line) → All LineFits ls → {s : List ℕ} {at : ℕ} → Stands s at (concat variation_text (map (said_line mode) ls))
    → Came (variations_at s (skipped_at s at)) (λ e. ended e (map as_play ls)) s []
unfolding concat variation_text said_line
variations_came n [] none {s} {at} st = record { end = at; is = rw (skipped_none s at (skip_ends st)) (variations_end st); left = st }
variations_came {mode} n (l ∷ ls) (next f fs) {s} {at} st =
    then (head-skips l.start) (simp append_assoc at st) tt λ e₀ i₀ l₀.
    let k : skipped_at s at ≡ e₀ = skipped-at s at e₀ i₀ in
    let m : Stands s e₀ (entries_text l.start (map (said_noted mode) (f.first ∷ f.others)) ++ concat variation_text (map (said_line mode) ls)) = rw f.some at l₀ in
    let z = skips-none s e₀ (skip_fails _ m (entries-move l.start (said_noted mode f.first) (map (said_noted mode) f.others) _)) in
    let p = ply_came l.start (said_noted mode f.first) (map (said_noted mode) f.others) (low l.start l.entries f.first f.others f.some f.entries) _ m in
    then (entries-read n l.start l.entries f.entries) l₀ (variations_after (map (said_line mode) ls)) λ e₁ i₁ l₁.
    let some : length (entries_at s (skips_at s e₀)).state ≡ 0 → ⊥ = λ q. filled f.first f.others (rw (z, i₁, f.some) at q) in
    came (variations_came n ls fs l₁) λ e₂ i₂ l₂.
    record { end = e₂; is = rw k (variations_more s e₀ some ∙ rw (z, i₁, p, i₂)); left = l₂ }
  where
    filled : (x : Noted) (xs : List Noted) → length (x ∷ xs) ≡ 0 → ⊥
    filled x xs q = omega arith

    low : (ply : ℕ) (es : List Noted) (x : Noted) (xs : List Noted) → es ≡ x ∷ xs → EntriesFit ply es → ply ≤ 18446744073709551615
    low ply [] x xs e g = let z : ◌≡◌ {A = ℕ} 0 1 = cc in absurd (omega arith)
    low ply (y ∷ ys) x xs e (also g gs) = g.number

-- all lines: the comments of the slot, the main line, and the variations; without moves in the main line there is none
pub plays_came : {mode : Mode} → LosesNothing mode → (cs : List (List ℕ)) (es : List Noted) (ls : List Line) → All OneLine cs → EntriesFit 1 es → All LineFits ls
    → (length es ≡ 0 → ls ≡ []) → {s : List ℕ} {at : ℕ}
    → Stands s at ((number_line ++ (remarks_text cs ++ entries_text 1 (map (said_noted mode) es))) ++ concat variation_text (map (said_line mode) ls))
    → Came (plays_at s at) (λ e. ended e (play 0 (noted Slot cs ∷ es) ∷ map as_play ls)) s []
unfolding plays_at main_at entries_text concat
plays_came {mode} n cs es ls g f fs alone {s} {at} st =
    then number-skips (simp append_assoc at st) tt λ e₀ i₀ l₀.
    then (comments-read cs g) l₀ (entries_off is_mark refl refl 1 (map (said_noted mode) es) _ (variations_after (map (said_line mode) ls)).marks) λ e₁ i₁ l₁.
    then (entries-read n 1 es f) l₁ (variations_after (map (said_line mode) ls)) λ e₂ i₂ l₂.
    came (main es ls alone fs e₁ e₂ i₂ l₁ l₂) λ e₃ i₃ l₃.
    record { end = e₃; is = rw (skipped-at s at e₀ i₀, i₁, i₂, i₃); left = l₃ }
  where
    main : (es : List Noted) (ls : List Line) → (length es ≡ 0 → ls ≡ []) → All LineFits ls → (a e : ℕ) → entries_at s a ≡ ended e es
        → Stands s a (entries_text 1 (map (said_noted mode) es) ++ concat variation_text (map (said_line mode) ls)) → Stands s e (concat variation_text (map (said_line mode) ls))
        → Came (variations_at s (past_main s a)) (λ n. ended n (map as_play ls)) s []
    main [] [] alone fs a e i st su = record { end = a; is = rw (main_none s a (rw i)) (variations_end st); left = st }
    main [] (l ∷ ls) alone fs a e i st su = let z : ◌≡◌ {A = List Line} (l ∷ ls) [] = alone refl in let y : ◌≡◌ {A = ℕ} 0 1 = cc in absurd (omega arith)
    main (x ∷ es) ls alone fs a e i st su =
        let some : length (entries_at s a).state ≡ 0 → ⊥ = λ q. filled x es (rw i at q) in
        let k : past_main s a ≡ skipped_at s e = main_is s a some ∙ rw i in
        came (variations_came n ls fs su) λ e₂ i₂ l₂.
        record { end = e₂; is = rw (k, i₂); left = l₂ }
      where
        filled : (x : Noted) (xs : List Noted) → length (x ∷ xs) ≡ 0 → ⊥
        filled x xs q = omega arith
