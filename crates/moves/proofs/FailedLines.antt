-- Why a line fails: it is silent exactly where it is read; else its failure stands in the line, and its reason is seen there.
-- Assumes nothing.
use Rattle.std.specs.Prelude.{Option, Some, None, Result, Ok, Err}
use Prim.Native.Nat.{ℕ, ◌+◌, ◌≤◌, ◌<◌}
use native.Mathlib.Nat.{le_refl}
use native.Mathlib.Omega.{arith}
use mathlib.Core.Path.{◌≡◌, refl, sym, ap, subst, ◌∙◌}
use mathlib.Core.List.{List, []}
use mathlib.Core.Bool.{Bool, true, false, true≢false}
use lib.ListN.{length, get_or}
use lib.Dec.{eqb, leb}
use borrow.Author.Tests.{leb-true, leb-false, le-leb, lt-leb, lt-ltb, eqb-true}
use Rattle.lists.specs.Pick.{pick}
use Rattle.lists.proofs.Laws.{by_pick, in_list}
use Rattle.text.specs.Text.{cursor, on_place, on_number, by_number, is_blank, is_text, text_at, break_at, tail_at, line_end_at, blanks_at, digits_at}
use Rattle.text.specs.Utf8.{size_of, char_width, character_at}
use Rattle.text.specs.declared.Cursor.{Cursor}
use Rattle.text.specs.declared.FigureError.{FigureError}
use Rattle.text.proofs.Laws.{span_ge, span-stop, no_past, break_after}
use Rattle.text.proofs.Answers.{by_past}
use Rattle.text.proofs.Ends.{character_end, blanks_end, digits-end}
use Rattle.text.proofs.Readings.{no-digit}
use Rattle.text.proofs.Widths.{char_within}
use Rattle.moves.specs.Moves.{on_what, on_remark, on_move_line, what_at, move_line_at, move_line_end_at, remark_from, kept_at, comment_line_at, begins_no_skip, skip_line_at, begins_comment}
use Rattle.moves.specs.Failing.{on_failed, sought, line_end_fail, played_fail, numbered_fail, move_line_fail, skip_line_fail, comment_fail, Seen, number, large_number, comment, end}
use Rattle.moves.specs.declared.MoveLine.{MoveLine}
use Rattle.moves.specs.declared.Reason.{Reason}
use Rattle.moves.specs.declared.Reason.TheVariants.{NoNumber, TooLarge, CommentHere, EndOfText}
use Rattle.moves.proofs.Goings.{character_is, skip_back}
use Rattle.moves.proofs.Shortcuts.{blanks_along, line-end_is}
use Rattle.moves.proofs.Clocking.{tag_here, tag_other}
use Rattle.moves.proofs.Overs.{text-later, text-within, line-break, digits_over}
use Rattle.moves.proofs.Failures.{Rule, reads, fails, ToldIn, told-wide, Part, is_end, rule_silent, rule_reads, two_whats, what_part, line-end_rule, line-end_silent}
use Rattle.text.specs.declared.FigureError.TheVariants.{Absent, TooLarge as LargeFigure}

-- ---- a move line that is sought

-- a rule that tells where and what its failure is
abbrev Tells : List ℕ → ℕ → ℕ → Option Cursor → Option (ℕ × Reason) → Type 0
Tells s at e = Rule (λ c. Unit {0}) (ToldIn s at e)

-- what is told of a part of a line is told of the line
tells_wide : {s : List ℕ} {a b d e : ℕ} {x : Option Cursor} {f : Option (ℕ × Reason)} → b ≤ a → e ≤ d → Tells s a e x f → Tells s b d x f
tells_wide h k (reads u) = reads u
tells_wide h k (fails t) = fails (told-wide h k (λ u. u) t)

-- and so of a part of a move
tells_part : {r : Reason} {s : List ℕ} {at : ℕ} {x : Option Cursor} {f : Option (ℕ × Reason)} → Part (Unit {0}) r s at x f → Tells s at (text_at s at) x f
tells_part (reads o) = reads tt
tells_part (fails t) = fails t.told

-- a move line past its number
played_tells : (s : List ℕ) (at : ℕ) → Tells s at (text_at s at) (on_what (what_at s at) (λ e d. line_end_at s d.at) None) (played_fail s at)
unfolding played_fail
played_tells s at =
    two_whats (Tells s at (text_at s at)) (what_at s at) (λ e. tells_part (rw e at (what_part s at)))
    (λ w d e. let o = rule_reads (rw e at (what_part s at)) in
    let p = o.past in
    let q = o.text in
    tells_wide (omega arith) (omega arith) (line-end_rule s d.at))

-- a move line from its blanks on
numbered_tells : (s : List ℕ) (at : ℕ) → Tells s at (text_at s at) (move_line_end_at s at) (numbered_fail s at)
unfolding numbered_fail
numbered_tells s at = rw (line-end_is s at) (go (digits_at 18446744073709551615 s (blanks_at s at)) refl)
  where
    -- it fails past its blanks
    stop : {r : Reason} → is_end r ≡ false → Seen s (blanks_at s at) r → ToldIn s at (text_at s at) (blanks_at s at) r
    stop i v =
        record { from = span_ge is_blank s at; up_to = omega (arith, blanks_along s at, span_ge is_text s (blanks_at s at)); seen = λ u. v; inner = i }

    go : (r : Result (ℕ × Cursor) FigureError) → digits_at 18446744073709551615 s (blanks_at s at) ≡ r
        → Tells s at (text_at s at) (on_number r (λ n c. on_what (what_at s (blanks_at s c.at)) (λ e d. line_end_at s d.at) None) None)
        (by_number r (λ n c. played_fail s (blanks_at s c.at)) (Some (blanks_at s at, NoNumber)) (Some (blanks_at s at, TooLarge)))
    go (Ok (n, c)) e =
        let o = digits_over 18446744073709551615 s (blanks_at s at) e in
        let p = o.past in
        let q = o.text in
        tells_wide (omega (arith, span_ge is_blank s at, span_ge is_blank s c.at)) (omega (arith, blanks_along s at, blanks_along s c.at)) (played_tells s (blanks_at s c.at))
    go (Err Absent) e = fails (stop refl (number e))
    go (Err LargeFigure) e = fails (stop refl (large_number e))

-- ---- what is told of a line

-- a failure in the line, or the end of the text
pub data Line (s : List ℕ) (at e : ℕ) : ℕ → Reason → Type 0 where
  inside : {p : ℕ} {r : Reason} → ToldIn s at e p r → Line s at e p r
  ended : length s ≤ at → Line s at e at EndOfText

-- what holds of a failure's place and reason
pub data OnFailed (T : ℕ → Reason → Type 0) : Option (ℕ × Reason) → Type 0 where
  silent : OnFailed T None
  told : {p : ℕ} {r : Reason} → T p r → OnFailed T (Some (p, r))

-- what is known of a failure, where it is known which it is
failed_of : {T : ℕ → Reason → Type 0} {p : ℕ} {r : Reason} → OnFailed T (Some (p, r)) → T p r
failed_of (told t) = t

pub failed_is : {T : ℕ → Reason → Type 0} {f : Option (ℕ × Reason)} {p : ℕ} {r : Reason} → OnFailed T f → f ≡ Some (p, r) → T p r
failed_is {T} h e = failed_of (subst (OnFailed T) e h)

-- a rule tells its failure
rule_told : {R : Cursor → Type 0} {T : ℕ → Reason → Type 0} {x : Option Cursor} {f : Option (ℕ × Reason)} → Rule R T x f → OnFailed T f
rule_told (reads h) = silent
rule_told (fails t) = told t

line-told : {s : List ℕ} {at e : ℕ} {f : Option (ℕ × Reason)} → OnFailed (ToldIn s at e) f → OnFailed (Line s at e) f
line-told silent = silent
line-told (told t) = told (inside t)

-- any line is sought where a byte is left
begun-told : (s : List ℕ) (at e : ℕ) {f : Option (ℕ × Reason)} → (at < length s → OnFailed (ToldIn s at e) f) → OnFailed (Line s at e) (pick (leb (length s) at) (Some (at, EndOfText)) f)
begun-told s at e {f} k =
    by_pick (OnFailed (Line s at e)) (leb (length s) at) (Some (at, EndOfText)) f (λ h. told (ended (leb-true _ _ h))) (λ h. line-told (k (leb-false _ _ h)))

-- and any but a comment where no * stands
sought-told : (s : List ℕ) (at e : ℕ) {f : Option (ℕ × Reason)} → (at < length s → at ≤ e) → (at < length s → OnFailed (ToldIn s at e) f) → OnFailed (Line s at e) (sought s at f)
sought-told s at e {f} u k =
    begun-told s at e
    (λ h. by_pick (OnFailed (ToldIn s at e)) (eqb (get_or s at 0) 42) (Some (at, CommentHere)) f
    (λ c. told (record { from = le_refl at; up_to = u h; seen = λ _. comment (eqb-true _ _ c); inner = refl })) (λ _. k h))

-- a move line tells of itself alone
move-line-told : (s : List ℕ) (at : ℕ) → OnFailed (Line s at (text_at s at)) (move_line_fail s at)
unfolding move_line_fail
move-line-told s at = sought-told s at (text_at s at) (λ h. span_ge is_text s at) (λ h. rule_told (numbered_tells s at))

-- a tail from a later place on
tail_told : (s : List ℕ) (at b : ℕ) → at ≤ b → b ≤ length s → OnFailed (ToldIn s at (length s)) (line_end_fail s b)
tail_told s at b h k = rule_told (tells_wide h (text-within s b k) (line-end_rule s b))

-- so a skip line tells of the text
skip_line-told : (s : List ℕ) (at : ℕ) → OnFailed (Line s at (length s)) (skip_line_fail s at)
unfolding skip_line_fail
skip_line-told s at =
    sought-told s at (length s) (λ h. omega arith)
    (λ h. by_pick Q (begins_no_skip s at) None _ (λ _. silent)
    (λ _. by_past Q silent (character_at s at)
    (λ c e. let w = character_is s at c e in tail_told s at c.at (omega arith) (omega (arith, char_within s at)))))
  where
    Q : Option (ℕ × Reason) → Type 0
    Q = OnFailed (ToldIn s at (length s))

-- and so does a comment
comment-told : (s : List ℕ) (at : ℕ) → OnFailed (Line s at (length s)) (comment_fail s at)
unfolding comment_fail
comment-told s at =
    begun-told s at (length s)
    (λ h. by_pick (OnFailed (ToldIn s at (length s))) (begins_comment s at) (line_end_fail s (at + 1)) None (λ _. tail_told s at (at + 1) (omega arith) (omega arith)) (λ _. silent))

-- ---- where a failure stands

line_stands : {s : List ℕ} {at e p : ℕ} {r : Reason} → at ≤ e → Line s at e p r → (at ≤ p) × (p ≤ e)
line_stands h (inside t) = (t.from, t.up_to)
line_stands {at = at} h (ended k) = (le_refl at, h)

-- a move line's failure stands from its place to the end of its text
pub move-line_stands : (s : List ℕ) (at : ℕ) {p : ℕ} {r : Reason} → move_line_fail s at ≡ Some (p, r) → (at ≤ p) × (p ≤ text_at s at)
move-line_stands s at e = line_stands (span_ge is_text s at) (failed_is (move-line-told s at) e)

-- and so in the text
pub move-line-within : (s : List ℕ) (at : ℕ) {p : ℕ} {r : Reason} → at ≤ length s → move_line_fail s at ≡ Some (p, r) → (at ≤ p) × (p ≤ length s)
move-line-within s at h e = let (l, u) = move-line_stands s at e in (l, omega (arith, text-within s at h))

-- a skip line's failure stands in the text
pub skip_line-within : (s : List ℕ) (at : ℕ) {p : ℕ} {r : Reason} → at ≤ length s → skip_line_fail s at ≡ Some (p, r) → (at ≤ p) × (p ≤ length s)
skip_line-within s at h e = line_stands h (failed_is (skip_line-told s at) e)

-- and so does a comment's
pub comment-within : (s : List ℕ) (at : ℕ) {p : ℕ} {r : Reason} → at ≤ length s → comment_fail s at ≡ Some (p, r) → (at ≤ p) × (p ≤ length s)
comment-within s at h e = line_stands h (failed_is (comment-told s at) e)

-- ---- what is seen there

line-seen : {s : List ℕ} {at e p : ℕ} {r : Reason} → Line s at e p r → Seen s p r
line-seen (inside t) = t.seen tt
line-seen (ended h) = end h

-- what a move line misses is not there
pub move-line-seen : (s : List ℕ) (at : ℕ) {p : ℕ} {r : Reason} → move_line_fail s at ≡ Some (p, r) → Seen s p r
move-line-seen s at e = line-seen (failed_is (move-line-told s at) e)

-- nor what a skip line does
pub skip_line-seen : (s : List ℕ) (at : ℕ) {p : ℕ} {r : Reason} → skip_line_fail s at ≡ Some (p, r) → Seen s p r
skip_line-seen s at e = line-seen (failed_is (skip_line-told s at) e)

-- nor what a comment does
pub comment-seen : (s : List ℕ) (at : ℕ) {p : ℕ} {r : Reason} → comment_fail s at ≡ Some (p, r) → Seen s p r
comment-seen s at e = line-seen (failed_is (comment-told s at) e)

-- ---- the end of the text

line-ended : {s : List ℕ} {at e p : ℕ} → at < length s → Line s at e p EndOfText → ⊥
line-ended h (inside t) = true≢false t.inner
line-ended h (ended k) = omega arith

-- where a byte is left, a move line's failure is another
pub move-line-end : (s : List ℕ) (at : ℕ) {p : ℕ} → at < length s → move_line_fail s at ≡ Some (p, EndOfText) → ⊥
move-line-end s at h e = line-ended h (failed_is (move-line-told s at) e)

-- and a skip line's
pub skip_line-end : (s : List ℕ) (at : ℕ) {p : ℕ} → at < length s → skip_line_fail s at ≡ Some (p, EndOfText) → ⊥
skip_line-end s at h e = line-ended h (failed_is (skip_line-told s at) e)

-- and a comment's
pub comment-end : (s : List ℕ) (at : ℕ) {p : ℕ} → at < length s → comment_fail s at ≡ Some (p, EndOfText) → ⊥
comment-end s at h e = line-ended h (failed_is (comment-told s at) e)

module _ (s : List ℕ) (at : ℕ) (h : length s ≤ at) where
  -- where none is left, a move line says so
  pub move-at-end : move_line_fail s at ≡ Some (at, EndOfText)
  unfolding move_line_fail
  move-at-end = rw (le-leb _ _ h)

  -- a skip line
  pub skip_at-end : skip_line_fail s at ≡ Some (at, EndOfText)
  unfolding skip_line_fail
  skip_at-end = rw (le-leb _ _ h)

  -- and a comment
  pub comment-at-end : comment_fail s at ≡ Some (at, EndOfText)
  unfolding comment_fail
  comment-at-end = rw (le-leb _ _ h)

-- ---- a line is silent exactly where it is read

-- a line of which b says whether it is read: not at the end of the text, nor where a * stands
sought_silent : (s : List ℕ) (at : ℕ) (f : Option (ℕ × Reason)) (b : Bool) → (length s ≤ at → b ≡ false) → (get_or s at 0 ≡ 42 → b ≡ false) → on_failed f (λ p r. false) true ≡ b
    → on_failed (sought s at f) (λ p r. false) true ≡ b
sought_silent s at f b z y q =
    by_pick P (leb (length s) at) (Some (at, EndOfText)) _ (λ h. sym (z (leb-true _ _ h)))
    (λ _. by_pick P (eqb (get_or s at 0) 42) (Some (at, CommentHere)) f (λ h. sym (y (eqb-true _ _ h))) (λ _. q))
  where
    P : Option (ℕ × Reason) → Type 0
    P g = on_failed g (λ p r. false) true ≡ b

-- a line is read where it has a place
line-place : (r : Option MoveLine) → on_place (on_move_line r (λ n e c. Some c) None) (λ c. true) false ≡ on_move_line r (λ n e c. true) false
line-place (Some r) = refl
line-place None = refl

-- a move line that is not numbered is not read
no_number : (s : List ℕ) (at : ℕ) → digits_at 18446744073709551615 s (blanks_at s at) ≡ Err Absent → on_move_line (move_line_at s at) (λ n e c. true) false ≡ false
unfolding move_line_at
no_number s at e = rw e

-- a move line
pub move-line_silent : (s : List ℕ) (at : ℕ) → on_failed (move_line_fail s at) (λ p r. false) true ≡ on_move_line (move_line_at s at) (λ n e c. true) false
unfolding move_line_fail move_line_end_at
move-line_silent s at =
    sought_silent s at (numbered_fail s at) (on_move_line (move_line_at s at) (λ n e c. true) false)
    (λ h. no_number s at (rw (blanks_end s at h) (digits-end s at h 18446744073709551615)))
    (λ e. no_number s at (rw (span-stop is_blank s at refl (ap is_blank e)) (no-digit 18446744073709551615 s at 42 (sym e) refl)))
    (rule_silent (numbered_tells s at) ∙ line-place (move_line_at s at))

-- so it tells why it is not read
pub not_silent : (s : List ℕ) (at : ℕ) → move_line_at s at ≡ None → move_line_fail s at ≡ None → ⊥
not_silent s at e q =
    true≢false (sym (ap (λ f. on_failed f (λ p r. false) true) q) ∙ move-line_silent s at ∙ ap (λ r. on_move_line r (λ n e c. true) false) e)

-- a * begins no skip line
star_no_skip : (s : List ℕ) (at : ℕ) → get_or s at 0 ≡ 42 → begins_no_skip s at ≡ true
unfolding begins_no_skip
star_no_skip s at e = rw e

-- a skip line, where it begins with what may begin one
pub skip_line_silent : (s : List ℕ) (at : ℕ) {c : Cursor} → character_at s at ≡ Some c → begins_no_skip s at ≡ false
    → on_failed (skip_line_fail s at) (λ p r. false) true ≡ on_place (skip_line_at s at) (λ c. true) false
unfolding skip_line_fail skip_line_at
skip_line_silent s at {c} e n =
    sought_silent s at _ _ (λ h. no_past c (sym (character_end s at h) ∙ e)) (λ q. absurd (true≢false (sym (star_no_skip s at q) ∙ n))) (rw (n, e) (line-end_silent s c.at))

-- a text is read where the line is
remark_silent : (from : Cursor) (s : List ℕ) (at : ℕ) → on_remark (remark_from from s at) (λ a b c. true) false ≡ on_place (line_end_at s at) (λ c. true) false
unfolding remark_from line_end_at
remark_silent from s at = go (tail_at s at)
  where
    tail : (e : Cursor) (r : Option Cursor) → on_remark (on_place r (λ n. Some (record { from = from; to = e; next = n })) None) (λ a b c. true) false ≡ on_place r (λ c. true) false
    tail e (Some n) = refl
    tail e None = refl

    go : (r : Option Cursor)
        → on_remark (on_place r (λ e. on_place (break_at s e.at) (λ n. Some (record { from = from; to = e; next = n })) None) None) (λ a b c. true) false
        ≡ on_place (on_place r (λ c. break_at s c.at) None) (λ c. true) false
    go (Some e) = tail e (break_at s e.at)
    go None = refl

-- a comment begins with a * or a &
by-comment : {P : Type 0} (s : List ℕ) (at : ℕ) → begins_comment s at ≡ true → (get_or s at 0 ≡ 42 → P) → (get_or s at 0 ≡ 38 → P) → P
unfolding begins_comment
by-comment {P} s at b x y = go (eqb (get_or s at 0) 42) refl b
  where
    go : (t : Bool) → eqb (get_or s at 0) 42 ≡ t → pick t true (eqb (get_or s at 0) 38) ≡ true → P
    go true p b = x (eqb-true _ _ p)
    go false p b = y (eqb-true _ _ b)

-- and is read where the line past it is
comment-read : (s : List ℕ) (at : ℕ) → begins_comment s at ≡ true → on_remark (comment_line_at s at) (λ a b c. true) false ≡ on_place (line_end_at s (at + 1)) (λ c. true) false
unfolding comment_line_at kept_at
comment-read s at b =
    by-comment s at b (λ e. rw (tag_here s 42 at (at + 1) (in_list s at (omega arith)) e refl) (remark_silent (cursor (at + 1)) s (at + 1)))
    (λ e. let h : at < length s = in_list s at (omega arith) in
    rw (tag_other s 42 [] at h (λ q. omega arith), tag_here s 38 at (at + 1) h e refl) (remark_silent (cursor at) s (at + 1)))

-- a comment, where one begins
pub comment_silent : (s : List ℕ) (at : ℕ) → begins_comment s at ≡ true → on_failed (comment_fail s at) (λ p r. false) true ≡ on_remark (comment_line_at s at) (λ a b c. true) false
unfolding comment_fail
comment_silent s at b =
    let h : at < length s = by-comment s at b (λ e. in_list s at (omega arith)) (λ e. in_list s at (omega arith)) in
    rw (lt-leb _ _ h, b) (line-end_silent s (at + 1) ∙ sym (comment-read s at b))

-- ---- where a skip line is read, the others got less far

-- a move line failed before the skip line's end
pub passed_move : (s : List ℕ) (at : ℕ) {c : Cursor} {p : ℕ} {r : Reason} → skip_line_at s at ≡ Some c → move_line_fail s at ≡ Some (p, r) → p < c.at
passed_move s at {c} e q =
    let (_, d, k, l) = skip_back s at e in
    let w = character_is s at d k in
    let (_, u) = move-line_stands s at q in
    let b = (break_after s (text_at s d.at) c (sym (line-break s d.at) ∙ l)).past in
    omega (arith, text-later s at d.at (omega arith))

-- a & is one byte
and_wide : (s : List ℕ) (at : ℕ) → at < length s → get_or s at 0 ≡ 38 → char_width s at ≡ 1
unfolding char_width size_of
and_wide s at h e = rw (lt-ltb _ _ h, e)

-- a comment has nothing to tell
pub passed_comment : (s : List ℕ) (at : ℕ) {c : Cursor} → skip_line_at s at ≡ Some c → comment_fail s at ≡ None
unfolding comment_fail line_end_fail
passed_comment s at {c} q =
    let (n, d, k, l) = skip_back s at q in
    by_pick P (leb (length s) at) (Some (at, EndOfText)) _ (λ h. no_past d (sym (character_end s at (leb-true _ _ h)) ∙ k))
    (λ h. by_pick P (begins_comment s at) _ None
    (λ b. by-comment s at b (λ e. absurd (true≢false (sym (star_no_skip s at e) ∙ n)))
    (λ e. let w : d.at ≡ at + 1 = character_is s at d k ∙ ap (λ n. at + n) (and_wide s at (leb-false _ _ h) e) in
    rw (ap (line_end_at s) (sym w) ∙ l)))
    (λ _. refl))
  where
    P : Option (ℕ × Reason) → Type 0
    P f = f ≡ None
