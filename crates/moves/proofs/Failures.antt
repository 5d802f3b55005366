-- Why the parts of a move line fail: each rule reads over text and is silent, or it does not read and its failure is told.
-- Assumes nothing.
use Rattle.std.specs.Prelude.{Option, Some, None, Result, Ok, Err}
use Prim.Native.Nat.{ℕ, ◌≤◌}
use native.Mathlib.Nat.{le_refl}
use native.Mathlib.Omega.{arith}
use mathlib.Core.Path.{◌≡◌, refl, sym, subst, ◌∙◌}
use mathlib.Core.List.{List, [], ◌∷◌}
use mathlib.Core.Bool.{Bool, true, false}
use lib.ListN.{length}
use lib.Dec.{ltb}
use borrow.Author.Tests.{ltb-false}
use Rattle.lists.proofs.Laws.{by_pick}
use Rattle.text.specs.Text.{on_place, by_number, is_text, tag_at, text_at, line_end_at, wide_space, digits_at}
use Rattle.text.specs.declared.Cursor.{Cursor}
use Rattle.text.specs.declared.FigureError.{FigureError}
use Rattle.text.proofs.Laws.{span_ge}
use Rattle.text.proofs.Answers.{by_past}
use Rattle.spell.specs.Words.{same_word, promotes, declines, drops}
use Rattle.spell.specs.Spell.{on_spelled, first_of}
use Rattle.spell.specs.Tables.{kinds, specials, numerals, files}
use Rattle.jkf.specs.declared.Target.{Target}
use Rattle.jkf.specs.declared.Entry.{Entry}
use Rattle.moves.specs.Moves.{on_aim, on_source, on_what, square_at, move_to_at, promote_at, origin_at, move_from_at, move_entry, kind_to_origin_at, move_at, what_at}
use Rattle.moves.specs.Failing.{on_failed, or_fail, line_end_fail, square_fail, move_to_fail, origin_fail, move_from_fail, piece_fail, move_fail, what_fail, Seen, large_origin, place, rank, kind, origin, digits, bracket, break}
use Rattle.moves.specs.declared.Mark.{Mark}
use Rattle.moves.specs.declared.Reason.{Reason}
use Rattle.moves.specs.declared.Reason.TheVariants.{NoNumber, TooLarge, NoPlace, NoKind, NoOrigin, NoBreak, CommentHere, EndOfText}
use Rattle.moves.proofs.Shortcuts.{span_along}
use Rattle.moves.proofs.Overs.{Over, over_on, tag_over, first_over, digits_over, line-break}
use Rattle.text.specs.declared.FigureError.TheVariants.{Absent, TooLarge as LargeFigure}

-- ---- a rule and its failure

-- no byte is left
abbrev pub is_end : Reason → Bool
is_end NoNumber = false
is_end TooLarge = false
is_end NoPlace = false
is_end NoKind = false
is_end NoOrigin = false
is_end NoBreak = false
is_end CommentHere = false
is_end EndOfText = true

-- a rule reads and is silent, or it does not and tells its failure
pub data Rule (R : Cursor → Type 0) (T : ℕ → Reason → Type 0) : Option Cursor → Option (ℕ × Reason) → Type 0 where
  reads : {c : Cursor} → R c → Rule R T (Some c) None
  fails : {p : ℕ} {r : Reason} → T p r → Rule R T None (Some (p, r))

-- what is told of a failure at p: that p is from one place to another, and, given K, what is seen there
pub record Told (K : Type 0) (s : List ℕ) (at e p : ℕ) (r : Reason) : Type 0 where
  pub from : at ≤ p
  pub up_to : p ≤ e
  pub seen : K → Seen s p r
  pub inner : is_end r ≡ false

-- the same where what is seen there needs nothing given
abbrev pub ToldIn : List ℕ → ℕ → ℕ → ℕ → Reason → Type 0
ToldIn = Told (Unit {0})

-- what is told of a part of a line is told of the line
pub told-wide : {K L : Type 0} {s : List ℕ} {a b d e p : ℕ} {r : Reason} → b ≤ a → e ≤ d → (L → K) → Told K s a e p r → Told L s b d p r
told-wide h k g t =
    let i = t.from in
    let j = t.up_to in
    record { from = omega arith; up_to = omega arith; seen = λ l. t.seen (g l); inner = t.inner }

-- a failure of a part of a move: at the part's own place it has one reason
pub record First (K : Type 0) (r₀ : Reason) (s : List ℕ) (at p : ℕ) (r : Reason) : Type 0 where
  pub told : Told K s at (text_at s at) p r
  pub first : p ≤ at → r ≡ r₀

-- the rule of a part of a move: what it reads is text
abbrev pub Part : Type 0 → Reason → List ℕ → ℕ → Option Cursor → Option (ℕ × Reason) → Type 0
Part K r₀ s at = Rule (λ c. Over s at c.at) (First K r₀ s at)

-- it fails at its own place
here : {K : Type 0} {s : List ℕ} {at : ℕ} (r : Reason) → is_end r ≡ false → (K → Seen s at r) → First K r s at at r
here {s = s} {at = at} r i k = record { told = record { from = le_refl at; up_to = span_ge is_text s at; seen = k; inner = i }; first = λ h. refl }

-- it fails further on, where text lies between
first_on : {K L : Type 0} {q r r₀ : Reason} {s : List ℕ} {a b p : ℕ} → Over s a b → (L → K) → First K q s b p r → First L r₀ s a p r
first_on o g t =
    let h = o.past in
    let k = o.text in
    let i = t.told.from in
    record { told = told-wide (omega arith) (omega arith) g t.told; first = λ z. absurd (omega arith) }

-- one part after another
part_on : {K L : Type 0} {q r₀ : Reason} {s : List ℕ} {a b : ℕ} {x : Option Cursor} {f : Option (ℕ × Reason)} → Over s a b → (L → K) → Part K q s b x f → Part L r₀ s a x f
part_on o g (reads n) = reads (over_on o n)
part_on o g (fails t) = fails (first_on o g t)

-- the same where more is given
part_if : {K L : Type 0} {r₀ : Reason} {s : List ℕ} {at : ℕ} {x : Option Cursor} {f : Option (ℕ × Reason)} → (L → K) → Part K r₀ s at x f → Part L r₀ s at x f
part_if g (reads n) = reads n
part_if {at = at} g (fails t) = fails (record { told = told-wide (le_refl at) (le_refl _) g t.told; first = t.first })

-- of two ways the first of which fails at the place of both
part_or : {K : Type 0} {r₀ : Reason} {s : List ℕ} {at : ℕ} {x : Option Cursor} {f : Option (ℕ × Reason)} → Part K r₀ s at x f → Part K r₀ s at x (or_fail (Some (at, r₀)) f)
part_or (reads n) = reads n
part_or {K} {r₀} {s} {at} (fails {p} {r} t) =
    by_pick (Part K r₀ s at None) (ltb at p) (Some (p, r)) (Some (at, r₀)) (λ h. fails t)
    (λ h. let i = t.told.from in
    let e : p ≡ at = omega (arith, ltb-false at p h) in
    let q : r ≡ r₀ = t.first (omega arith) in
    fails (subst (λ (n : ℕ). First K r₀ s at n r₀) e (subst (First K r₀ s at p) q t)))

-- a rule is silent exactly where it reads
pub rule_silent : {R : Cursor → Type 0} {T : ℕ → Reason → Type 0} {x : Option Cursor} {f : Option (ℕ × Reason)} → Rule R T x f → on_failed f (λ p r. false) true ≡ on_place x (λ c. true) false
rule_silent (reads h) = refl
rule_silent (fails t) = refl

-- and what it reads is known
pub rule_reads : {R : Cursor → Type 0} {T : ℕ → Reason → Type 0} {c : Cursor} {f : Option (ℕ × Reason)} → Rule R T (Some c) f → R c
rule_reads (reads h) = h

-- ---- two answers taken apart together

module _ {A B : Type 0} (Q : A → B → Type 0) {d : A} {e : B} where
  two_places : (r : Option Cursor) {f : Cursor → A} {g : Cursor → B} → (r ≡ None → Q d e) → ((c : Cursor) → r ≡ Some c → Q (f c) (g c)) → Q (on_place r f d) (on_place r g e)
  two_places (Some c) z k = k c refl
  two_places None z k = z refl

  two_words : (r : Option (ℕ × Cursor)) {f : ℕ → Cursor → A} {g : ℕ → Cursor → B} → (r ≡ None → Q d e) → ((n : ℕ) (c : Cursor) → r ≡ Some (n, c) → Q (f n c) (g n c))
      → Q (on_spelled r f d) (on_spelled r g e)
  two_words (Some (n, c)) z k = k n c refl
  two_words None z k = z refl

  two_numbers : {d₁ : A} {e₁ : B} (r : Result (ℕ × Cursor) FigureError) {f : ℕ → Cursor → A} {g : ℕ → Cursor → B} → (r ≡ Err Absent → Q d e) → (r ≡ Err LargeFigure → Q d₁ e₁)
      → ((n : ℕ) (c : Cursor) → r ≡ Ok (n, c) → Q (f n c) (g n c)) → Q (by_number r f d d₁) (by_number r g e e₁)
  two_numbers (Ok (n, c)) z y k = k n c refl
  two_numbers (Err Absent) z y k = z refl
  two_numbers (Err LargeFigure) z y k = y refl

  two_aims : (r : Option (Target × Cursor)) {f : Target → Cursor → A} {g : Target → Cursor → B} → (r ≡ None → Q d e) → ((t : Target) (c : Cursor) → r ≡ Some (t, c) → Q (f t c) (g t c))
      → Q (on_aim r f d) (on_aim r g e)
  two_aims (Some (t, c)) z k = k t c refl
  two_aims None z k = z refl

  pub two_whats : (r : Option (Entry × Cursor)) {f : Entry → Cursor → A} {g : Entry → Cursor → B} → (r ≡ None → Q d e) → ((t : Entry) (c : Cursor) → r ≡ Some (t, c) → Q (f t c) (g t c))
      → Q (on_what r f d) (on_what r g e)
  two_whats (Some (t, c)) z k = k t c refl
  two_whats None z k = z refl

-- ---- the parts of a move

-- neither a special nor 同 stands here
record Bare (s : List ℕ) (at : ℕ) : Type 0 where
  special : first_of specials s at ≡ None
  same : tag_at same_word s at ≡ None

-- a file and a rank
square_part : (s : List ℕ) (at : ℕ) → Part (Bare s at) NoPlace s at (on_aim (square_at s at) (λ t c. Some c) None) (square_fail s at)
unfolding square_at square_fail
square_part s at =
    two_words Q (first_of files s at) (λ e. fails (here NoPlace refl (λ b. place b.special b.same e)))
    (λ x c e. let o = first_over files s at refl e in
    two_words Q (first_of numerals s c.at) (λ q. fails (first_on o (λ b. b) (here NoPlace refl (λ b. rank at x e q))))
    (λ y d q. reads (over_on o (first_over numerals s c.at refl q))))
  where
    Q : Option (Target × Cursor) → Option (ℕ × Reason) → Type 0
    Q a = Part (Bare s at) NoPlace s at (on_aim a (λ t c. Some c) None)

-- 同, or a square
move_to_part : (s : List ℕ) (at : ℕ) → Part (first_of specials s at ≡ None) NoPlace s at (on_aim (move_to_at s at) (λ t c. Some c) None) (move_to_fail s at)
unfolding move_to_at move_to_fail
move_to_part s at =
    two_places Q (tag_at same_word s at) (λ e. part_or (part_if (λ n. record { special = n; same = e }) (square_part s at)))
    (λ c e. let o = tag_over same_word s at refl e in
    by_past (λ (a : Option (Target × Cursor)). Q a None) (reads o) (tag_at wide_space s c.at) (λ d q. reads (over_on o (tag_over wide_space s c.at refl q))))
  where
    Q : Option (Target × Cursor) → Option (ℕ × Reason) → Type 0
    Q a = Part (first_of specials s at ≡ None) NoPlace s at (on_aim a (λ t c. Some c) None)

-- a number of at most 255 in brackets
origin_part : (s : List ℕ) (at : ℕ) → Part (tag_at drops s at ≡ None) NoOrigin s at (on_source (origin_at s at) (λ o c. Some c) None) (origin_fail s at)
unfolding origin_at origin_fail
origin_part s at =
    two_places Q (tag_at (40 ∷ []) s at) (λ e. fails (here NoOrigin refl (λ n. origin n e)))
    (λ c e. let o = tag_over (40 ∷ []) s at refl e in
    two_numbers Q (digits_at 255 s c.at)
    (λ q. fails (first_on o (λ n. n) (here NoOrigin refl (λ n. digits at e q))))
    (λ q. fails (first_on o (λ n. n) (here TooLarge refl (λ n. large_origin at e q))))
    (λ n d q. let p = over_on o (digits_over 255 s c.at q) in
    two_places Q (tag_at (41 ∷ []) s d.at) (λ z. fails (first_on p (λ n. n) (here NoOrigin refl (λ _. bracket c.at n q z))))
    (λ f z. reads (over_on p (tag_over (41 ∷ []) s d.at refl z)))))
  where
    Q : Result (Option (ℕ × ℕ) × Cursor) FigureError → Option (ℕ × Reason) → Type 0
    Q a = Part (tag_at drops s at ≡ None) NoOrigin s at (on_source a (λ o c. Some c) None)

-- 打, or an origin
move-from_part : (s : List ℕ) (at : ℕ) → Part (Unit {0}) NoOrigin s at (on_source (move_from_at s at) (λ o c. Some c) None) (move_from_fail s at)
unfolding move_from_at move_from_fail
move-from_part s at =
    two_places (λ (a : Result (Option (ℕ × ℕ) × Cursor) FigureError). Part (Unit {0}) NoOrigin s at (on_source a (λ o c. Some c) None)) (tag_at drops s at) (λ e. part_or (part_if (λ _. e) (origin_part s at)))
    (λ c e. reads (tag_over drops s at refl e))

-- past a mark, if any
promote_past : (s : List ℕ) (at b : ℕ) → Over s b at → Over s b (promote_at s at).next.at
unfolding promote_at
promote_past s at b o =
    by_past Q (by_past Q o (tag_at declines s at) (λ c e. over_on o (tag_over declines s at refl e))) (tag_at promotes s at) (λ c e. over_on o (tag_over promotes s at refl e))
  where
    Q : Mark → Type 0
    Q m = Over s b m.next.at

-- an entry is made where an origin is
source_what : (a : Result (Option (ℕ × ℕ) × Cursor) FigureError) (g : Option (ℕ × ℕ) → Entry) → on_what (on_source a (λ o d. Some (g o, d)) None) (λ e c. Some c) None ≡ on_source a (λ o d. Some d) None
source_what (Ok (o, c)) g = refl
source_what (Err Absent) g = refl
source_what (Err LargeFigure) g = refl

-- a kind, its mark if any, and where it comes from
piece_part : (t : Target) (s : List ℕ) (at : ℕ) → Part (Unit {0}) NoKind s at (on_what (kind_to_origin_at t s at) (λ e c. Some c) None) (piece_fail s at)
unfolding kind_to_origin_at piece_fail
piece_part t s at =
    two_words (λ (w : Option (Entry × Cursor)). Part (Unit {0}) NoKind s at (on_what w (λ e c. Some c) None)) (first_of kinds s at) (λ e. fails (here NoKind refl (λ _. kind e)))
    (λ k c e. rw (source_what (move_from_at s (promote_at s c.at).next.at) (move_entry t k (promote_at s c.at).promote))
    (part_on (promote_past s c.at at (first_over kinds s at refl e)) (λ _. tt) (move-from_part s (promote_at s c.at).next.at)))

-- a target and a piece
move_part : (s : List ℕ) (at : ℕ) → Part (first_of specials s at ≡ None) NoPlace s at (on_what (move_at s at) (λ e c. Some c) None) (move_fail s at)
unfolding move_at move_fail
move_part s at =
    two_aims (λ (w : Option (Entry × Cursor)). Part (first_of specials s at ≡ None) NoPlace s at (on_what w (λ e c. Some c) None)) (move_to_at s at) (λ e. rw e at (move_to_part s at))
    (λ t c e. part_on (rule_reads (rw e at (move_to_part s at))) (λ _. tt) (piece_part t s c.at))

-- a special, or a move
pub what_part : (s : List ℕ) (at : ℕ) → Part (Unit {0}) NoPlace s at (on_what (what_at s at) (λ e c. Some c) None) (what_fail s at)
unfolding what_at what_fail
what_part s at =
    two_words (λ (w : Option (Entry × Cursor)). Part (Unit {0}) NoPlace s at (on_what (on_what w (λ e c. Some (e, c)) (move_at s at)) (λ e c. Some c) None)) (first_of specials s at)
    (λ e. part_or (part_if (λ _. e) (move_part s at))) (λ n c e. reads (first_over specials s at refl e))

-- ---- a tail and its break: they fail where the text ends, for no break stands there

pub line-end_rule : (s : List ℕ) (at : ℕ) → Rule (λ c. Unit {0}) (ToldIn s at (text_at s at)) (line_end_at s at) (line_end_fail s at)
unfolding line_end_fail
line-end_rule s at = go (line_end_at s at) refl
  where
    go : (r : Option Cursor) → line_end_at s at ≡ r → Rule (λ c. Unit {0}) (ToldIn s at (text_at s at)) r (on_place r (λ c. None) (Some (text_at s at, NoBreak)))
    go (Some c) e = reads tt
    go None e =
        fails (record {
          from = span_ge is_text s at;
          up_to = le_refl _;
          seen = λ _. break (sym (span_along s is_text (λ b h. h) (length s) at (omega arith))) (sym (line-break s at) ∙ e);
          inner = refl;
        })

-- ---- a rule is silent exactly where it reads

-- an answer is there where it has a place
source_place : (a : Result (Option (ℕ × ℕ) × Cursor) FigureError) → on_place (on_source a (λ o c. Some c) None) (λ c. true) false ≡ on_source a (λ o c. true) false
source_place (Ok (o, c)) = refl
source_place (Err Absent) = refl
source_place (Err LargeFigure) = refl

what-place : (w : Option (Entry × Cursor)) → on_place (on_what w (λ e c. Some c) None) (λ c. true) false ≡ on_what w (λ e c. true) false
what-place (Some (e, c)) = refl
what-place None = refl

-- a tail and its break are silent exactly where they are read
pub line-end_silent : (s : List ℕ) (at : ℕ) → on_failed (line_end_fail s at) (λ p r. false) true ≡ on_place (line_end_at s at) (λ c. true) false
line-end_silent s at = rule_silent (line-end_rule s at)

-- 打 or an origin is silent exactly where it is read
pub move-from_silent : (s : List ℕ) (at : ℕ) → on_failed (move_from_fail s at) (λ p r. false) true ≡ on_source (move_from_at s at) (λ o c. true) false
move-from_silent s at = rule_silent (move-from_part s at) ∙ source_place (move_from_at s at)

-- a move is silent exactly where it is read
pub move_silent : (s : List ℕ) (at : ℕ) → on_failed (move_fail s at) (λ p r. false) true ≡ on_what (move_at s at) (λ e c. true) false
move_silent s at = rule_silent (move_part s at) ∙ what-place (move_at s at)

-- a special or a move is silent exactly where it is read
pub what_silent : (s : List ℕ) (at : ℕ) → on_failed (what_fail s at) (λ p r. false) true ≡ on_what (what_at s at) (λ e c. true) false
what_silent s at = rule_silent (what_part s at) ∙ what-place (what_at s at)
