-- The whole play keeps what each step keeps, from 平手 or from a sound block's own diagram: so the position that is answered is a sound diagram
-- with the pieces of the start.                                                                        (02, request (i))
-- Assumes nothing.
use Rattle.std.specs.Prelude.{Option, Some, None}
use Prim.Native.Nat.{ℕ, zero, suc, ◌+◌, ◌-◌, ◌≤◌, ◌<◌}
use native.Mathlib.Omega.{arith}
use native.Mathlib.Decide.{dec_lt}
use mathlib.Core.Path.{◌≡◌, refl, sym, ap, ◌∙◌}
use mathlib.Core.Bool.{Bool, true, false}
use mathlib.Core.List.{List, [], ◌∷◌, append-nil}
use lib.ListN.{length, get_or, drop, get_or-eq_default}
use lib.Seq.{get_or-drop}
use lib.Dec.{eqb, leb, ltb}
use borrow.Author.Tests.{eqb-true, eqb-false, leb-true, ltb-true, lt-ltb, ne_eqb, eq-eqb}
use Rattle.lists.specs.Pick.{pick}
use Rattle.lists.specs.Test.{claim}
use Rattle.lists.proofs.Laws.{range, range_at}
use Rattle.block.specs.EntryBytes.{entry_in}
use Rattle.block.specs.PositionBytes.{bytes_at, position_in}
use Rattle.jkf.specs.declared.Entry.{Entry}
use Rattle.jkf.specs.declared.Entry.TheVariants.{Slot, Moved, End}
use Rattle.jkf.specs.declared.Position.{Position}
use Rattle.block.specs.Decode.{run, lines_in, move_place, first_entry, entry_count, parent_of}
use Rattle.block.specs.Sound.{soundb, is_cell, fits_test}
use Rattle.block.specs.inner.Sounds.{Sound}
use Rattle.block.proofs.ByteArrays.{bytes-length}
use Rattle.block.proofs.Deciding.{sound_says}
use Rattle.positions.specs.declared.Course.{Course}
use Rattle.jkf.specs.Answers.{figures}
use Rattle.jkf.specs.declared.Answer.{Answer}
use Rattle.jkf.specs.declared.Answer.TheVariants.{Done, NotSound, NoSuchPart, NoStart, NoSuchEntry}
use Rattle.positions.specs.declared.After.{After}
use Rattle.positions.specs.Pieces.{FitDiagram, Keeps}
use Rattle.positions.specs.Paths.{hirate_cells, hirate, start_on, at_start, has_start, EntryPlace, hang_entry, on_goes, entry_on, play_one, play_all, path_to, trail_of, course_of, answer_by, course_answer, not_played, position_after}
use Rattle.positions.proofs.Kept.{step_keeps}
use Rattle.positions.proofs.Walks.{play-follows, path_under, parent-before}
use Rattle.positions.specs.declared.Hindrance.{Hindrance}

-- ---- the play

keeps_same : (p : Position) → FitDiagram p → Keeps p p
keeps_same p f = record { kinds = λ j h. refl; kings = refl; fits = f }

keeps_on : (p q r : Position) → Keeps p q → Keeps q r → Keeps p r
keeps_on p q r a b = record { kinds = λ j h. b.kinds j h ∙ a.kinds j h; kings = b.kings ∙ a.kings; fits = b.fits }

pub one_keeps : (b : List ℕ) (k i : ℕ) (w : Course) → FitDiagram w.position → Keeps w.position (play_one b k i w).position
unfolding play_one
one_keeps b k i w f = go w.how (entry_in (drop (move_place b (first_entry b k + i)) b))
  where
    go : (v : Option Hindrance) (e : Entry) → Keeps w.position (on_goes v w (entry_on e k i w)).position
    go (Some r) e = keeps_same w.position f
    go None Slot = keeps_same w.position f
    go None (Moved m) = step_keeps w.position w.last m f
    go None (End s t) = keeps_same w.position f

pub all_keep : (b : List ℕ) (l : List EntryPlace) (w : Course) → FitDiagram w.position → Keeps w.position (play_all b l w).position
unfolding play_all
all_keep b [] w f = keeps_same w.position f
all_keep b (s ∷ l) w f =
    let a = one_keeps b s.line s.entry w f in
    keeps_on _ _ _ a (all_keep b l (play_one b s.line s.entry w) a.fits)

-- ---- the start

-- past the end of a list stands 0, so what holds of its elements and of 0 holds of all
every : (f : ℕ → Bool) (l : List ℕ) (n : ℕ) → length l ≡ n → f 0 ≡ true → ((i : ℕ) → i < n → f (get_or l i 0) ≡ true) → (i : ℕ) → f (get_or l i 0) ≡ true
every f l n e z t i = go (dec_lt i n)
  where
    go : Dec (i < n) → f (get_or l i 0) ≡ true
    go (yes h) = t i h
    go (no h) = ap f (get_or-eq_default l 0 (omega arith)) ∙ z

-- computed for each of them
computed : (f : ℕ → Bool) (l : List ℕ) (n : ℕ) → length l ≡ n → f 0 ≡ true → range (λ i. f (get_or l i 0)) 0 n ≡ true → (i : ℕ) → f (get_or l i 0) ≡ true
computed f l n e z t = every f l n e z (λ i h. range_at (λ i. f (get_or l i 0)) n 0 i t (omega arith) (omega arith))

pub hirate_fit : FitDiagram hirate
unfolding hirate
hirate_fit =
    record {
      preset = refl;
      board = refl;
      turn = omega arith;
      squares = refl;
      cells = computed is_cell hirate_cells 81 refl refl refl;
      held = refl;
      counts = none;
    }
  where
    none : (i : ℕ) → get_or hirate.hands i 0 ≤ 255
    none i = leb-true (get_or hirate.hands i 0) 255 (computed (λ (x : ℕ). leb x 255) hirate.hands 14 refl refl refl i)

-- what holds of each byte of a list and of 0 holds of each byte at a place
bytes-all : (P : ℕ → Type 0) (l : List ℕ) (at n : ℕ) → ((i : ℕ) → P (get_or l i 0)) → P 0 → (i : ℕ) → P (get_or (bytes_at l at n) i 0)
unfolding bytes_at
bytes-all P l at zero h z i = z
bytes-all P l at (suc n) h z zero = h at
bytes-all P l at (suc n) h z (suc i) = bytes-all P l (at + 1) n h z i

-- a sound block's own diagram
pub own_fit : (b : List ℕ) → Sound b → ((k : ℕ) → get_or b k 0 < 256) → ((position_in (drop 28 b)).board ≡ 0 → ⊥) → FitDiagram (position_in (drop 28 b))
unfolding position_in
own_fit b s u n =
    let c = s.position.1.1 in
    record {
      preset = eqb-true _ _ (rw (ne_eqb (position_in (drop 28 b)).board 0 n) at c.1.1.1.1);
      board = omega (arith, c.1.0, n);
      turn = c.1.1.0;
      squares = bytes-length (drop 28 b) 4 81;
      cells = every is_cell (bytes_at (drop 28 b) 4 81) 81 (bytes-length (drop 28 b) 4 81) refl c.1.1.1.0;
      held = bytes-length (drop 28 b) 85 14;
      counts = bytes-all (λ (x : ℕ). x ≤ 255) (drop 28 b) 85 14 (λ i. omega (arith, u (28 + i), get_or-drop 28 b i 0)) (omega arith);
    }

-- where play can start it starts from a sound diagram
pub start_fit : (b : List ℕ) → Sound b → ((k : ℕ) → get_or b k 0 < 256) → FitDiagram (start_on (position_in (drop 28 b)))
unfolding start_on
start_fit b s u = go (eqb (position_in (drop 28 b)).board 0) refl
  where
    go : (t : Bool) → eqb (position_in (drop 28 b)).board 0 ≡ t → FitDiagram (pick t hirate (position_in (drop 28 b)))
    go true e = hirate_fit
    go false e = own_fit b s u (eqb-false _ _ e)

-- ---- the answer

pub path_keeps : (b : List ℕ) (k n : ℕ) → Sound b → ((k : ℕ) → get_or b k 0 < 256)
    → Keeps (start_on (position_in (drop 28 b))) (play_all b (path_to b k n) (at_start (start_on (position_in (drop 28 b))))).position
path_keeps b k n s u = all_keep b (path_to b k n) (at_start (start_on (position_in (drop 28 b)))) (start_fit b s u)

-- a sound diagram is one in the block's sense
pub fit_sound : (p : Position) → FitDiagram p → claim (fits_test p)
fit_sound p f = (
  omega (arith, f.preset),
  (
    omega (arith, f.board),
    (
      f.turn,
      (
        (λ i h. f.cells i),
        rw (ne_eqb p.board 0 (λ e. omega (arith, e, f.board))) (eq-eqb p.preset 16 f.preset),
      ),
    ),
  ),
)

-- done is told from the refusals by its number
abbrev num : Answer → ℕ
num a = (figures a).number

-- the course of play to an entry
abbrev course_to : List ℕ → ℕ → ℕ → Course
course_to b k e = play_all b (path_to b k (e + 1)) (at_start (start_on (position_in (drop 28 b))))

-- what is answered of a course that goes on
abbrev gone_on : Course → After
gone_on c = record { answer = Done 100 c.position.turn; trail = trail_of c; position = c.position }

-- where a position is answered: a line of a sound block that has a start, and the play that goes on to the entry
record Reached (b : List ℕ) (k e : ℕ) : Type 0 where
  sound : soundb b ≡ true
  line : ltb k (lines_in b) ≡ true
  start : has_start (position_in (drop 28 b)) ≡ true
  after : position_after b k e ≡ gone_on (course_to b k e)

reached : (b : List ℕ) (k e x y : ℕ) → (position_after b k e).answer ≡ Done x y → Reached b k e
unfolding position_after course_answer figures
reached b k e x y = go (soundb b) refl (ltb k (lines_in b)) refl (has_start (position_in (drop 28 b))) refl (ltb e (entry_count b k)) refl (course_to b k e).how refl
  where
    A : Bool → Bool → Bool → Bool → Option Hindrance → After
    A s l h n v =
        pick s
        (pick l
        (pick h (pick n (answer_by v (course_to b k e)) (not_played (NoSuchEntry k e))) (not_played (NoStart (position_in (drop 28 b)).preset)))
        (not_played (NoSuchPart k)))
        (not_played NotSound)

    go : (s : Bool) → soundb b ≡ s → (l : Bool) → ltb k (lines_in b) ≡ l → (h : Bool) → has_start (position_in (drop 28 b)) ≡ h → (n : Bool) → ltb e (entry_count b k) ≡ n
        → (v : Option Hindrance) → (course_to b k e).how ≡ v → (A s l h n v).answer ≡ Done x y → Reached b k e
    go false q l r h t n w v u z = absurd (omega (arith, ap num z))
    go true q false r h t n w v u z = absurd (omega (arith, ap num z))
    go true q true r false t n w v u z = absurd (omega (arith, ap num z))
    go true q true r true t false w v u z = absurd (omega (arith, ap num z))
    go true q true r true t true w (Some a) u z = absurd (omega (arith, ap num z))
    go true q true r true t true w None u z =
        record { sound = q; line = r; start = t; after = rw (q, r, t, w) (ap (λ (g : Option Hindrance). answer_by g (course_to b k e)) u) }

-- what is answered as done has the pieces of the start, and is a sound diagram
pub answer_keeps : (b : List ℕ) (k e x y : ℕ) → ((k : ℕ) → get_or b k 0 < 256) → (position_after b k e).answer ≡ Done x y
    → Keeps (start_on (position_in (drop 28 b))) (position_after b k e).position
answer_keeps b k e x y u z =
    let g = reached b k e x y z in
    rw g.after (path_keeps b k (e + 1) (sound_says b g.sound) u)

-- so it is at every entry of a line of the same block
goes_to : (b : List ℕ) (k e : ℕ) → soundb b ≡ true → k < lines_in b → has_start (position_in (drop 28 b)) ≡ true → e < entry_count b k
    → position_after b k e ≡ course_answer (course_to b k e)
unfolding position_after
goes_to b k e q l t h = rw (q, lt-ltb k (lines_in b) l, t, lt-ltb e (entry_count b k) h)

-- one step from an answer
abbrev next_of : List ℕ → ℕ → ℕ → After → After
next_of b k e a = course_answer (play_one b k e (course_of a.trail a.position))

-- the answer at the next entry follows by one step
pub answer-follows : (b : List ℕ) (k e x y : ℕ) → (position_after b k e).answer ≡ Done x y → e + 1 < entry_count b k
    → position_after b k (e + 1) ≡ course_answer (play_one b k (e + 1) (course_of (position_after b k e).trail (position_after b k e).position))
answer-follows b k e x y z h =
    let g = reached b k e x y z in
    goes_to b k (e + 1) g.sound (ltb-true k (lines_in b) g.line) g.start h
    ∙ ap course_answer (play-follows b k (e + 1) (at_start (start_on (position_in (drop 28 b)))))
    ∙ ap (next_of b k (e + 1)) (sym g.after)

-- and that at the first entry of a variation from the answer at its parent's entry before the one that it hangs on
pub variation_follows : (b : List ℕ) (k x y : ℕ) → 0 < k → k < lines_in b → 0 < hang_entry b k → (position_after b (parent_of b k) (hang_entry b k - 1)).answer ≡ Done x y
    → position_after b k 0
    ≡ course_answer (play_one b k 0 (course_of (position_after b (parent_of b k) (hang_entry b k - 1)).trail (position_after b (parent_of b k) (hang_entry b k - 1)).position))
unfolding run
variation_follows b k x y o l j z =
    let g = reached b (parent_of b k) (hang_entry b k - 1) x y z in
    let s = sound_says b g.sound in
    let w = at_start (start_on (position_in (drop 28 b))) in
    let n : hang_entry b k ≡ hang_entry b k - 1 + 1 = omega arith in
    goes_to b k 0 g.sound l g.start (s.lines k l).1.0
    ∙ ap course_answer (play-follows b k 0 w)
    ∙ ap (λ (p : List EntryPlace). course_answer (play_one b k 0 (play_all b p w)))
    (path_under b k 0 (parent-before b s k o l) ∙ append-nil (path_to b (parent_of b k) (hang_entry b k)) ∙ ap (path_to b (parent_of b k)) n)
    ∙ ap (next_of b k 0) (sym g.after)
