-- The play along a path, one piece after another; the path through a line, from its parent's.
-- Assumes nothing.
use Rattle.std.specs.Prelude.{Option, Some, None}
use Prim.Native.Nat.{ℕ, zero, suc, ◌+◌, ◌-◌, ◌≤◌, ◌<◌}
use native.Mathlib.Nat.{not-suc-le-zero, zero-add}
use native.Mathlib.Omega.{arith}
use mathlib.Core.Path.{◌≡◌, refl, sym, ap, ap₂, ◌∙◌}
use mathlib.Core.Bool.{Bool, true, false}
use mathlib.Core.List.{List, [], ◌∷◌, ◌++◌, append_assoc}
use lib.ListN.{length, drop}
use lib.Dec.{ltb}
use borrow.Author.Tests.{ltb-true, lt-ltb, le-ltb, eq-eqb, ne_eqb}
use Rattle.lists.specs.Pick.{pick}
use Rattle.block.specs.Decode.{run, lines_in, start_of, first_entry, entry_count, parent_of}
use Rattle.block.specs.inner.Sounds.{Sound}
use Rattle.block.proofs.Tabling.{run-next, run_end, run_more}
use Rattle.block.proofs.Within.{entries-within, moves-small}
use Rattle.block.proofs.Hanging.{sound_branched}
use Rattle.lent.specs.Bytes.{fitting}
use Rattle.lent.specs.Stored.{Stored}
use Rattle.lent.proofs.Regions.{put_front, stored_all}
use Rattle.jkf.specs.declared.Position.{Position}
use Rattle.block.specs.PositionBytes.{position_bytes, position_in}
use Rattle.block.proofs.PositionsBack.{position_back, position-length}
use Rattle.positions.specs.declared.Course.{Course}
use Rattle.jkf.specs.Answers.{figures, refuse}
use Rattle.jkf.specs.declared.Answer.TheVariants.{Done, BufferShort, PlayStopped}
use Rattle.positions.specs.declared.After.{After}
use Rattle.positions.specs.declared.Hindrance.{Hindrance}
use Rattle.positions.specs.declared.Trail.{Trail}
use Rattle.positions.specs.Paths.{EntryPlace, entry_place, hang_entry, path_in, path_to, play_one, play_all, no_position, trail_of, course_of, answer_by, course_answer, position_stored}

-- ---- the play

pub play-append : (b : List ℕ) (l m : List EntryPlace) (w : Course) → play_all b (l ++ m) w ≡ play_all b m (play_all b l w)
unfolding play_all
play-append b [] m w = refl
play-append b (s ∷ l) m w = play-append b l m (play_one b s.line s.entry w)

-- the entries of a line from i on: one, and those from the next on
pub play-next : (b : List ℕ) (k n i : ℕ) (w : Course) → i < n → play_all b (run (entry_place k) i (n - i)) w ≡ play_all b (run (entry_place k) (i + 1) (n - (i + 1))) (play_one b k i w)
unfolding play_all
play-next b k n i w h = ap (λ (l : List EntryPlace). play_all b l w) (run-next (entry_place k) i n i h)

pub play-end : (b : List ℕ) (k n i : ℕ) (w : Course) → n ≤ i → play_all b (run (entry_place k) i (n - i)) w ≡ w
unfolding play_all
play-end b k n i w h = ap (λ (l : List EntryPlace). play_all b l w) (run_end (entry_place k) i n i h)

-- ---- the path

-- more lines than a path can have change nothing
pub path_enough : (b : List ℕ) (f g k n : ℕ) → k < f → k < g → path_in b f k n ≡ path_in b g k n
unfolding path_in
path_enough b zero g k n h l = absurd (not-suc-le-zero h)
path_enough b (suc f) zero k n h l = absurd (not-suc-le-zero l)
path_enough b (suc f) (suc g) k n h l = go (ltb (parent_of b k) k) refl (path_enough b f g (parent_of b k) (hang_entry b k))
  where
    go : (t : Bool) → ltb (parent_of b k) k ≡ t → (parent_of b k < f → parent_of b k < g → path_in b f (parent_of b k) (hang_entry b k) ≡ path_in b g (parent_of b k) (hang_entry b k))
        → pick t (path_in b f (parent_of b k) (hang_entry b k)) [] ++ run (entry_place k) 0 n ≡ pick t (path_in b g (parent_of b k) (hang_entry b k)) [] ++ run (entry_place k) 0 n
    go true e r = let p = ltb-true (parent_of b k) k e in ap (λ (l : List EntryPlace). l ++ run (entry_place k) 0 n) (r (omega arith) (omega arith))
    go false e r = refl

-- a variation: the path to where it hangs, then its own entries
pub path_under : (b : List ℕ) (k n : ℕ) → parent_of b k < k → path_to b k n ≡ path_to b (parent_of b k) (hang_entry b k) ++ run (entry_place k) 0 n
unfolding path_in
path_under b k n h =
    ap (λ (t : Bool). pick t (path_in b k (parent_of b k) (hang_entry b k)) [] ++ run (entry_place k) 0 n) (lt-ltb (parent_of b k) k h)
    ∙ ap (λ (l : List EntryPlace). l ++ run (entry_place k) 0 n) (path_enough b k (suc (parent_of b k)) (parent_of b k) (hang_entry b k) h (omega arith))

-- the main line: its own entries
pub path_main : (b : List ℕ) (k n : ℕ) → k ≤ parent_of b k → path_to b k n ≡ run (entry_place k) 0 n
unfolding path_in
path_main b k n h = ap (λ (t : Bool). pick t (path_in b k (parent_of b k) (hang_entry b k)) [] ++ run (entry_place k) 0 n) (le-ltb (parent_of b k) k h)

-- the play of a variation after that of its parent up to where it hangs, and of the main line
pub play_under : (b : List ℕ) (k n p h : ℕ) (start v w : Course) → p ≡ parent_of b k → p < k → h ≡ hang_entry b k
    → v ≡ play_all b (path_to b p h) start → w ≡ play_all b (run (entry_place k) 0 n) v → w ≡ play_all b (path_to b k n) start
play_under b k n p h start v w e l f g r =
    let l' : parent_of b k < k = rw e at l in
    r ∙ ap (play_all b (run (entry_place k) 0 n)) (g ∙ ap (λ (i : ℕ). play_all b (path_to b i h) start) e ∙ ap (λ (i : ℕ). play_all b (path_to b (parent_of b k) i) start) f)
    ∙ sym (ap (λ (m : List EntryPlace). play_all b m start) (path_under b k n l') ∙ play-append b (path_to b (parent_of b k) (hang_entry b k)) (run (entry_place k) 0 n) start)

pub play_main : (b : List ℕ) (k n p : ℕ) (start w : Course) → p ≡ parent_of b k → k ≤ p → w ≡ play_all b (run (entry_place k) 0 n) start → w ≡ play_all b (path_to b k n) start
play_main b k n p start w e l r = let l' : k ≤ parent_of b k = rw e at l in r ∙ sym (ap (λ (m : List EntryPlace). play_all b m start) (path_main b k n l'))

-- one entry more
pub path_next : (b : List ℕ) (k n : ℕ) → path_to b k (n + 1) ≡ path_to b k n ++ (entry_place k n ∷ [])
unfolding path_in
path_next b k n =
    let r = pick (ltb (parent_of b k) k) (path_in b k (parent_of b k) (hang_entry b k)) [] in
    ap (λ (l : List EntryPlace). r ++ l) (run_more (entry_place k) 0 n) ∙ sym (append_assoc r (run (entry_place k) 0 n) (entry_place k (0 + n) ∷ []))
    ∙ ap (λ (j : ℕ). r ++ run (entry_place k) 0 n ++ (entry_place k j ∷ [])) (zero-add n)

-- and so the position after an entry follows by one step from that after the entry before it on the path
pub play-follows : (b : List ℕ) (k n : ℕ) (w : Course) → play_all b (path_to b k (n + 1)) w ≡ play_one b k n (play_all b (path_to b k n) w)
unfolding play_all
play-follows b k n w = ap (λ (l : List EntryPlace). play_all b l w) (path_next b k n) ∙ play-append b (path_to b k n) (entry_place k n ∷ []) w

-- ---- in a sound block

module _ (b : List ℕ) (s : Sound b) where
  -- a parent is before its line
  pub parent-before : (k : ℕ) → 0 < k → k < lines_in b → parent_of b k < k
  parent-before k z h = ((sound_branched b s).each k z h).before

  -- what a line hangs on is an entry of its parent
  pub hang-within : (k : ℕ) → k < lines_in b → parent_of b k < k → hang_entry b k ≤ entry_count b (parent_of b k)
  hang-within k h l =
      let z : start_of b k - start_of b (parent_of b k) < entry_count b (parent_of b k) = ((sound_branched b s).each k (omega arith) h).within in
      omega arith

  -- its entries have numbers below 65536
  pub rows-small : (k n : ℕ) → k < lines_in b → n ≤ entry_count b k → first_entry b k + n ≤ 65536
  rows-small k n h l = omega (arith, entries-within b s k h, moves-small b s)

-- ---- a position in a lent buffer

-- what stands at the front once a position is stored there
pub position-stored : (p : Position) {o o' : List ℕ} {r : ℕ} → length p.cells ≡ 81 → length p.hands ≡ 14 → 100 ≤ length o
    → Stored (fitting (position_bytes p) (drop 0 o)) o o' 0 r → o' ≡ position_bytes p ++ drop 100 o
position-stored p {o} c h l s =
    let n = position-length p c h in
    let t = stored_all {at = 0} (omega (arith, n)) s in
    t.bytes ∙ put_front o (position_bytes p) (omega (arith, n)) ∙ ap (λ (i : ℕ). position_bytes p ++ drop i o) n

-- and is read off it again
pub position-kept : (p : Position) {o o' : List ℕ} {r : ℕ} → length p.cells ≡ 81 → length p.hands ≡ 14 → 100 ≤ length o
    → Stored (fitting (position_bytes p) (drop 0 o)) o o' 0 r → position_in o' ≡ p
position-kept p {o} c h l s = ap position_in (position-stored p c h l s) ∙ position_back p (drop 100 o) c h

-- a course whose position stands in the room, played on and stored again
pub in_room : (b : List ℕ) (path : List EntryPlace) (l : Trail) {m : Trail} {c d : Course} {p : Position} (o o' : List ℕ) → p ≡ position_in o → c ≡ course_of l p
    → d ≡ play_all b path c → m ≡ trail_of d → position_in o' ≡ d.position → course_of m (position_in o') ≡ play_all b path (course_of l (position_in o))
in_room b path l o o' e f g h k = ap₂ course_of h k ∙ g ∙ ap (play_all b path) (f ∙ ap (course_of l) e)

-- ---- the answer

-- of a play that stopped
pub answer_stopped : (c : Course) (r : Hindrance) {l : Trail} {p : Position} → c.how ≡ Some r → l ≡ trail_of c → p ≡ no_position
    → record { answer = PlayStopped c.line c.entry; trail = l; position = p } ≡ course_answer c
unfolding course_answer
answer_stopped c r e f g =
    ap₂ (λ (l : Trail) (p : Position). record { answer = PlayStopped c.line c.entry; trail = l; position = p }) f g ∙ sym (ap (λ (v : Option Hindrance). answer_by v c) e)

-- of one that goes to the entry
pub answer_goes : (c : Course) {l : Trail} → c.how ≡ None → l ≡ trail_of c → record { answer = Done 100 c.position.turn; trail = l; position = c.position } ≡ course_answer c
unfolding course_answer
answer_goes c e f =
    ap (λ (l : Trail). record { answer = Done 100 c.position.turn; trail = l; position = c.position }) f ∙ sym (ap (λ (v : Option Hindrance). answer_by v c) e)

-- ---- into a lent buffer

module _ (a : After) (o : List ℕ) where
  pub stored_refused : ((figures a.answer).number ≡ 0 → ⊥) → position_stored a o ≡ refuse a.answer o
  unfolding position_stored
  stored_refused h = rw (ne_eqb _ _ h)

  pub stored_short : (figures a.answer).number ≡ 0 → length o < 100 → position_stored a o ≡ refuse (BufferShort 100) o
  unfolding position_stored
  stored_short h l = rw (eq-eqb _ _ h, lt-ltb _ _ l)

  pub stored_done : (figures a.answer).number ≡ 0 → 100 ≤ length o → position_stored a o ≡ record { answer = a.answer; buffer = position_bytes a.position ++ drop 100 o }
  unfolding position_stored
  stored_done h l = rw (eq-eqb _ _ h, le-ltb _ _ l)
