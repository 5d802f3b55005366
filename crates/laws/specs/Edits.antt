-- The theorems of put-in, cut and restating, for blocks of either version. In `PutTheorems` a put-in was done with the figures n and i, in `CutTheorems` a cut with n and m: the first n bytes of the buffer
-- are then the new block, i is the new line's number, m how many lines were cut.                   (01, Put-in and cut; 02, request (vi))
-- Assumes nothing: these are definitions.
use Rattle.std.specs.Prelude.{ℕ, ◌+◌, ◌-◌, ◌≤◌, ◌<◌, ◌↔◌, ◌≡◌, true, false, List, ◌∷◌, ◌++◌, length, take, drop, Some}
use Rattle.jkf.specs.declared.Answer.TheVariants.{Done, BlockTooLong, BufferShort, NotSound}
use Rattle.jkf.specs.Attaching.{hangs, parent_in}
use Rattle.jkf.specs.Trees.{HangAs, HangsFrom, Tree, NoTwo}
use Rattle.block.specs.Decode.{decode, version_in, lines_in, start_of, entry_count, parent_of}
use Rattle.block.specs.Sound.{soundb}
use Rattle.block.specs.Formed.{line_of}
use Rattle.plays.specs.Plays.{entries_at, ply_at}
use Rattle.edit.specs.Edit.{plays_in, variation_of, is_ply_of, carries, place_of, with_play, reparented, renumbered, lowered, IsKept}
use Rattle.edit.specs.Outcomes.{edit_stored, put_in_of, cut_of, restate_of}
use Rattle.laws.specs.Blocks.{Bytes, front_of}

-- ---- words

-- The block after the text t was put in on line k of the block b, and after line k of it was cut.
abbrev pub put_block : List ℕ → List ℕ → List ℕ → ℕ → ℕ → List ℕ
put_block b t o k n = front_of n (put_in_of b k t o)

abbrev pub cut_block : List ℕ → List ℕ → ℕ → ℕ → List ℕ
cut_block b o k n = front_of n (cut_of b k o)

-- ---- put-in

pub record PutTheorems (b t o : List ℕ) (k n i : ℕ) : Type 0 where
  -- The new block is sound.
  pub put-sound : soundb (put_block b t o k n) ≡ true
  -- It has one line more, and the version, the header entries and the position that there were.
  pub put_rest : (lines_in (put_block b t o k n) ≡ lines_in b + 1)
      × (version_in (put_block b t o k n) ≡ version_in b)
      × ((decode (put_block b t o k n)).headers ≡ (decode b).headers)
      × ((decode (put_block b t o k n)).position ≡ (decode b).position)
  -- Each line that was there is there with its start and its entries, on its parent, by their new numbers.
  pub put_keeps : (l : ℕ) → l < lines_in b
      → line_of (decode (put_block b t o k n)).lines (renumbered i l)
      ≡ reparented (renumbered i) (line_of (decode b).lines l)
  -- Line i is the text's line of play, and hangs on line k at the entry whose ply is the text's first number; the attaching rule would find it there
  -- too, in either version.
  pub put-hangs : (line_of (decode (put_block b t o k n)).lines i ≡ record { start = ply_at t 0; parent = k; entries = (entries_at t 0).state })
      × (hangs (start_of (put_block b t o k n)) (entry_count (put_block b t o k n)) (ply_at t 0) i ≡ Some (k, ply_at t 0 - start_of b k))
  -- No line before it hangs on that entry: of several variations of one move the one put in last is written first.   (02, request (vi))
  pub put_first : (l : ℕ) → 0 < l → l < i → parent_of (put_block b t o k n) l ≡ k → start_of (put_block b t o k n) l ≡ ply_at t 0 → ⊥
  -- The cut of line i takes one line out and gives the old block back, byte for byte, where the buffer has room for it.
  pub put_undone : (o' : List ℕ) → cut_of (put_block b t o k n) i o' ≡ edit_stored b 1 o'

abbrev pub PutHolds : Type 0
PutHolds = (b t o : List ℕ) → Bytes b → Bytes t → (k n i : ℕ) → (put_in_of b k t o).answer ≡ Done n i → PutTheorems b t o k n i

-- The number that a new line gets, put into line k of a block by a text.
abbrev pub new_number : List ℕ → List ℕ → ℕ → ℕ
new_number b t k = place_of (plays_in (decode b).lines) k (ply_at t 0)

-- In version 1, where 7, 10, 12 and 13 do not refuse, each old line's parent in the list with the new line is the old one, by its new number: so there is
-- no refusal for a parent that changes. (That each line hangs at all in the new block is said by `put-sound`.)                                                               (02, request (ix))
abbrev pub ParentsStay : Type 0
ParentsStay =
    (b t : List ℕ) (k : ℕ) → soundb b ≡ true → version_in b ≡ 1 → k < lines_in b → is_ply_of (start_of b k) (entry_count b k) (ply_at t 0) ≡ true
    → carries k (ply_at t 0) (drop 1 (decode b).lines) ≡ false → (l : ℕ) → l < lines_in b
    → parent_in (with_play (new_number b t k) (variation_of t) (plays_in (decode b).lines)) (renumbered (new_number b t k) l)
    ≡ renumbered (new_number b t k) (parent_of b l)

-- ---- cut

pub record CutTheorems (b o : List ℕ) (k n m : ℕ) : Type 0 where
  -- The new block is sound.
  pub cut-sound : soundb (cut_block b o k n) ≡ true
  -- It has m lines less, and the version, the header entries and the position that there were.
  pub cut_rest : (lines_in (cut_block b o k n) + m ≡ lines_in b)
      × (version_in (cut_block b o k n) ≡ version_in b)
      × ((decode (cut_block b o k n)).headers ≡ (decode b).headers)
      × ((decode (cut_block b o k n)).position ≡ (decode b).position)
  -- Each line that is kept is there with its start and its entries, on its parent, which is kept too, by their new numbers.
  pub cut_keeps : (l : ℕ) → l < lines_in b → IsKept k m l
      → (line_of (decode (cut_block b o k n)).lines (lowered k m l)
      ≡ reparented (lowered k m) (line_of (decode b).lines l))
      × IsKept k m (line_of (decode b).lines l).parent
  -- The m lines from line k on are line k and all that hangs from it, and nothing else.
  pub cut_takes : (l : ℕ) → l < lines_in b → (HangsFrom (parent_of b) k l → (k ≤ l) × (l < k + m)) × ((k ≤ l) × (l < k + m) → HangsFrom (parent_of b) k l)

abbrev pub CutHolds : Type 0
CutHolds = (b o : List ℕ) → Bytes b → (k n m : ℕ) → (cut_of b k o).answer ≡ Done n m → CutTheorems b o k n m

-- No cut is refused for the length of the new block.                                              (01, Numbers of refusal: 4)
abbrev pub NoCutTooLong : Type 0
NoCutTooLong = (b o : List ℕ) (k n : ℕ) → Bytes b → (cut_of b k o).answer ≡ BlockTooLong n → ⊥

-- ---- the two versions                                                                            (02, request (vi))

pub record VersionTheorems : Type 0 where
  -- Lines hang as version 1 asks exactly if they hang as version 2 asks and no entry has two variations: so restating moves no line.
  pub one_is_two : (start count parent : ℕ → ℕ) (n : ℕ) → 0 < n → HangAs 1 start count parent n ↔ (HangAs 2 start count parent n × NoTwo start parent n)
  -- And what version 2 asks of each line is what 02 asks of all.
  pub two_is_tree : (start count parent : ℕ → ℕ) (n : ℕ) → 0 < n → HangAs 2 start count parent n ↔ Tree start count parent n
  -- So the lines of every sound block are a tree, whatever its version.
  pub sound_tree : (b : List ℕ) → soundb b ≡ true → Tree (start_of b) (entry_count b) (parent_of b) (lines_in b)
  -- In version 1 no entry has two variations.
  pub one_single : (b : List ℕ) → soundb b ≡ true → version_in b ≡ 1 → NoTwo (start_of b) (parent_of b) (lines_in b)

-- A block with another version, its byte 2.
abbrev pub with_version : ℕ → List ℕ → List ℕ
with_version v b = take 2 b ++ (v ∷ drop 3 b)

pub record RestateTheorems (b o : List ℕ) : Type 0 where
  -- Where it is done, the block at the front of the buffer is the old one but for byte 2, which is 2, and is sound.
  pub restated_is : (n m : ℕ) → (restate_of b o).answer ≡ Done n m
      → (n ≡ length b) × (m ≡ 0) × (front_of n (restate_of b o) ≡ with_version 2 b) × (soundb (with_version 2 b) ≡ true)
  -- So its lines, its header entries and its position are as they were.
  pub restated-same : (n m : ℕ) → (restate_of b o).answer ≡ Done n m
      → ((decode (with_version 2 b)).lines ≡ (decode b).lines) × ((decode (with_version 2 b)).headers ≡ (decode b).headers) × ((decode (with_version 2 b)).position ≡ (decode b).position)
  -- It is done with every sound block of version 1 for which the buffer is long enough,
  pub restated_done : soundb b ≡ true → version_in b ≡ 1 → length b ≤ length o → (restate_of b o).answer ≡ Done (length b) 0
  -- and else it is refused by 5 or by 7.
  pub restated-short : soundb b ≡ true → version_in b ≡ 1 → length o < length b → (restate_of b o).answer ≡ BufferShort (length b)
  pub restated_not : (soundb b ≡ true → version_in b ≡ 1 → ⊥) → (restate_of b o).answer ≡ NotSound

abbrev pub RestateHolds : Type 0
RestateHolds = (b o : List ℕ) → Bytes b → RestateTheorems b o

-- A sound block in which no entry has two variations is sound as version 1, with byte 2 changed.
abbrev pub OneFromTwo : Type 0
OneFromTwo = (b : List ℕ) → Bytes b → soundb b ≡ true → NoTwo (start_of b) (parent_of b) (lines_in b) → soundb (with_version 1 b) ≡ true
