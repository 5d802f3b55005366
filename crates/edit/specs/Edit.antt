-- Putting a variation into a record, cutting one out, and restating a record.                          (01, Put-in and cut; 02, request (vi))
-- Assumes nothing: these are definitions.
use Rattle.std.specs.Prelude.{ℕ, suc, ◌+◌, ◌-◌, ◌≤◌, List, [], ◌∷◌, ◌++◌, map, Bool, true, false, length, take, drop, eqb, leb, ltb}
use Rattle.lists.specs.Pick.{pick}
use Rattle.text.specs.Utf8.{well_formed_bytes}
use Rattle.jkf.specs.declared.Answer.{Answer}
use Rattle.jkf.specs.declared.Answer.TheVariants.{NoSuchPart, NotOneVariation, OutsideLine, EntryTaken}
use Rattle.jkf.specs.Model.{Line, Record}
use Rattle.jkf.specs.Attaching.{Play, play, starts, counts, attach}
use Rattle.jkf.specs.Trees.{has_ply, reach}
use Rattle.plays.specs.Plays.{entries_at, numbers_at, in_sequence, ply_at}

-- ---- the lines afresh

-- The lines of a record without their parents.
abbrev pub plays_in : List Line → List Play
plays_in = map (λ l. play l.start l.entries)

-- Lines hung afresh: in version 1 each where the attaching rule finds it, whatever parent it is given; in version 2 on the parent given.
-- (02, request (vi): the fresh rule of demand 3)
abbrev pub hung_afresh : ℕ → List Line → List Line
hung_afresh version ls = let found = attach (plays_in ls) in pick (eqb version 1) found ls

-- A record with other lines, hung afresh: the one step in which both edits end.
unfoldable pub fresh : Record → List Line → Record
fresh r ls = record { version = r.version; headers = r.headers; position = r.position; lines = hung_afresh r.version ls }

-- A line on another parent, told by the old one.
abbrev pub reparented : (ℕ → ℕ) → Line → Line
reparented f l = record { start = l.start; parent = f l.parent; entries = l.entries }

-- An edited record and the second figure of success, or a refusal.
pub data Edited : Type 0 where
  edited : Record → ℕ → Edited
  refused : Answer → Edited

-- ---- put-in: the text

-- The numbers that are printed in a text go up by one, from the first to the last.                     (02, request (iii))
abbrev pub is_numbered : List ℕ → Bool
is_numbered t = eqb (in_sequence (ply_at t 0) (numbers_at t 0)) (length (entries_at t 0).state)

-- One variation: not too long, UTF-8, and to the last byte move lines with their comments, at least one, each numbered one more than the
-- one before it.                                                          (01, Numbers of refusal: 11; 02, request (iii))
unfoldable pub is_variation : List ℕ → Bool
is_variation t =
    pick (ltb 65535 (length t))
    false
    (pick (eqb (length (entries_at t 0).state) 0)
    false
    (pick (eqb (entries_at t 0).at (length t)) (pick (is_numbered t) (eqb (well_formed_bytes t) (length t)) false) false))

-- The line of play of a text: its first printed number is the ply that it starts at.
abbrev pub variation_of : List ℕ → Play
variation_of t = play (ply_at t 0) (entries_at t 0).state

-- ---- put-in: the place

-- A ply of the line, and not 0.                                                                       (01, Numbers of refusal: 12)
unfoldable pub is_ply_of : ℕ → ℕ → ℕ → Bool
is_ply_of start count j = pick (eqb j 0) false (has_ply start count j)

-- Some line of these hangs on line k and starts at j.                                                 (01, Numbers of refusal: 13)
unfoldable pub carries : ℕ → ℕ → List Line → Bool
carries k j [] = false
carries k j (l ∷ ls) = let r = carries k j ls in pick (eqb l.parent k) (pick (eqb l.start j) true r) r

-- Which is refused in version 1; in version 2 an entry may have several.                               (02, request (vi): 13)
abbrev pub is_taken : ℕ → ℕ → ℕ → List Line → Bool
is_taken version k j ls = let c = carries k j ls in pick (eqb version 1) c false

-- How many lines stand before the first that starts at or below j.
unfoldable pub above : ℕ → List Play → ℕ
above j [] = 0
above j (p ∷ ps) = let r = above j ps in pick (leb p.start j) 0 (suc r)

-- The new line's number: it stands before the first line after line k that starts at or below j, else last. So among several on one entry
-- it is written first.                                                                                  (02, request (vi): put-in)
abbrev pub place_of : List Play → ℕ → ℕ → ℕ
place_of ps k j = k + 1 + above j (drop (k + 1) ps)

-- A line of play more, as number n.
abbrev pub with_play : ℕ → Play → List Play → List Play
with_play n p ps = take n ps ++ (p ∷ drop n ps)

-- ---- put-in: the other lines

-- A line's number once there is a new line n.
abbrev pub renumbered : ℕ → ℕ → ℕ
renumbered n k = pick (leb n k) (k + 1) k

-- The lines with a new line n, each of the others on its old parent, renumbered.
abbrev pub lines_with : ℕ → Line → List Line → List Line
lines_with n l ls = let qs = map (reparented (renumbered n)) ls in take n qs ++ (l ∷ drop n qs)

-- A line of play on line k.
abbrev pub line_on : ℕ → Play → Line
line_on k v = record { start = v.start; parent = k; entries = v.entries }

-- ---- put-in: the whole                                                                              (01, Numbers of refusal: order)

-- The variation v on line k, as line n.
unfoldable pub insert_at : Record → ℕ → ℕ → Play → Edited
insert_at r n k v = edited (fresh r (lines_with n (line_on k v) r.lines)) n

-- On line k, where its ply is.
unfoldable pub insert_on : Record → ℕ → Play → Edited
insert_on r k v =
    pick (is_ply_of (starts (plays_in r.lines) k) (counts (plays_in r.lines) k) v.start)
    (pick (is_taken r.version k v.start (drop 1 r.lines))
    (refused (EntryTaken k v.start))
    (insert_at r (place_of (plays_in r.lines) k v.start) k v))
    (refused (OutsideLine k v.start))

unfoldable pub insert : Record → ℕ → List ℕ → Edited
insert r k t =
    pick (ltb k (length r.lines))
    (pick (is_variation t) (insert_on r k (variation_of t)) (refused NotOneVariation))
    (refused (NoSuchPart k))

-- ---- cut

-- How many lines stand before the first that starts below s.
unfoldable pub not_below : ℕ → List Play → ℕ
not_below s [] = 0
not_below s (p ∷ ps) = let r = not_below s ps in pick (leb s p.start) (suc r) 0

-- In version 1 line k and those after it, as far as each starts at line k's ply or later; in version 2 line k and those whose chain of
-- parents leads to it.                                                                                  (01, Put-in and cut; 02, request (vi))
abbrev pub removed_from : ℕ → List Line → ℕ → ℕ
removed_from version ls k =
    let starting = 1 + not_below (starts (plays_in ls) k) (drop (k + 1) (plays_in ls)) in
    let hanging = reach ls k in
    pick (eqb version 1) starting hanging

-- A line's number once m lines from line k on are gone.
abbrev pub lowered : ℕ → ℕ → ℕ → ℕ
lowered k m i = pick (leb k i) (i - m) i

-- Line i is none of m lines from line k on.
abbrev pub IsKept : ℕ → ℕ → ℕ → Type 0
IsKept k m i = k ≤ i → k + m ≤ i

-- The lines without m of them from line k on, each on its old parent, renumbered.
abbrev pub without_lines : ℕ → ℕ → List Line → List Line
without_lines k m ls = map (reparented (lowered k m)) (take k ls ++ drop (k + m) ls)

-- Line 0 cannot be cut.                                                                               (01, Numbers of refusal: 10)
unfoldable pub remove : Record → ℕ → Edited
remove r k =
    pick (eqb k 0)
    (refused (NoSuchPart k))
    (pick (ltb k (length r.lines))
    (edited (fresh r (without_lines k (removed_from r.version r.lines k) r.lines)) (removed_from r.version r.lines k))
    (refused (NoSuchPart k)))

-- ---- restating

-- The same record as version 2, in which an entry may have several variations.                         (02, request (vi): restates)
abbrev pub restated : Record → Record
restated r = record { version = 2; headers = r.headers; position = r.position; lines = r.lines }
