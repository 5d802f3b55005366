-- With 600 lent bytes or more no call on the board is short of room: so a reading stores what it fills, and an edit what it makes.
-- Assumes nothing.
use Rattle.std.specs.Prelude.{Option, Some, None}
use Prim.Native.Nat.{ℕ, ◌≤◌}
use native.Mathlib.Omega.{arith}
use mathlib.Core.Path.{◌≡◌, refl, sym, ap, subst, ◌∙◌}
use mathlib.Core.List.{List, ◌++◌}
use mathlib.Core.Bool.{Bool, true, false}
use lib.ListN.{length, drop}
use lib.Dec.{leb}
use borrow.Author.Tests.{leb-true, le-ltb}
use Rattle.lists.specs.All.{All, none, next}
use Rattle.lists.specs.Pick.{pick}
use Rattle.jkf.specs.Answers.{Outcome, refuse}
use Rattle.jkf.specs.declared.Answer.TheVariants.{Done, NotSound}
use Rattle.jkf.specs.Model.{Record}
use Rattle.block.specs.Encode.{encode}
use Rattle.block.specs.Decode.{decode}
use Rattle.block.specs.Sound.{soundb}
use Rattle.parser.specs.Parse.{Parsed, parse, needed}
use Rattle.parser.specs.Read.{on_early, filled_with, read_stored, early_of, fill_of}
use Rattle.edit.specs.Edit.{Edited, edited, refused, insert, remove}
use Rattle.edit.specs.Outcomes.{edit_stored, edited_of, put_in_of, cut_of}
use Rattle.laws.specs.CaseTexts.{short_move, text_of}
use Rattle.laws.specs.Cases.{block_of, listing, Result, Gives, Case, reads, puts, cuts, is_from, is_no_line, counts, prints, Holds}
use Rattle.jkf.specs.declared.Answer.{Answer}

-- a test that fails does not pass
no : {A : Type 0} → false ≡ true → A
no e = let z : ◌≡◌ {A = ℕ} 0 1 = cc in absurd (omega arith)

-- ---- reading

-- The text is not refused before its lines hang, and its block is of 600 bytes at most.
abbrev pub is_read : List ℕ → Bool
is_read s = let r = leb (needed (parse s)) 600 in on_early (early_of s) (λ a. false) r

stored_is : (p : Parsed) (o : List ℕ) → leb (needed p) 600 ≡ true → 600 ≤ length o → read_stored p o ≡ filled_with p o
unfolding read_stored
stored_is p o t h =
    let k = leb-true (needed p) 600 t in
    rw (le-ltb 65535 (needed p) (omega arith), le-ltb (length o) (needed p) (omega arith)) refl

read_is : (s o : List ℕ) → 600 ≤ length o → is_read s ≡ true → fill_of s o ≡ filled_with (parse s) o
unfolding fill_of
read_is s o h t = go (early_of s) t
  where
    go : (e : Option Answer) → on_early e (λ a. false) (leb (needed (parse s)) 600) ≡ true → on_early e (λ a. refuse a o) (read_stored (parse s) o) ≡ filled_with (parse s) o
    go (Some a) t = no t
    go None t = stored_is (parse s) o t h

-- ---- edits

-- The block of the edited record is of 600 bytes at most.
abbrev pub is_small : Edited → Bool
is_small (edited r n) = leb (length (encode r)) 600
is_small (refused a) = true

-- What is then stored.
abbrev pub made_of : Edited → List ℕ → Outcome
made_of (edited r n) o = record { answer = Done (length (encode r)) n; buffer = encode r ++ drop (length (encode r)) o }
made_of (refused a) o = refuse a o

-- What an edit that makes f of a record answers of a block, as `put_in_of` and `cut_of` say.
abbrev edit_of : (Record → Edited) → List ℕ → List ℕ → Outcome
edit_of f b o = let r = edited_of (f (decode b)) o in pick (soundb b) r (refuse NotSound o)

edited_is : (sound : Bool) (e : Edited) (o : List ℕ) → 600 ≤ length o → pick sound (is_small e) false ≡ true
    → pick sound (edited_of e o) (refuse NotSound o) ≡ made_of e o
unfolding edited_of edit_stored
edited_is false e o h t = no t
edited_is true (refused a) o h t = refl
edited_is true (edited r n) o h t =
    let k = leb-true (length (encode r)) 600 t in
    rw (le-ltb 65535 (length (encode r)) (omega arith), le-ltb (length o) (length (encode r)) (omega arith)) refl

-- The block that a reading stores, and an edit of it.
abbrev pub stored : List ℕ → List ℕ → List ℕ
stored s o = block_of (filled_with (parse s) o)

abbrev pub Edits : (Record → Edited) → List ℕ → List ℕ → Result → Type 0
Edits f b o given = (pick (soundb b) (is_small (f (decode b))) false ≡ true) × Gives o given (made_of (f (decode b)) o)

edit_gives : (f : Record → Edited) (s o : List ℕ) (given : Result) → 600 ≤ length o → is_read s ≡ true → Edits f (stored s o) o given
    → Gives o given (edit_of f (block_of (fill_of s o)) o)
edit_gives f s o given h i p =
    subst (λ (r : Outcome). Gives o given r)
    (sym (ap (λ (r : Outcome). edit_of f (block_of r) o) (read_is s o h i) ∙ edited_is (soundb (stored s o)) (f (decode (stored s o))) o h p.0))
    p.1

-- ---- rows

-- What is left to compute of a row: that the call is not short of room, and what it gives.
abbrev pub Computed : List ℕ → Case → Type 0
Computed o (reads vs given) = (is_read (text_of vs) ≡ true) × Gives o given (filled_with (parse (text_of vs)) o)
Computed o (puts vs line ply given) =
    (is_read (text_of vs) ≡ true) × Edits (λ r. insert r line (short_move ply)) (stored (text_of vs) o) o given
Computed o (cuts vs line given) = (is_read (text_of vs) ≡ true) × Edits (λ r. remove r line) (stored (text_of vs) o) o given
Computed o (is_from n x y) = Holds o (is_from n x y)
Computed o (is_no_line n) = Holds o (is_no_line n)
Computed o (counts t n) = Holds o (counts t n)
Computed o (prints t listed) = (is_read t ≡ true) × (listing (filled_with (parse t) o) ≡ listed)

row : (o : List ℕ) → 600 ≤ length o → (c : Case) → Computed o c → Holds o c
unfolding put_in_of cut_of
row o h (reads vs given) p = subst (λ (r : Outcome). Gives o given r) (sym (read_is (text_of vs) o h p.0)) p.1
row o h (puts vs line ply given) p = edit_gives (λ r. insert r line (short_move ply)) (text_of vs) o given h p.0 p.1
row o h (cuts vs line given) p = edit_gives (λ r. remove r line) (text_of vs) o given h p.0 p.1
row o h (is_from n x y) p = p
row o h (is_no_line n) p = p
row o h (counts t n) p = p
row o h (prints t listed) p = ap listing (read_is t o h p.0) ∙ p.1

pub rows : (o : List ℕ) → 600 ≤ length o → {cs : List Case} → All (Computed o) cs → All (Holds o) cs
rows o h none = none
rows o h (next {x = c} p ps) = next (row o h c p) (rows o h ps)
