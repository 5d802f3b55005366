-- How far lines go: past their place, and to the end of the text at most.
-- Assumes nothing.
use Rattle.std.specs.Prelude.{Option, Some, None}
use Prim.Native.Nat.{ℕ, ◌+◌, ◌≤◌, ◌<◌}
use native.Mathlib.Omega.{arith}
use mathlib.Core.Path.{◌≡◌, sym}
use mathlib.Core.List.{List, [], ◌∷◌}
use mathlib.Core.Bool.{false}
use lib.ListN.{length}
use lib.Dec.{eqb}
use Rattle.lists.proofs.Laws.{by_pick}
use Rattle.text.specs.Text.{cursor, on_place, tag_at, break_at, tail_at, line_end_at}
use Rattle.text.specs.Utf8.{char_width, character_at}
use Rattle.text.specs.declared.Cursor.{Cursor}
use Rattle.text.proofs.Laws.{no_past, past-at, After, tail_from, break_after, line-end_after, tag_after, place_back}
use Rattle.text.proofs.Answers.{by_past}
use Rattle.jkf.specs.declared.Entry.{Entry}
use Rattle.moves.specs.Moves.{move_line_at, remark_from, kept_at, comment_line_at, begins_no_skip, skip_line_at}
use Rattle.moves.specs.declared.Remark.{Remark}
use Rattle.moves.proofs.Answers.{OnRemark, stands, no_remark, line_is, remark_is}
use Rattle.moves.proofs.Fits.{move-line-fits}

pub move_goes : (s : List ℕ) (at n : ℕ) (e : Entry) (c : Cursor) → move_line_at s at ≡ Some (record { number = n; entry = e; next = c }) → After at (length s) c
move_goes s at n e c q = (line_is (move-line-fits s at) q).end

-- ---- skip lines

-- past a character, as wide as it is
pub character_is : (s : List ℕ) (at : ℕ) (c : Cursor) → character_at s at ≡ Some c → c.at ≡ at + char_width s at
unfolding character_at
character_is s at c =
    by_pick (λ (r : Option Cursor). r ≡ Some c → c.at ≡ at + char_width s at) (eqb (char_width s at) 0) None (Some (cursor (at + char_width s at)))
    (λ t q. no_past c q) (λ t q. sym (past-at q))

-- a skip line is a character that begins one, and a line after it
pub skip_back : (s : List ℕ) (at : ℕ) {c : Cursor} → skip_line_at s at ≡ Some c
    → (begins_no_skip s at ≡ false) × (d : Cursor) × (character_at s at ≡ Some d) × (line_end_at s d.at ≡ Some c)
unfolding skip_line_at
skip_back s at {c} =
    by_pick (λ (r : Option Cursor). r ≡ Some c → (begins_no_skip s at ≡ false) × (d : Cursor) × (character_at s at ≡ Some d) × (line_end_at s d.at ≡ Some c)) (begins_no_skip s at) None
    (on_place (character_at s at) (λ d. line_end_at s d.at) None) (λ t q. no_past c q)
    (λ t q. let (d, k, l) = place_back (character_at s at) (λ d. line_end_at s d.at) c q in (t, d, k, l))

pub skip_goes : (s : List ℕ) (at : ℕ) (c : Cursor) → skip_line_at s at ≡ Some c → After at (length s) c
skip_goes s at c q =
    let (_, d, p, r) = skip_back s at q in
    let h = character_is s at d p in
    let a = line-end_after s d.at c r in
    let k = a.past in
    record { past = omega arith; within = a.within }

-- ---- comments

-- a text from its beginning to its end, and the line's end after it
pub record Along (at n : ℕ) (from to next : Cursor) : Type 0 where
  pub begins : at ≤ from.at
  pub ends : from.at ≤ to.at
  pub past : to.at < next.at
  pub within : next.at ≤ n

remark_from_goes : (from : Cursor) (s : List ℕ) (b at : ℕ) → b ≤ from.at → from.at ≤ at → OnRemark (Along b (length s)) (remark_from from s at)
unfolding remark_from
remark_from_goes from s b at h k =
    by_past Q no_remark (tail_at s at)
    (λ e p. by_past Q no_remark (break_at s e.at)
    (λ n q. let i = tail_from s at e p in
    let a = break_after s e.at n q in
    stands (record { begins = h; ends = omega arith; past = a.past; within = a.within })))
  where
    Q : Option Remark → Type 0
    Q = OnRemark (Along b (length s))

kept_goes : (s : List ℕ) (at : ℕ) → OnRemark (Along at (length s)) (kept_at s at)
unfolding kept_at
kept_goes s at =
    by_past (OnRemark (Along at (length s))) no_remark (tag_at (38 ∷ []) s at)
    (λ c p. let a = (tag_after (38 ∷ []) s at c (omega arith) p).past in remark_from_goes (cursor at) s at c.at (omega arith) (omega arith))

comment_goes : (s : List ℕ) (at : ℕ) → OnRemark (Along at (length s)) (comment_line_at s at)
unfolding comment_line_at
comment_goes s at =
    by_past (OnRemark (Along at (length s))) (kept_goes s at) (tag_at (42 ∷ []) s at)
    (λ c p. let a = (tag_after (42 ∷ []) s at c (omega arith) p).past in remark_from_goes c s at c.at (omega arith) (omega arith))

pub remark_goes : (s : List ℕ) (at : ℕ) (from to next : Cursor) → comment_line_at s at ≡ Some (record { from = from; to = to; next = next })
    → (at ≤ from.at) × (from.at ≤ to.at) × (to.at < next.at) × (next.at ≤ length s)
remark_goes s at from to next q = let h = remark_is (comment_goes s at) q in (h.begins, h.ends, h.past, h.within)
