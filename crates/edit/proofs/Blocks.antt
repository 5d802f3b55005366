-- The lines of a sound block hang as its version asks, so what put-in and cut ask is met.
--     start-in, count-in, parent-in     what its rows say of a line
--     lines-as                          they hang so
--     lines-hang, lines-afresh          they all hang; and in version 1, hung afresh, they are the same
--     puts-in, cuts-out                 what put-in and cut ask
-- Assumes nothing.
use Prim.Native.Nat.{ℕ, ◌<◌}
use native.Mathlib.Nat.{zero-add}
use native.Mathlib.Omega.{arith}
use mathlib.Core.Path.{◌≡◌, sym, ap, ap₂, ◌∙◌, subst}
use mathlib.Core.Bool.{true, false}
use mathlib.Core.List.{List}
use lib.ListN.{length, drop}
use Rattle.jkf.specs.Model.{Line}
use Rattle.jkf.specs.Attaching.{starts, counts, attach, all, all_hung}
use Rattle.jkf.specs.Trees.{HangAs}
use Rattle.block.specs.Decode.{version_in, lines_in, start_of, first_entry, entry_count, parent_of, noted_in, line_in, decode}
use Rattle.block.specs.inner.Sounds.{Sound}
use Rattle.block.specs.Formed.{line_of}
use Rattle.block.proofs.Hanging.{lines_hung}
use Rattle.block.proofs.Tabling.{length_run, run-get_or}
use Rattle.edit.specs.Edit.{plays_in, is_ply_of, is_taken}
use Rattle.edit.proofs.Alike.{hang-same}
use Rattle.edit.proofs.Listing.{starts_in, counts_in, parents_in, LinesAs, none, plays-start, plays-count}
use Rattle.edit.proofs.Afresh.{attach_1, back_nests}
use Rattle.edit.proofs.Inserted.{PutsIn}
use Rattle.edit.proofs.Removed.{CutsOut}

module _ (b : List ℕ) where
  abbrev ls : List Line
  ls = (decode b).lines

  -- ---- its rows

  -- a block says as many lines as it counts
  pub lines_counted : length (decode b).lines ≡ lines_in b
  unfolding decode
  lines_counted = length_run (line_in b) 0 (lines_in b)

  pub line_is : (k : ℕ) → k < lines_in b → line_of (decode b).lines k ≡ line_in b k
  unfolding decode
  line_is k h = run-get_or (line_in b) none 0 (lines_in b) k h ∙ ap (line_in b) (zero-add k)

  pub start_in : (k : ℕ) → k < lines_in b → starts_in ls k ≡ start_of b k
  start_in k h = ap (λ (l : Line). l.start) (line_is k h)

  pub count_in : (k : ℕ) → k < lines_in b → counts_in ls k ≡ entry_count b k
  count_in k h = ap (λ (l : Line). length l.entries) (line_is k h) ∙ length_run (noted_in b) (first_entry b k) (entry_count b k)

  pub parent-in : (k : ℕ) → k < lines_in b → parents_in ls k ≡ parent_of b k
  parent-in k h = ap (λ (l : Line). l.parent) (line_is k h)

  -- ---- how they hang

  module _ (s : Sound b) where
    some : 0 < lines_in b
    some = s.totals.0

    some-lines : 0 < length ls
    some-lines = omega (arith, some, lines_counted)

    pub lines_as : LinesAs (version_in b) ls
    lines_as =
        subst (HangAs (version_in b) (starts_in ls) (counts_in ls) (parents_in ls)) (sym lines_counted)
        (hang-same (version_in b) (start_of b) (entry_count b) (parent_of b) (starts_in ls) (counts_in ls) (parents_in ls) some (omega arith) start_in count_in parent-in
        (lines_hung b (lines_in b) s.lines))

    pub lines-hang : all_hung (plays_in ls) ≡ all
    lines-hang =
        back_nests ls some-lines (version_in b) lines_as
        (λ k h. let l : k < lines_in b = omega (arith, lines_counted) in omega (arith, count_in k l, (s.lines k l).1.0))

    pub lines_afresh : version_in b ≡ 1 → attach (plays_in ls) ≡ ls
    lines_afresh e = attach_1 ls some-lines (subst (λ (v : ℕ). LinesAs v ls) e lines_as)

    -- ---- what is asked

    pub puts_in : (k j : ℕ) → k < lines_in b → is_ply_of (starts (plays_in ls) k) (counts (plays_in ls) k) j ≡ true
        → is_taken (version_in b) k j (drop 1 ls) ≡ false → PutsIn (version_in b) ls k j
    puts_in k j h ply free =
        record {
          lines = lines_as;
          line = omega (arith, lines_counted);
          ply = ap₂ (λ (f g : ℕ → ℕ). is_ply_of (f k) (g k) j) (sym (plays-start ls)) (sym (plays-count ls)) ∙ ply;
          free = free;
        }

    pub cuts_out : (k : ℕ) → 0 < k → k < lines_in b → CutsOut (version_in b) ls k
    cuts_out k z h = record { lines = lines_as; later = z; line = omega (arith, lines_counted) }
