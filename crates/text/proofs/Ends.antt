-- At the end of a text and past it the rest is empty: nothing is read there.
-- Assumes nothing.
use Rattle.std.specs.Prelude.{Some, None, Err}
use Prim.Native.Nat.{ℕ, ◌≤◌, ◌<◌}
use native.Mathlib.Omega.{arith}
use mathlib.Core.Path.{◌≡◌, refl}
use mathlib.Core.List.{List}
use mathlib.Core.Bool.{false}
use lib.ListN.{length, get_or, get_or-eq_default}
use borrow.Author.Tests.{eq-eqb, le-ltb}
use Rattle.text.specs.Text.{cursor, is_text, is_digit, is_blank, stands_at, tag_at, blanks_at, pad_width, padding_at, wide_space, break_at, tail_at, digits_at}
use Rattle.text.specs.Utf8.{char_width, character_at}
use Rattle.text.specs.declared.FigureError.TheVariants.{Absent}
use Rattle.text.proofs.Laws.{span-end, stands_short}
use Rattle.text.proofs.Widths.{past_stop}

module _ (s : List ℕ) (at : ℕ) (h : length s ≤ at) where
  no_first : get_or s at 0 ≡ 0
  no_first = get_or-eq_default s 0 h

  pub stands_end : (t : List ℕ) → 0 < length t → stands_at t s at ≡ false
  stands_end t k = stands_short t s 0 at k h

  pub tag_end : (t : List ℕ) → 0 < length t → tag_at t s at ≡ None
  unfolding tag_at
  tag_end t k = rw (stands_end t k)

  pub character_end : character_at s at ≡ None
  unfolding character_at char_width
  character_end = rw (le-ltb _ _ h)

  pub break-end : break_at s at ≡ None
  unfolding break_at
  break-end = rw no_first

  pub tail-end : tail_at s at ≡ Some (cursor at)
  unfolding tail_at
  tail-end = rw (span-end is_text s at h, no_first)

  pub blanks_end : blanks_at s at ≡ at
  blanks_end = span-end is_blank s at h

  no_pad : pad_width s at ≡ 0
  unfolding pad_width
  no_pad = rw (no_first, stands_end wide_space (omega arith))

  pub padding_end : padding_at s at ≡ at
  padding_end = past_stop pad_width s at no_pad

  pub digits-end : (largest : ℕ) → digits_at largest s at ≡ Err Absent
  unfolding digits_at
  digits-end largest = rw (span-end is_digit s at h, eq-eqb at at refl)
