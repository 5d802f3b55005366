-- The sizes of an edited block, counted part by part: the entries before line p, the new ones, and those from line q on.
-- Assumes nothing.
use Rattle.std.specs.Prelude.{Option, Some, None}
use Prim.Native.Nat.{ℕ, ◌+◌, ◌-◌, ◌≤◌}
use native.Mathlib.Nat.{zero-add}
use native.Mathlib.Omega.{arith}
use mathlib.Core.Path.{◌≡◌, refl, sym, ap, ◌∙◌}
use mathlib.Core.List.{List, [], ◌∷◌, ◌++◌, append-nil}
use lib.ListN.{length, length-append}
use Rattle.lists.specs.Repeat.{Ended}
use Rattle.jkf.specs.Model.{Noted}
use Rattle.block.specs.Encode.{concat, header_text, comments_of, comment_text}
use Rattle.block.specs.Decode.{headers_in, lines_in, moves_in}
use Rattle.block.specs.Sound.{header_bytes, entries_before}
use Rattle.filling.specs.inner.Parts.{sizes_of}
use Rattle.filling.specs.declared.Sizes.{Sizes}
use Rattle.filling.proofs.Texts.{commented, written}
use Rattle.plays.specs.Plays.{entries_at, sequence_at, ply_at}
use Rattle.plays.specs.Counted.{extent_at, extent_of}
use Rattle.plays.specs.declared.Extent.{Extent}
use Rattle.edit.specs.Edit.{variation_of, line_on}
use Rattle.edit.specs.declared.Added.{Added}
use Rattle.edit.specs.declared.Added.{Added}
use Rattle.edit.specs.inner.Splicing.{numbered_in, new_lines, Counted, comments_within, bytes_within, sizes_after}
use Rattle.edit.proofs.Texts.{text-small}

-- ---- three lists of entries, one after the other

module _ (xs ys zs : List Noted) where
  pub entries_three : length (xs ++ (ys ++ zs)) ≡ length xs + length ys + length zs
  entries_three = omega (arith, length-append xs (ys ++ zs), length-append ys zs)

  pub comments_three : length (comments_of (xs ++ (ys ++ zs))) ≡ length (comments_of xs) + length (comments_of ys) + length (comments_of zs)
  comments_three = omega (arith, commented xs (ys ++ zs), commented ys zs)

  pub bytes_three : length (comment_text (comments_of (xs ++ (ys ++ zs))))
      ≡ length (comment_text (comments_of xs)) + length (comment_text (comments_of ys)) + length (comment_text (comments_of zs))
  bytes_three = omega (arith, written xs (ys ++ zs), written ys zs)

-- ---- the text's, as they were counted

module _ {x : Extent} (r : Ended (List Noted)) (is : x ≡ extent_of r) where
  pub entries_are : x.entries ≡ length r.state
  unfolding extent_of
  entries_are = ap (λ (y : Extent). y.entries) is

  comments_are : x.comments ≡ length (comments_of r.state)
  unfolding extent_of
  comments_are = ap (λ (y : Extent). y.comments) is

  bytes_are : x.bytes ≡ length (comment_text (comments_of r.state))
  unfolding extent_of
  bytes_are = ap (λ (y : Extent). y.bytes) is

  pub end_is : x.next.at ≡ r.at
  unfolding extent_of
  end_is = ap (λ (y : Extent). y.next.at) is

-- what was counted from the number that was read on
pub counted : (t : List ℕ) {j : ℕ} {x : Extent} → j ≡ ply_at t 0 → x ≡ extent_of (sequence_at j t 0) → x ≡ extent_of (numbered_in t)
counted t p e = e ∙ ap (λ (n : ℕ). extent_of (sequence_at n t 0)) p

pub extent_small : (t : List ℕ) (x : Extent) → x ≡ extent_at t 0 → length t ≤ 65535 → (x.entries ≤ 65535) × (x.comments ≤ 65535) × (x.bytes ≤ 65535)
extent_small t x is h =
    let a = text-small t h in
    let r = entries_at t 0 in
    (omega (arith, a.0, entries_are r is), omega (arith, a.1, comments_are r is), omega (arith, a.2, bytes_are r is))

pub no_text : length (header_text []) ≡ 0
unfolding concat
no_text = refl

-- the line of a text, counted
pub added_one : (k : ℕ) (t : List ℕ) {x : Extent} → x ≡ extent_at t 0
    → record { headers = 0; lines = 1; entries = x.entries; comments = x.comments; bytes = x.bytes } ≡ sizes_of [] (line_on k (variation_of t) ∷ [])
unfolding concat
added_one k t {x} e =
    let own : (entries_at t 0).state ++ [] ≡ (entries_at t 0).state = append-nil (entries_at t 0).state in
    let r = entries_at t 0 in rw (entries_are r e, comments_are r e, bytes_are r e, own) (simp zero-add)

-- no line, counted
pub added_none : record { headers = 0; lines = 0; entries = 0; comments = 0; bytes = 0 } ≡ sizes_of [] []
unfolding concat
added_none = refl

-- whatever is put in
module _ (t : List ℕ) {z : Sizes} where
  pub added_small : (a : Option Added) → Counted a t → z ≡ sizes_of [] (new_lines a t) → (z.entries ≤ 65535) × (z.comments ≤ 65535) × (z.bytes ≤ 65535)
  added_small None c e = rw (e ∙ sym added_none) (omega arith, omega arith, omega arith)
  added_small (Some r) c e = rw (e ∙ sym (added_one r.line t c.1)) (extent_small t r.extent c.1 c.2)

-- ---- all

-- sizes are equal one by one
pub sizes-same : {h h' l l' e e' c c' t t' : ℕ} → h ≡ h' → l ≡ l' → e ≡ e' → c ≡ c' → t ≡ t'
    → ◌≡◌ {A = Sizes} (record { headers = h; lines = l; entries = e; comments = c; bytes = t }) (record { headers = h'; lines = l'; entries = e'; comments = c'; bytes = t' })
sizes-same p q r s t = rw (p, q, r, s, t)

-- the numbers that were found are those of the definition
pub measured : (b : List ℕ) (p q : ℕ) (z : Sizes) {headers lines moves before after bytes fc bc fb bb : ℕ} → headers ≡ headers_in b → lines ≡ lines_in b → moves ≡ moves_in b
    → before ≡ entries_before b p → after ≡ entries_before b q → bytes ≡ header_bytes b (headers_in b)
    → fc ≡ comments_within b 0 before → fb ≡ bytes_within b 0 before → bc ≡ comments_within b after (moves - after) → bb ≡ bytes_within b after (moves - after)
    → record {
      headers = headers;
      lines = p + z.lines + (lines - q);
      entries = before + z.entries + (moves - after);
      comments = fc + z.comments + bc;
      bytes = bytes + (fb + z.bytes + bb);
    }
    ≡ sizes_after b p q z
measured b p q z e₁ e₂ e₃ e₄ e₅ e₆ a c d f = rw (a, c, d, f, e₁, e₂, e₃, e₄, e₅, e₆)
