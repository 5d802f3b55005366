-- Counting comments and entries one by one: what is counted and what is still to count come to all that there is.
-- Assumes nothing.
use Rattle.std.specs.Prelude.{Some, None}
use Prim.Native.Nat.{ℕ, ◌+◌, ◌-◌, ◌≤◌, ◌<◌}
use native.Mathlib.Omega.{arith}
use mathlib.Core.Path.{◌≡◌, refl, sym, ap, ◌∙◌}
use mathlib.Core.List.{List, [], ◌∷◌, ◌++◌}
use lib.ListN.{length, length-append, length-drop}
use lib.Seq.{length-take-le}
use Rattle.lists.specs.Repeat.{Ended, ended}
use Rattle.text.specs.declared.Cursor.{Cursor}
use Rattle.jkf.specs.declared.Entry.{Entry}
use Rattle.jkf.specs.Model.{Noted}
use Rattle.block.specs.Encode.{concat, comments_of, comment_text}
use Rattle.block.proofs.Tabling.{concat-append}
use Rattle.moves.specs.Moves.{move_line_at, comment_line_at}
use Rattle.moves.proofs.Goings.{move_goes, remark_goes}
use Rattle.plays.specs.Plays.{noted, comments_at}
use Rattle.plays.specs.Counted.{remarks_at, extent_of}
use Rattle.plays.specs.inner.Extending.{Roomy, extended}
use Rattle.plays.specs.declared.Extent.{Extent}
use Rattle.plays.proofs.Items.{text_of, comments-more, comments-none, comments-from, comments-within}
use Rattle.plays.proofs.Weights.{comments-short}

-- ---- comments

pub record Remarking (s : List ℕ) (at₀ count bytes at : ℕ) : Type 0 where
  pub number : length (comments_at s at₀).state ≡ count + length (comments_at s at).state
  pub size : length (comment_text (comments_at s at₀).state) ≡ bytes + length (comment_text (comments_at s at).state)
  pub end : (comments_at s at₀).at ≡ (comments_at s at).at

pub remarking_start : (s : List ℕ) (at : ℕ) → Remarking s at 0 0 at
remarking_start s at = record { number = omega arith; size = omega arith; end = refl }

module _ (s : List ℕ) {at₀ count bytes : ℕ} (at : ℕ) (i : Remarking s at₀ count bytes at) where
  module _ (from to next : Cursor) (q : comment_line_at s at ≡ Some (record { from = from; to = to; next = next })) where
    state_is : (comments_at s at).state ≡ text_of s from to ∷ (comments_at s next.at).state
    state_is = ap (λ (r : Ended (List (List ℕ))). r.state) (comments-more s at from to next q)

    long : length (text_of s from to) ≡ to.at - from.at
    long =
        let h = remark_goes s at from to next q in
        length-take-le (to.at - from.at) _ (rw (length-drop from.at s) (omega (arith, h.1, h.2, h.3)))

    text_is : length (comment_text (comments_at s at).state) ≡ (to.at - from.at) + length (comment_text (comments_at s next.at).state)
    unfolding concat
    text_is = ap (λ (cs : List (List ℕ)). length (comment_text cs)) state_is ∙ omega (arith, length-append (text_of s from to) (comment_text (comments_at s next.at).state), long)

    pub remarking_more : Remarking s at₀ (count + 1) (bytes + (to.at - from.at)) next.at
    remarking_more =
        record {
          number = omega (arith, i.number, ap length state_is);
          size = omega (arith, i.size, text_is);
          end = i.end ∙ ap (λ (r : Ended (List (List ℕ))). r.at) (comments-more s at from to next q);
        }

    -- so neither sum overflows
    pub remarking_bound : length s < 9223372036854775808 → (count + 1 < 18446744073709551616) × (bytes + (to.at - from.at) < 18446744073709551616)
    remarking_bound h =
        let k = remark_goes s at from to next q in
        let w = comments-within s next.at k.3 in
        let e = ap (λ (r : Ended (List (List ℕ))). r.at) (comments-more s at from to next q) in
        let b = comments-short s at₀ in
        (omega (arith, b, i.end, e, w, i.number, ap length state_is, h), omega (arith, b, i.end, e, w, i.size, text_is, h))

  pub remarking_done : (c : Cursor) → c.at ≡ at → comment_line_at s at ≡ None → record { count = count; bytes = bytes; next = c } ≡ remarks_at s at₀
  unfolding remarks_at concat
  remarking_done c e q =
      let none = comments-none s at q in
      let n : length (comments_at s at₀).state ≡ count = omega (arith, i.number, ap (λ (r : Ended (List (List ℕ))). length r.state) none) in
      let b : length (comment_text (comments_at s at₀).state) ≡ bytes = omega (arith, i.size, ap (λ (r : Ended (List (List ℕ))). length (comment_text r.state)) none) in
      let a : (comments_at s at₀).at ≡ c.at = i.end ∙ ap (λ (r : Ended (List (List ℕ))). r.at) none ∙ sym e in
      rw (n, b, a)

-- ---- entries

-- what is counted of a whole, and the rest of it
pub record Extending (whole rest : Ended (List Noted)) (x : Extent) : Type 0 where
  pub number : length whole.state ≡ x.entries + length rest.state
  pub remarks : length (comments_of whole.state) ≡ x.comments + length (comments_of rest.state)
  pub size : length (comment_text (comments_of whole.state)) ≡ x.bytes + length (comment_text (comments_of rest.state))
  pub end : whole.at ≡ rest.at

pub extending_start : (whole : Ended (List Noted)) (c : Cursor) → Extending whole whole (record { entries = 0; comments = 0; bytes = 0; next = c })
extending_start whole c = record { number = omega arith; remarks = omega arith; size = omega arith; end = refl }

module _ (s : List ℕ) {whole rest : Ended (List Noted)} {x : Extent} (i : Extending whole rest x) where
  module _ (e : Entry) (at : ℕ) (r : Ended (List Noted)) (q : rest ≡ ended r.at (noted e (comments_at s at).state ∷ r.state)) where
    abbrev here : List (List ℕ)
    here = (comments_at s at).state

    entries_are : rest.state ≡ noted e here ∷ r.state
    entries_are = ap (λ (r : Ended (List Noted)). r.state) q

    remarks_are : comments_of rest.state ≡ here ++ comments_of r.state
    unfolding concat
    remarks_are = ap comments_of entries_are

    remarks_long : length (comments_of rest.state) ≡ length here + length (comments_of r.state)
    remarks_long = ap length remarks_are ∙ length-append here (comments_of r.state)

    text-long : length (comment_text (comments_of rest.state)) ≡ length (comment_text here) + length (comment_text (comments_of r.state))
    text-long =
        ap (λ (cs : List (List ℕ)). length (comment_text cs)) remarks_are ∙ ap length (concat-append (λ c. c) here (comments_of r.state))
        ∙ length-append (comment_text here) (comment_text (comments_of r.state))

    extending_more : Extending whole r (extended x (remarks_at s at))
    unfolding remarks_at
    extending_more =
        record {
          number = omega (arith, i.number, ap length entries_are);
          remarks = omega (arith, i.remarks, remarks_long);
          size = omega (arith, i.size, text-long);
          end = i.end ∙ ap (λ (r : Ended (List Noted)). r.at) q;
        }

    -- so no sum overflows
    pub extending_room : length whole.state + (length (comments_of whole.state) + length (comment_text (comments_of whole.state))) ≤ length s
        → length s < 9223372036854775808 → Roomy x (remarks_at s at)
    unfolding remarks_at
    extending_room b h =
        record {
          entries = omega (arith, b, i.number, ap length entries_are, h);
          comments = omega (arith, b, i.remarks, remarks_long, h);
          bytes = omega (arith, b, i.size, text-long, h);
        }

  -- and the walk goes on past the comments
  pub extending_on : (e : Entry) (at : ℕ) (walk : ℕ → Ended (List Noted))
      → rest ≡ ended (walk (comments_at s at).at).at (noted e (comments_at s at).state ∷ (walk (comments_at s at).at).state)
      → Extending whole (walk (remarks_at s at).next.at) (extended x (remarks_at s at))
  unfolding remarks_at
  extending_on e at walk q = extending_more e at (walk (comments_at s at).at) q

  pub extending_done : (at : ℕ) → x.next.at ≡ at → rest ≡ ended at [] → x ≡ extent_of whole
  unfolding extent_of concat
  extending_done at e none =
      let n : length whole.state ≡ x.entries = omega (arith, i.number, ap (λ (r : Ended (List Noted)). length r.state) none) in
      let m : length (comments_of whole.state) ≡ x.comments = omega (arith, i.remarks, ap (λ (r : Ended (List Noted)). length (comments_of r.state)) none) in
      let b : length (comment_text (comments_of whole.state)) ≡ x.bytes =
      omega (arith, i.size, ap (λ (r : Ended (List Noted)). length (comment_text (comments_of r.state))) none) in
      let a : whole.at ≡ x.next.at = i.end ∙ ap (λ (r : Ended (List Noted)). r.at) none ∙ sym e in
      rw (n, m, b, a)

-- past a move line and its comments, within the text
pub line-past : (s : List ℕ) (at n : ℕ) (e : Entry) (c : Cursor) → move_line_at s at ≡ Some (record { number = n; entry = e; next = c })
    → (at < (remarks_at s c.at).next.at) × ((remarks_at s c.at).next.at ≤ length s)
unfolding remarks_at
line-past s at n e c q =
    let k = move_goes s at n e c q in
    (omega (arith, k.past, comments-from s c.at), comments-within s c.at k.within)
