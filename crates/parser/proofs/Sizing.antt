-- Counting all lines of play: what is counted and what is still to count come to all that there is.
-- Assumes nothing.
use Prim.Native.Nat.{ℕ, ◌+◌, ◌≤◌, ◌<◌}
use native.Mathlib.Omega.{arith}
use mathlib.Core.Path.{◌≡◌, refl, sym, ap, ◌∙◌}
use mathlib.Core.List.{List, [], ◌∷◌, ◌++◌, append-nil}
use lib.Dec.{eqb}
use Rattle.lists.specs.Pick.{pick}
use lib.ListN.{length, length-append}
use Rattle.lists.specs.Repeat.{Ended}
use Rattle.text.specs.Text.{cursor}
use Rattle.text.specs.declared.Cursor.{Cursor}
use Rattle.jkf.specs.declared.Entry.TheVariants.{Slot}
use Rattle.jkf.specs.Model.{Noted}
use Rattle.jkf.specs.Attaching.{Play, play}
use Rattle.block.specs.Encode.{concat, comments_of, comment_text}
use Rattle.filling.proofs.Texts.{commented, written}
use Rattle.plays.specs.Plays.{noted, entries_at, ply_at, skipped_at, skips_at, variations_at, slot_at, past_main, main_at, plays_at}
use Rattle.plays.specs.Counted.{remarks_at, extent_at, extent_of}
use Rattle.parser.specs.inner.Lines.{main_extents, extents_at}
use Rattle.plays.specs.inner.Entries.{play_entries}
use Rattle.plays.specs.declared.Remarks.{Remarks}
use Rattle.plays.specs.declared.Extent.{Extent}
use Rattle.parser.specs.declared.Extents.{Extents}
use Rattle.plays.proofs.Items.{comments-within, skips-from, skips-within, skipped_from, skipped_within}
use Rattle.plays.proofs.Weights.{comments-short}
use Rattle.plays.proofs.Variations.{variations_more, variations_none, variations_short, variations_few, variations_within, main_past, main_short, line_there, line-within}

-- comments of entries, and their bytes, one run after another
-- ---- the main line

module _ (s : List ℕ) (at : ℕ) where
  abbrev slot : Ended (List (List ℕ))
  slot = slot_at s at

  abbrev mains : List Noted
  mains = (entries_at s slot.at).state

  main_entries : play_entries (main_at s at ∷ []) ≡ (noted Slot slot.state ∷ []) ++ mains
  unfolding main_at concat
  main_entries = append-nil (noted Slot slot.state ∷ mains)

  slot-comments : comments_of (noted Slot slot.state ∷ []) ≡ slot.state
  unfolding concat
  slot-comments = append-nil slot.state

  pub record MainTally (x : Extent) (k : Remarks) : Type 0 where
    pub entries : length (play_entries (main_at s at ∷ [])) ≡ 1 + x.entries
    pub comments : length (comments_of (play_entries (main_at s at ∷ []))) ≡ k.count + x.comments
    pub bytes : length (comment_text (comments_of (play_entries (main_at s at ∷ [])))) ≡ k.bytes + x.bytes
    pub short : at + (k.count + k.bytes + (x.entries + (x.comments + x.bytes))) ≤ past_main s slot.at

  pub main_tally : MainTally (extent_at s slot.at) (remarks_at s (skipped_at s at))
  unfolding extent_of remarks_at
  main_tally =
      let e = main_entries in
      let n = commented (noted Slot slot.state ∷ []) mains in
      let b = written (noted Slot slot.state ∷ []) mains in
      record {
        entries = ap length e ∙ length-append (noted Slot slot.state ∷ []) mains;
        comments = ap (λ (es : List Noted). length (comments_of es)) e ∙ n ∙ ap (λ (cs : List (List ℕ)). length cs + length (comments_of mains)) slot-comments;
        bytes =
            ap (λ (es : List Noted). length (comment_text (comments_of es))) e ∙ b
            ∙ ap (λ (cs : List (List ℕ)). length (comment_text cs) + length (comment_text (comments_of mains))) slot-comments;
        short = omega (arith, skipped_from s at, comments-short s (skipped_at s at), (main_short s slot.at).0);
      }

  pub main_small : at ≤ length s → length s < 9223372036854775808 → (x : Extent) (k : Remarks) → k ≡ remarks_at s (skipped_at s at) → x ≡ extent_at s k.next.at
      → (1 + x.entries < 18446744073709551616) × (k.count + x.comments < 18446744073709551616) × (k.bytes + x.bytes < 18446744073709551616)
  unfolding remarks_at
  main_small h n x k p q =
      let e : x ≡ extent_at s slot.at = q ∙ ap (λ (r : Remarks). extent_at s r.next.at) p in
      let t = main_tally.short in
      let i = (main_short s slot.at).1 (comments-within s (skipped_at s at) (skipped_within s at h)) in
      let a = ap (λ (y : Extent). y.entries) e in
      let b = ap (λ (y : Extent). y.comments) e in
      let c = ap (λ (y : Extent). y.bytes) e in
      let d = ap (λ (r : Remarks). r.count) p in
      let f = ap (λ (r : Remarks). r.bytes) p in
      (omega (arith, a, t, i, n), omega (arith, b, d, t, i, n), omega (arith, c, f, t, i, n))

  pub counted_past : (at : ℕ) (x : Extent) → x ≡ extent_at s at → pick (eqb x.entries 0) at (skipped_at s x.next.at) ≡ past_main s at
  unfolding extent_of
  counted_past at x q = main_past s at (ap (λ (y : Extent). y.entries) q) (ap (λ (y : Extent). y.next.at) q)

  pub main_made : (x : Extent) (k : Remarks) (c : Cursor) → k ≡ remarks_at s (skipped_at s at) → x ≡ extent_at s k.next.at → c.at ≡ past_main s k.next.at
      → record { lines = 1; entries = 1 + x.entries; comments = k.count + x.comments; bytes = k.bytes + x.bytes; next = c } ≡ main_extents s at
  unfolding main_extents remarks_at
  main_made x k c p q r =
      let e : x ≡ extent_at s slot.at = q ∙ ap (λ (r : Remarks). extent_at s r.next.at) p in
      let t = main_tally in
      let f : c.at ≡ past_main s slot.at = r ∙ ap (λ (r : Remarks). past_main s r.next.at) p in
      let a : 1 + x.entries ≡ length (play_entries (main_at s at ∷ [])) = omega (arith, t.entries, ap (λ (y : Extent). y.entries) e) in
      let b : k.count + x.comments ≡ length (comments_of (play_entries (main_at s at ∷ []))) =
      omega (arith, t.comments, ap (λ (y : Extent). y.comments) e, ap (λ (r : Remarks). r.count) p) in
      let d : k.bytes + x.bytes ≡ length (comment_text (comments_of (play_entries (main_at s at ∷ [])))) =
      omega (arith, t.bytes, ap (λ (y : Extent). y.bytes) e, ap (λ (r : Remarks). r.bytes) p) in
      rw (a, b, d, ← f)

-- ---- all lines

pub record Sizing (s : List ℕ) (at₀ : ℕ) (z : Extents) : Type 0 where
  pub lines : length (plays_at s at₀).state ≡ z.lines + length (variations_at s z.next.at).state
  pub entries : length (play_entries (plays_at s at₀).state) ≡ z.entries + length (play_entries (variations_at s z.next.at).state)
  pub comments : length (comments_of (play_entries (plays_at s at₀).state)) ≡ z.comments + length (comments_of (play_entries (variations_at s z.next.at).state))
  pub bytes : length (comment_text (comments_of (play_entries (plays_at s at₀).state)))
      ≡ z.bytes + length (comment_text (comments_of (play_entries (variations_at s z.next.at).state)))
  pub end : (plays_at s at₀).at ≡ (variations_at s z.next.at).at
  pub within : z.next.at ≤ length s

pub sizing_start : (s : List ℕ) (at : ℕ) → at ≤ length s → Sizing s at (main_extents s at)
unfolding main_extents plays_at concat
sizing_start s at h =
    let es = (main_at s at).entries in
    let vs = (variations_at s (past_main s (slot_at s at).at)).state in
    let one = append-nil es in
    record {
      lines = omega arith;
      entries = length-append es (play_entries vs) ∙ ap (λ (l : List Noted). length l + length (play_entries vs)) (sym one);
      comments = commented es (play_entries vs) ∙ ap (λ (l : List Noted). length (comments_of l) + length (comments_of (play_entries vs))) (sym one);
      bytes =
          written es (play_entries vs)
          ∙ ap (λ (l : List Noted). length (comment_text (comments_of l)) + length (comment_text (comments_of (play_entries vs)))) (sym one);
      end = refl;
      within = (main_short s (slot_at s at).at).1 (comments-within s (skipped_at s at) (skipped_within s at h));
    }

module _ (s : List ℕ) {at₀ : ℕ} (z : Extents) (i : Sizing s at₀ z) where
  abbrev place : ℕ
  place = skips_at s z.next.at

  abbrev line : Extent
  line = extent_at s place

  module _ (some : (extent_at s place).entries ≡ 0 → ⊥) where
    abbrev rest : List Play
    rest = (variations_at s (skipped_at s (entries_at s place).at)).state

    some-entries : length (entries_at s place).state ≡ 0 → ⊥
    unfolding extent_of
    some-entries = some

    plays_are : (variations_at s z.next.at).state ≡ play (ply_at s place) (entries_at s place).state ∷ rest
    plays_are = ap (λ (r : Ended (List Play)). r.state) (variations_more s z.next.at some-entries)

    entries_are : play_entries (variations_at s z.next.at).state ≡ (entries_at s place).state ++ play_entries rest
    unfolding concat
    entries_are = ap play_entries plays_are

    pub sizing_more : (c : Cursor) → c.at ≡ skipped_at s (extent_at s place).next.at
        → Sizing s at₀ (record { lines = z.lines + 1; entries = z.entries + line.entries; comments = z.comments + line.comments; bytes = z.bytes + line.bytes; next = c })
    unfolding extent_of
    sizing_more c q =
        let es = (entries_at s place).state in
        let n : length (play_entries (variations_at s z.next.at).state) ≡ length es + length (play_entries rest) = ap length entries_are ∙ length-append es (play_entries rest) in
        let m = ap (λ (l : List Noted). length (comments_of l)) entries_are ∙ commented es (play_entries rest) in
        let b = ap (λ (l : List Noted). length (comment_text (comments_of l))) entries_are ∙ written es (play_entries rest) in
        rw q
        (record {
          lines = omega (arith, i.lines, ap length plays_are);
          entries = omega (arith, i.entries, n);
          comments = omega (arith, i.comments, m);
          bytes = omega (arith, i.bytes, b);
          end = i.end ∙ ap (λ (r : Ended (List Play)). r.at) (variations_more s z.next.at some-entries);
          within = line-within s place (skips-within s z.next.at i.within);
        })

    pub sizing_less : z.next.at < skipped_at s (extent_at s place).next.at × (skipped_at s (extent_at s place).next.at ≤ length s)
    unfolding extent_of
    sizing_less =
        let t = line_there s place some-entries in
        (omega (arith, t.past, skips-from s z.next.at), line-within s place (skips-within s z.next.at i.within))

  pub sizing_done : (extent_at s place).entries ≡ 0 → z ≡ extents_at s at₀
  unfolding extents_at extent_of concat
  sizing_done e =
      let none = variations_none s z.next.at e in
      let l : length (plays_at s at₀).state ≡ z.lines = omega (arith, i.lines, ap (λ (r : Ended (List Play)). length r.state) none) in
      let n : length (play_entries (plays_at s at₀).state) ≡ z.entries = omega (arith, i.entries, ap (λ (r : Ended (List Play)). length (play_entries r.state)) none) in
      let m : length (comments_of (play_entries (plays_at s at₀).state)) ≡ z.comments =
      omega (arith, i.comments, ap (λ (r : Ended (List Play)). length (comments_of (play_entries r.state))) none) in
      let b : length (comment_text (comments_of (play_entries (plays_at s at₀).state))) ≡ z.bytes =
      omega (arith, i.bytes, ap (λ (r : Ended (List Play)). length (comment_text (comments_of (play_entries r.state)))) none) in
      let a : (plays_at s at₀).at ≡ z.next.at = i.end ∙ ap (λ (r : Ended (List Play)). r.at) none in
      rw (l, n, m, b, a)

-- what is counted is no more than the bytes that were taken, but for line 0 and its slot
pub record Small (n : ℕ) (z : Extents) : Type 0 where
  pub lines : z.lines ≤ n + 1
  pub entries : z.entries ≤ n + 1
  pub comments : z.comments ≤ n
  pub bytes : z.bytes ≤ n

pub sizes-small : (s : List ℕ) (at : ℕ) → at ≤ length s → Small (length s) (extents_at s at)
unfolding extents_at main_extents
sizes-small s at h =
    let i = sizing_start s at h in
    let t = main_tally s at in
    let p = past_main s (slot_at s at).at in
    let k = variations_short s p in
    let f = variations_few s p in
    let w = variations_within s p i.within in
    record {
      lines = omega (arith, i.lines, f, w);
      entries = omega (arith, i.entries, t.entries, t.short, k, w);
      comments = omega (arith, i.comments, t.comments, t.short, k, w);
      bytes = omega (arith, i.bytes, t.bytes, t.short, k, w);
    }

-- so no sum overflows
pub sizing_bound : (s : List ℕ) (at₀ : ℕ) (z : Extents) → at₀ ≤ length s → length s < 9223372036854775808 → Sizing s at₀ z
    → ((extent_at s (skips_at s z.next.at)).entries ≡ 0 → ⊥)
    → (z.lines + 1 < 18446744073709551616) × (z.entries + (extent_at s (skips_at s z.next.at)).entries < 18446744073709551616)
    × (z.comments + (extent_at s (skips_at s z.next.at)).comments < 18446744073709551616) × (z.bytes + (extent_at s (skips_at s z.next.at)).bytes < 18446744073709551616)
unfolding extents_at
sizing_bound s at₀ z h n i some =
    let b = sizes-small s at₀ h in
    let j = sizing_more s z i some (cursor (skipped_at s (extent_at s (skips_at s z.next.at)).next.at)) refl in (
      omega (arith, b.lines, j.lines, n),
      omega (arith, b.entries, j.entries, n),
      omega (arith, b.comments, j.comments, n),
      omega (arith, b.bytes, j.bytes, n),
    )

-- the same of a line that was counted where the skip lines end
module _ (s : List ℕ) (at₀ : ℕ) (z : Extents) (x : Extent) (k : ℕ) (h : at₀ ≤ length s) (i : Sizing s at₀ z) (p : k ≡ skips_at s z.next.at) (q : x ≡ extent_at s k) where
  counted : x ≡ extent_at s (skips_at s z.next.at)
  counted = q ∙ ap (extent_at s) p

  pub counted_done : x.entries ≡ 0 → z ≡ extents_at s at₀
  counted_done e = sizing_done s z i (ap (λ (y : Extent). y.entries) (sym counted) ∙ e)

  module _ (some : x.entries ≡ 0 → ⊥) where
    still : (extent_at s (skips_at s z.next.at)).entries ≡ 0 → ⊥
    still e = some (ap (λ (y : Extent). y.entries) counted ∙ e)

    pub counted_bound : length s < 9223372036854775808
        → (z.lines + 1 < 18446744073709551616) × (z.entries + x.entries < 18446744073709551616) × (z.comments + x.comments < 18446744073709551616)
        × (z.bytes + x.bytes < 18446744073709551616)
    counted_bound n =
        let b = sizing_bound s at₀ z h n i still in (
          b.0,
          omega (arith, b.1, ap (λ (y : Extent). y.entries) counted),
          omega (arith, b.2, ap (λ (y : Extent). y.comments) counted),
          omega (arith, b.3, ap (λ (y : Extent). y.bytes) counted),
        )

    pub counted_less : (c : Cursor) → c.at ≡ skipped_at s x.next.at → z.next.at < c.at × (c.at ≤ length s)
    counted_less c e =
        let d = sizing_less s z i still in
        let f = e ∙ ap (λ (y : Extent). skipped_at s y.next.at) counted in
        (omega (arith, d.0, f), omega (arith, d.1, f))

    pub counted_more : (c : Cursor) → c.at ≡ skipped_at s x.next.at
        → Sizing s at₀ (record { lines = z.lines + 1; entries = z.entries + x.entries; comments = z.comments + x.comments; bytes = z.bytes + x.bytes; next = c })
    counted_more c e = rw counted (sizing_more s z i still c (e ∙ ap (λ (y : Extent). skipped_at s y.next.at) counted))
