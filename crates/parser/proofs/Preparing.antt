-- What stands before the moves is ready to be stored: a text of 65,535 bytes has at most 13,107 header lines, and each begins below 65,536,
-- so all their places are kept as they are, and sorted by key they stand in the front of the buffer.
-- Assumes nothing.
use Rattle.std.specs.Prelude.{Option, Some, None}
use Prim.Native.Nat.{ℕ, suc, ◌+◌, ◌-◌, ◌≤◌, ◌<◌}
use native.Mathlib.Nat.{mod-eq_of_lt}
use native.Mathlib.Omega.{arith}
use mathlib.Core.Path.{◌≡◌, refl, sym, ap, ◌∙◌, subst}
use mathlib.Core.List.{List, [], ◌∷◌, ◌++◌}
use lib.ListN.{length, get_or, take, drop, replicate, length-append}
use lib.Seq.{sets-eq, take_at, take-append-le, length-take-le}
use borrow.Author.Tests.{le-ltb}
use Rattle.lent.specs.Stored.{put}
use Rattle.sorted.specs.Sorted.{kept, kept_count, kept_buffer}
use Rattle.sorted.specs.inner.Orders.{Leads}
use Rattle.kakinoki.specs.Informations.{low16}
use Rattle.kakinoki.specs.Starts.{start_read, header_places}
use Rattle.kakinoki.specs.declared.Start.{Start}
use Rattle.kakinoki.proofs.Heads.{header-begins, headers-few}
use Rattle.text.specs.Utf8.{well_formed_bytes}
use Rattle.jkf.specs.declared.Answer.{Answer}
use Rattle.parser.specs.Read.{faultless, early_of}
use Rattle.parser.specs.declared.Survey.{Survey}
use Rattle.parser.specs.inner.Stores.{PlacesIn, Prepared, Surveyed, Sorted}

-- ---- numbers of 16 bits, and a list at a buffer's front

low_same : (l : List ℕ) → ((i : ℕ) → i < length l → get_or l i 0 < 65536) → low16 l ≡ l
low_same [] h = refl
low_same (x ∷ l) h =
    ap (λ (n : ℕ). n ∷ low16 l) (mod-eq_of_lt (h 0 (omega arith))) ∙ ap (λ (r : List ℕ). x ∷ r) (low_same l (λ i n. h (suc i) (omega arith)))

front-of : (l o : List ℕ) (n : ℕ) → length l ≤ length o → length l ≡ n → take n (put o 0 l) ≡ l
unfolding put
front-of l o n h e = ap (take n) (sets-eq l o 0 (omega arith)) ∙ take_at l (drop (0 + length l) o) n e

-- places that have room are sorted into the front
kept-leads : (s ps o out : List ℕ) (r : ℕ) → length ps ≤ 13107 → length ps ≤ length o → r ≡ kept_count s ps o → out ≡ kept_buffer s ps o
    → Leads (kept s ps) out r
unfolding kept_count kept_buffer
kept-leads s ps o out r h g e f =
    let a = le-ltb 13107 (length ps) h in
    let b = le-ltb (length o) (length ps) g in
    let n : r ≡ length (kept s ps) = rw (a, b) at e in
    let z : List ℕ = replicate (length o - length (kept s ps)) 0 in
    let m : out ≡ kept s ps ++ z = rw (a, b) at f in
    record {
      count = n;
      front = ap (take r) m ∙ take_at (kept s ps) z r (sym n);
      fits = omega (arith, ap length m, length-append (kept s ps) z);
    }

-- what leads a list leads it with more behind it
leads-then : {l o : List ℕ} {r : ℕ} (q : List ℕ) → Leads l o r → Leads l (o ++ q) r
leads-then {l} {o} {r} q w =
    record {
      count = w.count;
      front = take-append-le r o q w.fits ∙ w.front;
      fits = omega (arith, w.fits, length-append o q);
    }

-- ---- what was read before the moves

abbrev pub Begun : List ℕ → Start → List ℕ → Type 0
Begun s start places = (length s ≤ 65535) × (start ≡ start_read s) × PlacesIn s places

module _ (s : List ℕ) (start : Start) (places : List ℕ) (b : Begun s start places) where
  places_few : length (header_places s) ≤ 13107
  places_few = omega (arith, headers-few s, b.0)

  places_low : low16 (header_places s) ≡ header_places s
  places_low = low_same (header_places s) (λ i n. omega (arith, (header-begins s i n).inside, b.0))

  counted : length (header_places s) ≡ start.headers
  unfolding start_read
  counted = sym (ap (λ (x : Start). x.headers) b.1)

  room : length (header_places s) ≤ length b.2.before
  room = omega (arith, headers-few s, b.2.room)

  places_taken : take start.headers places ≡ header_places s
  places_taken =
      ap (take start.headers) (b.2.said ∙ ap (put b.2.before 0) places_low) ∙ front-of (header_places s) b.2.before start.headers room counted

  pub taken-count : start.headers ≡ length (take start.headers places)
  taken-count = sym counted ∙ sym (ap length places_taken)

  -- a buffer has room for them, so as much of it is lent
  module _ (o : List ℕ) (wide : 13107 ≤ length o) where
    pub sorted_room : start.headers ≤ length o
    sorted_room = omega (arith, counted, places_few)

    pub room-count : start.headers ≡ length (take start.headers o)
    room-count = sym (length-take-le start.headers o sorted_room)

    -- q is the rest of it
    module _ (r : ℕ) (out q : List ℕ) (e : (r ≡ kept_count s (take start.headers places) (take start.headers o)) × (out ≡ kept_buffer s (take start.headers places) (take start.headers o))) where
      sorted_leads : Leads (kept s (header_places s)) (out ++ q) r
      sorted_leads =
          let o' = take start.headers o in
          leads-then q (kept-leads s (header_places s) o' out r places_few (omega (arith, counted, room-count)) (e.0 ∙ ap (λ (ps : List ℕ). kept_count s ps o') places_taken)
          (e.1 ∙ ap (λ (ps : List ℕ). kept_buffer s ps o') places_taken))

      pub sorted_within : r ≤ length (out ++ q)
      sorted_within = sorted_leads.fits

      pub sorted_count : r ≡ length (take r (out ++ q))
      sorted_count = sym (length-take-le r (out ++ q) sorted_within)

      pub prepared : Prepared s start.position start.next.at (take r (out ++ q))
      prepared =
          record {
            short = b.0;
            position = ap (λ (x : Start). x.position) b.1;
            place = ap (λ (x : Start). x.next.at) b.1;
            headers = sorted_leads.front;
          }

-- what was found stands with its places at the front of the buffer
pub sorted_so : (s : List ℕ) (v : Survey) (o : List ℕ) (r : ℕ) → r ≤ length o → Surveyed s v (take r o) → Sorted s v o
sorted_so s v o r h f =
    let n : v.sizes.headers ≡ r = f.count ∙ length-take-le r o h in
    record { room = omega arith; found = subst (λ (k : ℕ). Surveyed s v (take k o)) (sym n) f }

-- ---- refusals 1 to 3

pub late : (s : List ℕ) → length s ≤ 65535 → length s ≤ well_formed_bytes s → early_of s ≡ faultless s
unfolding early_of
late s h k = rw (le-ltb 65535 (length s) h, le-ltb (well_formed_bytes s) (length s) k)

-- a refusal has nothing found
pub no_pass : {A : Type 0} {a : Answer} {e : Option Answer} → e ≡ Some a → e ≡ None → A
no_pass p q = let z : ◌≡◌ {A = ℕ} 0 1 = cc in absurd (omega arith)
