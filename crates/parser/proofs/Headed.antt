-- Header entries counted and filled one by one: what is done and what is still to do come to all that there is.
-- Assumes nothing.
use Rattle.std.specs.Prelude.{Option, Some, None}
use Prim.Native.Nat.{ℕ, ◌+◌, ◌-◌, ◌*◌, ◌≤◌, ◌<◌}
use native.Mathlib.Omega.{arith}
use mathlib.Core.Path.{◌≡◌, refl, sym, ap, ap₂, ◌∙◌}
use mathlib.Core.List.{List, [], ◌∷◌}
use mathlib.Core.Bool.{true, false, false≢true}
use lib.ListN.{length, take, drop, get_or, length-drop, drop_of_length-le}
use lib.Seq.{length-take-le}
use Rattle.lists.proofs.Laws.{drop_step}
use Rattle.text.specs.Text.{key_at}
use Rattle.text.specs.declared.Cursor.{Cursor}
use Rattle.text.proofs.Boundaries.{key_part}
use Rattle.jkf.specs.Model.{Header}
use Rattle.block.specs.Encode.{concat, header_text}
use Rattle.filling.specs.Filling.{header, put_header}
use Rattle.filling.specs.inner.Parts.{put_headers}
use Rattle.filling.specs.declared.Walk.{Walk}
use Rattle.filling.proofs.Texts.{keyed, one-header}
use Rattle.filling.proofs.Growing.{header-size, Doing, doing_start, doing_step, doing_as, doing_done}
use Rattle.kakinoki.specs.Informations.{on_key_value, text_between, key_value_at, header_at}
use Rattle.kakinoki.specs.declared.KeyValue.{KeyValue}
use Rattle.kakinoki.proofs.Lines.{pair_known}
use Rattle.parser.specs.inner.Headers.{is_header_line, HeaderLines, headers_at}

-- ---- a header line

-- the header entry of a line whose value stands between two places
pub record Paired (s : List ℕ) (at : ℕ) (from to : Cursor) : Type 0 where
  pub colon : at + 3 ≤ from.at
  pub onward : from.at ≤ to.at
  pub within : to.at < length s
  pub key : (header_at s at).key ≡ take (from.at - 3 - at) (drop at s)
  pub value : (header_at s at).value ≡ text_between s from to

pub paired : (s : List ℕ) (at : ℕ) (from to next : Cursor) → key_value_at s at ≡ Some (record { from = from; to = to; next = next }) → Paired s at from to
unfolding header_at
paired s at from to next e =
    let h = pair_known s at from to next e in
    let both = sym h.is ∙ e in
    let f : h.from ≡ from = ap (λ (r : Option KeyValue). on_key_value r (λ a b c. a) from) both in
    let t : h.to ≡ to = ap (λ (r : Option KeyValue). on_key_value r (λ a b c. b) to) both in
    let colon : from.at ≡ at + length (key_at s at) + 3 = rw f at h.colon in
    let n : length (key_at s at) ≡ from.at - 3 - at = omega (arith, colon) in
    record {
      colon = omega (arith, colon);
      onward = rw (f, t) at h.onward;
      within = omega (arith, h.past, h.within, ap (λ (c : Cursor). c.at) t);
      key = key_part s at ∙ ap (λ (m : ℕ). take m (drop at s)) n;
      value = rw e;
    }

-- a part of the text is as long as its places are apart
part_long : (s : List ℕ) (a b : ℕ) → a ≤ b → b ≤ length s → length (take (b - a) (drop a s)) ≡ b - a
part_long s a b h k = length-take-le (b - a) (drop a s) (rw (length-drop a s) (omega arith))

module _ (s : List ℕ) (at : ℕ) (from to : Cursor) (h : Paired s at from to) where
  key-long : length (header_at s at).key ≡ from.at - 3 - at
  key-long = ap length h.key ∙ part_long s at (from.at - 3) (omega (arith, h.colon)) (omega (arith, h.onward, h.within))

  value-long : length (header_at s at).value ≡ to.at - from.at
  value-long = ap length h.value ∙ part_long s from.at to.at h.onward (omega (arith, h.within))

  pub entry-long : length (header_text (header_at s at ∷ [])) ≡ to.at - 3 - at
  entry-long = omega (arith, one-header (header_at s at), key-long, value-long, h.colon, h.onward)

-- where no pair stands there is no header line
pub no-line : (s : List ℕ) (at : ℕ) → is_header_line s at ≡ true → key_value_at s at ≡ None → ⊥
no-line s at l e = false≢true (sym (ap (λ (r : Option KeyValue). on_key_value r (λ from to next. true) false) e) ∙ l)

-- a header entry has fewer bytes than the text
pub entry-short : (s : List ℕ) (at : ℕ) → is_header_line s at ≡ true → length (header_text (header_at s at ∷ [])) ≤ length s
entry-short s at l = go (key_value_at s at) refl
  where
    go : (r : Option KeyValue) → key_value_at s at ≡ r → length (header_text (header_at s at ∷ [])) ≤ length s
    go (Some r) e = let h = paired s at r.from r.to r.next e in omega (arith, entry-long s at r.from r.to h, h.within)
    go None e = absurd (no-line s at l e)

-- ---- header entries at several places

-- p is the place that stands at i
places_more : (s ps : List ℕ) (i p : ℕ) → p ≡ get_or ps i 0 → i < length ps → headers_at s (drop i ps) ≡ header_at s p ∷ headers_at s (drop (i + 1) ps)
places_more s ps i p e h = ap (headers_at s) (drop_step ps i h) ∙ ap (λ (q : ℕ). header_at s q ∷ headers_at s (drop (i + 1) ps)) (sym e)

places_none : (s ps : List ℕ) (i : ℕ) → length ps ≤ i → headers_at s (drop i ps) ≡ []
places_none s ps i h = ap (headers_at s) (drop_of_length-le ps {i = i} h)

pub place-line : (s ps : List ℕ) (i p : ℕ) → HeaderLines s ps → p ≡ get_or ps i 0 → i < length ps → is_header_line s p ≡ true
place-line s ps i p l e h = rw e (l.each i h)

-- ---- counted

pub record Summing (s ps : List ℕ) (bytes i : ℕ) : Type 0 where
  pub sum : bytes + length (header_text (headers_at s (drop i ps))) ≡ length (header_text (headers_at s ps))
  pub small : bytes ≤ 65535 * i

pub summing_start : (s ps : List ℕ) → Summing s ps 0 0
summing_start s ps = record { sum = omega arith; small = omega arith }

module _ (s ps : List ℕ) {bytes : ℕ} (i : ℕ) (l : HeaderLines s ps) (v : Summing s ps bytes i) where
  pub summing_more : (p n : ℕ) → p ≡ get_or ps i 0 → i < length ps → n ≡ length (header_text (header_at s p ∷ [])) → Summing s ps (bytes + n) (i + 1)
  summing_more p n e h q =
      let rest = headers_at s (drop (i + 1) ps) in
      let m : length (header_text (headers_at s (drop i ps))) ≡ n + length (header_text rest) =
      ap (λ (hs : List Header). length (header_text hs)) (places_more s ps i p e h) ∙ keyed (header_at s p ∷ []) rest ∙ ap (λ (k : ℕ). k + length (header_text rest)) (sym q) in
      record {
        sum = omega (arith, m, v.sum);
        small = omega (arith, v.small, q, entry-short s p (place-line s ps i p l e h), l.short);
      }

  pub summing_done : length ps ≤ i → bytes ≡ length (header_text (headers_at s ps))
  unfolding concat
  summing_done h = omega (arith, v.sum, ap (λ (hs : List Header). length (header_text hs)) (places_none s ps i h))

-- ---- filled

-- the header entry of a line, by its key and its value
pub header_is : (s : List ℕ) (at : ℕ) (from to : Cursor) → Paired s at from to → header (take (from.at - 3 - at) (drop at s)) (text_between s from to) ≡ header_at s at
header_is s at from to h = sym (ap₂ header h.key h.value)

pub record Heading (s ps : List ℕ) (w₀ w : Walk) (i : ℕ) (o₀ o : List ℕ) : Type 0 where
  pub doing : Doing put_header (headers_at s ps) (headers_at s (drop i ps)) w₀ w o₀ o

pub heading_start : {s ps : List ℕ} {w : Walk} {o : List ℕ} → Heading s ps w w 0 o o
heading_start = record { doing = doing_start }

module _ {s ps : List ℕ} {w₀ w : Walk} {i : ℕ} {o₀ o : List ℕ} (h : Heading s ps w₀ w i o₀ o) where
  pub heading_step : {w' : Walk} {o' : List ℕ} (p : ℕ) → p ≡ get_or ps i 0 → i < length ps → w' ≡ (put_header (header_at s p) w o).walk
      → o' ≡ (put_header (header_at s p) w o).buffer → Heading s ps w₀ w' (i + 1) o₀ o'
  heading_step p e k a b = record { doing = doing_step (header_at s p) (header-size (header_at s p) w o) (doing_as (places_more s ps i p e k) h.doing) a b }

  pub heading_done : length ps ≤ i → (w ≡ (put_headers (headers_at s ps) w₀ o₀).walk) × (o ≡ (put_headers (headers_at s ps) w₀ o₀).buffer)
  heading_done k = doing_done (doing_as (places_none s ps i k) h.doing)
