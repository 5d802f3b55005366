-- What is known before a block is stored: which lines are header lines, and how long the block is.
-- Assumes nothing.
use Rattle.std.specs.Prelude.{Option}
use Prim.Native.Nat.{ℕ, suc, ◌+◌, ◌*◌, ◌≤◌, ◌<◌}
use native.Mathlib.Omega.{arith}
use mathlib.Core.Path.{◌≡◌, refl, sym, ap, ◌∙◌, subst}
use mathlib.Core.List.{List, [], ◌∷◌}
use mathlib.Core.Bool.{true, false}
use lib.ListN.{length, get_or, length-map}
use Rattle.jkf.specs.declared.Position.{Position}
use Rattle.jkf.specs.Model.{Header, Noted}
use Rattle.jkf.specs.Attaching.{attach}
use Rattle.block.specs.Encode.{concat, header_text, entries_of, comments_of, comment_text}
use Rattle.filling.specs.Filling.{length_of}
use Rattle.filling.specs.declared.Sizes.{Sizes}
use Rattle.filling.proofs.Texts.{keyed}
use Rattle.filling.proofs.Putting.{small_enough, length_is}
use Rattle.sorted.specs.Sorted.{by_key, enter_all, kept}
use Rattle.sorted.proofs.Merges.{enter-map}
use Rattle.sorted.proofs.Kept.{kept-all, kept-length}
use Rattle.kakinoki.specs.Informations.{on_key_value, header_at}
use Rattle.kakinoki.specs.Starts.{header_places, start_read}
use Rattle.kakinoki.specs.declared.KeyValue.{KeyValue}
use Rattle.kakinoki.proofs.Bounds.{moves-within}
use Rattle.kakinoki.proofs.Heads.{headers-said, header-begins, headers-few}
use Rattle.plays.specs.Plays.{plays_at}
use Rattle.parser.specs.inner.Headers.{is_header_line, HeaderLines, headers_at}
use Rattle.parser.specs.inner.Lines.{extents_at}
use Rattle.parser.specs.Parse.{by_header, headers_of, parse, needed}
use Rattle.parser.specs.inner.Stores.{Prepared, parsed_sizes}
use Rattle.parser.specs.declared.Extents.{Extents}
use Rattle.parser.proofs.Alls.{all-at, index_all}
use Rattle.parser.proofs.Sizing.{sizes-small}
use Rattle.parser.proofs.Headed.{entry-short}
use Rattle.block.proofs.Attached.{attach-length, attach-entries}

-- ---- header lines

pub header-lines : (s : List ℕ) → length s ≤ 65535 → HeaderLines s (kept s (header_places s))
header-lines s h =
    let P : ℕ → Type 0 = λ at. is_header_line s at ≡ true in
    record {
      short = h;
      few = omega (arith, kept-length s (header_places s), headers-few s);
      each =
          all-at 0
          (kept-all s (header_places s) P
          (index_all P 0 (header_places s) (λ i k. ap (λ (x : Option KeyValue). on_key_value x (λ from to next. true) false) (header-begins s i k).line.is)));
    }

-- the record's header entries are those of the places by key
pub headers_are : (s : List ℕ) → headers_of s ≡ headers_at s (kept s (header_places s))
unfolding headers_of kept
headers_are s = ap (enter_all by_header []) (sym (headers-said s)) ∙ sym (enter-map (by_key s) by_header (header_at s) same [] (header_places s))
  where
    same : (p q : ℕ) → by_key s p q ≡ by_header (header_at s p) (header_at s q)
    same p q = unfold header_at in refl

-- ---- how long the block is

pub sizes_are : (s : List ℕ) (z : Extents) (hs : List ℕ) (n : ℕ) → z ≡ extents_at s (start_read s).next.at → hs ≡ kept s (header_places s) → n ≡ length (header_text (headers_at s hs))
    → ◌≡◌ {A = Sizes}
    (record { headers = length hs; lines = z.lines; entries = z.entries; comments = z.comments; bytes = n + z.bytes })
    (parsed_sizes (parse s))
unfolding parse extents_at
sizes_are s z hs n e h t =
    let ps = (plays_at s (start_read s).next.at).state in
    let k : length hs ≡ length (headers_of s) = ap length h ∙ sym (length-map (kept s (header_places s)) (header_at s)) ∙ ap length (sym (headers_are s)) in
    let m : n ≡ length (header_text (headers_of s)) = t ∙ ap (λ (l : List ℕ). length (header_text (headers_at s l))) h ∙ ap (λ (l : List Header). length (header_text l)) (sym (headers_are s)) in
    let f = attach-entries ps in
    let a : z.lines ≡ length (attach ps) = ap (λ (y : Extents). y.lines) e ∙ sym (attach-length ps) in
    let b : z.entries ≡ length (entries_of (attach ps)) = ap (λ (y : Extents). y.entries) e ∙ ap length (sym f) in
    let c : z.comments ≡ length (comments_of (entries_of (attach ps))) = ap (λ (y : Extents). y.comments) e ∙ ap (λ (l : List Noted). length (comments_of l)) (sym f) in
    let d : z.bytes ≡ length (comment_text (comments_of (entries_of (attach ps)))) = ap (λ (y : Extents). y.bytes) e ∙ ap (λ (l : List Noted). length (comment_text (comments_of l))) (sym f) in
    rw (k, a, b, c, d, m)

-- and how much is taken
pub taken_is : (s : List ℕ) (z : Extents) → z ≡ extents_at s (start_read s).next.at → z.next.at ≡ (parse s).taken
unfolding parse extents_at
taken_is s z e = ap (λ (y : Extents). y.next.at) e

-- the header texts are not longer than as many texts
pub headers-short : (s ps : List ℕ) → HeaderLines s ps → length (header_text (headers_at s ps)) ≤ 65535 * length ps
unfolding concat
headers-short s ps h = go ps (λ i k. h.each i k)
  where
    go : (l : List ℕ) → ((i : ℕ) → i < length l → is_header_line s (get_or l i 0) ≡ true) → length (header_text (headers_at s l)) ≤ 65535 * length l
    go [] f = omega arith
    go (x ∷ l) f =
        omega (arith, keyed (header_at s x ∷ []) (headers_at s l), entry-short s x (f 0 (omega arith)), h.short, go l (λ i k. f (suc i) (omega arith)))

-- ---- the numbers are small

pub record Bounds (hs : ℕ) (z : Extents) (n : ℕ) : Type 0 where
  pub headers : hs ≤ 13107
  pub lines : z.lines ≤ 65536
  pub entries : z.entries ≤ 65536
  pub comments : z.comments ≤ 65535
  pub bytes : z.bytes ≤ 65535
  pub text : n ≤ 859034745

pub bounds : {s : List ℕ} {p : Position} {at : ℕ} {hs : List ℕ} (z : Extents) → Prepared s p at hs → z ≡ extents_at s at → Bounds (length hs) z (length (header_text (headers_at s hs)))
bounds {s} {p} {at} {hs} z f e =
    let h = subst (HeaderLines s) (sym f.headers) (header-lines s f.short) in
    let w : at ≤ length s = omega (arith, f.place, moves-within s) in
    let b = sizes-small s at w in
    record {
      headers = h.few;
      lines = omega (arith, b.lines, f.short, ap (λ (y : Extents). y.lines) e);
      entries = omega (arith, b.entries, f.short, ap (λ (y : Extents). y.entries) e);
      comments = omega (arith, b.comments, f.short, ap (λ (y : Extents). y.comments) e);
      bytes = omega (arith, b.bytes, f.short, ap (λ (y : Extents). y.bytes) e);
      text = omega (arith, headers-short s hs h, h.few);
    }

-- the block of what a text says is as long as is told
pub needed-length : {s : List ℕ} {p : Position} {at : ℕ} {hs : List ℕ} → Prepared s p at hs → length_of (parsed_sizes (parse s)) ≡ needed (parse s)
unfolding needed
needed-length {s} {p} {at} {hs} f =
    let z = extents_at s (start_read s).next.at in
    let b = bounds (extents_at s at) f refl in
    let e = sizes_are s z hs (length (header_text (headers_at s hs))) refl f.headers refl in
    let q = ap (extents_at s) f.place in
    let h = ap (λ (y : Sizes). y.headers) e in
    let l = ap (λ (y : Sizes). y.lines) e in
    let m = ap (λ (y : Sizes). y.entries) e in
    let c = ap (λ (y : Sizes). y.comments) e in
    let t = ap (λ (y : Sizes). y.bytes) e in
    sym (length_is (parsed_sizes (parse s)) (small_enough (parsed_sizes (parse s))
    (record {
      headers = omega (arith, b.headers, h);
      lines = omega (arith, b.lines, l, ap (λ (y : Extents). y.lines) q);
      entries = omega (arith, b.entries, m, ap (λ (y : Extents). y.entries) q);
      comments = omega (arith, b.comments, c, ap (λ (y : Extents). y.comments) q);
      bytes = omega (arith, b.bytes, b.text, t, ap (λ (y : Extents). y.bytes) q);
    })))
