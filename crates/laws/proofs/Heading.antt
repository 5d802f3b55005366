-- The header entries of a reading: keys and values are parts of the text between two characters, so they are valid UTF-8, and keys ascend,
-- since the entries are kept by key.
-- Assumes nothing.
use Rattle.std.specs.Prelude.{Option, Some, None}
use Prim.Native.Nat.{ℕ, zero, suc, ◌+◌, ◌-◌, ◌<◌}
use native.Mathlib.Numerals.{add-one}
use native.Mathlib.Omega.{arith}
use mathlib.Core.Path.{◌≡◌, refl, sym, ap, ◌∙◌, subst}
use mathlib.Core.List.{List, [], ◌∷◌, ◌++◌}
use mathlib.Core.Bool.{Bool, true, false, true≢false}
use lib.ListN.{length, get_or}
use lib.Dec.{eqb, ltb}
use borrow.Author.Tests.{ltb-true, ltb-false, eq-eqb}
use Rattle.lists.specs.All.{All, none, next}
use Rattle.lists.specs.Pick.{pick}
use Rattle.lists.specs.Test.{each, claim}
use Rattle.lists.proofs.Laws.{by_pick}
use Rattle.text.specs.Text.{key_at, before}
use Rattle.text.specs.Utf8.{well_formed_bytes}
use Rattle.text.proofs.Laws.{tail_from, break_after}
use Rattle.text.proofs.Boundaries.{boundary_colon, boundary_tail, part_well, key_part, key_well}
use Rattle.sorted.specs.Sorted.{on_order, compared, by_bytes}
use Rattle.sorted.specs.inner.Orders.{Ascending}
use Rattle.std.specs.declared.cmp.Ordering.{Ordering}
use Rattle.std.specs.declared.cmp.Ordering.TheVariants.{Less, Equal, Greater}
use Rattle.sorted.proofs.Orders.{bytes_chain, bytes_flip}
use Rattle.sorted.proofs.Kept.{enter_all-all, enter_all_ascending}
use Rattle.jkf.specs.Model.{Header}
use Rattle.block.specs.Encode.{table, header_row, header_step, header_text}
use Rattle.block.specs.Sound.{valid}
use Rattle.block.specs.Formed.{header_of, header_fits}
use Rattle.moves.proofs.Smalls.{Bytes, empty, bytes-join, bytes_16, bytes-from, bytes_take, bytes_drop}
use Rattle.kakinoki.specs.Informations.{on_key_value, text_between, key_value_at, header_at}
use Rattle.kakinoki.specs.Starts.{headers_said, header_places}
use Rattle.kakinoki.specs.declared.KeyValue.{KeyValue}
use Rattle.kakinoki.proofs.Heads.{headers-said}
use Rattle.parser.specs.Parse.{by_header, headers_of}
use Rattle.parser.proofs.Alls.{all-at, all_any, all_map}
use Rattle.laws.proofs.Smalling.{bytes-concat, bytes-table}
use Rattle.laws.proofs.Breaking.{pair_parts, Headline, headlines}

-- ---- what holds of all header entries

-- what holds of the entry of each header line
headers-all : (s : List ℕ) (P : Header → Type 0) → All (λ at. P (header_at s at)) (header_places s) → All P (headers_of s)
unfolding headers_of
headers-all s P h =
    enter_all-all by_header P [] (headers_said s) none (subst (All P) (headers-said s) (all_map (header_at s) h))

-- ---- texts are valid

abbrev Valid : Header → Type 0
Valid h = claim (valid h.key) × claim (valid h.value)

module _ (s : List ℕ) (w : well_formed_bytes s ≡ length s) where
  header-valid : (at : ℕ) → Headline s w at → Valid (header_at s at)
  unfolding header_at
  header-valid at h =
      let l = h.line in
      let from = l.from in
      let to = l.to in
      let p = pair_parts s at from to h.end l.is in
      let a = break_after s to.at h.end p.over in
      let value = part_well s from.at to.at w (boundary_colon s (at + length (key_at s at)) from w p.colon).1 (boundary_tail s from.at to h.end p.tail p.over)
      (tail_from s from.at to p.tail) (omega (arith, a.past, a.within)) in (
        key_well s at from w h.start p.colon,
        subst (λ (r : Option KeyValue). claim (valid (on_key_value r (λ from to end. text_between s from to) []))) (sym l.is) value,
      )

  all_valid : {l : List ℕ} → All (Headline s w) l → All (λ at. Valid (header_at s at)) l
  all_valid none = none
  all_valid (next {x} h t) = next (header-valid x h) (all_valid t)

  headers-valid : All Valid (headers_of s)
  headers-valid = headers-all s Valid (all_valid (headlines s w))

-- ---- keys ascend

not_less : {A : Type 0} (o : Ordering) → on_order o false true true ≡ true → o ≡ Less → A
not_less o h e = absurd (true≢false (sym h ∙ ap (λ (p : Ordering). on_order p false true true) e))

less_before : (a b : List ℕ) → by_bytes a b ≡ Less → before a b ≡ true
unfolding by_bytes compared before
less_before [] [] e = not_less Equal refl e
less_before [] (y ∷ b) e = refl
less_before (x ∷ a) [] e = not_less Greater refl e
less_before (x ∷ a) (y ∷ b) e = go (ltb x y) refl (ltb y x) refl (less_before a b) e
  where
    go : (t : Bool) → ltb x y ≡ t → (u : Bool) → ltb y x ≡ u → (by_bytes a b ≡ Less → before a b ≡ true)
        → on_order (pick t Less (pick u Greater Equal)) Less (by_bytes a b) Greater ≡ Less → pick (ltb x y) true (pick (eqb x y) (before a b) false) ≡ true
    go true p u q ih e = rw p
    go false p true q ih e = not_less Greater refl e
    go false p false q ih e =
        let same : x ≡ y = omega (arith, ltb-false x y p, ltb-false y x q) in
        rw (p, eq-eqb x y same, ih e)

headers_ascend : (s : List ℕ) → Ascending by_header (headers_of s)
unfolding headers_of
headers_ascend s =
    enter_all_ascending by_header (λ x y z. bytes_chain x.key y.key z.key) (λ x y. bytes_flip x.key y.key) [] (headers_said s) tt

-- each before the next
next-before : (hs : List Header) → Ascending by_header hs → (k : ℕ) → suc k < length hs → before (header_of hs k).key (header_of hs (suc k)).key ≡ true
next-before [] a k h = absurd (omega arith)
next-before (x ∷ []) a k h = absurd (omega arith)
next-before (x ∷ y ∷ hs) a zero h = less_before x.key y.key (all-at y a.0 0 (omega arith))
next-before (x ∷ y ∷ hs) a (suc k) h = next-before (y ∷ hs) a.1 k (omega arith)

pub headers_fit : (s : List ℕ) → well_formed_bytes s ≡ length s → claim (each (length (headers_of s)) (header_fits (headers_of s)))
headers_fit s w k h =
    let hs = headers_of s in
    let (key, value) = all-at (record { key = []; value = [] }) (headers-valid s w) k h in (
      key,
      (
        value,
        by_pick (λ (t : Bool). t ≡ true) (ltb (k + 1) (length hs)) _ true
            (λ t. let l : k + 1 < length hs = ltb-true (k + 1) (length hs) t in
            subst (λ (j : ℕ). before (header_of hs k).key (header_of hs j).key ≡ true) (sym (add-one k)) (next-before hs (headers_ascend s) k (omega arith)))
            (λ _. refl),
      ),
    )

-- ---- all of it is bytes

pub headers-bytes : (n : ℕ) (hs : List Header) → Bytes (table header_row header_step n hs)
headers-bytes n hs = bytes-table header_row header_step (all_any row hs) n
  where
    row : (h : Header) (t : ℕ) → Bytes (header_row t h)
    row h t =
        bytes-join (bytes-join (bytes-join (bytes_16 t) (bytes_16 (length h.key))) (bytes_16 (t + length h.key))) (bytes_16 (length h.value))

module _ (s : List ℕ) (b : (k : ℕ) → get_or s k 0 < 256) where
  key-bytes : (at : ℕ) → Bytes (key_at s at)
  key-bytes at = subst Bytes (sym (key_part s at)) (bytes_take (length (key_at s at)) (bytes_drop at (bytes-from s b)))

  value-bytes : (r : Option KeyValue) → Bytes (on_key_value r (λ from to end. text_between s from to) [])
  value-bytes (Some r) = bytes_take (r.to.at - r.from.at) (bytes_drop r.from.at (bytes-from s b))
  value-bytes None = empty

  header-bytes : (at : ℕ) → Bytes ((header_at s at).key ++ (header_at s at).value)
  unfolding header_at
  header-bytes at = bytes-join (key-bytes at) (value-bytes (key_value_at s at))

  pub header-text-bytes : Bytes (header_text (headers_of s))
  header-text-bytes =
      bytes-concat (λ (h : Header). h.key ++ h.value) (headers-all s (λ h. Bytes (h.key ++ h.value)) (all_any header-bytes (header_places s)))
