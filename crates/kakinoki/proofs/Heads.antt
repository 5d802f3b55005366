-- The places of the header lines before the moves: what is read at each is a header line, these are the header entries, and each line
-- takes five bytes or more.
-- Assumes nothing.
use Prim.Native.Nat.{ℕ, zero, suc, ◌+◌, ◌*◌, ◌≤◌, ◌<◌}
use native.Mathlib.Omega.{arith}
use mathlib.Core.Path.{◌≡◌, refl, ap, ◌∙◌}
use mathlib.Core.List.{List, [], ◌∷◌, ◌++◌, map, map-append}
use mathlib.Core.Bool.{true, false≢true}
use lib.ListN.{length, get_or, length-append}
use Rattle.lists.specs.Repeat.{Step, more, stop, ended, on_step, many_from}
use Rattle.lists.proofs.Laws.{by_pick}
use Rattle.text.specs.declared.Cursor.{Cursor}
use Rattle.jkf.specs.Model.{Header}
use Rattle.kakinoki.specs.Informations.{header_at, Said, is_line, said_of, hash_lines_at, information_item, informations_at, pairs_of, keyed_place, header_places_from, header_places_at}
use Rattle.kakinoki.specs.Starts.{first_block, diagram, second_place, headers_said, header_places}
use Rattle.kakinoki.specs.declared.Info.{Info}
use Rattle.kakinoki.specs.declared.Info.TheVariants.{Preset, Turn, Hands, Keyed, Refused, Nothing}
use Rattle.kakinoki.proofs.Lines.{HeaderLine}
use Rattle.kakinoki.proofs.Items.{line_at, item, keyed_line}
use Rattle.kakinoki.proofs.Places.{place_at, block_five, block_within}
use Rattle.kakinoki.proofs.Diagrams.{board-from}

-- ---- they are the header entries

module _ (s : List ℕ) where
  line-said : (i : Info) (counts : List ℕ) (at : ℕ) (ps : List ℕ) (xs : List Said) → is_line i ≡ true → map (header_at s) ps ≡ pairs_of xs
      → map (header_at s) (keyed_place i at ++ ps) ≡ pairs_of (said_of i counts (header_at s at) ∷ xs)
  unfolding pairs_of
  line-said (Preset n) counts at ps xs t e = e
  line-said (Turn n) counts at ps xs t e = e
  line-said (Hands side) counts at ps xs t e = e
  line-said Keyed counts at ps xs t e = ap (λ (l : List Header). header_at s at ∷ l) e
  line-said Refused counts at ps xs t e = absurd (false≢true t)
  line-said Nothing counts at ps xs t e = absurd (false≢true t)

  from-said : (k at : ℕ) → map (header_at s) (header_places_from s k at) ≡ pairs_of (many_from (information_item s) k at).state
  unfolding header_places_from many_from
  from-said zero at = unfold pairs_of in refl
  from-said (suc k) at = go (information_item s at) refl (from-said k)
    where
      go : (r : Step Said) → information_item s at ≡ r → ((next : ℕ) → map (header_at s) (header_places_from s k next) ≡ pairs_of (many_from (information_item s) k next).state)
          → map (header_at s) (on_step r (λ next x. place_at s at ++ header_places_from s k next) [])
          ≡ pairs_of (on_step r (λ next x. let m = many_from (information_item s) k next in ended m.at (x ∷ m.state)) (ended at [])).state
      go (more next x) e ih =
          let i = item s at next x e in
          line-said (line_at s at).info (line_at s at).counts (hash_lines_at s at) _ _ i.line (ih next)
          ∙ ap (λ (y : Said). pairs_of (y ∷ (many_from (information_item s) k next).state)) i.says
      go stop e ih = unfold pairs_of in refl

  pub block_said : (at : ℕ) → map (header_at s) (header_places_at s at) ≡ pairs_of (informations_at s at).state
  unfolding header_places_at informations_at
  block_said at = from-said (length s) at

pub headers-said : (s : List ℕ) → map (header_at s) (header_places s) ≡ headers_said s
unfolding header_places headers_said
headers-said s =
    map-append (header_at s) (header_places_at s 0) (header_places_at s (second_place s))
    ∙ ap (λ (l : List Header). l ++ map (header_at s) (header_places_at s (second_place s))) (block_said s 0)
    ∙ ap (λ (l : List Header). pairs_of (first_block s).state ++ l) (block_said s (second_place s))

-- ---- each is a header line

-- P holds of each element
abbrev Every : (ℕ → Type 0) → List ℕ → Type 0
Every P [] = Unit {0}
Every P (x ∷ l) = P x × Every P l

module _ (P : ℕ → Type 0) where
  every_append : (a b : List ℕ) → Every P a → Every P b → Every P (a ++ b)
  every_append [] b h k = k
  every_append (x ∷ a) b h k = (h.0, every_append a b h.1 k)

  every_at : (l : List ℕ) → Every P l → (i : ℕ) → i < length l → P (get_or l i 0)
  every_at [] h i n = absurd (omega arith)
  every_at (x ∷ l) h zero n = h.0
  every_at (x ∷ l) h (suc i) n = every_at l h.1 i (omega arith)

-- a header line begins at a place
pub record Begins (s : List ℕ) (at : ℕ) : Type 0 where
  pub next : Cursor
  pub line : HeaderLine s at next
  pub far : at + 5 ≤ next.at
  pub inside : at < length s

begins : {s : List ℕ} {at : ℕ} {next : Cursor} → HeaderLine s at next → Begins s at
begins {s} {at} {next} h =
    let k = h.named in
    let c = h.colon in
    let o = h.onward in
    let p = h.past in
    let w = h.within in
    record { next = next; line = h; far = omega arith; inside = omega arith }

module _ (s : List ℕ) where
  place-begins : (at : ℕ) → Every (Begins s) (place_at s at)
  place-begins at = go (line_at s at).info refl
    where
      go : (i : Info) → (line_at s at).info ≡ i → Every (Begins s) (keyed_place i (hash_lines_at s at))
      go (Preset n) e = tt
      go (Turn n) e = tt
      go (Hands side) e = tt
      go Keyed e = (begins (keyed_line s (hash_lines_at s at) e), tt)
      go Refused e = tt
      go Nothing e = tt

  from-begins : (k at : ℕ) → Every (Begins s) (header_places_from s k at)
  unfolding header_places_from
  from-begins zero at = tt
  from-begins (suc k) at = go (information_item s at) (from-begins k)
    where
      go : (r : Step Said) → ((next : ℕ) → Every (Begins s) (header_places_from s k next))
          → Every (Begins s) (on_step r (λ next x. place_at s at ++ header_places_from s k next) [])
      go (more next x) ih = every_append (Begins s) (place_at s at) (header_places_from s k next) (place-begins at) (ih next)
      go stop ih = tt

  block_begins : (at : ℕ) → Every (Begins s) (header_places_at s at)
  unfolding header_places_at
  block_begins at = from-begins (length s) at

  pub header-begins : (i : ℕ) → i < length (header_places s) → Begins s (get_or (header_places s) i 0)
  unfolding header_places
  header-begins i n =
      every_at (Begins s) (header_places_at s 0 ++ header_places_at s (second_place s))
      (every_append (Begins s) (header_places_at s 0) (header_places_at s (second_place s)) (block_begins 0) (block_begins (second_place s))) i n

-- ---- how many there are

-- the second block begins where the first ends, or past the diagram there
pub second_from : (s : List ℕ) → (first_block s).at ≤ second_place s
second_from s =
    by_pick (λ (n : ℕ). (first_block s).at ≤ n) (diagram s).there (diagram s).next.at (first_block s).at (board-from s (first_block s).at) (λ _. omega arith)

pub headers-few : (s : List ℕ) → 5 * length (header_places s) ≤ length s
unfolding header_places
headers-few s =
    omega (arith, length-append (header_places_at s 0) (header_places_at s (second_place s)), block_five s 0, block_within s 0, second_from s, block_five s (second_place s), block_within s (second_place s))
