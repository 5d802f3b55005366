-- Where header lines begin: at the start of the text, or past a break. Information lines, # lines and the diagram all end in a break, so
-- in a well-formed text each header line begins between two characters.
-- Assumes nothing.
use Rattle.std.specs.Prelude.{Option, Some, None}
use Prim.Native.Nat.{ℕ, zero, suc, ◌+◌}
use mathlib.Core.Path.{◌≡◌, refl, subst}
use mathlib.Core.List.{List, [], ◌∷◌, ◌++◌}
use mathlib.Core.Bool.{true, false≢true}
use lib.ListN.{length}
use lib.Dec.{eqb}
use Rattle.lists.specs.All.{All, none, next}
use Rattle.lists.specs.Repeat.{Step, more, stop, ended, on_step, many_from}
use Rattle.lists.proofs.Laws.{by_pick}
use Rattle.text.specs.Text.{cursor, on_place, tag_at, break_at, tail_at, line_end_at, padding_at, wide_colon, key_at}
use Rattle.text.specs.Utf8.{well_formed_bytes}
use Rattle.text.specs.declared.Cursor.{Cursor}
use Rattle.text.proofs.Laws.{place_back}
use Rattle.text.proofs.Answers.{by_place, by_past}
use Rattle.text.proofs.Boundaries.{Boundary, boundary_start, boundary_break}
use Rattle.spell.specs.Tables.{presets, sides}
use Rattle.spell.proofs.Answers.{OnSpelled, is_as, is_not, by_spelled, first_known}
use Rattle.kakinoki.specs.Informations.{on_held, on_key_value, hash_line_at, hash_item, hash_lines_at, padded_end_at, ends_line, preset_line_at, turn_line_at, empty_hand, hand_at, held_at, hand_line_at, value_at, key_value_at, Said, information, keyed_at, hands_or_keyed_at, information_at, is_line, information_item, informations_at, keyed_place, header_places_from, header_places_at}
use Rattle.spell.specs.Words.{preset_tag, turn_tag, hands_tag, files_tag, rule_tag}
use Rattle.kakinoki.specs.Boards.{no_cells, no_board, rows_from, ruled_at, board_at}
use Rattle.kakinoki.specs.Starts.{first_block, diagram, second_place, header_places}
use Rattle.kakinoki.specs.declared.HandSaid.{HandSaid}
use Rattle.kakinoki.specs.declared.Held.{Held}
use Rattle.kakinoki.specs.declared.Held.TheVariants.{By, Unreadable, NoHand}
use Rattle.kakinoki.specs.declared.KeyValue.{KeyValue}
use Rattle.kakinoki.specs.declared.Info.{Info}
use Rattle.kakinoki.specs.declared.Info.TheVariants.{Preset, Turn, Hands, Keyed, Refused, Nothing}
use Rattle.kakinoki.specs.declared.Information.{Information}
use Rattle.kakinoki.specs.declared.Board.{Board}
use Rattle.kakinoki.proofs.Lines.{OnHeld, HeaderLine}
use Rattle.kakinoki.proofs.Items.{line_at, item, keyed_line}
use Rattle.kakinoki.proofs.Places.{place_at}
use Rattle.parser.proofs.Alls.{all_append}
use Rattle.plays.proofs.Items.{on-more, no_more}

-- what every item keeps holds where the items end
many_keeps : {A : Type 0} (item : ℕ → Step A) (P : ℕ → Type 0) → ((at to : ℕ) (a : A) → item at ≡ more to a → P to)
    → (n at : ℕ) → P at → P (many_from item n at).at
unfolding many_from
many_keeps item P h zero at p = p
many_keeps {A} item P h (suc n) at p = go (item at) refl (many_keeps item P h n)
  where
    go : (r : Step A) → item at ≡ r → ((to : ℕ) → P to → P (many_from item n to).at)
        → P (on_step r (λ to a. let q = many_from item n to in ended q.at (a ∷ q.state)) (ended at [])).at
    go (more to a) e ih = ih to (h at to a e)
    go stop e ih = p

-- ---- the parts of a header line

pub record HeaderParts (s : List ℕ) (at : ℕ) (from to end : Cursor) : Type 0 where
  pub colon : tag_at wide_colon s (at + length (key_at s at)) ≡ Some from
  pub tail : tail_at s from.at ≡ Some to
  pub over : break_at s to.at ≡ Some end

abbrev OnPair : (Cursor → Cursor → Cursor → Type 0) → Option KeyValue → Type 0
OnPair P (Some p) = P p.from p.to p.next
OnPair P None = Unit {0}

parts_known : (s : List ℕ) (at : ℕ) → OnPair (HeaderParts s at) (key_value_at s at)
unfolding key_value_at value_at
parts_known s at =
    by_pick Q (eqb (length (key_at s at)) 0) None (value_at s (at + length (key_at s at))) (λ _. tt)
    (λ _. by_past Q tt (tag_at wide_colon s (at + length (key_at s at)))
    (λ from p. by_past Q tt (tail_at s from.at)
    (λ to q. by_past Q tt (break_at s to.at) (λ end r. record { colon = p; tail = q; over = r }))))
  where
    Q : Option KeyValue → Type 0
    Q = OnPair (HeaderParts s at)

pub pair_parts : (s : List ℕ) (at : ℕ) (from to end : Cursor) → key_value_at s at ≡ Some (record { from = from; to = to; next = end }) → HeaderParts s at from to end
pair_parts s at from to end e = subst (OnPair (HeaderParts s at)) e (parts_known s at)

-- ---- past a break

module _ (s : List ℕ) (w : well_formed_bytes s ≡ length s) where
  abbrev Bound : Cursor → Type 0
  Bound c = Boundary s c.at

  break_bound : (at : ℕ) (c : Cursor) → break_at s at ≡ Some c → Bound c
  break_bound at c e = (boundary_break s at c w e).1

  -- # lines
  hash_bound : (at : ℕ) (c : Cursor) → hash_line_at s at ≡ Some c → Bound c
  unfolding hash_line_at line_end_at
  hash_bound at c e =
      let (d, _, q) = place_back (tag_at (35 ∷ []) s at) (λ d. line_end_at s d.at) c e in
      let (f, _, r) = place_back (tail_at s d.at) (λ f. break_at s f.at) c q in
      break_bound f.at c r

  hashes_bound : (at : ℕ) → Boundary s at → Boundary s (hash_lines_at s at)
  unfolding hash_lines_at
  hashes_bound at = many_keeps (hash_item s) (Boundary s) (λ at to a. go at to a (hash_line_at s at) refl) (length s) at
    where
      go : (at to : ℕ) (a : Unit {0}) (r : Option Cursor) → hash_line_at s at ≡ r → on_place r (λ c. more c.at tt) stop ≡ more to a → Boundary s to
      go at to a (Some c) p e = subst (Boundary s) (on-more e) (hash_bound at c p)
      go at to a None p e = no_more e

  -- information lines
  padded_bound : (at : ℕ) (c : Cursor) → padded_end_at s at ≡ Some c → Bound c
  unfolding padded_end_at
  padded_bound at c e = break_bound (padding_at s at) c e

  abbrev SpelledBound : Option (ℕ × Cursor) → Type 0
  SpelledBound = OnSpelled (λ n c. Bound c)

  ends_bound : (n at : ℕ) → SpelledBound (ends_line s n at)
  ends_bound n at = by_past SpelledBound is_not (padded_end_at s at) (λ e p. is_as (padded_bound at e p))

  preset_bound : (at : ℕ) → SpelledBound (preset_line_at s at)
  unfolding preset_line_at
  preset_bound at =
      by_place SpelledBound is_not (tag_at preset_tag s at) (λ c. by_spelled SpelledBound is_not (first_known 17 presets refl s c.at) (λ n d k. ends_bound n d.at))

  turn_bound : (at : ℕ) → SpelledBound (turn_line_at s at)
  unfolding turn_line_at
  turn_bound at =
      by_spelled SpelledBound is_not (first_known 2 sides refl s at) (λ n c k. by_place SpelledBound is_not (tag_at turn_tag s c.at) (λ d. ends_bound n d.at))

  abbrev HeldBound : HandSaid → Type 0
  HeldBound l = OnHeld Bound l.held

  held_bound : (side at : ℕ) → HeldBound (held_at side s at)
  unfolding held_at
  held_bound side at = by_past HeldBound tt (padded_end_at s (hand_at s at).next.at) (λ e p. padded_bound (hand_at s at).next.at e p)

  hand-line_bound : (at : ℕ) → HeldBound (hand_line_at s at)
  unfolding hand_line_at
  hand-line_bound at =
      by_spelled HeldBound tt (first_known 2 sides refl s at) (λ side c k. by_place HeldBound tt (tag_at hands_tag s c.at) (λ d. held_bound side d.at))

  abbrev LineBound : Information → Type 0
  LineBound i = is_line i.info ≡ true → Bound i.next

  keyed_bound : (at : ℕ) → LineBound (keyed_at s at)
  unfolding keyed_at
  keyed_bound at = go (key_value_at s at) refl
    where
      go : (r : Option KeyValue) → key_value_at s at ≡ r → LineBound (on_key_value r (λ from to end. information Keyed empty_hand end) (information Nothing empty_hand (cursor at)))
      go (Some r) e _ = break_bound r.to.at r.next (pair_parts s at r.from r.to r.next e).over
      go None e t = absurd (false≢true t)

  hands_bound : (at : ℕ) → LineBound (hands_or_keyed_at s at)
  unfolding hands_or_keyed_at
  hands_bound at = go (hand_line_at s at).held (hand-line_bound at)
    where
      go : (h : Held) → OnHeld Bound h
          → LineBound (on_held h (λ side c. information (Hands side) (hand_line_at s at).counts c) (information Refused empty_hand (cursor at)) (keyed_at s at))
      go (By side c) b _ = b
      go Unreadable b t = absurd (false≢true t)
      go NoHand b t = keyed_bound at t

  line_bound : (at : ℕ) → LineBound (information_at s at)
  unfolding information_at
  line_bound at = by_spelled LineBound (by_spelled LineBound (hands_bound at) (turn_bound at) (λ n c b _. b)) (preset_bound at) (λ n c b _. b)

  item_bound : (at to : ℕ) (x : Said) → information_item s at ≡ more to x → Boundary s to
  item_bound at to x e = let i = item s at to x e in subst (Boundary s) i.to (line_bound (hash_lines_at s at) i.line)

  block_bound : (at : ℕ) → Boundary s at → Boundary s (informations_at s at).at
  unfolding informations_at
  block_bound at b = many_keeps (information_item s) (Boundary s) item_bound (length s) at b

  -- the diagram
  abbrev BoardBound : Board → Type 0
  BoardBound b = b.there ≡ true → Bound b.next

  no-board : BoardBound no_board
  no-board t = absurd (false≢true t)

  board_bound : (at : ℕ) → BoardBound (board_at s at)
  unfolding board_at
  board_bound at =
      by_place BoardBound no-board (ruled_at files_tag s at)
      (λ c. by_place BoardBound no-board (ruled_at rule_tag s c.at)
      (λ d. let b : Board = rows_from s 0 9 d.at no_cells in
      by_pick BoardBound b.there _ no_board
      (λ _. by_past BoardBound no-board (ruled_at rule_tag s b.next.at)
      (λ f e _. let (g, _, q) = place_back (tag_at rule_tag s b.next.at) (λ g. break_at s g.at) f e in
      break_bound g.at f q))
      (λ _. no-board)))

  second_bound : Boundary s (second_place s)
  second_bound =
      by_pick (Boundary s) (diagram s).there (diagram s).next.at (first_block s).at (board_bound (first_block s).at)
      (λ _. block_bound 0 (boundary_start s w))

  -- ---- the header lines

  -- a header line, which begins between two characters
  pub record Headline (at : ℕ) : Type 0 where
    pub start : Boundary s at
    pub end : Cursor
    pub line : HeaderLine s at end

  place_headline : (at : ℕ) → Boundary s at → All Headline (place_at s at)
  place_headline at b = go (line_at s at).info refl
    where
      go : (i : Info) → (line_at s at).info ≡ i → All Headline (keyed_place i (hash_lines_at s at))
      go (Preset n) e = none
      go (Turn n) e = none
      go (Hands side) e = none
      go Keyed e = next (record { start = hashes_bound at b; end = (line_at s at).next; line = keyed_line s (hash_lines_at s at) e }) none
      go Refused e = none
      go Nothing e = none

  from_headlines : (k at : ℕ) → Boundary s at → All Headline (header_places_from s k at)
  unfolding header_places_from
  from_headlines zero at b = none
  from_headlines (suc k) at b = go (information_item s at) refl (from_headlines k)
    where
      go : (r : Step Said) → information_item s at ≡ r → ((to : ℕ) → Boundary s to → All Headline (header_places_from s k to))
          → All Headline (on_step r (λ to x. place_at s at ++ header_places_from s k to) [])
      go (more to x) e ih = all_append (place_headline at b) (ih to (item_bound at to x e))
      go stop e ih = none

  pub headlines : All Headline (header_places s)
  unfolding header_places header_places_at
  headlines = all_append (from_headlines (length s) 0 (boundary_start s w)) (from_headlines (length s) (second_place s) second_bound)
