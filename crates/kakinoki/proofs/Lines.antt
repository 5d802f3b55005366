-- How far a line goes: past its place, and no further than the text.
-- Assumes nothing.
use Rattle.std.specs.Prelude.{Option, Some, None}
use Prim.Native.Nat.{ℕ, ◌+◌, ◌≤◌, ◌<◌}
use native.Mathlib.Omega.{arith}
use mathlib.Core.Path.{◌≡◌, refl, sym, ap}
use mathlib.Core.List.{List, [], ◌∷◌}
use mathlib.Core.Bool.{Bool, true, false}
use lib.ListN.{length}
use lib.Dec.{eqb}
use borrow.Author.Tests.{eqb-false}
use Rattle.lists.specs.Pick.{pick}
use Rattle.lists.specs.Repeat.{more, stop, Ended}
use Rattle.lists.proofs.Laws.{by_pick}
use Rattle.lists.proofs.Repeats.{ItemGoes, many_more, many_stop, many-from}
use Rattle.text.specs.Text.{cursor, on_place, stands_at, tag_at, break_at, tail_at, line_end_at, padding_at, wide_colon, key_at}
use Rattle.text.specs.declared.Cursor.{Cursor}
use Rattle.text.proofs.Laws.{After, no_past, break_after, tail_from, line-end_after, tag_after, place_back}
use Rattle.text.proofs.Answers.{by_past}
use Rattle.spell.specs.Tables.{presets, sides}
use Rattle.spell.proofs.Answers.{OnSpelled, is_as, is_not, by_spelled}
use Rattle.kakinoki.specs.Informations.{on_key_value, hash_line_at, hash_item, hash_lines_at, padded_end_at, ends_line, preset_line_at, turn_line_at, empty_hand, piece_step, pieces_at, hand_at, held_at, hand_line_at, value_at, key_value_at}
use Rattle.spell.specs.Words.{preset_tag, turn_tag, hands_tag, none_tag}
use Rattle.kakinoki.specs.declared.Hand.{Hand}
use Rattle.kakinoki.specs.declared.HandSaid.{HandSaid}
use Rattle.kakinoki.specs.declared.Held.{Held}
use Rattle.kakinoki.specs.declared.Held.TheVariants.{By, Unreadable, NoHand}
use Rattle.kakinoki.specs.declared.KeyValue.{KeyValue}
use Rattle.kakinoki.proofs.Pieces.{piece_goes}
use Rattle.kakinoki.proofs.Reach.{repeat_keeps, padding_on, spelled-map, first_after, onward}

-- ---- # lines

hash_after : (s : List ℕ) (at : ℕ) (c : Cursor) → hash_line_at s at ≡ Some c → After at (length s) c
unfolding hash_line_at
hash_after s at c e =
    let (d, p, q) = place_back _ (λ d. line_end_at s d.at) c e in
    let t = tag_after (35 ∷ []) s at d (omega arith) p in
    let b = line-end_after s d.at c q in
    record { past = omega (arith, t.past, b.past); within = b.within }

hash_goes : (s : List ℕ) → ItemGoes (hash_item s) (length s)
hash_goes s at next a e = go (hash_line_at s at) refl e
  where
    go : (r : Option Cursor) → hash_line_at s at ≡ r → on_place r (λ c. more c.at tt) stop ≡ more next a → (at < next) × (next ≤ length s)
    go (Some c) p e =
        let h = hash_after s at c p in
        let n : c.at ≡ next = cc in
        (omega (arith, h.past), omega (arith, h.within))
    go None p e = let z : ◌≡◌ {A = ℕ} 0 1 = cc in absurd (omega arith)

module _ (s : List ℕ) (at : ℕ) where
  -- one more is passed, within the text
  pub hash_more : (c : Cursor) → hash_line_at s at ≡ Some c → After at (length s) c × (hash_lines_at s at ≡ hash_lines_at s c.at)
  unfolding hash_lines_at
  hash_more c e =
      (hash_after s at c e, ap (λ (r : Ended (List (Unit {0}))). r.at) (many_more (hash_item s) (length s) (hash_goes s) at c.at tt (rw e)))

  pub hash_stop : hash_line_at s at ≡ None → hash_lines_at s at ≡ at
  unfolding hash_lines_at
  hash_stop e = ap (λ (r : Ended (List (Unit {0}))). r.at) (many_stop (hash_item s) (length s) at (rw e))

  pub hash_from : at ≤ hash_lines_at s at
  unfolding hash_lines_at
  hash_from = many-from (hash_item s) (length s) (hash_goes s) (length s) at

-- ---- padding and a break

padded_after : (s : List ℕ) (at : ℕ) (c : Cursor) → padded_end_at s at ≡ Some c → After at (length s) c
unfolding padded_end_at
padded_after s at c e =
    let p = (padding_on s at).from in
    let b = break_after s (padding_at s at) c e in
    record { past = omega (arith, p, b.past); within = b.within }

-- ---- preset and turn

module _ (s : List ℕ) where
  abbrev pub Passes : ℕ → Option (ℕ × Cursor) → Type 0
  Passes at = OnSpelled (λ n c. After at (length s) c)

  ends_after : (n at : ℕ) → Passes at (ends_line s n at)
  ends_after n at = by_past (Passes at) is_not (padded_end_at s at) (λ e w. is_as (padded_after s at e w))

  pub preset_after : (at : ℕ) → Passes at (preset_line_at s at)
  unfolding preset_line_at
  preset_after at =
      by_past (Passes at) is_not (tag_at preset_tag s at)
      (λ c w. by_spelled (Passes at) is_not (first_after 256 presets refl s c.at)
      (λ n d a. spelled-map (λ m e b. onward (onward (tag_after preset_tag s at c (omega arith) w) a) b) (ends_after n d.at)))

  pub turn_after : (at : ℕ) → Passes at (turn_line_at s at)
  unfolding turn_line_at
  turn_after at =
      by_spelled (Passes at) is_not (first_after 256 sides refl s at)
      (λ n c a. by_past (Passes at) is_not (tag_at turn_tag s c.at)
      (λ d w. spelled-map (λ m e b. onward (onward a (tag_after turn_tag s c.at d (omega arith) w)) b) (ends_after n d.at)))

-- ---- hands

abbrev pub OnHeld : (Cursor → Type 0) → Held → Type 0
OnHeld P (By side c) = P c
OnHeld P Unreadable = Unit {0}
OnHeld P NoHand = Unit {0}

held-map : {P Q : Cursor → Type 0} (h : Held) → ((c : Cursor) → P c → Q c) → OnHeld P h → OnHeld Q h
held-map (By side c) k w = k c w
held-map Unreadable k w = tt
held-map NoHand k w = tt

pieces_from : (s : List ℕ) (at : ℕ) → at ≤ (pieces_at s at).next.at
unfolding pieces_at
pieces_from s at =
    repeat_keeps (piece_step s) (λ to held. at ≤ to) (λ to held next made h e. omega (arith, piece_goes s to held next made e)) (length s) at empty_hand
    (omega arith)

hand-from : (s : List ℕ) (at : ℕ) → at ≤ (hand_at s at).next.at
unfolding hand_at
hand-from s at =
    by_past (λ (h : Hand). at ≤ h.next.at) (pieces_from s at) (tag_at none_tag s at)
    (λ c w. let a = tag_after none_tag s at c (omega arith) w in omega (arith, a.past))

held_after : (side : ℕ) (s : List ℕ) (at : ℕ) → OnHeld (After at (length s)) (held_at side s at).held
unfolding held_at
held_after side s at =
    by_past (λ (l : HandSaid). OnHeld (After at (length s)) l.held) tt (padded_end_at s (hand_at s at).next.at)
    (λ e w. let a = padded_after s (hand_at s at).next.at e w in
    record { past = omega (arith, hand-from s at, a.past); within = a.within })

pub hand-line_after : (s : List ℕ) (at : ℕ) → OnHeld (After at (length s)) (hand_line_at s at).held
unfolding hand_line_at
hand-line_after s at =
    by_spelled Q tt (first_after 256 sides refl s at)
    (λ side c a. by_past Q tt (tag_at hands_tag s c.at)
    (λ d w. held-map (held_at side s d.at).held (λ e b. onward (onward a (tag_after hands_tag s c.at d (omega arith) w)) b) (held_after side s d.at)))
  where
    Q : HandSaid → Type 0
    Q l = OnHeld (After at (length s)) l.held

-- ---- key and value

abbrev OnPair : (Cursor → Cursor → Cursor → Type 0) → Option KeyValue → Type 0
OnPair P (Some p) = P p.from p.to p.next
OnPair P None = Unit {0}

-- where a value stands whose ： is at a place
record Valued (s : List ℕ) (at : ℕ) (from to next : Cursor) : Type 0 where
  colon : from.at ≡ at + 3
  onward : from.at ≤ to.at
  past : to.at < next.at
  within : next.at ≤ length s

tag_is : (t s : List ℕ) (at : ℕ) (c : Cursor) → tag_at t s at ≡ Some c → c.at ≡ at + length t
unfolding tag_at
tag_is t s at c e =
    by_pick (λ (r : Option Cursor). r ≡ Some c → c.at ≡ at + length t) (stands_at t s at) (Some (cursor (at + length t))) None
    (λ _ q. ap (λ (r : Option Cursor). on_place r (λ d. d.at) 0) (sym q)) (λ _ q. no_past c q) e

value_known : (s : List ℕ) (at : ℕ) → OnPair (Valued s at) (value_at s at)
unfolding value_at
value_known s at =
    by_past Q tt (tag_at wide_colon s at)
    (λ from p. by_past Q tt (tail_at s from.at)
    (λ to q. by_past Q tt (break_at s to.at)
    (λ next r. let b = break_after s to.at next r in
    record { colon = tag_is wide_colon s at from p; onward = tail_from s from.at to q; past = b.past; within = b.within })))
  where
    Q : Option KeyValue → Type 0
    Q = OnPair (Valued s at)

-- a header line stands at a place, and the text goes on at `next`
pub record HeaderLine (s : List ℕ) (at : ℕ) (next : Cursor) : Type 0 where
  pub from : Cursor
  pub to : Cursor
  pub is : key_value_at s at ≡ Some (record { from = from; to = to; next = next })
  pub named : 0 < length (key_at s at)
  pub colon : from.at ≡ at + length (key_at s at) + 3
  pub onward : from.at ≤ to.at
  pub past : to.at < next.at
  pub within : next.at ≤ length s

pub pair_known : (s : List ℕ) (at : ℕ) (from to next : Cursor) → key_value_at s at ≡ Some (record { from = from; to = to; next = next }) → HeaderLine s at next
unfolding key_value_at
pair_known s at from to next e = go (eqb (length (key_at s at)) 0) refl (value_at s (at + length (key_at s at))) refl (value_known s (at + length (key_at s at))) e
  where
    go : (t : Bool) → eqb (length (key_at s at)) 0 ≡ t → (r : Option KeyValue) → value_at s (at + length (key_at s at)) ≡ r
        → OnPair (Valued s (at + length (key_at s at))) r → pick t None r ≡ Some (record { from = from; to = to; next = next }) → HeaderLine s at next
    go true z r w v e = let f : ◌≡◌ {A = ℕ} 0 1 = ap (λ (k : Option KeyValue). on_key_value k (λ _ _ _. 1) 0) e in absurd (omega arith)
    go false z (Some r) w v e =
        let n : r.next ≡ next = cc in
        let k : length (key_at s at) ≡ 0 → ⊥ = eqb-false _ _ z in
        record {
          from = r.from;
          to = r.to;
          is = rw (z, w, n);
          named = omega arith;
          colon = v.colon;
          onward = v.onward;
          past = rw n at v.past;
          within = rw n at v.within;
        }
    go false z None w v e = let f : ◌≡◌ {A = ℕ} 0 1 = ap (λ (k : Option KeyValue). on_key_value k (λ _ _ _. 1) 0) e in absurd (omega arith)
