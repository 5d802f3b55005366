-- Information lines one after the other: each goes on past its place, and no further than the text.
-- Assumes nothing.
use Rattle.std.specs.Prelude.{Option, Some, None}
use Prim.Native.Nat.{ℕ, ◌+◌, ◌*◌, ◌≤◌, ◌<◌}
use native.Mathlib.Omega.{arith}
use mathlib.Core.Path.{◌≡◌, refl}
use mathlib.Core.List.{List}
use mathlib.Core.Bool.{true, false, false≢true}
use lib.ListN.{length}
use Rattle.lists.specs.Repeat.{Step, more, stop}
use Rattle.lists.proofs.Laws.{by_pick}
use Rattle.lists.proofs.Repeats.{ItemGoes}
use Rattle.text.specs.Text.{cursor}
use Rattle.text.specs.declared.Cursor.{Cursor}
use Rattle.text.proofs.Laws.{After}
use Rattle.spell.proofs.Answers.{by_spelled}
use Rattle.kakinoki.specs.Informations.{on_held, on_key_value, empty_hand, hand_line_at, key_value_at, header_at, Said, information, keyed_at, hands_or_keyed_at, information_at, is_line, said_of, hash_lines_at, information_item, keyed_place}
use Rattle.kakinoki.specs.declared.Held.{Held}
use Rattle.kakinoki.specs.declared.Held.TheVariants.{By, Unreadable, NoHand}
use Rattle.kakinoki.specs.declared.KeyValue.{KeyValue}
use Rattle.kakinoki.specs.declared.Info.{Info}
use Rattle.kakinoki.specs.declared.Info.TheVariants.{Preset, Turn, Hands, Keyed, Refused, Nothing}
use Rattle.kakinoki.specs.declared.Information.{Information}
use Rattle.kakinoki.proofs.Lines.{hash_from, preset_after, turn_after, OnHeld, hand-line_after, HeaderLine, pair_known}

-- what is known of a line of a text by what it is
abbrev Tells : List ℕ → ℕ → Info → Cursor → Type 0
Tells s at (Preset n) next = After at (length s) next
Tells s at (Turn n) next = After at (length s) next
Tells s at (Hands side) next = After at (length s) next
Tells s at Keyed next = HeaderLine s at next
Tells s at Refused next = Unit {0}
Tells s at Nothing next = Unit {0}

module _ (s : List ℕ) (at : ℕ) where
  abbrev Told : Information → Type 0
  Told i = Tells s at i.info i.next

  keyed_tells : Told (keyed_at s at)
  unfolding keyed_at
  keyed_tells = go (key_value_at s at) refl
    where
      go : (r : Option KeyValue) → key_value_at s at ≡ r → Told (on_key_value r (λ from to next. information Keyed empty_hand next) (information Nothing empty_hand (cursor at)))
      go (Some r) e = pair_known s at r.from r.to r.next e
      go None e = tt

  hands-tell : Told (hands_or_keyed_at s at)
  unfolding hands_or_keyed_at
  hands-tell = go (hand_line_at s at).held (hand-line_after s at)
    where
      go : (h : Held) → OnHeld (After at (length s)) h
          → Told (on_held h (λ side c. information (Hands side) (hand_line_at s at).counts c) (information Refused empty_hand (cursor at)) (keyed_at s at))
      go (By side c) w = w
      go Unreadable w = tt
      go NoHand w = keyed_tells

  line_tells : Told (information_at s at)
  unfolding information_at
  line_tells = by_spelled Told (by_spelled Told hands-tell (turn_after s at) (λ n c a. a)) (preset_after s at) (λ n c a. a)

  -- a header line is a key and a value
  pub keyed_line : (information_at s at).info ≡ Keyed → HeaderLine s at (information_at s at).next
  keyed_line e = rw e at line_tells

-- a line goes on, and a header line by five bytes or more
record Far (n at : ℕ) (ps : List ℕ) (next : ℕ) : Type 0 where
  pub past : at < next
  pub within : next ≤ n
  pub five : at + 5 * length ps ≤ next

far : (s : List ℕ) (at : ℕ) (i : Info) (next : Cursor) → is_line i ≡ true → Tells s at i next → Far (length s) at (keyed_place i at) next.at
far s at (Preset n) next t a = let p = a.past in record { past = p; within = a.within; five = omega arith }
far s at (Turn n) next t a = let p = a.past in record { past = p; within = a.within; five = omega arith }
far s at (Hands side) next t a = let p = a.past in record { past = p; within = a.within; five = omega arith }
far s at Keyed next t a =
    let k = a.named in
    let f = a.colon in
    let o = a.onward in
    let p = a.past in
    record { past = omega arith; within = a.within; five = omega arith }
far s at Refused next t a = absurd (false≢true t)
far s at Nothing next t a = absurd (false≢true t)

-- ---- an item: # lines and then a line

module _ (s : List ℕ) (at : ℕ) where
  abbrev pub line_at : Information
  line_at = information_at s (hash_lines_at s at)

  pub item_more : is_line line_at.info ≡ true → information_item s at ≡ more line_at.next.at (said_of line_at.info line_at.counts (header_at s (hash_lines_at s at)))
  unfolding information_item
  item_more t = rw t

  pub item_stop : is_line line_at.info ≡ false → information_item s at ≡ stop
  unfolding information_item
  item_stop t = rw t

  -- an item that is there
  pub record Item (next : ℕ) (x : Said) : Type 0 where
    pub line : is_line line_at.info ≡ true
    pub to : line_at.next.at ≡ next
    pub says : said_of line_at.info line_at.counts (header_at s (hash_lines_at s at)) ≡ x
    pub past : at < next
    pub within : next ≤ length s
    pub five : at + 5 * length (keyed_place line_at.info (hash_lines_at s at)) ≤ next

  pub item : (next : ℕ) (x : Said) → information_item s at ≡ more next x → Item next x
  unfolding information_item
  item next x e =
      by_pick (λ (r : Step Said). r ≡ more next x → Item next x) (is_line line_at.info)
      (more line_at.next.at (said_of line_at.info line_at.counts (header_at s (hash_lines_at s at)))) stop
      (λ t q. let n : line_at.next.at ≡ next = cc in
      let y : said_of line_at.info line_at.counts (header_at s (hash_lines_at s at)) ≡ x = cc in
      let h = hash_from s at in
      let f = far s (hash_lines_at s at) line_at.info line_at.next t (line_tells s (hash_lines_at s at)) in
      let p = f.past in
      let w = f.within in
      let v = f.five in
      record { line = t; to = n; says = y; past = omega arith; within = omega arith; five = omega arith })
      (λ _ q. let z : ◌≡◌ {A = ℕ} 0 1 = cc in absurd (omega arith))
      e

pub item_goes : (s : List ℕ) → ItemGoes (information_item s) (length s)
item_goes s at next x e = let i = item s at next x e in (i.past, i.within)
