-- What a reading gives can be said, and edits by text keep that.
--     cut_all, cut-led     what holds of lines without their parents holds of those that a cut leaves
-- Assumes nothing.
use Prim.Native.Nat.{ℕ, ◌+◌, ◌<◌}
use native.Mathlib.Omega.{arith}
use mathlib.Core.Path.{sym, subst}
use mathlib.Core.List.{List, ◌∷◌, map}
use Rattle.lists.specs.All.{All, next, Led, leads}
use Rattle.jkf.specs.Model.{Line, Record}
use Rattle.jkf.specs.Attaching.{Play, play}
use Rattle.parser.specs.Parse.{parse, record_of}
use Rattle.parser.proofs.Alls.{all_append, all_map}
use Rattle.edit.specs.Edit.{plays_in, reparented, lines_with, line_on, lowered, without_lines}
use Rattle.edit.specs.inner.Splicing.{relined}
use Rattle.edit.proofs.Listing.{plays_back, plays-put}
use Rattle.laws.proofs.Firsts.{all_take, all_drop, led_take, led_drop, led_append}
use Rattle.laws.specs.Sayable.{NotedSayable, PlaysSayable, Sayable}
use Rattle.laws.proofs.Back.Fits.{all_unmap}
use Rattle.laws.proofs.Back.ReadPlays.{plays_sayable}
use Rattle.laws.proofs.Back.ReadHeaders.{headers_sayable}

-- ---- a reading

pub read_sayable : (s : List ℕ) → Sayable (record_of (parse s))
unfolding parse
read_sayable s = record { headers = headers_sayable s; plays = subst PlaysSayable (sym (plays_back _)) (plays_sayable s _) }

-- ---- lines that a cut leaves

abbrev bare : Line → Play
bare l = play l.start l.entries

module _ {P : Play → Type 0} where
  -- a line says the same on another parent
  all_moved : (f : ℕ → ℕ) {ls : List Line} → All (λ l. P (bare l)) ls → All P (plays_in (map (reparented f) ls))
  all_moved f h = all_map bare (all_map (reparented f) h)

  pub cut_all : (k m : ℕ) (ls : List Line) → All P (plays_in ls) → All P (plays_in (without_lines k m ls))
  cut_all k m ls h = let u = all_unmap bare ls h in all_moved (lowered k m) (all_append (all_take k u) (all_drop (k + m) u))

module _ {P Q : Play → Type 0} where
  led_moved : (f : ℕ → ℕ) {ls : List Line} → Led (λ l. P (bare l)) (λ l. Q (bare l)) ls → Led P Q (plays_in (map (reparented f) ls))
  led_moved f (leads p h) = leads p (all_moved f h)

  led_unmap : (ls : List Line) → Led P Q (plays_in ls) → Led (λ l. P (bare l)) (λ l. Q (bare l)) ls
  led_unmap mathlib.Core.List.[] x' = elim x' [ ]
  led_unmap (l ∷ ls) (leads p h) = leads p (all_unmap bare ls h)

  pub cut_led : (k m : ℕ) (ls : List Line) → 0 < k → Led P Q (plays_in ls) → Led P Q (plays_in (without_lines k m ls))
  cut_led k m ls z h = let u = led_unmap ls h in led_moved (lowered k m) (led_append (led_take k z u) (led_drop (k + m) (omega arith) u))

-- ---- edits

pub relined_sayable : (v : ℕ) (r : Record) (ls : List Line) → Sayable r → PlaysSayable (plays_in ls) → Sayable (relined v r ls)
unfolding relined
relined_sayable v r ls s p = record { headers = s.headers; plays = p }

pub put_sayable : (n k : ℕ) (v : Play) (ls : List Line) → 0 < n → All NotedSayable v.entries → PlaysSayable (plays_in ls) → PlaysSayable (plays_in (lines_with n (line_on k v) ls))
put_sayable n k v ls z h p = subst PlaysSayable (sym (plays-put n k v ls)) (led_append (led_take n z p) (next h (led_drop n z p)))
