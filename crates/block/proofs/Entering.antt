-- Laws of an entry's bytes, by which its writers' promises are met.
--     head-made     the nine bytes of a move, from its fields' bytes and marks
--     parts-made    the three parts of an entry, one after another
-- Assumes nothing.
use Rattle.std.specs.Prelude.{Option, Some, None}
use Prim.Native.Nat.{ℕ, ◌+◌}
use mathlib.Core.Path.{◌≡◌, refl, sym}
use mathlib.Core.List.{[], ◌∷◌, ◌++◌}
use lib.ListN.{length, length-append}
use Rattle.lent.specs.Bytes.{bytes16}
use Rattle.jkf.specs.declared.Clock.{Clock}
use Rattle.jkf.specs.declared.Clock.TheVariants.{Hms, Ms}
use Rattle.jkf.specs.declared.Time.{Time}
use Rattle.jkf.specs.declared.Time.TheVariants.{Untimed, Timed}
use Rattle.jkf.specs.declared.Target.{Target}
use Rattle.jkf.specs.declared.Target.TheVariants.{Same, Square}
use Rattle.jkf.specs.declared.Move.{Move}
use Rattle.jkf.specs.declared.Entry.{Entry}
use Rattle.jkf.specs.declared.Entry.TheVariants.{Slot, Moved, End}
use Rattle.block.proofs.Joining.{joined}
use Rattle.block.specs.EntryBytes.{from_mark, same_mark, time_mark, target_bytes, origin_bytes, clock_bytes, time_bytes, entry_head, entry_bytes}
use Rattle.jkf.specs.Entries.{time_of}

-- ---- how long the parts are

pub target-length : (t : Target) → length (target_bytes t) ≡ 2
target-length Same = refl
target-length (Square x y) = refl

pub origin-length : (o : Option (ℕ × ℕ)) → length (origin_bytes o) ≡ 2
origin-length None = refl
origin-length (Some (x, y)) = refl

clock_length : (c : Clock) → length (clock_bytes c) ≡ 3
clock_length (Hms h m s) = refl
clock_length (Ms m s) = refl

pub time-length : (t : Time) → length (time_bytes t) ≡ 6
time-length Untimed = refl
time-length (Timed now total) = simp (length-append, clock_length)

pub head-length : (e : Entry) → length (entry_head e) ≡ 9
unfolding entry_head
head-length Slot = refl
head-length (Moved m) = simp (length-append, target-length, origin-length)
head-length (End s t) = refl

-- ---- what the writers wrote

pub head-made : (m : Move) (x y u v k : ℕ) → (x ∷ y ∷ []) ≡ target_bytes m.to → (u ∷ v ∷ []) ≡ origin_bytes m.from
    → k ≡ from_mark m.from + same_mark m.to + time_mark m.time
    → (1 ∷ m.color ∷ m.piece ∷ m.promote ∷ x ∷ y ∷ u ∷ v ∷ k ∷ []) ≡ entry_head (Moved m)
unfolding entry_head
head-made m x y u v k e₁ e₂ e₃ = rw (← e₁, ← e₂, e₃)

pub parts-made : (e : Entry) (t : Time) (f n : ℕ) → t ≡ time_of e
    → entry_head e ++ time_bytes t ++ ((0 ∷ []) ++ bytes16 f ++ bytes16 n) ≡ entry_bytes e f n
unfolding entry_bytes
parts-made e t f n h = rw h (sym (joined (entry_head e ++ time_bytes (time_of e)) (0 ∷ []) (bytes16 f) (bytes16 n)))
