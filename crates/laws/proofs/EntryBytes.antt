-- The bytes of an entry that was read off a move line are bytes.
-- Assumes nothing.
use Rattle.std.specs.Prelude.{Option, Some, None}
use Prim.Native.Nat.{ℕ, ◌+◌, ◌≤◌, ◌<◌}
use native.Mathlib.Omega.{arith}
use lib.ListN.{get_or}
use Rattle.jkf.specs.Entries.{special_number, time_of}
use Rattle.jkf.specs.declared.Special.{Special}
use Rattle.jkf.specs.declared.Special.TheVariants.{Toryo, Chudan, Sennichite, TimeUp, IllegalMove, IllegalActionBlack, IllegalActionWhite, Jishogi, Kachi, Hikiwake, Matta, Tsumi, Fuzumi, Error}
use Rattle.jkf.specs.declared.Clock.{Clock}
use Rattle.jkf.specs.declared.Clock.TheVariants.{Hms, Ms}
use Rattle.jkf.specs.declared.Time.{Time}
use Rattle.jkf.specs.declared.Time.TheVariants.{Untimed, Timed}
use Rattle.jkf.specs.declared.Target.{Target}
use Rattle.jkf.specs.declared.Target.TheVariants.{Same, Square}
use Rattle.jkf.specs.declared.Entry.{Entry}
use Rattle.jkf.specs.declared.Entry.TheVariants.{Slot}
use Rattle.block.specs.EntryBytes.{from_mark, same_mark, hour_mark, time_mark, target_bytes, origin_bytes, clock_bytes, time_bytes, entry_head, entry_bytes}
use Rattle.moves.specs.Fits.{ClockFits, hms_fits, ms_fits, TimeFits, untimed_fits, timed_fits, TargetFits, same_fits, square_fits, OriginFits, from_fits, EntryFits, play_fits, end_fits}
use Rattle.moves.proofs.Smalls.{Bytes, each, byte, nought, bytes-at, bytes-join, bytes_one, bytes_16, zeros}

special_small : (x : Special) → special_number x ≤ 13
special_small Toryo = omega arith
special_small Chudan = omega arith
special_small Sennichite = omega arith
special_small TimeUp = omega arith
special_small IllegalMove = omega arith
special_small IllegalActionBlack = omega arith
special_small IllegalActionWhite = omega arith
special_small Jishogi = omega arith
special_small Kachi = omega arith
special_small Hikiwake = omega arith
special_small Matta = omega arith
special_small Tsumi = omega arith
special_small Fuzumi = omega arith
special_small Error = omega arith

clock-bytes : {k : Clock} → ClockFits k → Bytes (clock_bytes k)
clock-bytes (hms_fits h m s) = each (byte h) (each (byte m) (bytes_one (byte s)))
clock-bytes (ms_fits m s) = each nought (each (byte m) (bytes_one (byte s)))

time-bytes : {t : Time} → TimeFits t → Bytes (time_bytes t)
time-bytes untimed_fits = zeros 6
time-bytes (timed_fits h k) = bytes-join (clock-bytes h) (clock-bytes k)

target-bytes : {t : Target} → TargetFits t → Bytes (target_bytes t)
target-bytes same_fits = zeros 2
target-bytes (square_fits {x} {y} _ h _ k) =
    let i : x < 256 = omega arith in
    let j : y < 256 = omega arith in
    each i (bytes_one j)

origin-bytes : {o : Option (ℕ × ℕ)} → OriginFits o → Bytes (origin_bytes o)
origin-bytes (from_fits {x} {y} h k _) =
    let i : x < 256 = omega arith in
    let j : y < 256 = omega arith in
    each i (bytes_one j)

hour-mark : (n : ℕ) (k : Clock) → hour_mark n k ≤ n
hour-mark n (Hms h m s) = omega arith
hour-mark n (Ms m s) = omega arith

time-mark : (t : Time) → time_mark t ≤ 28
time-mark Untimed = omega arith
time-mark (Timed now total) = omega (arith, hour-mark 8 now, hour-mark 16 total)

same-mark : (t : Target) → same_mark t ≤ 2
same-mark Same = omega arith
same-mark (Square x y) = omega arith

from-mark : (o : Option (ℕ × ℕ)) → from_mark o ≤ 1
from-mark None = omega arith
from-mark (Some (x, y)) = omega arith

head-bytes : {e : Entry} → EntryFits e → Bytes (entry_head e)
unfolding entry_head
head-bytes (play_fits {m} f) =
    let a = f.side in
    let b = f.kind in
    let c = f.mark in
    let i : 1 < 256 = omega arith in
    let p : m.color < 256 = omega arith in
    let q : m.piece < 256 = omega arith in
    let r : m.promote < 256 = omega arith in
    let w : from_mark m.from + same_mark m.to + time_mark m.time < 256 = omega (arith, from-mark m.from, same-mark m.to, time-mark m.time) in
    each i (each p (each q (each r (bytes-join (bytes-join (target-bytes f.target) (origin-bytes f.origin)) (bytes_one w)))))
head-bytes (end_fits {x} {t} _ f) =
    let i : 2 < 256 = omega arith in
    let p : special_number x < 256 = omega (arith, special_small x) in
    let w : time_mark t < 256 = omega (arith, time-mark t) in
    each i (each p (bytes-join (zeros 6) (bytes_one w)))

slot-head : Bytes (entry_head Slot)
unfolding entry_head
slot-head = zeros 9

time-of : {e : Entry} → EntryFits e → TimeFits (time_of e)
time-of (play_fits f) = f.time
time-of (end_fits _ f) = f

with_numbers : (e : Entry) → Bytes (entry_head e) → Bytes (time_bytes (time_of e)) → (f n k : ℕ) → get_or (entry_bytes e f n) k 0 < 256
unfolding entry_bytes
with_numbers e h t f n = bytes-at (bytes-join (bytes-join (bytes-join (bytes-join h t) (zeros 1)) (bytes_16 f)) (bytes_16 n))

pub entry-bytes-small : (e : Entry) → EntryFits e → (f n k : ℕ) → get_or (entry_bytes e f n) k 0 < 256
entry-bytes-small e h = with_numbers e (head-bytes h) (time-bytes (time-of h))

pub slot-bytes-small : (f n k : ℕ) → get_or (entry_bytes Slot f n) k 0 < 256
slot-bytes-small = with_numbers Slot slot-head (time-bytes untimed_fits)
