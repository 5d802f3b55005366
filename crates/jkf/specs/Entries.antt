-- The numbers of the endings, and an entry's time.                                                     (01, The block: special)
-- Assumes nothing: these are definitions.
use Rattle.std.specs.Prelude.{ℕ, [], ◌∷◌, get_or}
use Rattle.jkf.specs.declared.Special.{Special}
use Rattle.jkf.specs.declared.Special.TheVariants.{Toryo, Chudan, Sennichite, TimeUp, IllegalMove, IllegalActionBlack, IllegalActionWhite, Jishogi, Kachi, Hikiwake, Matta, Tsumi, Fuzumi, Error}
use Rattle.jkf.specs.declared.Time.{Time}
use Rattle.jkf.specs.declared.Time.TheVariants.{Untimed}
use Rattle.jkf.specs.declared.Entry.{Entry}
use Rattle.jkf.specs.declared.Entry.TheVariants.{Slot, Moved, End}

-- An ending's number, in the Rust's order.                                                           (01, The block: special)
abbrev pub special_number : Special → ℕ
special_number Toryo = 0
special_number Chudan = 1
special_number Sennichite = 2
special_number TimeUp = 3
special_number IllegalMove = 4
special_number IllegalActionBlack = 5
special_number IllegalActionWhite = 6
special_number Jishogi = 7
special_number Kachi = 8
special_number Hikiwake = 9
special_number Matta = 10
special_number Tsumi = 11
special_number Fuzumi = 12
special_number Error = 13

-- The ending with a number; the last one past it.
abbrev pub special_of : ℕ → Special
special_of n =
    get_or
    (Toryo ∷ Chudan ∷ Sennichite ∷ TimeUp ∷ IllegalMove ∷ IllegalActionBlack ∷ IllegalActionWhite ∷ Jishogi ∷ Kachi ∷ Hikiwake ∷ Matta ∷ Tsumi ∷ Fuzumi ∷ [])
    n
    Error

-- The time of an entry; the slot has none.
abbrev pub time_of : Entry → Time
time_of Slot = Untimed
time_of (Moved m) = m.time
time_of (End s t) = t
