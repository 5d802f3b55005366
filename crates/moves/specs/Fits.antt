-- What an entry can be that was read off a move line.                                                 (01, Reading rules: move line, time)
-- Assumes nothing: these are definitions.
use Rattle.std.specs.Prelude.{ℕ, ◌*◌, ◌+◌, ◌≤◌, ◌≡◌, true, Option, Some}
use Rattle.spell.specs.Tables.{specials}
use Rattle.spell.specs.Spell.{has_number}
use Rattle.jkf.specs.Entries.{special_number}
use Rattle.jkf.specs.declared.Special.{Special}
use Rattle.jkf.specs.declared.Clock.{Clock}
use Rattle.jkf.specs.declared.Clock.TheVariants.{Hms, Ms}
use Rattle.jkf.specs.declared.Time.{Time}
use Rattle.jkf.specs.declared.Time.TheVariants.{Untimed, Timed}
use Rattle.jkf.specs.declared.Target.{Target}
use Rattle.jkf.specs.declared.Target.TheVariants.{Same, Square}
use Rattle.jkf.specs.declared.Move.{Move}
use Rattle.jkf.specs.declared.Entry.{Entry}
use Rattle.jkf.specs.declared.Entry.TheVariants.{Moved, End}

-- Each figure of a clock is up to 255.
pub data ClockFits : Clock → Type 0 where
  hms_fits : {h m s : ℕ} → h ≤ 255 → m ≤ 255 → s ≤ 255 → ClockFits (Hms h m s)
  ms_fits : {m s : ℕ} → m ≤ 255 → s ≤ 255 → ClockFits (Ms m s)

-- No time, or two clocks.
pub data TimeFits : Time → Type 0 where
  untimed_fits : TimeFits Untimed
  timed_fits : {now total : Clock} → ClockFits now → ClockFits total → TimeFits (Timed now total)

-- 同, or a file and a rank of 1 to 9.
pub data TargetFits : Target → Type 0 where
  same_fits : TargetFits Same
  square_fits : {x y : ℕ} → 1 ≤ x → x ≤ 9 → 1 ≤ y → y ≤ 9 → TargetFits (Square x y)

-- The tens and ones of a number up to 255; 打 is (0,0).
pub data OriginFits : Option (ℕ × ℕ) → Type 0 where
  from_fits : {x y : ℕ} → x ≤ 25 → y ≤ 9 → x * 10 + y ≤ 255 → OriginFits (Some (x, y))

-- A move of either side, of one of the 14 kinds, with one of the three marks.
pub record MoveFits (m : Move) : Type 0 where
  pub side : m.color ≤ 1
  pub some : 1 ≤ m.piece
  pub kind : m.piece ≤ 14
  pub mark : m.promote ≤ 2
  pub target : TargetFits m.to
  pub origin : OriginFits m.from
  pub time : TimeFits m.time

-- A move, or a special that has a spelling of its own; never the slot.
pub data EntryFits : Entry → Type 0 where
  play_fits : {m : Move} → MoveFits m → EntryFits (Moved m)
  end_fits : {x : Special} {t : Time} → has_number specials (special_number x) ≡ true → TimeFits t → EntryFits (End x t)
