-- What the calls answer: the number and two figures of each case.                                 (01, Numbers of refusal)
-- Assumes nothing: these are definitions.
use Rattle.std.specs.Prelude.{ℕ, List}
use Rattle.jkf.specs.declared.Answer.{Answer}
use Rattle.jkf.specs.declared.Answer.TheVariants.{Done, TextTooLong, NotUtf8, HandLine, BlockTooLong, BufferShort, NoEntry, NotSound, HandCount, CannotWrite, NoSuchPart, NotOneVariation, OutsideLine, EntryTaken, NoStart, NoSuchEntry, PlayStopped, StartsAtZero}
use Rattle.jkf.specs.declared.Figures.{Figures}

abbrev pub figured : ℕ → ℕ → ℕ → Figures
figured n a b = record { number = n; first = a; second = b }

-- Success is 0 with two figures of its own; a refusal has its number in 01's table, or by 02 (15, 16, 17 and 20), and 0 for a figure that it does not have. 14 was the
-- number of a refusal that is never met, and is not used again.                                      (02, request (ix))
unfoldable pub figures : Answer → Figures
figures (Done a b) = figured 0 a b
figures (TextTooLong length) = figured 1 length 0
figures (NotUtf8 before) = figured 2 before 0
figures (HandLine at) = figured 3 at 0
figures (BlockTooLong needed) = figured 4 needed 0
figures (BufferShort needed) = figured 5 needed 0
figures (NoEntry variation ply) = figured 6 variation ply
figures NotSound = figured 7 0 0
figures (HandCount side kind) = figured 8 side kind
figures (CannotWrite line entry) = figured 9 line entry
figures (NoSuchPart number) = figured 10 number 0
figures NotOneVariation = figured 11 0 0
figures (OutsideLine line ply) = figured 12 line ply
figures (EntryTaken line ply) = figured 13 line ply
figures (NoStart preset) = figured 15 preset 0
figures (NoSuchEntry line entry) = figured 16 line entry
figures (PlayStopped line entry) = figured 17 line entry
figures (StartsAtZero line) = figured 20 line 0

-- An answer, and the lent buffer after it.
pub record Outcome : Type 0 where
  pub answer : Answer
  pub buffer : List ℕ

-- A refusal that leaves the buffer as it was.
abbrev pub refuse : Answer → List ℕ → Outcome
refuse a o = record { answer = a; buffer = o }
