-- Measuring and filling: what `measure` tells of a text is what `fill` goes by.                       (02, request (vii))
-- Assumes nothing: these are definitions.
use Rattle.std.specs.Prelude.{ℕ, ◌≤◌, ◌<◌, ◌≡◌, List, length}
use Rattle.jkf.specs.declared.Answer.{Answer}
use Rattle.jkf.specs.declared.Answer.TheVariants.{Done, BufferShort, NoEntry}
use Rattle.jkf.specs.Answers.{figures, refuse}
use Rattle.parser.specs.Read.{measure_of, fill_of}

-- Filled, with t bytes taken and a block of n; or refusal 6.
pub data FilledOrLoose (n t : ℕ) : Answer → Type 0 where
  filled : FilledOrLoose n t (Done t n)
  loose : (k ply : ℕ) → FilledOrLoose n t (NoEntry k ply)

pub record MeasureTheorems (s : List ℕ) : Type 0 where
  -- A text that is measured is filled into every buffer of that length or more, with the same figures, or meets refusal 6 there;
  pub measured_fills : (n t : ℕ) → measure_of s ≡ Done n t → (o : List ℕ) → n ≤ length o → FilledOrLoose n t (fill_of s o).answer
  -- and with every shorter one refusal 5, with that length.
  pub measured-short : (n t : ℕ) → measure_of s ≡ Done n t → (o : List ℕ) → length o < n → fill_of s o ≡ refuse (BufferShort n) o
  -- A text that measuring refuses is refused by filling with the same number and figures, whatever the buffer.
  pub measured-refused : (a : Answer) → measure_of s ≡ a → 0 < (figures a).number → (o : List ℕ) → fill_of s o ≡ refuse a o
  -- And the other way: what filling is done with, and what it says by refusal 5 or 6, measuring tells.
  pub filled-measured : (o : List ℕ) (t n : ℕ) → (fill_of s o).answer ≡ Done t n → measure_of s ≡ Done n t
  pub short-measured : (o : List ℕ) (n : ℕ) → (fill_of s o).answer ≡ BufferShort n → (t : ℕ) × (measure_of s ≡ Done n t)
  pub loose-measured : (o : List ℕ) (k ply : ℕ) → (fill_of s o).answer ≡ NoEntry k ply → (n : ℕ) × (t : ℕ) × (measure_of s ≡ Done n t) × (n ≤ length o)

-- So for every text.
abbrev pub MeasuresHold : Type 0
MeasuresHold = (s : List ℕ) → MeasureTheorems s
