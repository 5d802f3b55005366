-- A well-formed record: one that a sound block holds.                                                (01, The block: sound)
-- Assumes nothing: these are definitions.
use Rattle.std.specs.Prelude.{ℕ, ◌+◌, ◌≤◌, ◌<◌, ◌≡◌, List, [], true, length, get_or, ltb}
use Rattle.lists.specs.Pick.{pick}
use Rattle.lists.specs.Test.{Test, ◌at_most◌, holds, ◌and◌, each, claim}
use Rattle.jkf.specs.declared.Entry.TheVariants.{Slot}
use Rattle.jkf.specs.Trees.{is_version, hang_test}
use Rattle.jkf.specs.Model.{Header, Noted, Line, Record}
use Rattle.block.specs.Encode.{encode, entries_of, comments_of}
use Rattle.text.specs.Text.{before}
use Rattle.block.specs.Sound.{valid, fits_test, kind_test}

-- Element k of a list; past its end an empty one.
abbrev pub header_of : List Header → ℕ → Header
header_of hs k = get_or hs k (record { key = []; value = [] })

abbrev pub line_of : List Line → ℕ → Line
line_of ls k = get_or ls k (record { start = 0; parent = 0; entries = [] })

abbrev pub noted_of : List Noted → ℕ → Noted
noted_of es k = get_or es k (record { what = Slot; comments = [] })

-- Texts are valid, and keys ascend by bytes.
abbrev pub header_fits : List Header → ℕ → Test
header_fits hs k =
    valid (header_of hs k).key
    and valid (header_of hs k).value
    and holds (pick (ltb (k + 1) (length hs)) (before (header_of hs k).key (header_of hs (k + 1)).key) true)

-- A line is not empty, and hangs as `hang_test` says.
abbrev pub line_fits : ℕ → List Line → ℕ → Test
line_fits version ls k =
    1 at_most length (line_of ls k).entries
    and hang_test version (λ j. (line_of ls j).start) (λ j. length (line_of ls j).entries) (λ j. (line_of ls j).parent) k

pub record Formed (r : Record) : Type 0 where
  pub version : is_version r.version ≡ true
  pub short : length (encode r) ≤ 65535
  pub bytes : (k : ℕ) → get_or (encode r) k 0 < 256
  pub cells : length r.position.cells ≡ 81
  pub hands : length r.position.hands ≡ 14
  pub position : claim (fits_test r.position)
  pub headers : claim (each (length r.headers) (header_fits r.headers))
  pub some : 1 ≤ length r.lines
  pub lines : claim (each (length r.lines) (line_fits r.version r.lines))
  pub entries : claim (each (length (entries_of r.lines)) (λ k. kind_test k (noted_of (entries_of r.lines) k).what))
  pub comments : claim (each (length (comments_of (entries_of r.lines))) (λ k. valid (get_or (comments_of (entries_of r.lines)) k [])))
