-- What the reader knows of a text before it stores its block.
-- Assumes nothing: these are definitions.
use Rattle.std.specs.Prelude.{ℕ, ◌*◌, ◌≤◌, ◌≡◌, List, length, take}
use Rattle.lent.specs.Stored.{put}
use Rattle.jkf.specs.Attaching.{on_hung, attach, all_hung}
use Rattle.jkf.specs.declared.Position.{Position}
use Rattle.filling.specs.Filling.{if_fits}
use Rattle.filling.specs.inner.Parts.{sizes_of, Opens}
use Rattle.filling.specs.declared.Sizes.{Sizes}
use Rattle.filling.specs.declared.Walk.{Walk}
use Rattle.sorted.specs.Sorted.{kept}
use Rattle.plays.specs.Losses.{plays_lost}
use Rattle.kakinoki.specs.Informations.{low16}
use Rattle.kakinoki.specs.Starts.{start_read, header_places}
use Rattle.parser.specs.Parse.{Parsed, parse, needed}
use Rattle.parser.specs.declared.Survey.{Survey}

-- The places of the header lines at the front of a buffer that has room for as many as there can be: a header line has five bytes at least.
pub record PlacesIn (s places : List ℕ) : Type 0 where
  pub before : List ℕ
  pub room : length s ≤ 5 * length before
  pub said : places ≡ put before 0 (low16 (header_places s))

-- What was read before the moves, and the places of the header lines by key.
pub record Prepared (s : List ℕ) (p : Position) (at : ℕ) (hs : List ℕ) : Type 0 where
  pub short : length s ≤ 65535
  pub position : p ≡ (start_read s).position
  pub place : at ≡ (start_read s).next.at
  pub headers : hs ≡ kept s (header_places s)

-- The sizes of the block of what a text says.
abbrev pub parsed_sizes : Parsed → Sizes
parsed_sizes p = sizes_of p.headers (attach p.plays)

-- A text was looked through and is not refused: what was found of it, and the places of its header lines by key.
pub record Surveyed (s : List ℕ) (v : Survey) (hs : List ℕ) : Type 0 where
  pub ready : Prepared s v.position v.moves.at hs
  pub count : v.sizes.headers ≡ length hs
  pub sizes : v.sizes ≡ parsed_sizes (parse s)
  pub taken : v.taken ≡ (parse s).taken

-- The places stand at the front of a buffer, and are as many as there are header entries.
pub record Sorted (s : List ℕ) (v : Survey) (o : List ℕ) : Type 0 where
  pub room : v.sizes.headers ≤ length o
  pub found : Surveyed s v (take v.sizes.headers o)

-- The block of what a text says is begun, whatever was in the buffer before.
abbrev pub Opened : Parsed → Walk → ℕ → List ℕ → Type 0
Opened p w n o = (before : List ℕ) × Opens 1 (parsed_sizes p) p.position w n before o

-- The times that are lost where every line hangs; and where the block fits into a buffer of this length.
unfoldable pub hung_lost : List ℕ → ℕ
hung_lost s = on_hung (all_hung (parse s).plays) (λ k ply. 0) (plays_lost s (start_read s).next.at)

unfoldable pub stored_lost : List ℕ → ℕ → ℕ
stored_lost s room = if_fits (needed (parse s)) room (λ a. 0) (hung_lost s)
