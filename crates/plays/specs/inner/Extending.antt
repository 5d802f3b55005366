-- A line of play that is being counted.
-- Assumes nothing: these are definitions.
use Rattle.std.specs.Prelude.{◌+◌, ◌<◌}
use Rattle.plays.specs.declared.Extent.{Extent}
use Rattle.plays.specs.declared.Remarks.{Remarks}

-- One entry more, with its comments, and numbers of 64 bits for it.
abbrev pub extended : Extent → Remarks → Extent
extended x k =
    record { entries = x.entries + 1; comments = x.comments + k.count; bytes = x.bytes + k.bytes; next = k.next }

pub record Roomy (x : Extent) (k : Remarks) : Type 0 where
  pub entries : x.entries + 1 < 18446744073709551616
  pub comments : x.comments + k.count < 18446744073709551616
  pub bytes : x.bytes + k.bytes < 18446744073709551616
