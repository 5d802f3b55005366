-- A whole block of information lines.
-- Assumes nothing: these are definitions.
use Rattle.std.specs.Prelude.{ℕ, List, length}
use Rattle.text.specs.Text.{cursor}
use Rattle.kakinoki.specs.declared.InformationBlock.{InformationBlock}
use Rattle.kakinoki.specs.Informations.{informations_at, fault_at, untold, tell_all, header_places_at}

unfoldable pub block_at : List ℕ → ℕ → InformationBlock
block_at s at =
    record {
      told = tell_all untold (informations_at s at).state;
      headers = length (header_places_at s at);
      fault = fault_at s (informations_at s at).at;
      next = cursor (informations_at s at).at;
    }
