-- 手合割：, the spelling and LF: room for the line is room for each piece.
-- Assumes nothing.
use Rattle.lent.proofs.Room.{three_stored}
use mathlib.Core.List.{[], ◌∷◌}
use Rattle.spell.specs.Spell.{spelled}
use Rattle.spell.specs.Tables.{presets}
use Rattle.spell.specs.Words.{preset_tag}
use Rattle.converter.specs.Diagrams.{preset_line}
use Rattle.lent.proofs.Writes.{then, sum_fits, within}
use Rattle.converter.proofs.starts.put_preset_line.Goals as goal

pub slice_bounds-put_preset-count : goal.slice_bounds-put_preset-count
slice_bounds-put_preset-count c = within c.put_bytes-n.ensures

pub slice_bounds-put_preset-start : goal.slice_bounds-put_preset-start
slice_bounds-put_preset-start c = slice_bounds-put_preset-count c

pub overflow_add-m : goal.overflow_add-m
overflow_add-m c = sum_fits (then c.put_bytes-n.ensures c.put_preset.ensures) c.well_formed.0.0

pub returns : goal.returns
unfolding preset_line
returns c =
    three_stored preset_tag (spelled presets c.args.preset) (10 ∷ []) c.requires c.put_bytes-n.ensures c.put_preset.ensures c.put_at.ensures
