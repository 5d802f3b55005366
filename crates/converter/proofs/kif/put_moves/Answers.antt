-- The line of headings, line 0 and the lines on it, each with all that hangs from it, are written one after another: together they are all the lines
-- that are shown, since every line hangs on line 0 or on one after it. Which lines are shown, the block's type says.
-- Assumes nothing.
use mathlib.Core.Path.{ap, ◌∙◌}
use Prim.Native.Nat.{ℕ, ◌-◌}
use native.Mathlib.Omega.{arith}
use mathlib.Core.List.{◌++◌}
use Rattle.block.specs.Decode.{run, line_in}
use Rattle.block.specs.Encode.{concat}
use Rattle.block.proofs.Hanging.{sound_branched}
use Rattle.lent.proofs.Writes.{as_text, wrote_all, then, sum_fits, within}
use Rattle.converter.specs.Show.{number_line, main_text, variation_text}
use Rattle.converter.specs.inner.Lines.{line_said}
use Rattle.converter.proofs.Branches.{before-all}
use Rattle.converter.proofs.Playing.{lines-text}
use Rattle.lent.proofs.Room.{room_after, room_as, room-front}
use Rattle.block.proofs.Sounding.{keeps}
use Rattle.converter.proofs.kif.put_moves.Goals as goal

pub slice_bounds-put_main-count : goal.slice_bounds-put_main-count
slice_bounds-put_main-count c = within c.put_bytes-n.ensures

pub slice_bounds-put_main-start : goal.slice_bounds-put_main-start
slice_bounds-put_main-start c = slice_bounds-put_main-count c

pub put_main-requires : goal.put_main-requires
put_main-requires c =
    let a = c.args in
    let b = a.s.block.bytes.now in
    let t = main_text (line_said a.mode b 0) in
    let v = concat variation_text (run (line_said a.mode b) 1 (a.s.lines - 1)) in
    let h = room-front (number_line ++ t) v (room_as (lines-text a.mode b a.s.counted) c.requires) in
    room_after t (wrote_all {t = number_line} (room-front number_line t h) c.put_bytes-n.ensures) h

pub overflow_add-m : goal.overflow_add-m
overflow_add-m c = sum_fits (then c.put_bytes-n.ensures c.put_main.ensures) c.well_formed.0.0

pub slice_bounds-put_under-count : goal.slice_bounds-put_under-count
slice_bounds-put_under-count c = within (then c.put_bytes-n.ensures c.put_main.ensures)

pub slice_bounds-put_under-start : goal.slice_bounds-put_under-start
slice_bounds-put_under-start c = slice_bounds-put_under-count c

pub put_under-requires : goal.put_under-requires
put_under-requires c =
    let a = c.args in
    let b = a.s.block.bytes.now in
    let t = main_text (line_said a.mode b 0) in
    let v = concat variation_text (run (line_said a.mode b) 1 (a.s.lines - 1)) in
    let r = room_as (lines-text a.mode b a.s.counted) c.requires in
    let h = room-front number_line t (room-front (number_line ++ t) v r) in
    let w = then (wrote_all {t = number_line} h c.put_bytes-n.ensures) c.put_main.ensures in
    let g = sound_branched b (keeps a.s.block) in
    (omega arith, omega (arith, a.s.counted.some, a.s.counted.most), λ z. omega (arith, (g.each 1 (omega arith) (omega (arith, a.s.counted.most))).before), room_after v w r)

pub returns : goal.returns
returns c =
    let a = c.args in
    let b = a.s.block.bytes.now in
    let t = main_text (line_said a.mode b 0) in
    let v = concat variation_text (run (line_said a.mode b) 1 (a.s.lines - 1)) in
    let e = lines-text a.mode b a.s.counted in
    let h = room-front number_line t (room-front (number_line ++ t) v (room_as e c.requires)) in
    let all = ap (λ (m : ℕ). concat variation_text (run (line_said a.mode b) 1 m)) (c.put_under.ensures.lines_value ∙ before-all (line_in b) (a.s.lines - 1) 1) in
    as_text e (then (then (wrote_all {t = number_line} h c.put_bytes-n.ensures) c.put_main.ensures) (as_text all c.put_under.ensures.wrote))

pub overflow_add-result : goal.overflow_add-result
overflow_add-result c = sum_fits (returns c) c.well_formed.0.0
