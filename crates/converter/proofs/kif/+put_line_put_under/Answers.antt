-- A line is written by itself and then the lines on it, by the sibling writer; that one writes the first of its lines with all that hangs from it,
-- and then the others from where that ends, unless the line there hangs on another: then it hangs on one before, and nothing more hangs from line p.
-- With n lines unwritten the measure is 2n for the line writer and 2n + 1 for the sibling writer.
-- Assumes nothing.
use Prim.Native.Nat.{ℕ, ◌+◌, ◌-◌, ◌<◌}
use native.Mathlib.Omega.{arith}
use mathlib.Core.Path.{sym, ap, ◌∙◌}
use Rattle.jkf.specs.Trees.{not_before}
use Rattle.block.specs.Decode.{run, start_of, entry_count, line_in}
use Rattle.block.specs.Encode.{concat}
use Rattle.block.proofs.Tabling.{concat-none}
use Rattle.block.proofs.Hanging.{sound_branched}
use Rattle.lent.proofs.Writes.{as_text, nothing, within, then}
use Rattle.lent.proofs.Room.{room_after, room_as, room-front}
use Rattle.converter.specs.Show.{variation_text}
use Rattle.converter.specs.inner.Lines.{line_said}
use Rattle.converter.proofs.Runs.{concat-first, concat-next, concat_both, concat-cut}
use Rattle.converter.proofs.Branches.{before-none, before-first, before-most, line-most, under_step, under_next}
use Rattle.block.proofs.Sounding.{keeps}
use Rattle.block.proofs.Within.{lines-small}
use Rattle.converter.proofs.kif.+put_line_put_under.Goals as goal
use Rattle.converter.proofs.kif.+put_line_put_under.Goals.{put_under-then-n-eq0-via-then-n-eq0, put_under-then-n-eq0-via-else-n-eq0+then-parent_of-p}

pub put_line-slice_bounds-put_under-count : goal.put_line-slice_bounds-put_under-count
put_line-slice_bounds-put_under-count t c = within c.put_variation-m.ensures

pub put_line-put_under-r-requires : goal.put_line-put_under-r-requires
put_line-put_under-r-requires t c =
    let a = c.args in
    let b = a.b.bytes.now in
    let f = line_said a.mode b in
    let p = c.requires in
    let h = room_as (sym (concat-first variation_text f a.k a.n p.1)) p.3 in (
      omega arith,
      (
        omega arith,
        omega arith,
        λ z. omega (arith, ((sound_branched b (keeps a.b)).each (a.k + 1) (omega arith) (omega arith)).before),
        room_after (concat variation_text (run f (a.k + 1) (a.n - 1))) c.put_variation-m.ensures h,
      ),
    )

pub put_line-returns : goal.put_line-returns
put_line-returns t c =
    let a = c.args in
    record { lines_value = ap (λ (m : ℕ). 1 + m) c.put_under-r.ensures.lines_value; wrote = as_text (sym (concat-next variation_text (line_said a.mode a.b.bytes.now) a.k c.put_under-r.result.lines)) (then c.put_variation-m.ensures c.put_under-r.ensures.wrote) }

pub put_under-returns-then-n-eq0 : goal.put_under-returns-then-n-eq0
put_under-returns-then-n-eq0 t c =
    let a = c.args in
    let b = a.b.bytes.now in
    let f = line_said a.mode b in
    let p = c.requires in
    record {
      lines_value = elim c.then-n-eq0.branch [
        | put_under-then-n-eq0-via-then-n-eq0 w ↦ sym (ap (λ (m : ℕ). not_before a.p (run (line_in b) a.k m)) w.if-n-eq0.true ∙ before-none (line_in b) a.p a.k)
        | put_under-then-n-eq0-via-else-n-eq0+then-parent_of-p w ↦
            let some : 0 < a.n = omega (arith, w.if-n-eq0.false) in
            let low = p.2 some in
            let is = w.parent_of.ensures.0 in
            sym (before-first (line_in b) a.p a.k a.n (omega (arith, w.if-parent_of-p.true)))
      ];
      wrote = as_text (sym (concat-none variation_text f a.k)) (nothing _);
    }

pub put_under-put_line-f-requires : goal.put_under-put_line-f-requires
put_under-put_line-f-requires t c =
    let a = c.args in
    let b = a.b.bytes.now in
    let f = line_said a.mode b in
    let p = c.requires in
    (omega arith, (p.0, omega arith, p.1, p.3))

pub put_under-slice_bounds-put_under-count : goal.put_under-slice_bounds-put_under-count
put_under-slice_bounds-put_under-count t c = within c.put_line-f.ensures.wrote

pub put_under-overflow_add-k : goal.put_under-overflow_add-k
put_under-overflow_add-k t c =
    let a = c.args in
    let b = a.b.bytes.now in
    let p = c.requires in
    let some : 0 < a.n = omega (arith, c.if-n-eq0.false) in
    let w = line-most (line_in b) a.k a.n some c.put_line-f.ensures.lines_value in
    record { fits = omega (arith, lines-small b (keeps a.b)) }

pub put_under-overflow_sub-n : goal.put_under-overflow_sub-n
put_under-overflow_sub-n t c =
    let a = c.args in
    let b = a.b.bytes.now in
    let p = c.requires in
    let some : 0 < a.n = omega (arith, c.if-n-eq0.false) in
    let w = line-most (line_in b) a.k a.n some c.put_line-f.ensures.lines_value in
    omega arith

pub put_under-put_under-r-requires : goal.put_under-put_under-r-requires
put_under-put_under-r-requires t c =
    let a = c.args in
    let b = a.b.bytes.now in
    let f = line_said a.mode b in
    let p = c.requires in
    let some : 0 < a.n = omega arith in
    let w = line-most (line_in b) a.k a.n some c.put_line-f.ensures.lines_value in
    let on = c.parent_of.ensures.0 in
    let h = room_as (sym (concat-cut variation_text f a.k c.put_line-f.result.lines a.n w)) p.3 in (
      omega arith,
      (
        omega arith,
        omega arith,
        under_next (line_in b) (start_of b) (entry_count b) (sound_branched b (keeps a.b)) a.k a.n c.put_line-f.result.lines p.0 some p.1 c.put_line-f.ensures.lines_value a.p (omega arith),
        room_after (concat variation_text (run f (a.k + c.put_line-f.result.lines) (a.n - c.put_line-f.result.lines))) c.put_line-f.ensures.wrote h,
      ),
    )

pub put_under-overflow_add-result-2 : goal.put_under-overflow_add-result-2
put_under-overflow_add-result-2 t c =
    let a = c.args in
    let b = a.b.bytes.now in
    let p = c.requires in
    let some : 0 < a.n = omega (arith, c.if-n-eq0.false) in
    let w = line-most (line_in b) a.k a.n some c.put_line-f.ensures.lines_value in
    let r = c.put_line-f.result.lines in
    let u = c.put_under-r.ensures.lines_value in
    record { fits = omega (arith, before-most (line_in b) a.p (a.n - r) (a.k + r)) }

pub put_under-returns : goal.put_under-returns
put_under-returns t c =
    let a = c.args in
    let b = a.b.bytes.now in
    let f = line_said a.mode b in
    let p = c.requires in
    let some : 0 < a.n = omega (arith, c.if-n-eq0.false) in
    let on = c.parent_of.ensures.0 in record { lines_value = ap (λ (m : ℕ). c.put_line-f.result.lines + m) c.put_under-r.ensures.lines_value ∙ sym (under_step (line_in b) (start_of b) (entry_count b) (sound_branched b (keeps a.b)) a.k a.n c.put_line-f.result.lines p.0 some p.1 c.put_line-f.ensures.lines_value a.p (omega (arith, c.if-parent_of-p.false))); wrote = as_text (sym (concat_both variation_text f a.k c.put_line-f.result.lines c.put_under-r.result.lines)) (then c.put_line-f.ensures.wrote c.put_under-r.ensures.wrote) }

pub put_line-put_variation-m-requires : goal.put_line-put_variation-m-requires
put_line-put_variation-m-requires t c =
    let a = c.args in
    let f = line_said a.mode a.b.bytes.now in
    let p = c.requires in
    let h = room_as (sym (concat-first variation_text f a.k a.n p.1)) p.3 in
    (omega arith, room-front (variation_text (f a.k)) (concat variation_text (run f (a.k + 1) (a.n - 1))) h)

pub put_line-overflow_add-result-2 : goal.put_line-overflow_add-result-2
put_line-overflow_add-result-2 t c =
    let a = c.args in
    let u = c.put_under-r.ensures.lines_value in
    let some = c.requires.1 in
    record { fits = omega (arith, before-most (line_in a.b.bytes.now) a.k (a.n - 1) (a.k + 1), c.ranges.n) }

pub put_line-overflow_add-k : goal.put_line-overflow_add-k
put_line-overflow_add-k t c = omega (arith, lines-small c.args.b.bytes.now (keeps c.args.b))

pub put_under-overflow_cast-k : goal.put_under-overflow_cast-k
put_under-overflow_cast-k t c = omega (arith, lines-small c.args.b.bytes.now (keeps c.args.b))
