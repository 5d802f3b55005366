-- The text is measured: where it does not fit, its length is answered, and else it is written.
-- Assumes nothing.
use Prim.Native.Nat.{ℕ, ◌-◌, ◌≤◌, ◌<◌}
use native.Mathlib.Omega.{arith}
use mathlib.Core.Path.{◌≡◌, refl, sym, ap, ap₂, ◌∙◌}
use mathlib.Core.List.{◌++◌}
use lib.ListN.{length, drop}
use Rattle.jkf.specs.declared.Answer.TheVariants.{Done, BufferShort}
use Rattle.block.specs.Decode.{decode}
use Rattle.converter.specs.Said.{left_out, said_record}
use Rattle.converter.specs.Show.{record_text}
use Rattle.converter.proofs.Blocked.{left_out_is}
use Rattle.converter.proofs.Showing.{too_short, has_room}
use Rattle.jkf.proofs.Answering.{told}
use Rattle.converter.proofs.write_all.Goals as goal

pub returns-then-out-needed : goal.returns-then-out-needed
returns-then-out-needed c =
    let w = (let b = c.args.s.block.bytes.now in
    let o = c.args.out.now in
    let t = record_text (said_record c.args.mode (decode b)) in
    let h : length o < length t = omega (arith, c.text_length-needed.ensures) in
    told (too_short t (left_out (decode b).lines) o h) (ap BufferShort c.text_length-needed.ensures, refl)) in
    record { value = w.0; out_after = w.1 }

pub put_record-requires : goal.put_record-requires
put_record-requires c = omega (arith, c.text_length-needed.ensures)

pub overflow_sub-result : goal.overflow_sub-result
overflow_sub-result c = omega (arith, c.lines_in.ensures.0, c.args.s.counted.most)

pub returns : goal.returns
returns c =
    let w = (let a = c.args in
    let b = a.s.block.bytes.now in
    let o = a.out.now in
    let t = record_text (said_record a.mode (decode b)) in
    let v = c.args.s.counted in
    let h : length t ≤ length o = omega (arith, c.text_length-needed.ensures) in
    let d : c.lines_in.result - a.s.lines ≡ left_out (decode b).lines = ap (λ (n : ℕ). n - a.s.lines) c.lines_in.ensures.0 ∙ sym (left_out_is v) in
    told (has_room t (left_out (decode b).lines) o h) (ap₂ Done c.text_length-needed.ensures d, c.put_record.ensures.bytes ∙ ap (λ (n : ℕ). t ++ drop n o) c.put_record.ensures.count)) in
    record { value = w.0; out_after = w.1 }
