use Prim.Native.Nat.{ℕ}
use mathlib.Core.Path.{◌≡◌, subst}
use Rattle.block.specs.Decode.{run, header_in}
use Rattle.filling.specs.Filling.{header}
use Rattle.filling.specs.inner.Parts.{put_headers}
use Rattle.filling.proofs.Growing.{header-size}
use Rattle.edit.proofs.Copied.{run_step, run_done, header_copied}
use Rattle.edit.proofs.copies.copy_headers.Goals as goal

pub loop-k-preserved : goal.loop-k-preserved
loop-k-preserved c = let b = c.args.b.now in let l = c.loop-k in run_step (header_in b) 0 c.headers_in-count.result l.invariant (header c.key_of.result.now c.value_of.result.now) (header_copied b l.k c.key_of.ensures c.value_of.ensures) c.loop-k-test.true (header-size (header c.key_of.result.now c.value_of.result.now) l.v l.out) c.put_header-v.ensures.value c.put_header-v.ensures.out_after

pub returns : goal.returns
returns c =
    let w = (let b = c.args.b.now in subst (λ (n : ℕ). (c.loop-k.v ≡ (put_headers (run (header_in b) 0 n) c.args.w c.args.out.now).walk) × (c.loop-k.out ≡ (put_headers (run (header_in b) 0 n) c.args.w c.args.out.now).buffer)) c.headers_in-count.ensures.0 (run_done (header_in b) 0 c.headers_in-count.result c.loop-k.invariant c.loop-k-test.false)) in
    record { value = w.0; out_after = w.1 }
