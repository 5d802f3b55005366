-- The comments first, and then the entry.
-- Assumes nothing.
use native.Mathlib.Omega.{arith}
use Rattle.block.proofs.Within.{moves-small, comments-within, comments-small}
use Rattle.edit.proofs.Copied.{noted_copied}
use Rattle.block.proofs.Sounding.{keeps}
use Rattle.edit.proofs.copies.copy_entry.Goals as goal

pub copy_comments-v-requires : goal.copy_comments-v-requires
copy_comments-v-requires c = let a = c.args in let s = keeps a.b in omega (arith, comments-within a.b.bytes.now s a.k c.requires, comments-small a.b.bytes.now s, c.first_comment.ensures.0, c.comment_count.ensures.0)

pub returns : goal.returns
returns c =
    let w = (let a = c.args in
    noted_copied a.b.bytes.now a.k a.w a.out.now c.first_comment.ensures.0 c.comment_count.ensures.0 c.copy_comments-v.ensures.value c.copy_comments-v.ensures.out_after c.entry_of.ensures c.put_entry.ensures.value c.put_entry.ensures.out_after) in
    record { value = w.0; out_after = w.1 }

pub overflow_cast-i : goal.overflow_cast-i
overflow_cast-i c = omega (arith, moves-small c.args.b.bytes.now (keeps c.args.b))
