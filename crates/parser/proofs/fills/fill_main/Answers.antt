-- The slot, the entries and the row are those of the main line, and the row hangs on nothing.
-- Assumes nothing.
use Prim.Native.Nat.{ℕ}
use mathlib.Core.Path.{sym, ap, ◌∙◌}
use Rattle.plays.specs.Plays.{comments_at}
use Rattle.plays.specs.Losses.{lost_from}
use Rattle.parser.proofs.Mains.{slot_grows, past-main, main_lined, main_hangs}
use Rattle.parser.proofs.fills.fill_main.Goals as goal

pub overflow_sub-v : goal.overflow_sub-v
overflow_sub-v c =
    slot_grows c.args.s.now c.args.c.at c.args.w c.args.out.now c.requires c.skipped.result c.fill_comments-slot.result c.put_entry-u.result c.skipped.ensures c.fill_comments-slot.ensures.walk_value c.fill_comments-slot.ensures.out_after c.fill_comments-slot.ensures.at_value c.put_entry-u.ensures.value c.put_entry-u.ensures.out_after c.fill_moves-line.result c.fill_moves-line.ensures.walk_value c.fill_moves-line.ensures.out_after c.fill_moves-line.ensures.at_value

pub returns-in_default : goal.returns-in_default
returns-in_default c =
    main_hangs c.args.s.now c.args.c.at c.args.w c.args.out.now c.requires c.skipped.result c.fill_comments-slot.result c.put_entry-u.result c.skipped.ensures c.fill_comments-slot.ensures.walk_value c.fill_comments-slot.ensures.out_after c.fill_comments-slot.ensures.at_value c.put_entry-u.ensures.value c.put_entry-u.ensures.out_after c.fill_moves-line.result c.fill_moves-line.ensures.walk_value c.fill_moves-line.ensures.out_after c.fill_moves-line.ensures.at_value (sym c.in_default.is ∙ c.hang_line.ensures.value)

pub returns : goal.returns
returns c =
    record { lined = main_lined c.args.s.now c.args.c.at c.args.w c.args.out.now c.requires c.skipped.result c.fill_comments-slot.result c.put_entry-u.result c.skipped.ensures c.fill_comments-slot.ensures.walk_value c.fill_comments-slot.ensures.out_after c.fill_comments-slot.ensures.at_value c.put_entry-u.ensures.value c.put_entry-u.ensures.out_after c.fill_moves-line.result c.fill_moves-line.ensures.walk_value c.fill_moves-line.ensures.out_after c.fill_moves-line.ensures.at_value (sym c.in-Some.is ∙ c.hang_line.ensures.value) c.hang_line.ensures.out_after; at_value = past-main c.args.s.now c.args.c.at c.args.w c.args.out.now c.requires c.skipped.result c.fill_comments-slot.result c.put_entry-u.result c.skipped.ensures c.fill_comments-slot.ensures.walk_value c.fill_comments-slot.ensures.out_after c.fill_comments-slot.ensures.at_value c.put_entry-u.ensures.value c.put_entry-u.ensures.out_after c.fill_moves-line.result c.fill_moves-line.ensures.walk_value c.fill_moves-line.ensures.out_after c.fill_moves-line.ensures.at_value c.past-next.result c.past-next.ensures; lost_value = c.fill_moves-line.ensures.lost_value ∙ ap (lost_from c.args.s.now) (c.fill_comments-slot.ensures.at_value ∙ ap (λ (i : ℕ). (comments_at c.args.s.now i).at) c.skipped.ensures) }
