-- Names for what reading, the edits and the listing compute with, crate by crate: to unfold one of these is to unfold what its line names.
-- Assumes nothing: they say nothing.
use Rattle.lists.specs.Repeat.{repeat_from, many_from}
use Rattle.lists.specs.Test.{all_below}
use Rattle.lent.specs.Numbers.{digits_from, decimal}
use Rattle.text.specs.Text.{span_from, span_at, prefix_from, stands_at, tag_at, past_all, break_at, tail_at, line_end_at, pad_width, number_from, number_at, digits_at, key_from, key_at, before, same}
use Rattle.text.specs.Utf8.{size_of, lowest_of, highest_of, second_of, is_next, char_width, character_at}
use Rattle.spell.specs.Spell.{first_of}
use Rattle.spell.specs.Count.{tens_at, hand_count_at}
use Rattle.sorted.specs.Sorted.{compared, by_bytes, enter, enter_all}
use Rattle.jkf.specs.Answers.{figures}
use Rattle.jkf.specs.Attaching.{near, hangs, hung_from, parent_in, attach_from, attach, all_hung}
use Rattle.block.specs.EntryBytes.{entry_head, entry_bytes, time_in, target_in, origin_in, move_in, entry_in}
use Rattle.block.specs.PositionBytes.{position_bytes, bytes_at, position_in}
use Rattle.block.specs.Decode.{run, key_of, value_of, comment_of, decode}
use Rattle.block.specs.Encode.{table, concat, head_bytes, encode}
use Rattle.block.specs.Sound.{sum, soundb}
use Rattle.moves.specs.Moves.{square_at, move_to_at, promote_at, origin_at, move_from_at, kind_to_origin_at, move_at, what_at, figure_at, hms_at, ms_at, clock_at, spaced_at, clocks_at, time_at, finished, move_line_at, remark_from, kept_at, comment_line_at, begins_no_skip, skip_line_at}
use Rattle.kakinoki.specs.Informations.{hash_line_at, hash_lines_at, padded_end_at, preset_line_at, turn_line_at, piece_at, piece_step, pieces_at, hand_at, held_at, hand_line_at, value_at, key_value_at, header_at, keyed_at, hands_or_keyed_at, information_at, information_item, informations_at, fault_at, tell, tell_all, pairs_of, header_places_from, header_places_at}
use Rattle.kakinoki.specs.Boards.{white_at, cell_at, cells_from, row_end_at, row_at, rows_from, board_at}
use Rattle.kakinoki.specs.Starts.{add_hands, merged, position_said, headers_said, header_places, start_read}
use Rattle.plays.specs.Plays.{comment_item, comments_at, entry_item, entries_at, number_item, numbers_at, in_sequence, ply_at, skipped_at, skips_at, play_item, variation_item, variations_at, main_at, plays_at}
use Rattle.parser.specs.Parse.{headers_of, parse, needed}
use Rattle.parser.specs.Read.{filled_with, read_stored, early_of, faultless, fill_of}
use Rattle.edit.specs.Edit.{fresh, is_variation, is_ply_of, carries, above, insert_at, insert_on, insert, not_below, remove}
use Rattle.edit.specs.Outcomes.{edit_stored, edited_of, put_in_of, cut_of}
use Rattle.shown.specs.Listing.{read_text, refusal_text, row_text, listed_row, rows_text, listing_text}
use Rattle.laws.specs.CaseTexts.{short_move, move_lines, origin_line, variation_lines, text_of, worked_text, worked_listing}
use Rattle.laws.specs.Cases.{listing, cases}

unfoldable lists : Unit {0}
unfolding repeat_from many_from all_below
lists = tt

unfoldable numbers : Unit {0}
unfolding digits_from decimal
numbers = tt

unfoldable places : Unit {0}
unfolding span_from span_at prefix_from stands_at tag_at past_all break_at tail_at line_end_at pad_width number_from number_at digits_at key_from key_at size_of lowest_of highest_of second_of is_next char_width character_at
places = tt

unfoldable spellings : Unit {0}
unfolding first_of tens_at hand_count_at
spellings = tt

unfoldable keys : Unit {0}
unfolding compared by_bytes enter enter_all
keys = tt

unfoldable values : Unit {0}
unfolding figures near hangs hung_from entry_head entry_bytes time_in target_in origin_in move_in entry_in position_bytes bytes_at position_in
values = tt

unfoldable blocks : Unit {0}
unfolding parent_in attach_from attach all_hung run key_of value_of comment_of decode table concat head_bytes encode sum before same soundb
blocks = tt

unfoldable lines : Unit {0}
unfolding square_at move_to_at promote_at origin_at move_from_at kind_to_origin_at move_at what_at figure_at hms_at ms_at clock_at spaced_at clocks_at time_at finished move_line_at remark_from kept_at comment_line_at begins_no_skip skip_line_at
lines = tt

unfoldable starts : Unit {0}
unfolding hash_line_at hash_lines_at padded_end_at preset_line_at turn_line_at piece_at piece_step pieces_at hand_at held_at hand_line_at value_at key_value_at header_at keyed_at hands_or_keyed_at information_at information_item informations_at fault_at tell tell_all pairs_of header_places_from header_places_at white_at cell_at cells_from row_end_at row_at rows_from board_at add_hands merged position_said headers_said header_places start_read
starts = tt

unfoldable readings : Unit {0}
unfolding comment_item comments_at entry_item entries_at number_item numbers_at in_sequence ply_at skipped_at skips_at play_item variation_item variations_at main_at plays_at headers_of parse needed filled_with read_stored early_of faultless fill_of
readings = tt

unfoldable edits : Unit {0}
unfolding fresh is_variation is_ply_of carries above insert_at insert_on insert not_below remove edit_stored edited_of put_in_of cut_of
edits = tt

unfoldable listings : Unit {0}
unfolding read_text refusal_text row_text listed_row rows_text listing_text
listings = tt

unfoldable texts : Unit {0}
unfolding short_move move_lines origin_line variation_lines text_of worked_text worked_listing listing cases
texts = tt

unfoldable pub opened : Unit {0}
unfolding lists numbers places spellings keys values blocks lines starts readings edits listings texts
opened = tt
