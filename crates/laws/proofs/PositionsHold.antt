-- The theorems of the positions, each proved with the crate that plays.
-- Assumes nothing.
use Rattle.block.specs.Decode.{decode}
use Rattle.block.proofs.Deciding.{sound_says}
use Rattle.positions.proofs.Kept.{step_keeps, turn_alternates}
use Rattle.positions.proofs.Walks.{play-follows, path_under, parent-before}
use Rattle.positions.proofs.Examples.{three_right, four_right, five_right, stops_right}
use Rattle.positions.proofs.Whole.{fit_sound, start_fit, answer_keeps, answer-follows, variation_follows}
use Rattle.laws.specs.Positions.{PositionTheorems}

pub positions_hold : PositionTheorems
unfolding decode
positions_hold =
    record {
      step_keeps = step_keeps;
      turn_alternates = turn_alternates;
      answer_keeps = answer_keeps;
      fit_sound = fit_sound;
      start_fits = λ b u q. start_fit b (sound_says b q) u;
      answer-follows = answer-follows;
      variation_follows = variation_follows;
      play-follows = play-follows;
      path_under = λ b k n q z h. path_under b k n (parent-before b (sound_says b q) k z h);
      three_right = three_right;
      four_right = four_right;
      five_right = five_right;
      stops_right = stops_right;
    }
