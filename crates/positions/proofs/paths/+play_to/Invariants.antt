use Rattle.positions.proofs.paths.+play_to.Given as goal

abbrev pub decreases-play_to : goal.decreases-play_to
decreases-play_to l = l.k
