use lib.ListN.{length}
use Rattle.sorted.proofs.+sort_places.Given as goal

abbrev pub decreases-sort_places : goal.decreases-sort_places
decreases-sort_places l = length l.from.now
