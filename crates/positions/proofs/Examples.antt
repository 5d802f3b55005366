-- The worked games and each reason to stop, computed.
-- Assumes nothing.
use mathlib.Core.Path.{refl}
use Rattle.positions.specs.Steps.{cell_place, landing, leaving, missing, owned, class, promoted, piece_of, is_there, land_verdict, move_verdict, in_hand, drop_verdict, verdict_of, one_more, one_less, moved, dropped, played, stepped}
use Rattle.positions.specs.Paths.{hirate}
use Rattle.positions.specs.Examples.{ThreeRight, FourRight, FiveRight, StopsRight}

pub three_right : ThreeRight
unfolding cell_place landing leaving missing owned class promoted piece_of is_there land_verdict move_verdict in_hand drop_verdict verdict_of one_more one_less moved dropped played stepped hirate
three_right = refl

pub four_right : FourRight
unfolding cell_place landing leaving missing owned class promoted piece_of is_there land_verdict move_verdict in_hand drop_verdict verdict_of one_more one_less moved dropped played stepped hirate
four_right = refl

pub five_right : FiveRight
unfolding cell_place landing leaving missing owned class promoted piece_of is_there land_verdict move_verdict in_hand drop_verdict verdict_of one_more one_less moved dropped played stepped hirate
five_right = refl

pub stops_right : StopsRight
unfolding cell_place landing leaving missing owned class promoted piece_of is_there land_verdict move_verdict in_hand drop_verdict verdict_of one_more one_less moved dropped played stepped hirate
stops_right = refl
