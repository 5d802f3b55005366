use Prim.Native.Nat.{◌+◌, ◌*◌}
use Rattle.converter.proofs.kif.+put_line_put_under.Given as goal

abbrev pub decreases-put_line : goal.decreases-put_line
decreases-put_line l = 2 * l.n

abbrev pub decreases-put_under : goal.decreases-put_under
decreases-put_under l = 2 * l.n + 1
