-- The star, the comment and the line feed are the three pieces of its line, written one after another; the whole fits, so each piece does.
-- Assumes nothing.
use mathlib.Core.List.{[], ◌∷◌, ◌++◌}
use Rattle.converter.specs.Entries.{remark_text, star_text}
use Rattle.lent.proofs.Room.{then_piece, room-front}
use Rattle.converter.proofs.kif.put_remark.Goals as goal

pub put_star-n-requires : goal.put_star-n-requires
unfolding remark_text
put_star-n-requires c =
    let t = c.args.c.now in
    room-front (star_text t) t (room-front (star_text t ++ t) (10 ∷ []) c.requires)

pub returns : goal.returns
unfolding remark_text
returns c =
    let t = c.args.c.now in
    let w = then_piece t c.put_star-n.ensures (room-front (star_text t ++ t) (10 ∷ []) c.requires) c.put_bytes.ensures in
    then_piece (10 ∷ []) w c.requires c.put_bytes-2.ensures
