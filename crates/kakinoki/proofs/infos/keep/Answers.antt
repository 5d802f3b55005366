-- A header line is counted, and stored where there is room; every other tag is told by the last arm.
-- Assumes nothing.
use mathlib.Core.Path.{◌≡◌, refl, sym, ◌∙◌}
use mathlib.Core.List.{[], ◌∷◌}
use lib.Seq.{set_out}
use borrow.Author.Rules.{rules}
use Rattle.lent.specs.Stored.{put}
use Rattle.lent.proofs.Regions.{put-none}
use Rattle.kakinoki.specs.Informations.{low16}
use Rattle.kakinoki.proofs.Tags.{keep_else}
use borrow.Enum.Refused.{opened}
use Rattle.kakinoki.proofs.infos.keep.Goals as goal
use Rattle.kakinoki.proofs.infos.keep.Goals.{Joined-n-places, then-n-places, else-n-places}

-- what the two arms leave: past the end nothing is stored
stored : (c : Joined-n-places) → c.if-n-places.places ≡ put c.args.places.now c.args.n (low16 (c.args.c.at ∷ []))
unfolding put
stored c =
    let a = c.args in
    elim c.if-n-places.branch [
      | then-n-places w ↦ w.places-is
      | else-n-places w ↦ w.places-is ∙ sym (set_out a.places.now a.n _ w.if-n-places.false)
    ]

pub returns-after-n-places : goal.returns-after-n-places
returns-after-n-places c = rw c.in-Keyed.is (record { value = refl; places_after = stored c })

pub returns-in_default : goal.returns-in_default
returns-in_default c = rw (keep_else c.args.info c.args.c.at (opened c.in_default.in_default-own.keys2)) (record { value = search rules; places_after = sym (put-none _ _) })
