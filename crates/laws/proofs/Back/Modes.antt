-- Reading back in every mode: what the text says, where its lines hang, and what is read. The plain text is a whole text, of what it says.
--     says_back          the header entries, the position and the lines of play
--     hangs-back         these hang where they did, where no entry has two
--     still-hangs        they all hang anyhow; and where they did only where no entry has two
--     single-in-one      in version 1 none has
--     reads-back-in      so what is read
-- Assumes nothing.
use Rattle.converter.specs.declared.Mode.TheVariants.{Plain, Whole, Shared}
use Rattle.converter.specs.Said.{said_record}
use Rattle.edit.proofs.Listing.{as_single}
use Rattle.edit.proofs.Afresh.{back_nests, back_parent, back_2}
use Rattle.laws.specs.Modes.{kept_in, whole, shared}
use Rattle.laws.specs.Back.{SaysBack, HangsBack, StillHangs, SingleInOne, ReadsBackIn}
use Rattle.laws.proofs.Back.Texts.{parse_back}
use Rattle.laws.proofs.Back.SaidTwice.{plain_is_whole}
use Rattle.laws.proofs.Back.Records.{kept_hung, kept_attached, all_fit, plain_fit, all_back, plain_back}

pub says_back : SaysBack
says_back Plain r g s c h z = rw (← plain_is_whole r) (parse_back whole (said_record Plain r) (plain_fit r g s c h))
says_back Whole r g s c h z = parse_back whole r (all_fit r g s c h z)
says_back Shared r g s c h z = parse_back shared r (all_fit r g s c h z)

pub hangs_back : HangsBack
hangs_back mode r g single = let a = kept_attached mode r (kept_hung mode r g) single in (a.hung, a.same)

pub still_hangs : StillHangs
still_hangs mode r g =
    let h = kept_hung mode r g in
    let ls = (kept_in mode r).lines in (
      back_nests ls h.some r.version h.hangs h.full,
      (back_2 ls h.some r.version h.hangs h.full).1,
      λ k z l f. (back_parent ls h.some r.version h.hangs h.full k z l).1 f,
    )

pub single_in_one : SingleInOne
single_in_one mode r g one = let h = kept_hung mode r g in as_single r.version (kept_in mode r).lines h.some h.hangs one

pub reads_back_in : ReadsBackIn
reads_back_in Plain r g s c single h z short o room = plain_back r g s c h single short o room
reads_back_in Whole r g s c single h z short o room = all_back r g s c h whole single z short o room
reads_back_in Shared r g s c single h z short o room = all_back r g s c h shared single z short o room
