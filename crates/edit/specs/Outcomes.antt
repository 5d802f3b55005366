-- What `put_in`, `cut` and `restate` answer, and what the lent buffer then holds.                                (01, Numbers of refusal)
-- Assumes nothing: these are definitions.
use Rattle.std.specs.Prelude.{ℕ, List, length, eqb}
use Rattle.lists.specs.Pick.{pick}
use Rattle.jkf.specs.Answers.{Outcome, refuse}
use Rattle.jkf.specs.declared.Answer.TheVariants.{Done, NotSound}
use Rattle.block.specs.Encode.{encode}
use Rattle.block.specs.Decode.{version_in, decode}
use Rattle.block.specs.Sound.{soundb}
use Rattle.filling.specs.Filling.{unless_refused, at_front}
use Rattle.edit.specs.Edit.{Edited, edited, refused, insert, remove, restated}

-- The block of the edited record stands at the front of the buffer, and nothing past it changes.
unfoldable pub edit_stored : List ℕ → ℕ → List ℕ → Outcome
edit_stored b second o = unless_refused (length b) o (record { answer = Done (length b) second; buffer = at_front b o })

unfoldable pub edited_of : Edited → List ℕ → Outcome
edited_of (edited r second) o = edit_stored (encode r) second o
edited_of (refused a) o = refuse a o

-- Refusal 7, then 10 to 13, then 4 and 5.                                                             (01, Numbers of refusal: order)
unfoldable pub put_in_of : List ℕ → ℕ → List ℕ → List ℕ → Outcome
put_in_of b k t o = let r = edited_of (insert (decode b) k t) o in pick (soundb b) r (refuse NotSound o)

unfoldable pub cut_of : List ℕ → ℕ → List ℕ → Outcome
cut_of b k o = let r = edited_of (remove (decode b) k) o in pick (soundb b) r (refuse NotSound o)

-- Refusal 7 of all that is no sound block of version 1, a block of version 2 too; then 5. (4 cannot be: the block stays as long as it was.)
-- (02, request (vi): refusals 7, 5)
unfoldable pub restate_of : List ℕ → List ℕ → Outcome
restate_of b o =
    let r = edit_stored (encode (restated (decode b))) 0 o in
    pick (soundb b) (pick (eqb (version_in b) 1) r (refuse NotSound o)) (refuse NotSound o)
