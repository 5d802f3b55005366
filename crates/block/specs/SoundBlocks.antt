-- A block that carries the fact that it is sound.                                                    (01, The block: sound)
-- Assumes nothing: these are definitions.
use Rattle.std.specs.Prelude.{ℕ, List, Bool, true, false, Option, Some, None, ◌≡◌, refl}
use Rattle.std.specs.Borrow.{Bor}
use Rattle.block.specs.Sound.{soundb}
use Rattle.block.specs.declared.sound_block.SoundBlock.{SoundBlock}

-- What a fact makes, where it is so.
abbrev pub where_so : {A : Type 0} → (x : Bool) → (x ≡ true → A) → Option A
where_so true f = Some (f refl)
where_so false f = None

-- The block, if it is sound.
abbrev pub sound_block : Bor (List ℕ) → Option SoundBlock
sound_block b = where_so (soundb b.now) (λ h. record { bytes = b; sound = h })
