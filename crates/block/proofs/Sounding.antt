-- A sound block keeps what 01 asks; where a fact is so, what it makes is made; and the block that is made is the one that was given.
-- Assumes nothing.
use Prim.Native.Nat.{ℕ}
use mathlib.Core.Path.{◌≡◌, refl, sym, ap, ◌∙◌}
use mathlib.Core.List.{List}
use mathlib.Core.Bool.{Bool, true, false, false≢true, Bool-set}
use Rattle.std.specs.Prelude.{Option, Some, is_some, unwrap_or}
use Rattle.std.specs.Borrow.{Bor}
use Rattle.block.specs.Sound.{soundb}
use Rattle.block.specs.SoundBlocks.{where_so, sound_block}
use Rattle.block.specs.declared.sound_block.SoundBlock.{SoundBlock}
use Rattle.block.specs.inner.Sounds.{Sound}
use Rattle.block.proofs.Deciding.{sound_says}

-- what 01 asks of the bytes
pub keeps : (b : SoundBlock) → Sound b.bytes.now
keeps b = sound_says b.bytes.now b.sound

pub where_so_is : {A : Type 0} (x : Bool) (f : x ≡ true → A) (h : x ≡ true) → Some (f h) ≡ where_so x f
where_so_is true f h = ap (λ (q : true ≡ true). Some (f q)) (Bool-set true true h refl)
where_so_is false f h = absurd (false≢true h)

made : {A : Type 0} (x : Bool) (f : x ≡ true → A) (b : A) → where_so x f ≡ Some b → (h : x ≡ true) × (f h ≡ b)
made {A = A} true f b e = (refl, ap (λ (o : Option A). unwrap_or o b) e)
made {A = A} false f b e = absurd (false≢true (ap is_some e))

unmade : {A : Type 0} (x : Bool) (f : x ≡ true → A) → ((b : A) → where_so x f ≡ Some b → ⊥) → x ≡ false
unmade true f never = absurd (never (f refl) refl)
unmade false f never = refl

module _ (s : Bor (List ℕ)) {o : Option SoundBlock} (e : o ≡ sound_block s) where
  -- where one is made, the bytes are sound, and its own
  pub made_of : (b : SoundBlock) → o ≡ Some b → (soundb s.now ≡ true) × (s.now ≡ b.bytes.now)
  made_of b is =
      let (h, k) = made (soundb s.now) (λ h. record { bytes = s; sound = h }) b (sym e ∙ is) in
      (h, ap (λ (x : SoundBlock). x.bytes.now) k)

  -- where none is made, they are not sound
  pub none_of : ((b : SoundBlock) → o ≡ Some b → ⊥) → soundb s.now ≡ false
  none_of never = unmade (soundb s.now) (λ h. record { bytes = s; sound = h }) (λ b k. never b (e ∙ k))
