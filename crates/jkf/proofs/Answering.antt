-- A number and two figures say one answer: the way back, so that no two answers have the same figures. And an outcome under another name.
-- Assumes nothing.
use Prim.Native.Nat.{ℕ}
use mathlib.Core.Path.{◌≡◌, refl, sym, ap, ◌∙◌}
use mathlib.Core.List.{List, [], ◌∷◌}
use lib.ListN.{get_or}
use Rattle.jkf.specs.declared.Answer.{Answer}
use Rattle.jkf.specs.declared.Answer.TheVariants.{Done, TextTooLong, NotUtf8, HandLine, BlockTooLong, BufferShort, NoEntry, NotSound, HandCount, CannotWrite, NoSuchPart, NotOneVariation, OutsideLine, EntryTaken, NoStart, NoSuchEntry, PlayStopped, StartsAtZero}
use Rattle.jkf.specs.declared.Figures.{Figures}
use Rattle.jkf.specs.Answers.{figures, Outcome}

-- The answers in the order of their numbers, with these figures; a number that none has is taken for the refusal without any.
abbrev pub answer_with : Figures → Answer
answer_with r =
    get_or
    (Done r.first r.second
    ∷ TextTooLong r.first
    ∷ NotUtf8 r.first
    ∷ HandLine r.first
    ∷ BlockTooLong r.first
    ∷ BufferShort r.first
    ∷ NoEntry r.first r.second
    ∷ NotSound
    ∷ HandCount r.first r.second
    ∷ CannotWrite r.first r.second
    ∷ NoSuchPart r.first
    ∷ NotOneVariation
    ∷ OutsideLine r.first r.second
    ∷ EntryTaken r.first r.second
    ∷ NotSound
    ∷ NoStart r.first
    ∷ NoSuchEntry r.first r.second
    ∷ PlayStopped r.first r.second
    ∷ NotSound ∷ NotSound
    ∷ StartsAtZero r.first
    ∷ [])
    r.number
    NotSound

pub back : (a : Answer) → answer_with (figures a) ≡ a
unfolding figures
back (Done x y) = refl
back (TextTooLong x) = refl
back (NotUtf8 x) = refl
back (HandLine x) = refl
back (BlockTooLong x) = refl
back (BufferShort x) = refl
back (NoEntry x y) = refl
back NotSound = refl
back (HandCount x y) = refl
back (CannotWrite x y) = refl
back (NoSuchPart x) = refl
back NotOneVariation = refl
back (OutsideLine x y) = refl
back (EntryTaken x y) = refl
back (NoStart x) = refl
back (NoSuchEntry x y) = refl
back (PlayStopped x y) = refl
back (StartsAtZero x) = refl

pub figures-one : (a b : Answer) → figures a ≡ figures b → a ≡ b
figures-one a b e = sym (back a) ∙ ap answer_with e ∙ back b

-- what holds of an outcome holds of it under another name
pub told : {x y : Outcome} {a : Answer} {o : List ℕ} → y ≡ x → (a ≡ x.answer) × (o ≡ x.buffer) → (a ≡ y.answer) × (o ≡ y.buffer)
told e p = rw e p
