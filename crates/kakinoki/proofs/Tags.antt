-- What the last arm of a `match` says, which is told the tags that are left.
-- Assumes nothing.
use Rattle.std.specs.Prelude.{None}
use Prim.Native.Nat.{ℕ}
use native.Mathlib.Omega.{arith}
use mathlib.Core.Path.{◌≡◌, refl}
use mathlib.Core.Logic.{⊎_elim}
use mathlib.Core.List.{List, [], ◌∷◌}
use types.Run.{OneOf}
use denote.Enum.Declared.{tag_of}
use Rattle.jkf.specs.Model.{Header}
use Rattle.kakinoki.specs.Informations.{said_of, fault_of, tell, keyed_place}
use Rattle.kakinoki.specs.declared.Info.{Info}
use Rattle.kakinoki.specs.declared.Info.TheVariants.{Preset, Turn, Hands, Keyed, Refused, Nothing}
use Rattle.kakinoki.specs.declared.Told.{Told}
use Rattle.kakinoki.specs.contracts.Info.{the_type}

-- all but a hand line that cannot be read
pub fault_else : (i : Info) (at : ℕ) → OneOf (0 ∷ 1 ∷ 2 ∷ 3 ∷ 5 ∷ []) (tag_of the_type i) → fault_of i at ≡ None
fault_else (Preset n) at h = refl
fault_else (Turn n) at h = refl
fault_else (Hands side) at h = refl
fault_else Keyed at h = refl
fault_else Refused at h =
    absurd (⊎_elim (λ e. omega arith) (⊎_elim (λ e. omega arith) (⊎_elim (λ e. omega arith) (⊎_elim (λ e. omega arith) (λ e. omega arith)))) h)
fault_else Nothing at h = refl

-- all but a header line
pub keep_else : (i : Info) (at : ℕ) → OneOf (0 ∷ 1 ∷ 2 ∷ 4 ∷ 5 ∷ []) (tag_of the_type i) → keyed_place i at ≡ []
keep_else (Preset n) at h = refl
keep_else (Turn n) at h = refl
keep_else (Hands side) at h = refl
keep_else Keyed at h =
    absurd (⊎_elim (λ e. omega arith) (⊎_elim (λ e. omega arith) (⊎_elim (λ e. omega arith) (⊎_elim (λ e. omega arith) (λ e. omega arith)))) h)
keep_else Refused at h = refl
keep_else Nothing at h = refl

-- all but preset, turn and hands
pub tell_else : (t : Told) (i : Info) (counts : List ℕ) (h : Header) → OneOf (3 ∷ 4 ∷ 5 ∷ []) (tag_of the_type i) → tell t (said_of i counts h) ≡ t
unfolding tell
tell_else t (Preset n) counts h k = absurd (⊎_elim (λ e. omega arith) (⊎_elim (λ e. omega arith) (λ e. omega arith)) k)
tell_else t (Turn n) counts h k = absurd (⊎_elim (λ e. omega arith) (⊎_elim (λ e. omega arith) (λ e. omega arith)) k)
tell_else t (Hands side) counts h k = absurd (⊎_elim (λ e. omega arith) (⊎_elim (λ e. omega arith) (λ e. omega arith)) k)
tell_else t Keyed counts h k = refl
tell_else t Refused counts h k = refl
tell_else t Nothing counts h k = refl
