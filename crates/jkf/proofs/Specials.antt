-- A number past the table of endings is the last ending.
-- Assumes nothing.
use Prim.Native.Nat.{ℕ, zero, suc, zero-le, ◌≤◌}
use native.Mathlib.Omega.{arith}
use mathlib.Core.Path.{◌≡◌}
use mathlib.Core.List.{[], ◌∷◌}
use lib.ListN.{get_or-eq_default}
use Rattle.jkf.specs.declared.Special.TheVariants.{Toryo, Chudan, Sennichite, TimeUp, IllegalMove, IllegalActionBlack, IllegalActionWhite, Jishogi, Kachi, Hikiwake, Matta, Tsumi, Fuzumi, Error}
use Rattle.jkf.specs.Entries.{special_of}

-- n is none of the numbers below k: what the last arm of a match knows
abbrev pub NoneOf : ℕ → ℕ → Type 0
NoneOf zero n = Unit {0}
NoneOf (suc k) n = NoneOf k n × (n ≡ k → ⊥)

none_below : (k n : ℕ) → NoneOf k n → k ≤ n
none_below zero n h = zero-le
none_below (suc k) n h = go (none_below k n h.0) h.1
  where
    go : k ≤ n → (n ≡ k → ⊥) → suc k ≤ n
    go l d = omega arith

-- a number past the table of endings is the last ending
pub special_past : (n : ℕ) → NoneOf 13 n → special_of n ≡ Error
special_past n h =
    get_or-eq_default
    (Toryo ∷ Chudan ∷ Sennichite ∷ TimeUp ∷ IllegalMove ∷ IllegalActionBlack ∷ IllegalActionWhite ∷ Jishogi ∷ Kachi ∷ Hikiwake ∷ Matta ∷ Tsumi ∷ Fuzumi ∷ [])
    Error
    (none_below 13 n h)
