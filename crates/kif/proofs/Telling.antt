-- The figures of an answer in three numbers, and of where reading stops in seven, tell it.
-- Assumes nothing.
use Prim.Native.Nat.{ℕ}
use mathlib.Core.Path.{◌≡◌, refl, ap, ◌∙◌}
use mathlib.Core.List.{List, [], ◌∷◌}
use lib.ListN.{get_or}
use Rattle.jkf.specs.Answers.{figures}
use Rattle.jkf.specs.declared.Answer.{Answer}
use Rattle.jkf.specs.declared.Figures.{Figures}
use Rattle.block.specs.Look.{Answered}
use Rattle.stops.specs.Stopping.{stop_figures}
use Rattle.stops.specs.declared.StopAnswer.{StopAnswer}
use Rattle.stops.specs.declared.StopAnswer.TheVariants.{TextTooLong, NotUtf8, HandLine, NoEntry, Stopped}

pub told : {a : Answer} {f : Figures} → f ≡ figures a → Answered a f.number f.first f.second
told e = record { number = ap (λ (f : Figures). f.number) e; first = ap (λ (f : Figures). f.first) e; second = ap (λ (f : Figures). f.second) e }

-- seven numbers, one by one
abbrev pub each : List ℕ → List ℕ
each f = get_or f 0 0 ∷ get_or f 1 0 ∷ get_or f 2 0 ∷ get_or f 3 0 ∷ get_or f 4 0 ∷ get_or f 5 0 ∷ get_or f 6 0 ∷ []

seven : (x : StopAnswer) → each (stop_figures x) ≡ stop_figures x
seven (TextTooLong n) = refl
seven (NotUtf8 n) = refl
seven (HandLine at) = refl
seven (NoEntry a) = refl
seven (Stopped taken r at) = refl

pub stop-told : (x : StopAnswer) {f : List ℕ} → f ≡ stop_figures x → each f ≡ stop_figures x
stop-told x e = ap each e ∙ seven x
