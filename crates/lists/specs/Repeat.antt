-- What is read again and again: a step at a place, with a state, goes on at a later place with another state, or stops.
-- Assumes nothing: these are definitions.
use Rattle.std.specs.Prelude.{ℕ, zero, suc, List, [], ◌∷◌}

-- What one step answers: the next place and state, or that there is nothing more.
pub data Step (A : Type 0) : Type 0 where
  more : ℕ → A → Step A
  stop : Step A

-- Where a repetition ended, and with which state.
pub record Ended (A : Type 0) : Type 0 where
  pub at : ℕ
  pub state : A

abbrev pub on_step : {A B : Type 0} → Step A → (ℕ → A → B) → B → B
on_step (more at a) f d = f at a
on_step stop f d = d

abbrev pub ended : {A : Type 0} → ℕ → A → Ended A
ended at a = record { at = at; state = a }

-- At most as many steps as the fuel says.
unfoldable pub repeat_from : {A : Type 0} → (ℕ → A → Step A) → ℕ → ℕ → A → Ended A
repeat_from f zero at a = ended at a
repeat_from f (suc k) at a = on_step (f at a) (λ at' a'. repeat_from f k at' a') (ended at a)

-- As many items as stand one after the other from a place on, at most as many as the fuel says.   (nom's many0)
unfoldable pub many_from : {A : Type 0} → (ℕ → Step A) → ℕ → ℕ → Ended (List A)
many_from item zero at = ended at []
many_from item (suc k) at = on_step (item at) (λ next a. let r = many_from item k next in ended r.at (a ∷ r.state)) (ended at [])
