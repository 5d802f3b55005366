-- How every definition of the project goes by a test.
-- Assumes nothing: this is a definition.
use Rattle.std.specs.Prelude.{Bool, true, false}

-- The first where the test passes, the second where it fails. What must not be computed unless it is picked is bound by a `let`.
abbrev pub pick : {A : Type 0} → Bool → A → A → A
pick true a b = a
pick false a b = b
