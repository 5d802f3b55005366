-- What the code passes on the way: a run of bytes at once, and digits up to a place.
-- Assumes nothing: these are definitions.
use Rattle.std.specs.Prelude.{ℕ, ◌≤◌, max, ◌≡◌, List, length, true}
use Rattle.text.specs.Text.{is_digit, span_at, number_at}
use Rattle.text.specs.Utf8.{is_next}

-- Three bytes that are a character, of which the first is neither E0 nor ED, so that any later bytes may follow it.
pub record Three (a b c : ℕ) : Type 0 where
  pub low : 225 ≤ a
  pub high : a ≤ 239
  pub plain : a ≡ 237 → ⊥
  pub second : is_next b ≡ true
  pub third : is_next c ≡ true

-- From a place to r, all in the text: whether one goes on from the place or from r, f ends the same.
pub record Run (f : ℕ → ℕ) (s : List ℕ) (at r : ℕ) : Type 0 where
  pub from : at ≤ r
  pub within : r ≤ max at (length s)
  pub same : f at ≡ f r

-- A count of k tests: where it is k, all of them hold.
pub record Count (k r : ℕ) (All : Type 0) : Type 0 where
  pub most : r ≤ k
  pub all : r ≡ k → All

-- The digits from `start` to `at` made n, and those from `at` on are still to come.
pub record Reading (largest : ℕ) (s : List ℕ) (start at n : ℕ) : Type 0 where
  pub span : span_at is_digit s start ≡ span_at is_digit s at
  pub made : number_at s start 0 ≡ number_at s at n
  pub from : start ≤ at
  pub small : n ≤ largest
