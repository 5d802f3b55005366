-- The parts of a block by their places.
--     part-whole, part-as         a text that lies in the block; its place and length under other names
--     text_in, key_in, value_in   a text by its place among the texts
--     row_in                      an entry's row by its place among the rows
-- Assumes nothing.
use Prim.Native.Nat.{ℕ, ◌+◌, ◌*◌, ◌-◌}
use native.Mathlib.Omega.{arith}
use mathlib.Core.Path.{◌≡◌, ap, ◌∙◌}
use mathlib.Core.List.{List}
use lib.ListN.{take, drop}
use lib.Seq.{drop-drop}
use Rattle.block.specs.Decode.{move_place, text_place, stored_text, key_offset, key_length, key_of, value_offset, value_length, value_of}

-- it lies in the block
pub part_whole : (b : List ℕ) (at n : ℕ) → take (at + n - at) (drop at b) ≡ take n (drop at b)
part_whole b at n = let e : at + n - at ≡ n = omega arith in ap (λ (k : ℕ). take k (drop at b)) e

-- its place and its length under other names
pub part_as : (t : List ℕ) {o p n m : ℕ} → o ≡ p → n ≡ m → take n (drop o t) ≡ take m (drop p t)
part_as t {o} {p} {n} {m} e f = ap (λ (k : ℕ). take k (drop o t)) f ∙ ap (λ (k : ℕ). take m (drop k t)) e

module _ (b t : List ℕ) (e : t ≡ drop (text_place b) b) where
  -- a text by its place among the texts
  pub text-in : (o n : ℕ) → take n (drop o t) ≡ stored_text b o n
  text-in o n = ap (λ (l : List ℕ). take n (drop o l)) e ∙ ap (take n) (drop-drop o (text_place b) b)

  -- the key of a header entry, and its value
  pub key_in : (k : ℕ) → take (key_length b k) (drop (key_offset b k) t) ≡ key_of b k
  unfolding key_of
  key_in k = text-in (key_offset b k) (key_length b k)

  pub value_in : (k : ℕ) → take (value_length b k) (drop (value_offset b k) t) ≡ value_of b k
  unfolding value_of
  value_in k = text-in (value_offset b k) (value_length b k)

-- an entry's row by its place among the rows
pub row_in : (b : List ℕ) (k : ℕ) → drop (20 * k) (drop (move_place b 0) b) ≡ drop (move_place b k) b
row_in b k = let e : move_place b 0 + 20 * k ≡ move_place b k = omega arith in drop-drop (20 * k) (move_place b 0) b ∙ ap (λ (p : ℕ). drop p b) e
