-- Lists whose numbers are all bytes.
-- Assumes nothing.
use Prim.Native.Nat.{ℕ, zero, suc, ◌/◌, ◌%◌, ◌≤◌, ◌<◌}
use native.Mathlib.Omega.{arith}
use mathlib.Core.List.{List, [], ◌∷◌, ◌++◌}
use lib.ListN.{get_or, take, drop, replicate}
use Rattle.lent.specs.Bytes.{bytes16}

pub data Bytes : List ℕ → Type 0 where
  empty : Bytes []
  each : {b : ℕ} {l : List ℕ} → b < 256 → Bytes l → Bytes (b ∷ l)

pub bytes-at : {l : List ℕ} → Bytes l → (k : ℕ) → get_or l k 0 < 256
bytes-at empty k = omega arith
bytes-at (each h t) zero = h
bytes-at (each h t) (suc k) = bytes-at t k

pub bytes-join : {a b : List ℕ} → Bytes a → Bytes b → Bytes (a ++ b)
bytes-join empty u = u
bytes-join (each h t) u = each h (bytes-join t u)

pub bytes_one : {b : ℕ} → b < 256 → Bytes (b ∷ [])
bytes_one h = each h empty

pub bytes_16 : (n : ℕ) → Bytes (bytes16 n)
bytes_16 n =
    let p : n % 256 < 256 = omega arith in
    let q : n / 256 % 256 < 256 = omega arith in
    each p (bytes_one q)

pub byte : {b : ℕ} → b ≤ 255 → b < 256
byte h = omega arith

pub nought : 0 < 256
nought = omega arith

pub zeros : (n : ℕ) → Bytes (replicate n 0)
zeros zero = empty
zeros (suc n) = each nought (zeros n)

-- ---- parts

pub bytes-from : (l : List ℕ) → ((k : ℕ) → get_or l k 0 < 256) → Bytes l
bytes-from [] h = empty
bytes-from (b ∷ l) h = each (h 0) (bytes-from l (λ k. h (suc k)))

pub bytes_take : {l : List ℕ} (n : ℕ) → Bytes l → Bytes (take n l)
bytes_take zero h = empty
bytes_take (suc n) empty = empty
bytes_take (suc n) (each b h) = each b (bytes_take n h)

pub bytes_drop : {l : List ℕ} (n : ℕ) → Bytes l → Bytes (drop n l)
bytes_drop zero h = h
bytes_drop (suc n) empty = empty
bytes_drop (suc n) (each b h) = bytes_drop n h
