-- Look-ups by the rows of a table.
-- Assumes nothing.
use Prim.Native.Nat.{ℕ}
use mathlib.Core.Path.{◌≡◌, subst}
use mathlib.Core.List.{List}
use Rattle.lent.specs.Bytes.{le16}
use Rattle.jkf.specs.declared.Answer.{Answer}
use Rattle.block.specs.Look.{look_answer, look_part, Answered}
use Rattle.block.specs.Decode.{stored_text}

-- the same answer under another name
pub told : {a a' : Answer} {n x y : ℕ} → a ≡ a' → Answered a n x y → Answered a' n x y
told {a} {a'} {n} {x} {y} e t = rw e at t

-- what `look` promises, with the table's length and the places of offset and length under other names
pub looked : (b : List ℕ) (k : ℕ) {s : List ℕ} {n m i j p q x y z : ℕ} → n ≡ m → i ≡ p → j ≡ q
    → (s ≡ look_part b n k (stored_text b (le16 b i) (le16 b j))) × Answered (look_answer b n k (le16 b i) (le16 b j)) x y z
    → (s ≡ look_part b m k (stored_text b (le16 b p) (le16 b q))) × Answered (look_answer b m k (le16 b p) (le16 b q)) x y z
looked b k {s} {n} {m} {i} {j} {p} {q} {x} {y} {z} e f g h =
    subst (λ (c : ℕ). (s ≡ look_part b m k (stored_text b (le16 b p) (le16 b c))) × Answered (look_answer b m k (le16 b p) (le16 b c)) x y z) g
    (subst (λ (c : ℕ). (s ≡ look_part b m k (stored_text b (le16 b c) (le16 b j))) × Answered (look_answer b m k (le16 b c) (le16 b j)) x y z) f
    (subst (λ (c : ℕ). (s ≡ look_part b c k (stored_text b (le16 b i) (le16 b j))) × Answered (look_answer b c k (le16 b i) (le16 b j)) x y z) e h))
