-- Header lines in the order of their keys, of equal keys the last.                                   (01, Reading rules; The block: header entry)
-- Assumes nothing: these are definitions.
use Rattle.std.specs.Prelude.{ℕ, ◌-◌, List, [], ◌∷◌, ◌++◌, length, replicate, ltb}
use Rattle.lists.specs.Pick.{pick}
use Rattle.text.specs.Text.{key_at}
use Rattle.std.specs.declared.cmp.Ordering.{Ordering}
use Rattle.std.specs.declared.cmp.Ordering.TheVariants.{Less, Equal, Greater}

abbrev pub on_order : {A : Type 0} → Ordering → A → A → A → A
on_order Less a b c = a
on_order Equal a b c = b
on_order Greater a b c = c

-- ---- the order

unfoldable pub compared : ℕ → ℕ → Ordering
compared x y = pick (ltb x y) Less (pick (ltb y x) Greater Equal)

-- Lists of bytes as a dictionary orders them.                                                        (01, The block: keys ascending by bytes)
unfoldable pub by_bytes : List ℕ → List ℕ → Ordering
by_bytes [] [] = Equal
by_bytes [] (y ∷ ys) = Less
by_bytes (x ∷ xs) [] = Greater
by_bytes (x ∷ xs) (y ∷ ys) = let r = by_bytes xs ys in on_order (compared x y) Less r Greater

-- Header lines, which the places where they begin stand for.
abbrev pub by_key : List ℕ → ℕ → ℕ → Ordering
by_key s p q = by_bytes (key_at s p) (key_at s q)

-- ---- what is kept

-- What is entered into an ascending list stands at its place, instead of what was equal to it.        (01, Reading rules: the last wins)
unfoldable pub enter : {A : Type 0} → (A → A → Ordering) → List A → A → List A
enter o [] p = p ∷ []
enter o (x ∷ l) p = on_order (o x p) (x ∷ enter o l p) (p ∷ l) (p ∷ x ∷ l)

-- One after the other.                                                                               (the Rust's HashMap)
unfoldable pub enter_all : {A : Type 0} → (A → A → Ordering) → List A → List A → List A
enter_all o l [] = l
enter_all o l (p ∷ ps) = enter_all o (enter o l p) ps

-- The places of header lines by key, of equal keys the last.
unfoldable pub kept : List ℕ → List ℕ → List ℕ
kept s ps = enter_all (by_key s) [] ps

-- ---- in a buffer

-- At most as many lines as a text of 65,535 bytes can have, and a buffer that has room for them all; or else the other.
abbrev pub if_room : {A : Type 0} → List ℕ → List ℕ → A → A → A
if_room ps o a b = pick (ltb 13107 (length ps)) b (pick (ltb (length o) (length ps)) b a)

unfoldable pub kept_count : List ℕ → List ℕ → List ℕ → ℕ
kept_count s ps o = if_room ps o (length (kept s ps)) 0

-- The kept places, and zeros behind them.
unfoldable pub kept_buffer : List ℕ → List ℕ → List ℕ → List ℕ
kept_buffer s ps o = if_room ps o (kept s ps ++ replicate (length o - length (kept s ps)) 0) o
