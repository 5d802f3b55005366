-- Laws of the pieces of a line: room for each, one written after another, and how wide a move or an ending is.
--     front, behind   the room for the first of two pieces, and for the second once the first is written
--     then-fits       a second piece, for which there is room
-- Assumes nothing.
use Rattle.std.specs.Prelude.{Option, Some, None}
use Prim.Native.Nat.{ℕ, ◌≤◌}
use native.Mathlib.Omega.{arith}
use mathlib.Core.Path.{◌≡◌, refl, ap, ◌∙◌}
use mathlib.Core.Bool.{Bool, true, false}
use mathlib.Core.List.{List, [], ◌∷◌, ◌++◌}
use lib.ListN.{length}
use lib.Dec.{eqb, leb}
use borrow.Author.Tests.{eqb-true, eqb-false}
use Rattle.lists.specs.Pick.{pick}
use Rattle.lists.proofs.Laws.{by_pick}
use Rattle.lent.specs.Numbers.{padded}
use Rattle.spell.specs.Tables.{move_kinds}
use Rattle.spell.specs.Spell.{spelled}
use Rattle.jkf.specs.Entries.{special_of, time_of}
use Rattle.jkf.proofs.Specials.{special_past}
use Rattle.jkf.specs.declared.Clock.TheVariants.{Hms, Ms}
use Rattle.jkf.specs.declared.Move.{Move}
use Rattle.jkf.specs.declared.Entry.{Entry}
use Rattle.text.specs.Text.{same}
use Rattle.converter.specs.Entries.{target_text, promote_text, origin_text, move_text, kind_width, promote_width, origin_width, special_text, special_width, figure_text, clock_text, time_text, play_text, width_of, entry_line}
use Rattle.lent.proofs.Room.{room-front}

-- ---- room

-- the fronts of three pieces
pub three : (a b c : List ℕ) {n : ℕ} → length ((a ++ b) ++ c) ≤ n → (length a ≤ n) × (length (a ++ b) ≤ n)
three a b c h = (room-front a b (room-front (a ++ b) c h), room-front (a ++ b) c h)

-- the fronts of four
pub four : (a b c d : List ℕ) {n : ℕ} → length (((a ++ b) ++ c) ++ d) ≤ n → (length a ≤ n) × (length (a ++ b) ≤ n) × (length ((a ++ b) ++ c) ≤ n)
four a b c d h = (room-front a b (room-front (a ++ b) c (room-front ((a ++ b) ++ c) d h)), room-front (a ++ b) c (room-front ((a ++ b) ++ c) d h), room-front ((a ++ b) ++ c) d h)

-- the room for a text by the name that it has in an arm
pub room_of : {A : Type 0} (f : A → List ℕ) {x y : A} {n : ℕ} → x ≡ y → length (f x) ≤ n → length (f y) ≤ n
room_of f e h = rw e at h

-- the fronts of a move
pub move-room : (m : Move) {n : ℕ} → length (move_text m) ≤ n → (length (target_text m.to) ≤ n) × (length (target_text m.to ++ spelled move_kinds m.piece) ≤ n) × (length ((target_text m.to ++ spelled move_kinds m.piece) ++ promote_text m.promote) ≤ n)
unfolding move_text
move-room m h = four (target_text m.to) (spelled move_kinds m.piece) (promote_text m.promote) (origin_text m.from) h

-- the front of a clock without an hour
pub ms_room : (fill after m s : ℕ) {n : ℕ} → length (clock_text fill after (Ms m s)) ≤ n → length (figure_text fill 58 m) ≤ n
unfolding clock_text
ms_room fill after m s h = room-front (figure_text fill 58 m) (figure_text 48 after s) h

-- the fronts of one with an hour
pub hms_room : (fill after h m s : ℕ) {n : ℕ} → length (clock_text fill after (Hms h m s)) ≤ n
    → (length (figure_text fill 58 h) ≤ n) × (length (figure_text fill 58 h ++ figure_text 48 58 m) ≤ n)
unfolding clock_text
hms_room fill after h m s r = three (figure_text fill 58 h) (figure_text 48 58 m) (figure_text 48 after s) r

-- the fronts of an entry's line
pub line-room : (ply : ℕ) (e : Entry) {n : ℕ} → length (entry_line ply e) ≤ n
    → (length (padded 4 32 ply ++ (32 ∷ [])) ≤ n) × (length ((padded 4 32 ply ++ (32 ∷ [])) ++ play_text e) ≤ n) × (length (((padded 4 32 ply ++ (32 ∷ [])) ++ play_text e) ++ time_text (width_of e) (time_of e)) ≤ n)
unfolding entry_line
line-room ply e h = four (padded 4 32 ply ++ (32 ∷ [])) (play_text e) (time_text (width_of e) (time_of e)) (10 ∷ []) h

-- ---- widths

-- a kind is at most 4 wide
pub kind-narrow : (kind : ℕ) → kind_width kind ≤ 4
kind-narrow kind =
    by_pick (λ (w : ℕ). w ≤ 4) (leb 10 kind) (pick (leb kind 12) 4 2) 2 (λ _. by_pick (λ (w : ℕ). w ≤ 4) (leb kind 12) 4 2 (λ _. omega arith) (λ _. omega arith)) (λ _. omega arith)

-- 成 is at most 2 wide
pub promote_narrow : (promote : ℕ) → promote_width promote ≤ 2
promote_narrow promote = by_pick (λ (w : ℕ). w ≤ 2) (eqb promote 2) 2 0 (λ _. omega arith) (λ _. omega arith)

-- an origin is at most 4 wide
pub origin-narrow : (from : Option (ℕ × ℕ)) → origin_width from ≤ 4
origin-narrow None = omega arith
origin-narrow (Some (x, y)) = omega arith

-- n is none of some numbers: what the last arm of a match knows
abbrev pub NoneOf : List ℕ → ℕ → Type 0
NoneOf [] n = Unit {0}
NoneOf (k ∷ ks) n = NoneOf ks n × (n ≡ k → ⊥)

-- where k counts no width, only another number is left to look at
but : (k n : ℕ) → special_width (special_of k) ≡ 0 → ((n ≡ k → ⊥) → special_width (special_of n) ≡ 0) → special_width (special_of n) ≡ 0
but k n z f = go (eqb n k) refl
  where
    go : (b : Bool) → eqb n k ≡ b → special_width (special_of n) ≡ 0
    go true e = ap (λ (i : ℕ). special_width (special_of i)) (eqb-true n k e) ∙ z
    go false e = f (eqb-false n k e)

-- the endings that count no width: 1, 5, 6, 9, 10, 12, and those from 13 on
pub special_else : (n : ℕ) → NoneOf (11 ∷ 8 ∷ 7 ∷ 4 ∷ 3 ∷ 2 ∷ 0 ∷ []) n → special_width (special_of n) ≡ 0
unfolding special_width special_text spelled same
special_else n (((((((t, n₀), n₂), n₃), n₄), n₇), n₈), n₁₁) =
    but 1 n refl (λ n₁. but 5 n refl (λ n₅. but 6 n refl (λ n₆. but 9 n refl (λ n₉. but 10 n refl (λ n₁₀. but 12 n refl (λ n₁₂.
    ap special_width (special_past n (((((((((((((t, n₀), n₁), n₂), n₃), n₄), n₅), n₆), n₇), n₈), n₉), n₁₀), n₁₁), n₁₂))))))))
