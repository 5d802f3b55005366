-- No second result meets a promise.                                                                   (01, What the promises say)
-- Every promise of a public function is made of the shapes below: an equation for the result, for a lent buffer or for a part, or one of
-- `Wrote`, `Stored` and `Answered`. Of each, two results, buffers and numbers that meet it for the same input are equal, since its
-- equations give the count by the input, and all else by the input and the count. A look-up's part has the bytes that stand where its figures say.
-- Assumes nothing.
use Prim.Native.Nat.{ℕ, ◌+◌, ◌<◌}
use mathlib.Core.Path.{◌≡◌, refl, sym, ap, ap₂, ◌∙◌}
use mathlib.Core.List.{List, [], ◌++◌}
use mathlib.Core.Bool.{Bool, true, false}
use lib.ListN.{take, drop}
use lib.Dec.{ltb}
use Rattle.lists.specs.Pick.{pick}
use Rattle.lent.specs.Bytes.{Wrote}
use Rattle.lent.specs.Stored.{Stored}
use Rattle.text.specs.declared.Cursor.{Cursor}
use Rattle.jkf.specs.Answers.{figures, figured}
use Rattle.jkf.specs.declared.Answer.{Answer}
use Rattle.jkf.specs.declared.Answer.TheVariants.{Done, NotSound, NoSuchPart}
use Rattle.jkf.proofs.Answering.{figures-one}
use Rattle.block.specs.Decode.{text_place, stored_text}
use Rattle.block.specs.Sound.{soundb}
use Rattle.block.specs.Look.{Answered, look_answer, look_part}
use Rattle.filling.specs.declared.Walk.{Walk}
use Rattle.plays.specs.declared.Reached.{Reached}
use Rattle.plays.specs.declared.FilledPlay.{FilledPlay}
use Rattle.parser.specs.declared.FillAnswer.{FillAnswer}

-- ---- equations

-- r ≡ .., now r ≡ .., now out.exit ≡ ..
pub equation_one : {A : Type 0} {x y z : A} → x ≡ z → y ≡ z → x ≡ y
equation_one p q = p ∙ sym q

-- with a bound that the caller is told
pub bounded_one : {x y z n : ℕ} → (x ≡ z) × (x < n) → (y ≡ z) × (y < n) → x ≡ y
bounded_one p q = equation_one p.0 q.0

-- an equation and something more
pub also_one : {x y z : ℕ} {P Q : Type 0} → (x ≡ z) × P → (y ≡ z) × Q → x ≡ y
also_one p q = equation_one p.0 q.0

-- a cursor is its place
pub cursor_one : {n : ℕ} (c d : Cursor) → c.at ≡ n → d.at ≡ n → c ≡ d
cursor_one c d p q = ap (λ (k : ℕ). record { at = k }) (equation_one p q)

-- a result and the lent buffer after it, of which each is told by an equation
pub both_one : {A B : Type 0} {x a b : A} {y o p : B} → (a ≡ x) × (o ≡ y) → (b ≡ x) × (p ≡ y) → (a ≡ b) × (o ≡ p)
both_one s t = (equation_one s.0 t.0, equation_one s.1 t.1)

-- ---- what is written

-- a text at the front, and how many bytes it has
pub wrote_one : {t o a b : List ℕ} {n m : ℕ} → Wrote t o a n → Wrote t o b m → (a ≡ b) × (n ≡ m)
wrote_one {t} {o} w v =
    let e = equation_one w.count v.count in
    (w.bytes ∙ ap (λ (k : ℕ). t ++ drop k o) e ∙ sym v.bytes, e)

-- a text at a place, and the place past it
pub stored_one : {t o a b : List ℕ} {at n m : ℕ} → Stored t o a at n → Stored t o b at m → (a ≡ b) × (n ≡ m)
stored_one s u = (equation_one s.bytes u.bytes, equation_one s.end u.end)

-- what was filled in, the block and the place past it
abbrev reached : Walk → Cursor → Reached
reached w c = record { walk = w; next = c }

pub reached_one : {w : Walk} {n : ℕ} {o a b : List ℕ} (r s : Reached) → (r.walk ≡ w) × ((a ≡ o) × (r.next.at ≡ n)) → (s.walk ≡ w) × ((b ≡ o) × (s.next.at ≡ n)) → (a ≡ b) × (r ≡ s)
reached_one r s p q =
    let walk = equation_one p.0 q.0 in
    let next = cursor_one r.next s.next p.1.1 q.1.1 in
    (equation_one p.1.0 q.1.0, ap (λ (w : Walk). reached w r.next) walk ∙ ap (reached s.walk) next)

-- the same with the times that were lost
abbrev filled_play : Walk → Cursor → ℕ → FilledPlay
filled_play w c n = record { walk = w; next = c; lost = n }

pub filled-play-one : {w : Walk} {n k : ℕ} {o a b : List ℕ} (r s : FilledPlay) → (r.walk ≡ w) × ((a ≡ o) × ((r.next.at ≡ n) × (r.lost ≡ k)))
    → (s.walk ≡ w) × ((b ≡ o) × ((s.next.at ≡ n) × (s.lost ≡ k))) → (a ≡ b) × (r ≡ s)
filled-play-one r s p q =
    let walk = equation_one p.0 q.0 in
    let next = cursor_one r.next s.next p.1.1.0 q.1.1.0 in
    let lost = equation_one p.1.1.1 q.1.1.1 in
    (equation_one p.1.0 q.1.0, ap (λ (w : Walk). filled_play w r.next r.lost) walk ∙ ap₂ (filled_play s.walk) next lost)

-- a text that was read: the answer, the buffer and the times that were lost
abbrev fill_answer : Answer → ℕ → FillAnswer
fill_answer a n = record { answer = a; lost = n }

pub fill_answer-one : {x : Answer} {k : ℕ} {o a b : List ℕ} (r s : FillAnswer) → (r.answer ≡ x) × ((a ≡ o) × (r.lost ≡ k)) → (s.answer ≡ x) × ((b ≡ o) × (s.lost ≡ k)) → (a ≡ b) × (r ≡ s)
fill_answer-one r s p q = (equation_one p.1.0 q.1.0, ap₂ fill_answer (equation_one p.0 q.0) (equation_one p.1.1 q.1.1))

-- ---- the three lent numbers

-- number and figures
pub answered_one : {a : Answer} {n m x y z w : ℕ} → Answered a n x y → Answered a m z w → (n ≡ m) × (x ≡ z) × (y ≡ w)
answered_one s t = (equation_one s.number t.number, equation_one s.first t.first, equation_one s.second t.second)

figured-one : {n x y m z w : ℕ} → n ≡ m → x ≡ z → y ≡ w → figured n x y ≡ figured m z w
figured-one h₀ h₁ h₂ = cc

-- the three numbers say the answer: a call that answers by them promises what one that answers an `Answer` does
pub answer-one : {a b : Answer} {n x y : ℕ} → Answered a n x y → Answered b n x y → a ≡ b
answer-one {a} {b} s t = figures-one a b (figured-one (sym s.number ∙ t.number) (sym s.first ∙ t.first) (sym s.second ∙ t.second))

-- them and what an equation tells: a look-up's part, or the lent buffer of a call for C
pub answered_both_one : {A : Type 0} {a : Answer} {t p q : A} {n m x y z w : ℕ} → (p ≡ t) × Answered a n x y → (q ≡ t) × Answered a m z w
    → (p ≡ q) × (n ≡ m) × (x ≡ z) × (y ≡ w)
answered_both_one s t = let e = answered_one s.1 t.1 in (equation_one s.0 t.0, e.0, e.1, e.2)

-- and a fourth
pub answered_lost_one : {A : Type 0} {a : Answer} {t p q : A} {k i j n m x y z w : ℕ} → Answered a n x y × ((p ≡ t) × (i ≡ k)) → Answered a m z w × ((q ≡ t) × (j ≡ k))
    → (p ≡ q) × (n ≡ m) × (x ≡ z) × (y ≡ w) × (i ≡ j)
answered_lost_one s t =
    let e = answered_one s.0 t.0 in
    (equation_one s.1.0 t.1.0, e.0, e.1, e.2, equation_one s.1.1 t.1.1)

-- ---- where a look-up's part lies

placed : (b : List ℕ) (k offset len : ℕ) (sound there : Bool)
    → pick sound (pick there (stored_text b offset len) []) []
    ≡ take (figures (pick sound (pick there (Done (text_place b + offset) len) (NoSuchPart k)) NotSound)).second
    (drop (figures (pick sound (pick there (Done (text_place b + offset) len) (NoSuchPart k)) NotSound)).first b)
unfolding figures
placed b k offset len true true = refl
placed b k offset len true false = refl
placed b k offset len false there = refl

-- the part is as many bytes of the block as the second figure says, from where the first says on; a refusal's second figure is 0
pub look-place : (b : List ℕ) (n k offset len : ℕ) {p : List ℕ} {number x y : ℕ} → p ≡ look_part b n k (stored_text b offset len)
    → Answered (look_answer b n k offset len) number x y → p ≡ take y (drop x b)
look-place b n k offset len e t = rw (t.first, t.second) (e ∙ placed b k offset len (soundb b) (ltb k n))
