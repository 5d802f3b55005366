-- How long the parts of a line of play are: numbers by their digits, spellings by the number that they spell, and the rest by its parts.
-- Assumes nothing.
use Rattle.std.specs.Prelude.{Option, Some, None}
use Prim.Native.Nat.{ℕ, zero, suc, ◌+◌, ◌-◌, ◌/◌, ◌≤◌, ◌<◌}
use native.Mathlib.Omega.{arith}
use mathlib.Core.Path.{◌≡◌, refl, sym, ap, ◌∙◌}
use mathlib.Core.List.{List, [], ◌∷◌}
use mathlib.Core.Bool.{Bool, true, false, true≢false}
use lib.ListN.{length, get_or, length-append, length-replicate}
use lib.Dec.{eqb, leb, ltb}
use borrow.Author.Tests.{eqb-true, ltb-true, leb-true, le-leb, eq-eqb, ne_eqb}
use Rattle.lists.specs.Pick.{pick}
use Rattle.lists.proofs.Laws.{by_pick, pick_both, range, range_at}
use Rattle.lent.specs.Numbers.{decimal, padded}
use Rattle.lent.proofs.Digits.{decimal-length-one, decimal-length-more, digits_two, padded-length}
use Rattle.spell.specs.Tables.{Spelling, move_kinds, numerals, files}
use Rattle.spell.specs.Spell.{spelled}
use Rattle.spell.proofs.Codes.{digit_unspelled}
use Rattle.jkf.specs.Entries.{special_number, special_of, time_of}
use Rattle.jkf.specs.declared.Clock.{Clock}
use Rattle.jkf.specs.declared.Clock.TheVariants.{Hms, Ms}
use Rattle.jkf.specs.declared.Special.{Special}
use Rattle.jkf.specs.declared.Time.{Time}
use Rattle.jkf.specs.declared.Time.TheVariants.{Untimed, Timed}
use Rattle.jkf.specs.declared.Target.{Target}
use Rattle.jkf.specs.declared.Target.TheVariants.{Same, Square}
use Rattle.jkf.specs.declared.Move.{Move}
use Rattle.jkf.specs.declared.Entry.{Entry}
use Rattle.jkf.specs.declared.Entry.TheVariants.{Slot, Moved, End}
use Rattle.block.proofs.EntriesBack.{special_back}
use Rattle.converter.specs.Entries.{target_text, promote_text, origin_text, move_text, special_text, clock_text, time_text, play_text, width_of, entry_line, star_text, remark_text, within}

-- ---- numbers

-- a padded number is as long as the width
pub padded-wide : (w v : ℕ) → length (decimal v) ≤ w → (fill : ℕ) → w ≡ length (padded w fill v)
padded-wide w v h fill = omega (arith, padded-length w fill v)

-- or as its digits, where they are more
pub padded-long : (w v r : ℕ) → r ≡ length (decimal v) → w ≤ r → (fill : ℕ) → r ≡ length (padded w fill v)
padded-long w v r e h fill = omega (arith, padded-length w fill v)

-- a number of a clock has two places
pub figure_two : (v : ℕ) → v < 100 → (fill : ℕ) → 2 ≡ length (padded 2 fill v)
figure_two v h fill = padded-wide 2 v (digits_two v h) fill

-- or three
pub figure_three : (v : ℕ) → 100 ≤ v → v < 1000 → (fill : ℕ) → 3 ≡ length (padded 2 fill v)
figure_three v h l fill =
    let d : 10 ≤ v / 10 = omega arith in
    let t : v / 10 / 10 < 10 = omega arith in
    omega (arith, padded-length 2 fill v, decimal-length-more v (omega arith), decimal-length-more (v / 10) d, decimal-length-one (v / 10 / 10) t)

-- ---- spellings

-- every number of a table is below m: a test that antt computes
abbrev below : ℕ → List Spelling → Bool
below m [] = true
below m (e ∷ es) = pick (ltb e.number m) (below m es) false

-- a number from m on is not spelled
spelled-past : (m : ℕ) (es : List Spelling) → below m es ≡ true → (n : ℕ) → m ≤ n → spelled es n ≡ []
unfolding spelled
spelled-past m [] t n h = refl
spelled-past m (e ∷ es) t n h =
    let (p, q) = pick_both (ltb e.number m) (below m es) t in
    let l = ltb-true e.number m p in
    rw (ne_eqb e.number n (λ r. omega arith)) (spelled-past m es q n h)

-- the spelling of a number has w bytes: a test that antt computes
unfoldable wide : ℕ → List Spelling → ℕ → Bool
wide w es x = eqb w (length (spelled es x))

-- and the law that it says
wide_at : (w : ℕ) (es : List Spelling) (n a x : ℕ) → range (wide w es) a n ≡ true → a ≤ x → x < a + n → w ≡ length (spelled es x)
unfolding wide
wide_at w es n a x t h k = eqb-true w (length (spelled es x)) (range_at (wide w es) n a x t h k)

-- a place of 1 to 9 has three bytes, as a file and as a rank
pub place_three : (x : ℕ) → within x ≡ true → (3 ≡ length (spelled files x)) × (3 ≡ length (spelled numerals x)) × (3 ≤ 3)
unfolding wide spelled
place_three x t =
    let (p, q) = pick_both (leb 1 x) (leb x 9) t in
    let h = leb-true 1 x p in
    let k = leb-true x 9 q in
    (wide_at 3 files 9 1 x refl h (omega arith), wide_at 3 numerals 9 1 x refl h (omega arith), omega arith)

-- any other is not written
pub place_none : (x : ℕ) → within x ≡ false → (0 ≡ length (spelled files x)) × (0 ≡ length (spelled numerals x)) × (0 ≤ 3)
place_none x f = (omega (arith, ap length (digit_unspelled 1 files refl x out)), omega (arith, ap length (digit_unspelled 1 numerals refl x out)), omega arith)
  where
    out : 1 ≤ x → x < 10 → ⊥
    out h k = true≢false (sym (rw (le-leb 1 x h, le-leb x 9 (omega arith))) ∙ f)

module _ (kind : ℕ) where
  -- no kind is 0
  pub kind-none : kind < 1 → 0 ≡ length (spelled move_kinds kind)
  unfolding spelled
  kind-none h = let z : kind ≡ 0 = omega arith in rw z

  -- 歩 to と
  pub kind-plain : 1 ≤ kind → kind < 10 → 3 ≡ length (spelled move_kinds kind)
  unfolding wide spelled
  kind-plain h k = wide_at 3 move_kinds 9 1 kind refl h k

  -- 成香, 成桂 and 成銀
  pub kind-long : 10 ≤ kind → kind < 13 → 6 ≡ length (spelled move_kinds kind)
  unfolding wide spelled
  kind-long h k = wide_at 6 move_kinds 3 10 kind refl h k

  -- 馬 and 龍
  pub kind-high : 13 ≤ kind → kind < 15 → 3 ≡ length (spelled move_kinds kind)
  unfolding wide spelled
  kind-high h k = wide_at 3 move_kinds 2 13 kind refl h k

  -- there are 14
  pub kind-past : 15 ≤ kind → 0 ≡ length (spelled move_kinds kind)
  kind-past h = omega (arith, ap length (spelled-past 15 move_kinds refl kind h))

-- endings but those of three and of four characters have two
pub special_other : (n : ℕ) → (n ≡ 2 → ⊥) → (n ≡ 3 → ⊥) → (n ≡ 4 → ⊥) → (n ≡ 7 → ⊥) → (n ≡ 8 → ⊥) → 6 ≡ length (special_text (special_of n))
unfolding special_text spelled
special_other zero a b c d e = refl
special_other (suc zero) a b c d e = refl
special_other (suc (suc zero)) a b c d e = absurd (a refl)
special_other (suc (suc (suc zero))) a b c d e = absurd (b refl)
special_other (suc (suc (suc (suc zero)))) a b c d e = absurd (c refl)
special_other (suc (suc (suc (suc (suc zero))))) a b c d e = refl
special_other (suc (suc (suc (suc (suc (suc zero)))))) a b c d e = refl
special_other (suc (suc (suc (suc (suc (suc (suc zero))))))) a b c d e = absurd (d refl)
special_other (suc (suc (suc (suc (suc (suc (suc (suc zero)))))))) a b c d e = absurd (e refl)
special_other (suc (suc (suc (suc (suc (suc (suc (suc (suc zero))))))))) a b c d e = refl
special_other (suc (suc (suc (suc (suc (suc (suc (suc (suc (suc zero)))))))))) a b c d e = refl
special_other (suc (suc (suc (suc (suc (suc (suc (suc (suc (suc (suc zero))))))))))) a b c d e = refl
special_other (suc (suc (suc (suc (suc (suc (suc (suc (suc (suc (suc (suc zero)))))))))))) a b c d e = refl
special_other (suc (suc (suc (suc (suc (suc (suc (suc (suc (suc (suc (suc (suc n))))))))))))) a b c d e = refl

-- ---- a line's parts

-- 同 and a space
pub same_length : {t : Target} → t ≡ Same → 6 ≡ length (target_text t)
unfolding target_text
same_length e = rw e

-- a square is its file and its rank
pub square_length : {t : Target} {x y : ℕ} → t ≡ Square x y → length (target_text t) ≡ length (spelled files x) + length (spelled numerals y)
unfolding target_text
square_length {t} {x} {y} e = rw e (length-append (spelled files x) (spelled numerals y))

-- 成
pub promote_three : (p : ℕ) → p ≡ 2 → 3 ≡ length (promote_text p)
unfolding promote_text
promote_three p e = rw e

-- 不成
pub promote_six : (p : ℕ) → p ≡ 1 → 6 ≡ length (promote_text p)
unfolding promote_text
promote_six p e = rw e

-- no other is written
pub promote_none : (p : ℕ) → (p ≡ 2 → ⊥) → (p ≡ 1 → ⊥) → 0 ≡ length (promote_text p)
unfolding promote_text
promote_none p h k = simp (ne_eqb p 2 h, ne_eqb p 1 k)

-- 打
pub unknown_length : {o : Option (ℕ × ℕ)} → o ≡ None → 3 ≡ length (origin_text o)
unfolding origin_text
unknown_length e = rw e

-- an origin that is known is two numbers in brackets
pub from-length : {o : Option (ℕ × ℕ)} {x y : ℕ} → o ≡ Some (x, y) → length (origin_text o) ≡ 2 + length (decimal x) + length (decimal y)
unfolding origin_text
from-length e = rw e (simp length-append (omega arith))

-- a move is its target, kind, promotion and origin
pub move-length : (m : Move)
    → length (move_text m) ≡ length (target_text m.to) + length (spelled move_kinds m.piece) + length (promote_text m.promote) + length (origin_text m.from)
unfolding move_text
move-length m = simp length-append

-- a clock without an hour has two numbers
pub ms_parts : (fill after m s : ℕ) → length (clock_text fill after (Ms m s)) ≡ 2 + length (padded 2 fill m) + length (padded 2 48 s)
unfolding clock_text
ms_parts fill after m s = simp length-append (omega arith)

-- one with an hour has three
pub hms_parts : (fill after h m s : ℕ)
    → length (clock_text fill after (Hms h m s)) ≡ 3 + length (padded 2 fill h) + length (padded 2 48 m) + length (padded 2 48 s)
unfolding clock_text
hms_parts fill after h m s = simp length-append (omega arith)

-- so it is as long as its figures and what stands behind each
pub ms_length : (fill after m s : ℕ) {c : Clock} {a b : ℕ} → c ≡ Ms m s → a ≡ length (padded 2 fill m) → b ≡ length (padded 2 48 s)
    → 2 + a + b ≡ length (clock_text fill after c)
ms_length fill after m s e f g = rw e (omega (arith, ms_parts fill after m s))

-- with its hour too
pub hms_length : (fill after h m s : ℕ) {c : Clock} {a b d : ℕ} → c ≡ Hms h m s → a ≡ length (padded 2 fill h) → b ≡ length (padded 2 48 m) → d ≡ length (padded 2 48 s)
    → 3 + a + b + d ≡ length (clock_text fill after c)
hms_length fill after h m s e f g k = rw e (omega (arith, hms_parts fill after h m s))

-- no time is nothing
pub untimed_length : {t : Time} (width : ℕ) → t ≡ Untimed → 0 ≡ length (time_text width t)
unfolding time_text
untimed_length width e = rw e

-- a time is its padding, a bracket and its two clocks
pub timed_length : {t : Time} {now total : Clock} (width : ℕ) → t ≡ Timed now total
    → length (time_text width t) ≡ 13 - width + 1 + length (clock_text 32 47 now) + length (clock_text 48 41 total)
unfolding time_text
timed_length width e = rw e (simp (length-append, length-replicate))

-- a slot is nothing
pub slot-length : {e : Entry} → e ≡ Slot → 0 ≡ length (play_text e)
unfolding play_text
slot-length p = rw p

-- a move
pub play-length : {e : Entry} {m : Move} → e ≡ Moved m → length (play_text e) ≡ length (move_text m)
unfolding play_text
play-length p = rw p

-- an ending, by its number
pub end-length : {e : Entry} {s : Special} {t : Time} (n : ℕ) → e ≡ End s t → n ≡ special_number s → length (play_text e) ≡ length (special_text (special_of n))
unfolding play_text
end-length {s = s} n p q = rw (p, q, special_back s)

-- a line is the ply, a space, the move or ending, its time and an LF
pub entry-parts : (ply : ℕ) (e : Entry)
    → length (entry_line ply e) ≡ 2 + length (padded 4 32 ply) + length (play_text e) + length (time_text (width_of e) (time_of e))
unfolding entry_line
entry-parts ply e = simp length-append (omega arith)

-- a comment has a star before it and an LF after it
remark_parts : (c : List ℕ) → length (remark_text c) ≡ length (star_text c) + length c + 1
unfolding remark_text
remark_parts c = simp length-append

-- there is no star where it begins with &
star_none : (c : List ℕ) → get_or c 0 0 ≡ 38 → star_text c ≡ []
unfolding star_text
star_none c e = rw (eq-eqb (get_or c 0 0) 38 e)

-- there is one else
star_some : (c : List ℕ) → (get_or c 0 0 ≡ 38 → ⊥) → star_text c ≡ 42 ∷ []
unfolding star_text
star_some c e = rw (ne_eqb (get_or c 0 0) 38 e)

-- so a comment with & is longer by one
pub remark_bare : (c : List ℕ) → get_or c 0 0 ≡ 38 → length (remark_text c) ≡ length c + 1
remark_bare c e = omega (arith, remark_parts c, ap length (star_none c e))

-- and any other by two
pub remark_starred : (c : List ℕ) → (get_or c 0 0 ≡ 38 → ⊥) → length (remark_text c) ≡ length c + 2
remark_starred c e = omega (arith, remark_parts c, ap length (star_some c e))

-- at most by two
pub remark_most : (c : List ℕ) → length (remark_text c) ≤ length c + 2
unfolding star_text
remark_most c =
    by_pick (λ (t : List ℕ). length (remark_text c) ≡ length t + length c + 1 → length (remark_text c) ≤ length c + 2)
    (eqb (get_or c 0 0) 38) [] (42 ∷ []) (λ _ e. omega arith) (λ _ e. omega arith) (remark_parts c)
