-- A move in the usual form is read by the rules as its bytes say.
--     stands-three, by_three                   three bytes stand at a place
--     same-aimed, square-aimed                 the target
--     short-named, marked-named, long-named    the kind, the mark and the origin
--     usual-what, usual-played                 the whole, and the line with a usual time after it
-- Assumes nothing.
use Rattle.std.specs.Prelude.{Some, None, Ok}
use Prim.Native.Nat.{ℕ, ◌+◌, ◌-◌, ◌/◌, ◌%◌, ◌≤◌, ◌<◌}
use native.Mathlib.Omega.{arith}
use mathlib.Core.Path.{◌≡◌, refl, sym, ap, ◌∙◌}
use mathlib.Core.List.{List, [], ◌∷◌, ◌++◌}
use mathlib.Core.Bool.{Bool, true, false}
use lib.ListN.{length, get_or}
use lib.Dec.{eqb}
use borrow.Author.Tests.{eq-eqb, ne_eqb, eqb-true}
use Rattle.lists.specs.Pick.{pick}
use Rattle.lists.proofs.Laws.{drop_step, pick_both}
use Rattle.text.specs.Text.{cursor, on_place, on_number, prefix_from, stands_at, tag_at, same, blanks_at, line_end_at, digits_at}
use Rattle.text.proofs.Laws.{digit_bounds}
use Rattle.spell.specs.Spell.{first_of, number_spelled}
use Rattle.spell.specs.inner.Codes.{three_at}
use Rattle.spell.specs.Tables.{kinds, numerals}
use Rattle.spell.proofs.Lookups.{numeral_known, kind_known, file_known, promoted_known}
use Rattle.moves.specs.Moves.{mark, square_at, move_to_at, promote_at, origin_at, move_from_at, kind_to_origin_at, what_at, time_at, color_of, finished, move_line_at, played_line}
use Rattle.spell.specs.Words.{promotes}
use Rattle.moves.specs.inner.Usuals.{Two, two_digits, Usual, aim_of, kind_of, mark_of, entry_of, Bracketed, UsualTarget, UsualKind, UsualMove}
use Rattle.moves.proofs.Clocking.{tag_here, tag_other, two_at, two_known, usual_time}
use Rattle.moves.proofs.Shortcuts.{what-move}

itself : (u : Bool) → pick u true false ≡ u
itself true = refl
itself false = refl

module _ (s : List ℕ) where
  pub stands_three : (a b c at : ℕ) → at + 3 ≤ length s
      → stands_at (a ∷ b ∷ c ∷ []) s at ≡ pick (eqb (get_or s at 0) a) (pick (eqb (get_or s (at + 1) 0) b) (eqb (get_or s (at + 2) 0) c) false) false
  unfolding stands_at prefix_from
  stands_three a b c at h =
      let e : at + 1 + 1 ≡ at + 2 = omega arith in
      rw (drop_step s at (omega arith), drop_step s (at + 1) (omega arith), e, drop_step s (at + 2) (omega arith), itself (eqb (get_or s (at + 2) 0) c))

  -- e is the place past them
  tag_three : (a b c at e : ℕ) → at + 3 ≤ length s → get_or s at 0 ≡ a → get_or s (at + 1) 0 ≡ b → get_or s (at + 2) 0 ≡ c → e ≡ at + 3
      → tag_at (a ∷ b ∷ c ∷ []) s at ≡ Some (cursor e)
  unfolding tag_at
  tag_three a b c at e h p q r z = rw (stands_three a b c at h, eq-eqb _ _ p, eq-eqb _ _ q, eq-eqb _ _ r, z)

  stands_back : (a b c at : ℕ) → at + 3 ≤ length s → stands_at (a ∷ b ∷ c ∷ []) s at ≡ true → (get_or s at 0 ≡ a) × (get_or s (at + 1) 0 ≡ b) × (get_or s (at + 2) 0 ≡ c)
  stands_back a b c at h e =
      let (p, e₁) = pick_both (eqb (get_or s at 0) a) _ (sym (stands_three a b c at h) ∙ e) in
      let (q, r) = pick_both (eqb (get_or s (at + 1) 0) b) (eqb (get_or s (at + 2) 0) c) e₁ in
      (eqb-true _ _ p, eqb-true _ _ q, eqb-true _ _ r)

  -- the byte at a place and the two after it
  pub by_three : (f : List ℕ → ℕ) (at a b n : ℕ) → a ≡ at + 1 → b ≡ at + 2 → n ≡ f (get_or s at 0 ∷ get_or s a 0 ∷ get_or s b 0 ∷ []) → n ≡ f (three_at s at)
  by_three f at a b n p q e = rw (← p, ← q) e

  -- ---- the target

  pub same_aimed : (at : ℕ) → at + 6 ≤ length s → get_or s at 0 ≡ 229 → get_or s (at + 1) 0 ≡ 144 → get_or s (at + 2) 0 ≡ 140
      → get_or s (at + 3) 0 ≡ 227 → get_or s (at + 4) 0 ≡ 128 → get_or s (at + 5) 0 ≡ 128 → UsualTarget s at
  unfolding move_to_at aim_of
  same_aimed at h a b c d e f =
      let p : at + 3 + 1 ≡ at + 4 = omega arith in
      let q : at + 3 + 2 ≡ at + 5 = omega arith in
      let g : get_or s (at + 3 + 1) 0 ≡ 128 = ap (λ (i : ℕ). get_or s i 0) p ∙ e in
      let k : get_or s (at + 3 + 2) 0 ≡ 128 = ap (λ (i : ℕ). get_or s i 0) q ∙ f in
      record {
        aim = rw (tag_three 229 144 140 at (at + 3) (omega arith) a b c refl, tag_three 227 128 128 (at + 3) (at + 6) (omega arith) d g k (omega arith), eq-eqb _ _ a);
        digit = λ n. absurd (n a);
      }

  -- ---- the kind, the mark and the origin

  -- what is a kind is not 成
  alone : (at : ℕ) → at + 3 ≤ length s → (number_spelled kinds (three_at s at) ≡ 0 → ⊥) → stands_at promotes s at ≡ false
  unfolding number_spelled same
  alone at h n = go (stands_at promotes s at) refl
    where
      go : (u : Bool) → stands_at promotes s at ≡ u → u ≡ false
      go true e =
          let (p, q, r) = stands_back 230 136 144 at h e in
          absurd (n (rw (p, q, r)))
      go false e = refl

  unmarked : (at : ℕ) → at < length s → get_or s at 0 ≡ 40 → promote_at s at ≡ mark 0 (cursor at)
  unfolding promote_at
  unmarked at h o =
      rw (tag_other s 230 (136 ∷ 144 ∷ []) at h (λ e. omega arith), tag_other s 228 (184 ∷ 141 ∷ 230 ∷ 136 ∷ 144 ∷ []) at h (λ e. omega arith))

  -- p and q are the places of the digits, e the place past the bracket
  origin_is : (at p q e : ℕ) → at + 4 ≤ length s → Bracketed s at → p ≡ at + 1 → q ≡ at + 1 + 1 → e ≡ at + 4
      → move_from_at s at ≡ Ok ((Some (get_or s p 0 - 48, get_or s q 0 - 48)), cursor e)
  unfolding move_from_at origin_at
  origin_is at p q e h b e₁ e₂ e₃ =
      let o = b.opens in
      let z : at + 1 + 1 ≡ at + 2 = omega arith in
      let d : Two s (at + 1) = record { tens = b.tens; ones = rw z b.ones } in
      let k = two_known s (at + 1) d in
      let tens : two_digits s (at + 1) / 10 ≡ get_or s (at + 1) 0 - 48 = omega arith in
      let ones : two_digits s (at + 1) % 10 ≡ get_or s (at + 1 + 1) 0 - 48 = omega arith in
      rw (e₁, e₂, e₃, tag_other s 230 (137 ∷ 147 ∷ []) at (omega arith) (λ z. omega arith), tag_here s 40 at (at + 1) (omega arith) o refl, two_at s (at + 1) (at + 3) 41 d (omega arith) b.closes refl, tag_here s 41 (at + 3) (at + 4) (omega arith) b.closes (omega arith), tens, ones)

-- n is what the code makes of three bytes, and not 0
module _ (s : List ℕ) (bytes : (i : ℕ) → get_or s i 0 < 256) (at n : ℕ) (z : n ≡ 0 → ⊥) where
  pub square_aimed : at + 6 ≤ length s → get_or s at 0 ≡ 239 → get_or s (at + 1) 0 ≡ 188 → 145 ≤ get_or s (at + 2) 0 → get_or s (at + 2) 0 ≤ 153
      → n ≡ number_spelled numerals (three_at s (at + 3)) → UsualTarget s at
  unfolding move_to_at square_at aim_of
  square_aimed h a b l u e =
      let m : get_or s at 0 ≡ 229 → ⊥ = λ k. omega arith in
      let p : at + 3 + 3 ≡ at + 6 = omega arith in
      record {
        aim = rw (tag_other s 229 (144 ∷ 140 ∷ []) at (omega arith) m, file_known s at bytes a b l u, numeral_known s (at + 3) bytes (λ k. z (e ∙ k)), p, ne_eqb _ _ m);
        digit = λ k. omega arith;
      }

  -- a kind of one character
  kind_three : n ≡ number_spelled kinds (three_at s (at + 6)) → first_of kinds s (at + 6) ≡ Some (number_spelled kinds (three_at s (at + 6)), cursor (at + 9))
  kind_three e = let p : at + 6 + 3 ≡ at + 9 = omega arith in rw p at (kind_known s (at + 6) bytes (λ k. z (e ∙ k)))

  pub short-named : at + 13 ≤ length s → Bracketed s (at + 9) → n ≡ number_spelled kinds (three_at s (at + 6)) → UsualKind s at 13
  unfolding kind_of mark_of
  short-named h b e =
      record {
        past = at + 9;
        kind = rw (alone s (at + 6) (omega arith) (λ k. z (e ∙ k))) (kind_three e);
        promotion = unmarked s (at + 9) (omega arith) b.opens;
        origin = b;
      }

  -- with 成 after it
  pub marked-named : at + 16 ≤ length s → Bracketed s (at + 12) → stands_at promotes s (at + 6) ≡ false → stands_at promotes s (at + 9) ≡ true
      → n ≡ number_spelled kinds (three_at s (at + 6)) → UsualKind s at 16
  unfolding kind_of mark_of promote_at tag_at
  marked-named h b p q e =
      let r : at + 9 + 3 ≡ at + 12 = omega arith in
      record {
        past = at + 9;
        kind = rw p (kind_three e);
        promotion = rw (p, q, r);
        origin = b;
      }

  -- with 成 before it
  pub long-named : at + 16 ≤ length s → Bracketed s (at + 12) → stands_at promotes s (at + 6) ≡ true → n ≡ number_spelled kinds (promotes ++ three_at s (at + 9)) → UsualKind s at 16
  unfolding kind_of mark_of
  long-named h b p e =
      let (x, y, w) = stands_back s 230 136 144 (at + 6) (omega arith) p in
      let q : at + 6 + 3 ≡ at + 9 = omega arith in
      let r : at + 6 + 6 ≡ at + 12 = omega arith in
      let k = promoted_known s (at + 6) bytes x y w (omega arith) in
      record {
        past = at + 12;
        kind = rw p (rw (q, r) at k (λ m. z (e ∙ m)));
        promotion = rw p (unmarked s (at + 12) (omega arith) b.opens);
        origin = b;
      }

-- ---- the whole

pub usual_what : (s : List ℕ) (at width : ℕ) → UsualMove s at width → what_at s at ≡ Some (entry_of s at width, cursor (at + width))
unfolding kind_to_origin_at
usual_what s at width u =
    let w = u.wide in
    let r = u.room in
    let n = u.name in
    what-move s at (aim_of s at) (cursor (at + 6)) u.target.aim
    ∙ rw (n.kind, n.promotion, origin_is s (at + (width - 4)) (at + width - 3) (at + width - 2) (at + width) (omega arith) n.origin (omega arith) (omega arith) (omega arith))

-- the digits of the origin are bytes of digits
pub origin-digits : (s : List ℕ) (at width : ℕ) → UsualMove s at width → (48 ≤ get_or s (at + width - 3) 0) × (48 ≤ get_or s (at + width - 2) 0)
origin-digits s at width u =
    let w = u.wide in
    let b = u.name.origin in
    let p : at + (width - 4) + 1 ≡ at + width - 3 = omega arith in
    let q : at + (width - 4) + 2 ≡ at + width - 2 = omega arith in
    ((digit_bounds _ (rw p at b.tens)).0, (digit_bounds _ (rw q at b.ones)).0)

-- a line after its number
pub line-played : (s : List ℕ) (at : ℕ) → move_line_at s at ≡ on_number (digits_at 18446744073709551615 s (blanks_at s at)) (λ n c. played_line n s (blanks_at s c.at)) None
unfolding move_line_at
line-played s at = refl

-- with a time at t in the usual form
pub usual_played : (s : List ℕ) (n at width t : ℕ) → UsualMove s at width → Usual s t → t ≡ blanks_at s (at + width)
    → played_line n s at ≡ on_place (line_end_at s (t + 16)) (λ f. Some (record { number = n; entry = (finished (color_of n) (time_at s t).time (entry_of s at width)); next = f })) None
usual_played s n at width t u v e =
    let z = ap (λ k. k.next.at) (usual_time s t (t + 7) (t + 7 + 3) (t + 7 + 6) v refl refl refl) in
    rw (usual_what s at width u, ← e, z)
