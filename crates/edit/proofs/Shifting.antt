-- Put-in, cut and restating as one: the lines from p to q - 1 give way to new ones.
--     spliced-put, spliced-cut, spliced-none     a line put in, a run cut out, and nothing done
--     put_record, cut_record, none-record        the records of these
-- Assumes nothing.
use Prim.Native.Nat.{ℕ, ◌+◌, ◌-◌}
use native.Mathlib.Omega.{arith}
use mathlib.Core.Path.{◌≡◌, refl, sym, ap, ap₂, ◌∙◌, fun_ext}
use mathlib.Core.List.{List, [], ◌∷◌, ◌++◌, map, map-append}
use lib.ListN.{take, drop, take-append-drop}
use lib.Dec.{leb}
use Rattle.lists.specs.Pick.{pick}
use Rattle.lists.proofs.Laws.{by_pick}
use Rattle.jkf.specs.Model.{Line}
use Rattle.block.specs.Decode.{version_in, decode}
use Rattle.edit.specs.Edit.{reparented, renumbered, lines_with, lowered, without_lines, restated}
use Rattle.edit.specs.inner.Splicing.{shifted, spliced, relined, record_after}
use Rattle.edit.proofs.Listing.{map-take, map-drop}

-- ---- a line's new number

shifted-put : (n : ℕ) → shifted n n 1 ≡ renumbered n
unfolding shifted
shifted-put n = fun_ext (λ i. let e : i + 1 - (n - n) ≡ i + 1 = omega arith in ap (λ (x : ℕ). pick (leb n i) x i) e)

shifted-cut : (k m : ℕ) → shifted k (k + m) 0 ≡ lowered k m
unfolding shifted
shifted-cut k m = fun_ext (λ i. let e : i + 0 - (k + m - k) ≡ i - m = omega arith in ap (λ (x : ℕ). pick (leb k i) x i) e)

shifted_none : (n : ℕ) → shifted n n 0 ≡ (λ i. i)
unfolding shifted
shifted_none n = fun_ext (λ i. by_pick (λ (x : ℕ). x ≡ i) (leb n i) (i + 0 - (n - n)) i (λ e. omega arith) (λ e. refl))

-- ---- the lines

pub spliced-put : (n : ℕ) (l : Line) (ls : List Line) → spliced n n (l ∷ []) ls ≡ lines_with n l ls
spliced-put n l ls = ap (λ (f : ℕ → ℕ). take n (map (reparented f) ls) ++ (l ∷ drop n (map (reparented f) ls))) (shifted-put n)

pub spliced-cut : (k m : ℕ) (ls : List Line) → spliced k (k + m) [] ls ≡ without_lines k m ls
spliced-cut k m ls =
    let g = reparented (lowered k m) in
    ap (λ (f : ℕ → ℕ). take k (map (reparented f) ls) ++ drop (k + m) (map (reparented f) ls)) (shifted-cut k m)
    ∙ sym (map-append g (take k ls) (drop (k + m) ls) ∙ ap₂ (λ (x y : List Line). x ++ y) (map-take g k ls) (map-drop g (k + m) ls))

same_lines : (ls : List Line) → map (reparented (λ i. i)) ls ≡ ls
same_lines [] = refl
same_lines (l ∷ ls) = ap (λ (r : List Line). l ∷ r) (same_lines ls)

pub spliced-none : (n : ℕ) (ls : List Line) → spliced n n [] ls ≡ ls
spliced-none n ls =
    ap (λ (f : ℕ → ℕ). take n (map (reparented f) ls) ++ drop n (map (reparented f) ls)) (shifted_none n)
    ∙ take-append-drop n (map (reparented (λ i. i)) ls)
    ∙ same_lines ls

-- ---- the records

module _ (b : List ℕ) where
  pub put_record : (n : ℕ) (l : Line) → relined (decode b).version (decode b) (lines_with n l (decode b).lines) ≡ record_after (version_in b) b n n (l ∷ [])
  unfolding decode
  put_record n l = ap (relined (version_in b) (decode b)) (sym (spliced-put n l (decode b).lines))

  pub cut_record : (k m : ℕ) → relined (decode b).version (decode b) (without_lines k m (decode b).lines) ≡ record_after (version_in b) b k (k + m) []
  unfolding decode
  cut_record k m = ap (relined (version_in b) (decode b)) (sym (spliced-cut k m (decode b).lines))

  pub none_record : (n : ℕ) → restated (decode b) ≡ record_after 2 b n n []
  unfolding relined
  none_record n =
      ap (λ (ls : List Line). record { version = 2; headers = (decode b).headers; position = (decode b).position; lines = ls }) (sym (spliced-none n (decode b).lines))
