-- The text of a comment is well-formed UTF-8 where the whole text is: it begins at the & or past the *, and ends before its break.
-- Assumes nothing.
use Rattle.std.specs.Prelude.{Option, Some, None}
use Prim.Native.Nat.{ℕ, ◌-◌, ◌≤◌}
use native.Mathlib.Omega.{arith}
use mathlib.Core.Path.{◌≡◌, refl, ap, subst}
use mathlib.Core.List.{List, [], ◌∷◌}
use lib.ListN.{length, take, drop}
use Rattle.text.specs.Text.{cursor, on_place, tag_at, break_at, tail_at}
use Rattle.text.specs.Utf8.{size_of, well_formed_bytes}
use Rattle.text.specs.declared.Cursor.{Cursor}
use Rattle.text.proofs.Laws.{break_after, tag_after, tail_from}
use Rattle.text.proofs.Boundaries.{Boundary, boundary_tag, boundary_tail, part_well}
use Rattle.moves.specs.Moves.{on_remark, remark_from, kept_at, comment_line_at}
use Rattle.moves.specs.declared.Remark.{Remark}

-- the text between two places is well formed
abbrev Well : List ℕ → Cursor → Cursor → Type 0
Well s from to = well_formed_bytes (take (to.at - from.at) (drop from.at s)) ≡ length (take (to.at - from.at) (drop from.at s))

no-remark : {A : Type 0} (from to next : Cursor) → ◌≡◌ {A = Option Remark} None (Some (record { from = from; to = to; next = next })) → A
no-remark from to next e = let z : ◌≡◌ {A = ℕ} 0 1 = ap (λ (r : Option Remark). on_remark r (λ _ _ _. 1) 0) e in absurd (omega arith)

-- the places of a remark are those that it was made of
remark_same : (s : List ℕ) {f t n from to next : Cursor} → ◌≡◌ {A = Option Remark} (Some (record { from = f; to = t; next = n })) (Some (record { from = from; to = to; next = next })) → Well s f t → Well s from to
remark_same s {f} {t} {n} {from} {to} {next} e w =
    let p : f ≡ from = ap (λ (r : Option Remark). on_remark r (λ x y z. x) f) e in
    let q : t ≡ to = ap (λ (r : Option Remark). on_remark r (λ x y z. y) t) e in
    subst (Well s from) q (subst (λ (x : Cursor). Well s x t) p w)

module _ (s : List ℕ) (w : well_formed_bytes s ≡ length s) (from to next : Cursor) where
  -- from a boundary that is not past the tail's start
  from_well : (f : Cursor) (at : ℕ) → Boundary s f.at → f.at ≤ at → remark_from f s at ≡ Some (record { from = from; to = to; next = next }) → Well s from to
  unfolding remark_from
  from_well f at b h = go (tail_at s at) refl
    where
      end : (t : Cursor) → tail_at s at ≡ Some t → (r : Option Cursor) → break_at s t.at ≡ r → on_place {A = Option Remark} r (λ n. Some (record { from = f; to = t; next = n })) None ≡ Some (record { from = from; to = to; next = next }) → Well s from to
      end t p (Some n) q e =
          let within = break_after s t.at n q in
          remark_same s e
          (part_well s f.at t.at w b (boundary_tail s at t n p q) (omega (arith, tail_from s at t p)) (omega (arith, within.past, within.within)))
      end t p None q e = no-remark from to next e

      go : (r : Option Cursor) → tail_at s at ≡ r → on_place {A = Option Remark} r (λ t. on_place {A = Option Remark} (break_at s t.at) (λ n. Some (record { from = f; to = t; next = n })) None) None ≡ Some (record { from = from; to = to; next = next })
          → Well s from to
      go (Some t) p e = end t p (break_at s t.at) refl e
      go None p e = no-remark from to next e

  kept_well : (at : ℕ) → kept_at s at ≡ Some (record { from = from; to = to; next = next }) → Well s from to
  unfolding kept_at size_of
  kept_well at = go (tag_at (38 ∷ []) s at) refl
    where
      go : (r : Option Cursor) → tag_at (38 ∷ []) s at ≡ r → on_place r (λ c. remark_from (cursor at) s c.at) None ≡ Some (record { from = from; to = to; next = next }) → Well s from to
      go (Some c) p e =
          let (here, _) = boundary_tag 38 [] s at c w refl p in
          from_well (cursor at) c.at here (omega (arith, (tag_after (38 ∷ []) s at c (omega arith) p).past)) e
      go None p e = no-remark from to next e

pub remark_well : (s : List ℕ) (at : ℕ) (from to next : Cursor) → well_formed_bytes s ≡ length s → comment_line_at s at ≡ Some (record { from = from; to = to; next = next })
    → well_formed_bytes (take (to.at - from.at) (drop from.at s)) ≡ length (take (to.at - from.at) (drop from.at s))
unfolding comment_line_at size_of
remark_well s at from to next w = go (tag_at (42 ∷ []) s at) refl
  where
    go : (r : Option Cursor) → tag_at (42 ∷ []) s at ≡ r → on_place r (λ c. remark_from c s c.at) (kept_at s at) ≡ Some (record { from = from; to = to; next = next }) → Well s from to
    go (Some c) p e =
        let (_, past) = boundary_tag 42 [] s at c w refl p in
        from_well s w from to next c c.at past (omega arith) e
    go None p e = kept_well s w from to next at e
