-- What is found of a later line is its test, since the lines before it are known to hang (`one-pass`).
-- Assumes nothing.
use Prim.Native.Nat.{ℕ, ◌+◌, ◌-◌}
use native.Mathlib.Omega.{arith}
use mathlib.Core.Path.{◌≡◌, sym, ap, ap₂, ◌∙◌}
use mathlib.Core.Bool.{Bool}
use mathlib.Core.List.{List}
use borrow.Author.Tests.{eq-eqb}
use Rattle.lists.specs.Test.{flag}
use Rattle.jkf.specs.Trees.{has_ply, hang_test, HangAs}
use Rattle.jkf.specs.inner.Climbing.{climb, follows, hangs_right}
use Rattle.jkf.proofs.OnePass.{one_pass, right_late, right_none, right_next, right_after}
use Rattle.block.specs.Decode.{version_in, start_of, entry_count, parent_of}
use Rattle.block.proofs.places.hangs_right.Goals as goal

module _ (b : List ℕ) (k : ℕ) where
  abbrev test : Bool
  test = flag (hang_test (version_in b) (start_of b) (entry_count b) (parent_of b) k)

  abbrev found : Bool
  found = hangs_right (version_in b) (start_of b) (entry_count b) (parent_of b) k

  later : (k ≡ 0 → ⊥) → HangAs (version_in b) (start_of b) (entry_count b) (parent_of b) k → {r : Bool} → found ≡ r → r ≡ test
  later n h e = sym e ∙ one_pass (start_of b) (entry_count b) (parent_of b) (version_in b) k (omega arith) h

  -- that its parent has the entry, by what was read of the line
  has : {p s : ℕ} {r : Bool} → p ≡ parent_of b k → s ≡ start_of b k → r ≡ has_ply (start_of b p) (entry_count b p) s
      → has_ply (start_of b (parent_of b k)) (entry_count b (parent_of b k)) (start_of b k) ≡ r
  has e f h = sym (h ∙ ap₂ (λ (x y : ℕ). has_ply (start_of b x) (entry_count b x) y) e f)

  -- and that the sibling before it stands right
  after : {p q : ℕ} {r : Bool} → p ≡ parent_of b k → q ≡ climb (parent_of b) p k (k - 1) → r ≡ follows (version_in b) (start_of b) (parent_of b) k q
      → follows (version_in b) (start_of b) (parent_of b) k (climb (parent_of b) (parent_of b k) k (k - 1)) ≡ r
  after e f h = sym (h ∙ ap (λ (x : ℕ). follows (version_in b) (start_of b) (parent_of b) k x) (f ∙ ap (λ (x : ℕ). climb (parent_of b) x k (k - 1)) e))

pub returns-then-k-p : goal.returns-then-k-p
returns-then-k-p c =
    let b = c.args.b.now in
    later b c.args.k c.if-k-eq0.false c.requires.1
    (right_late (version_in b) (start_of b) (entry_count b) (parent_of b) c.args.k (omega (arith, c.if-k-p.true, c.parent_of-p.ensures.0)))

pub returns-then-not-has_ply : goal.returns-then-not-has_ply
returns-then-not-has_ply c =
    let b = c.args.b.now in
    let p = c.parent_of-p.ensures.0 in
    later b c.args.k c.if-k-eq0.false c.requires.1
    (right_none (version_in b) (start_of b) (entry_count b) (parent_of b) c.args.k (omega (arith, c.if-k-p.false, p))
    (has b c.args.k p c.start_of-start.ensures.0 c.has_ply.ensures ∙ c.if-not-has_ply.true))

pub returns-then-p-k : goal.returns-then-p-k
returns-then-p-k c =
    let b = c.args.b.now in
    let p = c.parent_of-p.ensures.0 in
    eq-eqb _ _ c.if-p-k.true ∙ later b c.args.k c.if-k-eq0.false c.requires.1
    (right_next (version_in b) (start_of b) (entry_count b) (parent_of b) c.args.k (omega (arith, c.if-k-p.false, p))
    (has b c.args.k p c.start_of-start.ensures.0 c.has_ply.ensures ∙ c.if-not-has_ply.false)
    (omega (arith, c.if-p-k.true, p)))

pub climb-requires : goal.climb-requires
climb-requires c =
    let n = c.if-k-eq0.false in
    (omega arith, c.requires.0, c.requires.1)

pub follows-requires : goal.follows-requires
follows-requires c =
    (c.requires.0, c.climb.ensures.1, c.parent_of-p.ensures.0)

pub returns-else-p-k : goal.returns-else-p-k
returns-else-p-k c =
    let b = c.args.b.now in
    let p = c.parent_of-p.ensures.0 in
    let n = c.if-p-k.false in
    later b c.args.k c.if-k-eq0.false c.requires.1
    (right_after (version_in b) (start_of b) (entry_count b) (parent_of b) c.args.k (omega (arith, c.if-k-p.false, p))
    (has b c.args.k p c.start_of-start.ensures.0 c.has_ply.ensures ∙ c.if-not-has_ply.false)
    (λ e. n (ap (λ (x : ℕ). x + 1) p ∙ e))
    ∙ after b c.args.k p c.climb.ensures.0 c.follows.ensures)
