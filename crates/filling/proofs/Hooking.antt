-- One line more, hung on those before it: what the code finds and puts is what the definitions say, and what they say of a row that was put.
-- Assumes nothing.
use Rattle.std.specs.Prelude.{Option, Some, None}
use Prim.Native.Nat.{ℕ, ◌-◌, ◌/◌}
use mathlib.Core.Path.{◌≡◌, refl, ap}
use mathlib.Core.List.{List}
use native.Mathlib.Omega.{arith}
use lib.ListN.{length, drop}
use borrow.Author.Tests.{eq-eqb, ne_eqb}
use Rattle.jkf.specs.Attaching.{on_hang}
use Rattle.jkf.specs.Following.{hangs_by}
use Rattle.filling.specs.inner.Parts.{on_hooked}
use Rattle.filling.specs.Filling.{put_line, hanging_of, hooked_of, hooked_in}
use Rattle.filling.specs.declared.Walk.{Walk}
use Rattle.filling.proofs.Growing.{line-size}

module _ (rows start : ℕ) (v : Walk) (o : List ℕ) {k : ℕ} (e : k ≡ (v.lines - rows) / 8) where
  -- the first line hangs on none
  pub first-hangs : k ≡ 0 → Some (0, 0) ≡ hanging_of rows start v o
  unfolding hanging_of
  first-hangs z = rw (← e, eq-eqb k 0 z)

  -- any other as it is found
  pub later-hangs : (k ≡ 0 → ⊥) → hangs_by (drop rows o) start k ≡ hanging_of rows start v o
  unfolding hanging_of
  later-hangs z = rw (← e, ne_eqb k 0 z)

module _ (rows start first : ℕ) (v : Walk) (o : List ℕ) where
  pub row-put : {p e : ℕ} {r : Walk} {o₁ : List ℕ} → Some (p, e) ≡ hanging_of rows start v o → r ≡ (put_line start p first v o).walk → o₁ ≡ (put_line start p first v o).buffer
      → (Some r ≡ hooked_of rows start first v o) × (o₁ ≡ hooked_in rows start first v o)
  unfolding hooked_of hooked_in
  row-put h f g = rw (← h) (ap Some f, g)

  pub none-put : None ≡ hanging_of rows start v o → (None ≡ hooked_of rows start first v o) × (o ≡ hooked_in rows start first v o)
  unfolding hooked_of hooked_in
  none-put h = rw (← h) (refl, refl)

  -- the buffer keeps its length
  pub hooked_size : length (hooked_in rows start first v o) ≡ length o
  unfolding hooked_in
  hooked_size = go (hanging_of rows start v o)
    where
      go : (h : Option (ℕ × ℕ)) → length (on_hang h (λ p e. (put_line start p first v o).buffer) o) ≡ length o
      go (Some (p, e)) = line-size start p first v o
      go None = refl

  -- ---- what a row that was put tells

  pub record Row (u : Walk) : Type 0 where
    pub parent : ℕ
    pub entry : ℕ
    pub hangs : hanging_of rows start v o ≡ Some (parent, entry)
    pub walk : u ≡ (put_line start parent first v o).walk
    pub buffer : hooked_in rows start first v o ≡ (put_line start parent first v o).buffer

  pub row_told : {u : Walk} → Some u ≡ hooked_of rows start first v o → Row u
  unfolding hooked_of hooked_in
  row_told {u} q = go (hanging_of rows start v o) refl q
    where
      go : (h : Option (ℕ × ℕ)) → hanging_of rows start v o ≡ h → Some u ≡ on_hang h (λ p e. Some (put_line start p first v o).walk) None → Row u
      go (Some (p, e)) k x =
          record {
            parent = p;
            entry = e;
            hangs = k;
            walk = ap (λ (h : Option Walk). on_hooked h (λ r. r) u) x;
            buffer = ap (λ (h : Option (ℕ × ℕ)). on_hang h (λ p e. (put_line start p first v o).buffer) o) k;
          }
      go None k x = let z : ◌≡◌ {A = ℕ} 1 0 = ap (λ (h : Option Walk). on_hooked h (λ r. 1) 0) x in absurd (omega arith)

  pub none_told : None ≡ hooked_of rows start first v o → hanging_of rows start v o ≡ None
  unfolding hooked_of
  none_told q = go (hanging_of rows start v o) refl q
    where
      go : (h : Option (ℕ × ℕ)) → hanging_of rows start v o ≡ h → None ≡ on_hang h (λ p e. Some (put_line start p first v o).walk) None → hanging_of rows start v o ≡ None
      go (Some (p, e)) k x = let z : ◌≡◌ {A = ℕ} 0 1 = ap (λ (h : Option Walk). on_hooked h (λ r. 1) 0) x in absurd (omega arith)
      go None k x = k
