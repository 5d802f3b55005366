-- Comments, entries and header entries of a block are copied one by one: each is the next of a run. And they are counted.
-- Assumes nothing.
use Prim.Native.Nat.{ℕ, ◌+◌, ◌≤◌, ◌<◌}
use native.Mathlib.Omega.{arith}
use mathlib.Core.Path.{◌≡◌, refl, ap, ap₂, ◌∙◌}
use mathlib.Core.List.{List}
use lib.ListN.{length, drop, length-append}
use Rattle.jkf.specs.declared.Entry.{Entry}
use Rattle.jkf.specs.Model.{Noted}
use Rattle.block.specs.EntryBytes.{entry_in}
use Rattle.block.specs.Encode.{concat, comments_of, comment_text}
use Rattle.block.specs.Decode.{run, move_place, first_comment, comment_count, key_of, value_of, header_in, comment_of, noted_in}
use Rattle.block.proofs.Tabling.{concat-append, concat-none, concat-more, concat_longer}
use Rattle.filling.specs.Filling.{Grown, header, put_all, put_comments, put_entry, put_noted}
use Rattle.filling.specs.declared.Walk.{Walk}
use Rattle.filling.proofs.Growing.{noted_done, Doing, doing_step, doing_as, doing_done}
use Rattle.edit.proofs.Rests.{rest, rest_none, rest_next}

-- ---- a run

module _ {X : Type 0} {one : X → Walk → List ℕ → Grown} (g : ℕ → X) (k n : ℕ) where
  module _ {i : ℕ} {w₀ w : Walk} {o₀ o : List ℕ} (d : Doing one (run g k n) (rest g k n i) w₀ w o₀ o) where
    pub run_step : {w' : Walk} {o' : List ℕ} (x : X) → x ≡ g (k + i) → i < n → length (one x w o).buffer ≡ length o → w' ≡ (one x w o).walk → o' ≡ (one x w o).buffer
        → Doing one (run g k n) (rest g k n (i + 1)) w₀ w' o₀ o'
    run_step x e h l p q = doing_step x l (doing_as (rest_next g k n i h x e) d) p q

    pub run_done : n ≤ i → (w ≡ (put_all one (run g k n) w₀ o₀).walk) × (o ≡ (put_all one (run g k n) w₀ o₀).buffer)
    run_done h = doing_done (doing_as (rest_none g k n i h) d)

-- ---- one entry with its comments, one header entry

pub noted_copied : (b : List ℕ) (k : ℕ) (w : Walk) (o : List ℕ) {i n : ℕ} {e : Entry} {v r : Walk} {o₁ o₂ : List ℕ} → i ≡ first_comment b k → n ≡ comment_count b k
    → v ≡ (put_comments (run (comment_of b) i n) w o).walk → o₁ ≡ (put_comments (run (comment_of b) i n) w o).buffer → e ≡ entry_in (drop (move_place b k) b)
    → r ≡ (put_entry e w.noted v o₁).walk → o₂ ≡ (put_entry e w.noted v o₁).buffer
    → (r ≡ (put_noted (noted_in b k) w o).walk) × (o₂ ≡ (put_noted (noted_in b k) w o).buffer)
noted_copied b k w o {i} {n} {e} {v} {r} {o₁} {o₂} p q x y z f g =
    let cs : run (comment_of b) i n ≡ run (comment_of b) (first_comment b k) (comment_count b k) = ap₂ (run (comment_of b)) p q in
    let x₁ : v ≡ (put_comments (noted_in b k).comments w o).walk = x ∙ ap (λ (l : List (List ℕ)). (put_comments l w o).walk) cs in
    let y₁ : o₁ ≡ (put_comments (noted_in b k).comments w o).buffer = y ∙ ap (λ (l : List (List ℕ)). (put_comments l w o).buffer) cs in
    let d = noted_done e (noted_in b k).comments w o {at = 0} x₁ y₁ f g refl in
    let z₁ : record { what = e; comments = (noted_in b k).comments } ≡ noted_in b k = ap (λ (u : Entry). record { what = u; comments = (noted_in b k).comments }) z in
    (d.0 ∙ ap (λ (u : Noted). (put_noted u w o).walk) z₁, d.1.0 ∙ ap (λ (u : Noted). (put_noted u w o).buffer) z₁)

pub header_copied : (b : List ℕ) (k : ℕ) {key value : List ℕ} → key ≡ key_of b k → value ≡ value_of b k → header key value ≡ header_in b (0 + k)
header_copied b k {key} {value} p q =
    let z : k ≡ 0 + k = omega arith in
    ap₂ header p q ∙ ap (header_in b) z

-- ---- counted

-- of no entry
module _ (g : ℕ → Noted) (k : ℕ) where
  pub comments-none : length (comments_of (run g k 0)) ≡ 0
  comments-none = ap length (concat-none (λ e. e.comments) g k)

  pub bytes-none : length (comment_text (comments_of (run g k 0))) ≡ 0
  unfolding concat run
  bytes-none = refl

-- the comments of one entry more, and their bytes
module _ (g : ℕ → Noted) (k i : ℕ) where
  pub comments-more : length (comments_of (run g k (i + 1))) ≡ length (comments_of (run g k i)) + length (g (k + i)).comments
  comments-more = concat_longer (λ e. e.comments) g k i

  pub bytes-more : length (comment_text (comments_of (run g k (i + 1)))) ≡ length (comment_text (comments_of (run g k i))) + length (comment_text (g (k + i)).comments)
  bytes-more =
      ap (λ (cs : List (List ℕ)). length (comment_text cs)) (concat-more (λ (e : Noted). e.comments) g k i)
      ∙ ap length (concat-append (λ c. c) (comments_of (run g k i)) (g (k + i)).comments)
      ∙ length-append (comment_text (comments_of (run g k i))) (comment_text (g (k + i)).comments)
