-- Comments and entries of a text are filled in one by one: what is still to do from here comes to what was to do at first.
-- Assumes nothing.
use Rattle.std.specs.Prelude.{Some, None}
use Prim.Native.Nat.{ℕ}
use mathlib.Core.Path.{◌≡◌, refl, sym, ap, ◌∙◌}
use mathlib.Core.List.{List, ◌∷◌}
use Rattle.lists.specs.Repeat.{Ended}
use Rattle.text.specs.declared.Cursor.{Cursor}
use Rattle.jkf.specs.declared.Entry.{Entry}
use Rattle.jkf.specs.Model.{Noted}
use Rattle.moves.specs.Moves.{move_line_at, comment_line_at}
use Rattle.filling.specs.Filling.{put_comment, put_noted, put_comments, put_all}
use Rattle.filling.specs.declared.Walk.{Walk}
use Rattle.filling.proofs.Growing.{comment-size, noted-size, Doing, doing_start, doing_step, doing_as, doing_done}
use Rattle.plays.specs.Plays.{noted, comments_at, entries_at}
use Rattle.plays.proofs.Items.{text_of, comments-more, comments-none, entries-more, entries_none}

-- ---- comments

pub record Commenting (s : List ℕ) (at₀ at : ℕ) (w₀ w : Walk) (o₀ o : List ℕ) : Type 0 where
  pub doing : Doing put_comment (comments_at s at₀).state (comments_at s at).state w₀ w o₀ o
  pub end : (comments_at s at).at ≡ (comments_at s at₀).at

pub commenting_start : {s : List ℕ} {at : ℕ} {w : Walk} {o : List ℕ} → Commenting s at at w w o o
commenting_start = record { doing = doing_start; end = refl }

module _ {s : List ℕ} {at₀ at : ℕ} {w₀ w : Walk} {o₀ o : List ℕ} (i : Commenting s at₀ at w₀ w o₀ o) where
  pub commenting_step : {w' : Walk} {o' : List ℕ} (from to next : Cursor) → comment_line_at s at ≡ Some (record { from = from; to = to; next = next })
      → w' ≡ (put_comment (text_of s from to) w o).walk → o' ≡ (put_comment (text_of s from to) w o).buffer → Commenting s at₀ next.at w₀ w' o₀ o'
  commenting_step from to next q p r =
      let m = comments-more s at from to next q in
      record {
        doing = doing_step (text_of s from to) (comment-size (text_of s from to) w o) (doing_as (ap (λ (x : Ended (List (List ℕ))). x.state) m) i.doing) p r;
        end = sym (ap (λ (x : Ended (List (List ℕ))). x.at) m) ∙ i.end;
      }

  pub commenting_done : comment_line_at s at ≡ None
      → (w ≡ (put_comments (comments_at s at₀).state w₀ o₀).walk) × ((o ≡ (put_comments (comments_at s at₀).state w₀ o₀).buffer) × (at ≡ (comments_at s at₀).at))
  commenting_done q =
      let n = comments-none s at q in
      let d = doing_done (doing_as (ap (λ (x : Ended (List (List ℕ))). x.state) n) i.doing) in
      (d.0, (d.1, sym (ap (λ (x : Ended (List (List ℕ))). x.at) n) ∙ i.end))

-- ---- entries

pub record Entering (s : List ℕ) (at₀ at : ℕ) (w₀ w : Walk) (o₀ o : List ℕ) : Type 0 where
  pub doing : Doing put_noted (entries_at s at₀).state (entries_at s at).state w₀ w o₀ o
  pub end : (entries_at s at).at ≡ (entries_at s at₀).at

pub entering_start : {s : List ℕ} {at : ℕ} {w : Walk} {o : List ℕ} → Entering s at at w w o o
entering_start = record { doing = doing_start; end = refl }

module _ {s : List ℕ} {at₀ at : ℕ} {w₀ w : Walk} {o₀ o : List ℕ} (i : Entering s at₀ at w₀ w o₀ o) where
  pub entering_step : {w' : Walk} {o' : List ℕ} {next : ℕ} (n : ℕ) (e : Entry) (c : Cursor) → move_line_at s at ≡ Some (record { number = n; entry = e; next = c })
      → w' ≡ (put_noted (noted e (comments_at s c.at).state) w o).walk → o' ≡ (put_noted (noted e (comments_at s c.at).state) w o).buffer
      → next ≡ (comments_at s c.at).at → Entering s at₀ next w₀ w' o₀ o'
  entering_step n e c q p r z =
      let x = noted e (comments_at s c.at).state in
      let m = entries-more s at n e c q in
      record {
        doing =
            doing_step x (noted-size x w o)
            (doing_as (ap (λ (y : Ended (List Noted)). y.state) m ∙ ap (λ (k : ℕ). x ∷ (entries_at s k).state) (sym z)) i.doing) p r;
        end = ap (λ (k : ℕ). (entries_at s k).at) z ∙ sym (ap (λ (y : Ended (List Noted)). y.at) m) ∙ i.end;
      }

  pub entering_done : move_line_at s at ≡ None
      → (w ≡ (put_all put_noted (entries_at s at₀).state w₀ o₀).walk) × ((o ≡ (put_all put_noted (entries_at s at₀).state w₀ o₀).buffer) × (at ≡ (entries_at s at₀).at))
  entering_done q =
      let n = entries_none s at q in
      let d = doing_done (doing_as (ap (λ (x : Ended (List Noted)). x.state) n) i.doing) in
      (d.0, (d.1, sym (ap (λ (x : Ended (List Noted)). x.at) n) ∙ i.end))
