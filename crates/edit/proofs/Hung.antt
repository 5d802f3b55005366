-- Lines, each on the parent given, put one after another: they are in the block.
-- Assumes nothing.
use Prim.Native.Nat.{ℕ, ◌+◌, ◌≤◌, ◌<◌}
use native.Mathlib.Omega.{arith}
use mathlib.Core.Path.{◌≡◌, refl, sym, ap, ◌∙◌, subst}
use mathlib.Core.List.{List, [], ◌∷◌}
use lib.ListN.{length, take, drop, length-drop}
use lib.Seq.{get_or-drop, drop-drop, take_all}
use Rattle.lent.specs.inner.Regions.{puts}
use Rattle.jkf.specs.Model.{Noted, Line}
use Rattle.block.specs.Formed.{line_of}
use Rattle.filling.specs.Filling.{put_all, put_line, put_noted, put_entries}
use Rattle.filling.specs.inner.Parts.{line_texts, line_ends, LinesFit, Lined}
use Rattle.filling.specs.declared.Walk.{Walk}
use Rattle.filling.proofs.Growing.{line, all-size, noted-size, line-size, entries-put}
use Rattle.filling.proofs.Lines.{lined_none, entries_fit, row_lined, all_lined}
use Rattle.edit.specs.inner.Splicing.{put_whole, put_wholes}

-- ---- a line, wherever it is put

pub whole-size : (l : Line) (w : Walk) (o : List ℕ) → length (put_whole l w o).buffer ≡ length o
unfolding put_whole
whole-size l w o =
    let g = put_entries l.entries w o in
    line-size l.start l.parent w.entries g.walk g.buffer ∙ all-size put_noted noted-size l.entries w o

-- as the code puts it: the entries, and then the row
pub whole-made : (l : Line) (w : Walk) (o : List ℕ) {start parent : ℕ} {es : List Noted} {v r : Walk} {o₁ o₂ : List ℕ} → es ≡ l.entries
    → start ≡ l.start → parent ≡ l.parent → v ≡ (put_entries es w o).walk → o₁ ≡ (put_entries es w o).buffer
    → r ≡ (put_line start parent w.entries v o₁).walk → o₂ ≡ (put_line start parent w.entries v o₁).buffer
    → (r ≡ (put_whole l w o).walk) × (o₂ ≡ (put_whole l w o).buffer)
unfolding put_whole
whole-made l w o e a p x y f g = (f ∙ rw (a, p, x, y, e), g ∙ rw (a, p, x, y, e))

-- one line is put as it is put alone
pub one-put : (l : Line) (w : Walk) (o : List ℕ) → ((put_wholes (l ∷ []) w o).walk ≡ (put_whole l w o).walk) × ((put_wholes (l ∷ []) w o).buffer ≡ (put_whole l w o).buffer)
unfolding put_all
one-put l w o = (refl, refl)

pub none-put : (w : Walk) (o : List ℕ) → (w ≡ (put_wholes [] w o).walk) × (o ≡ (put_wholes [] w o).buffer)
unfolding put_all
none-put w o = (refl, refl)

-- ---- all lines of a list

module _ (ls : List Line) (w : Walk) (o₀ : List ℕ) (f : LinesFit ls w o₀) where
  -- line k is put behind those before it
  whole_lined : (k : ℕ) {v : Walk} {o : List ℕ} → k < length ls → Lined (take k ls) w v o₀ o
      → Lined (take (k + 1) ls) w (put_whole (line_of ls k) v o).walk o₀ (put_whole (line_of ls k) v o).buffer
  unfolding put_whole
  whole_lined k {v} {o} h d =
      let e = entries-put (line_of ls k).entries (entries_fit ls w o₀ f k d h) in
      row_lined ls w o₀ f k d h e refl refl refl refl

  -- and so are all from there on
  wholes_lined : (qs : List Line) (k : ℕ) {v : Walk} {o : List ℕ} → k ≤ length ls → drop k ls ≡ qs → Lined (take k ls) w v o₀ o
      → Lined ls w (put_wholes qs v o).walk o₀ (put_wholes qs v o).buffer
  unfolding put_all
  wholes_lined [] k {v} {o} h e d =
      let t : take k ls ≡ ls = take_all k ls (omega (arith, ap length e, length-drop k ls)) in
      subst (λ (l : List Line). Lined l w v o₀ o) t d
  wholes_lined (q ∷ qs) k {v} {o} h e d =
      let more : k < length ls = omega (arith, ap length e, length-drop k ls) in
      let z : k ≡ k + 0 = omega arith in
      let here : line_of ls k ≡ q = ap (line_of ls) z ∙ sym (get_or-drop k ls 0 (line 0 0 [])) ∙ ap (λ (l : List Line). line_of l 0) e in
      wholes_lined qs (k + 1) (omega arith) (sym (drop-drop 1 k ls) ∙ ap (drop 1) e)
      (subst (λ (l : Line). Lined (take (k + 1) ls) w (put_whole l v o).walk o₀ (put_whole l v o).buffer) here (whole_lined k more d))

  pub lines-put : (put_wholes ls w o₀).buffer ≡ puts o₀ (line_ends w) (line_texts 0 0 w.bytes ls)
  lines-put = all_lined ls w o₀ f (wholes_lined ls 0 (omega arith) refl (lined_none w o₀))
