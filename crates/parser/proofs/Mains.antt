-- The main line is filled in: the slot with its comments, the entries, the row.
-- Assumes nothing.
use Rattle.std.specs.Prelude.{Option, Some, None}
use Prim.Native.Nat.{ℕ, ◌-◌, ◌≤◌}
use native.Mathlib.Omega.{arith}
use mathlib.Core.Path.{◌≡◌, refl, sym, ap, ◌∙◌, subst}
use mathlib.Core.List.{List, [], ◌∷◌, ◌++◌}
use lib.Dec.{eqb}
use Rattle.lists.specs.Pick.{pick}
use Rattle.text.specs.declared.Cursor.{Cursor}
use Rattle.jkf.specs.declared.Entry.TheVariants.{Slot}
use Rattle.jkf.specs.Model.{Noted}
use Rattle.filling.specs.Filling.{Grown, put_comments, put_entry, put_noted, put_entries, put_line, hooked_of, hooked_in}
use Rattle.filling.specs.inner.Parts.{EntriesFit, Entered, LineFits, Lined, on_hooked}
use Rattle.filling.specs.declared.Walk.{Walk}
use Rattle.filling.proofs.Hooking.{first-hangs, row-put}
use Rattle.filling.proofs.Growing.{noted-put, noted_done, entries-front, entries_rest, entries-then, entries-put, line_fit, line-put}
use Rattle.plays.specs.Plays.{noted, comments_at, entries_at, skipped_at, slot_at, past_main, main_at}
use Rattle.plays.specs.declared.Reached.{Reached}
use Rattle.plays.specs.declared.FilledPlay.{FilledPlay}
use Rattle.parser.specs.inner.Lines.{main_line}
use Rattle.plays.proofs.Variations.{main_past}

-- entries that are put, told by an equal walk and an equal buffer
pub entered_by : {es : List Noted} {w v : Walk} {o o₁ : List ℕ} → EntriesFit es w o → v ≡ (put_entries es w o).walk → o₁ ≡ (put_entries es w o).buffer → Entered es w v o o₁
entered_by {es} {w} {v} {o} {o₁} f p q =
    subst (λ (x : Walk). Entered es w x o o₁) (sym p) (subst (λ (l : List ℕ). Entered es w (put_entries es w o).walk o l) (sym q) (entries-put es f))

module _ (s : List ℕ) (at : ℕ) (w : Walk) (o : List ℕ) (f : LineFits (main_line s at) w o) where
  abbrev slot : Noted
  slot = noted Slot (slot_at s at).state

  abbrev place : ℕ
  place = (slot_at s at).at

  main_fit : EntriesFit ((slot ∷ []) ++ (entries_at s place).state) w o
  unfolding main_at
  main_fit = line_fit 0 0 (main_at s at).entries f

  module _ (c : Cursor) (x : Reached) (u : Walk) {q o₁ : List ℕ} (p : c.at ≡ skipped_at s at) (a : x.walk ≡ (put_comments (comments_at s c.at).state w o).walk)
      (b : q ≡ (put_comments (comments_at s c.at).state w o).buffer) (e : x.next.at ≡ (comments_at s c.at).at) (d : u ≡ (put_entry Slot w.noted x.walk q).walk)
      (r : o₁ ≡ (put_entry Slot w.noted x.walk q).buffer) where
    slotted : Entered (slot ∷ []) w u o o₁
    slotted =
        let n = noted_done Slot (comments_at s c.at).state w o a b d r e in
        let a₁ : u ≡ (put_noted slot w o).walk = n.0 ∙ ap (λ (k : ℕ). (put_noted (noted Slot (comments_at s k).state) w o).walk) p in
        let b₁ : o₁ ≡ (put_noted slot w o).buffer = n.1.0 ∙ ap (λ (k : ℕ). (put_noted (noted Slot (comments_at s k).state) w o).buffer) p in
        subst (λ (y : Walk). Entered (slot ∷ []) w y o o₁) (sym a₁)
        (subst (λ (l : List ℕ). Entered (slot ∷ []) w (put_noted slot w o).walk o l) (sym b₁) (noted-put slot (entries-front (slot ∷ []) (entries_at s place).state main_fit)))

    past-slot : x.next.at ≡ place
    past-slot = e ∙ ap (λ (k : ℕ). (comments_at s k).at) p

    module _ (y : FilledPlay) {o₂ : List ℕ} (g : y.walk ≡ (put_entries (entries_at s x.next.at).state u o₁).walk)
        (h : o₂ ≡ (put_entries (entries_at s x.next.at).state u o₁).buffer) (i : y.next.at ≡ (entries_at s x.next.at).at) where
      entered : Entered (entries_at s place).state u y.walk o₁ o₂
      entered =
          entered_by (entries_rest (slot ∷ []) (entries_at s place).state main_fit slotted)
          (g ∙ ap (λ (k : ℕ). (put_entries (entries_at s k).state u o₁).walk) past-slot)
          (h ∙ ap (λ (k : ℕ). (put_entries (entries_at s k).state u o₁).buffer) past-slot)

      both : Entered ((slot ∷ []) ++ (entries_at s place).state) w y.walk o o₂
      both = entries-then (slot ∷ []) (entries_at s place).state main_fit slotted entered

      pub slot_grows : u.entries ≤ y.walk.entries
      slot_grows = omega (arith, entered.entries)

      pub past-main : (d : Cursor) → d.at ≡ pick (eqb (y.walk.entries - u.entries) 0) x.next.at (skipped_at s y.next.at) → d.at ≡ past_main s place
      past-main d q =
          q ∙ ap (λ (k : ℕ). pick (eqb (y.walk.entries - u.entries) 0) k (skipped_at s y.next.at)) past-slot
          ∙ main_past s place {n = y.walk.entries - u.entries} (omega (arith, entered.entries)) (i ∙ ap (λ (k : ℕ). (entries_at s k).at) past-slot)

      -- the row hangs on nothing
      abbrev row : Grown
      row = put_line 0 0 w.entries y.walk o₂

      hooked : (Some row.walk ≡ hooked_of w.lines 0 w.entries y.walk o₂) × (row.buffer ≡ hooked_in w.lines 0 w.entries y.walk o₂)
      hooked = row-put w.lines 0 w.entries y.walk o₂ (first-hangs w.lines 0 y.walk o₂ (omega (arith, both.lines)) refl) refl refl

      pub main_lined : {v : Walk} {o₃ : List ℕ} → Some v ≡ hooked_of w.lines 0 w.entries y.walk o₂ → o₃ ≡ hooked_in w.lines 0 w.entries y.walk o₂
          → Lined (main_line s at ∷ []) w v o o₃
      unfolding main_at
      main_lined {v} {o₃} m z =
          let n : v ≡ row.walk = ap (λ (h : Option Walk). on_hooked h (λ k. k) v) (m ∙ sym hooked.0) in
          subst (λ (k : Walk). Lined (main_line s at ∷ []) w k o o₃) (sym n)
          (subst (λ (l : List ℕ). Lined (main_line s at ∷ []) w row.walk o l) (hooked.1 ∙ sym z) (line-put 0 0 (main_at s at).entries f both))

      pub main_hangs : {A : Type 0} → None ≡ hooked_of w.lines 0 w.entries y.walk o₂ → A
      main_hangs m = let n : ◌≡◌ {A = ℕ} 0 1 = ap (λ (h : Option Walk). on_hooked h (λ k. 1) 0) (m ∙ sym hooked.0) in absurd (omega arith)
