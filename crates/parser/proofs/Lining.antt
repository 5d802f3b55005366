-- Filling in the lines one after another: those before line k are in the buffer, all of them hang, and the rest is still to be read.
-- Assumes nothing.
use Rattle.std.specs.Prelude.{Option, Some, None}
use Prim.Native.Nat.{ℕ, ◌+◌, ◌≤◌, ◌<◌}
use native.Mathlib.Omega.{arith}
use mathlib.Core.Path.{◌≡◌, refl, sym, ap, ap₂, ◌∙◌, subst}
use mathlib.Core.List.{List, [], ◌∷◌, ◌++◌}
use native.Mathlib.Decide.{dec_lt}
use lib.ListN.{length, take}
use lib.Seq.{take_all}
use Rattle.lent.specs.inner.Regions.{puts, Filled}
use Rattle.lent.proofs.Regions.{filled-length, put-none}
use Rattle.text.specs.declared.Cursor.{Cursor}
use Rattle.jkf.specs.Attaching.{hangs, on_hang, all, first, Play, play_of, starts, counts, parent_in, attach, all_hung}
use Rattle.jkf.specs.Model.{Noted, Line}
use Rattle.block.specs.Formed.{line_of}
use Rattle.block.specs.Encode.{table, concat}
use Rattle.block.proofs.Attached.{attach-length, attach-line, parent-first}
use Rattle.filling.specs.Filling.{put_entries, put_line, hanging_of}
use Rattle.filling.specs.inner.Parts.{entry_texts, line_texts, entry_ends, line_ends, EntriesFit, Entered, LinesFit, LineFits, Lined}
use Rattle.filling.specs.declared.Walk.{Walk}
use Rattle.filling.proofs.Growing.{line}
use Rattle.filling.proofs.Lines.{take_more, lined_none, room_for, room_for_none, entries_fit, next-hangs, row_lined, all_lined}
use Rattle.plays.specs.Plays.{entries_at, ply_at, skipped_at, skips_at, slot_at, past_main, main_at, plays_at}
use Rattle.plays.specs.Losses.{lost_from, variations_lost, plays_lost}
use Rattle.plays.specs.declared.FilledPlay.{FilledPlay}
use Rattle.parser.specs.inner.Lines.{main_line}
use Rattle.plays.proofs.Variations.{variation_past, lost_more, lost_none}
use Rattle.plays.proofs.Passing.{Passed, some-plays, passed_main, all_passed, all-hung, all-taken, more_left, play_here, start_here, next-loose, next_passed}
use Rattle.parser.proofs.Mains.{entered_by}

-- ---- lines before line k

pub record Lining (s : List ℕ) (at k : ℕ) (w v : Walk) (to : ℕ) (o₀ o : List ℕ) : Type 0 where
  pub passed : Passed s at k to
  pub done : Lined (take k (attach (plays_at s at).state)) w v o₀ o

-- the parent of a line that hangs
parent-of : (ps : List Play) (k p e : ℕ) → hangs (starts ps) (counts ps) (starts ps k) k ≡ Some (p, e) → parent_in ps k ≡ p
unfolding parent_in
parent-of ps k p e h = ap (λ (g : Option (ℕ × ℕ)). on_hang g (λ p e. p) 0) h

-- where there is no entry nothing is filled in
unfilled_by : (es : List Noted) (v x : Walk) {o o₁ : List ℕ} → es ≡ [] → Filled (entry_texts v.noted v.bytes es) o o₁ (entry_ends v) (entry_ends x) → o₁ ≡ o
unfilled_by es v x {o} {o₁} e g =
    g.bytes ∙ ap (λ (l : List Noted). puts o (entry_ends v) (entry_texts v.noted v.bytes l)) e ∙ none
  where
    none : puts o (entry_ends v) (entry_texts v.noted v.bytes []) ≡ o
    none = unfold table concat in (simp put-none)

module _ (s : List ℕ) (at : ℕ) (w : Walk) (o₀ : List ℕ) (f : LinesFit (attach (plays_at s at).state) w o₀) where
  abbrev ps : List Play
  ps = (plays_at s at).state

  abbrev ls : List Line
  ls = attach ps

  -- the texts of lines after what is in the block
  abbrev texts_of : List Line → List (List ℕ)
  texts_of l = line_texts w.entries w.noted w.bytes l

  -- ---- the main line

  main_is : line_of ls 0 ≡ main_line s at
  unfolding plays_at
  main_is =
      attach-line ps 0 (some-plays s at) ∙ ap (λ (p : ℕ). line (starts ps 0) p (play_of ps 0).entries) (parent-first ps)
      ∙ ap (λ (n : ℕ). line n 0 (main_at s at).entries) started
    where
      started : (main_at s at).start ≡ 0
      started = unfold main_at in refl

  some-lines : 0 < length ls
  some-lines = omega (arith, some-plays s at, attach-length ps)

  origin : starts ps 0 ≡ 0
  origin = ap (λ (x : Line). x.start) (sym (attach-line ps 0 (some-plays s at)) ∙ main_is)

  pub main_fits : LineFits (main_line s at) w o₀
  main_fits = subst (λ (x : Line). LineFits x w o₀) main_is (room_for ls w o₀ f 0 (lined_none w o₀) some-lines)

  pub lining_start : {v : Walk} {to : ℕ} {o : List ℕ} → Lined (main_line s at ∷ []) w v o₀ o → to ≡ past_main s (slot_at s at).at → Lining s at 1 w v to o₀ o
  lining_start {v} {to} {o} d e = record { passed = passed_main s at e; done = subst (λ (l : List Line). Lined l w v o₀ o) (sym one) d }
    where
      one : take 1 ls ≡ main_line s at ∷ []
      one = take_more ls 0 some-lines ∙ ap (λ (x : Line). take 0 ls ++ (x ∷ [])) main_is

  -- ---- a variation

  module _ (k : ℕ) (v : Walk) (to : ℕ) (o : List ℕ) (i : Lining s at k w v to o₀ o) where
    abbrev place : ℕ
    place = skips_at s to

    abbrev es : List Noted
    es = (entries_at s place).state

    abbrev up : Passed s at k to
    up = i.passed

    -- there is none
    all-filled : length es ≡ 0 → o ≡ puts o₀ (line_ends w) (line_texts 0 0 w.bytes ls)
    all-filled e =
        let t : take k ls ≡ ls = take_all k ls (omega (arith, all_passed s at k to up e, attach-length ps)) in
        all_lined ls w o₀ f (subst (λ (l : List Line). Lined l w v o₀ o) t i.done)

    -- there is one
    module _ (some : length es ≡ 0 → ⊥) where
      more : k < length ls
      more = omega (arith, more_left s at k to up some, attach-length ps)

      line_here : line_of ls k ≡ line (ply_at s place) (parent_in ps k) es
      line_here = attach-line ps k (more_left s at k to up some) ∙ ap (λ (p : Play). line p.start (parent_in ps k) p.entries) (play_here s at k to up some)

      line-fits : LineFits (line (ply_at s place) (parent_in ps k) es) v o
      line-fits = subst (λ (x : Line). LineFits x v o) line_here (room_for ls w o₀ f k i.done more)

    -- ---- the entries at the next place

    nothing : (l : List Noted) → length l ≡ 0 → l ≡ []
    nothing [] h = refl
    nothing (e ∷ l) h = absurd (omega arith)

    entries-room : EntriesFit es v o
    entries-room = go (dec_lt 0 (length es))
      where
        go : Dec (0 < length es) → EntriesFit es v o
        go (yes h) =
            let some : length es ≡ 0 → ⊥ = λ e. omega arith in
            subst (λ (x : Line). EntriesFit x.entries v o) (line_here some) (entries_fit ls w o₀ f k i.done (more some))
        go (no h) = subst (λ (l : List Noted). EntriesFit l v o) (sym (nothing es (omega arith))) (room_for_none ls w o₀ f k i.done)

    module _ (c : Cursor) (p : c.at ≡ place) (x : FilledPlay) (o₁ : List ℕ) (a : x.walk ≡ (put_entries (entries_at s c.at).state v o).walk)
        (b : o₁ ≡ (put_entries (entries_at s c.at).state v o).buffer) (q : x.next.at ≡ (entries_at s c.at).at) where
      entered : Entered es v x.walk o o₁
      entered =
          entered_by entries-room (a ∙ ap (λ (n : ℕ). (put_entries (entries_at s n).state v o).walk) p) (b ∙ ap (λ (n : ℕ). (put_entries (entries_at s n).state v o).buffer) p)

      past : x.next.at ≡ (entries_at s place).at
      past = q ∙ ap (λ (n : ℕ). (entries_at s n).at) p

      pub next-long : length o₁ ≡ length o₀
      next-long = filled-length entered.filled ∙ filled-length i.done.filled

      -- none was filled in
      pub next-none : x.walk.entries ≡ v.entries → (all_hung ps ≡ all) × ((plays_at s at).at ≡ to) × (o₁ ≡ puts o₀ (line_ends w) (line_texts 0 0 w.bytes ls))
      next-none e =
          let z : length es ≡ 0 = omega (arith, entered.entries) in
          (all-hung s at k to up z, all-taken s at k to up z, unfilled_by es v x.walk (nothing es z) entered.filled ∙ all-filled z)

      pub none_lost : x.walk.entries ≡ v.entries → variations_lost s to ≡ 0
      none_lost e = lost_none s to (omega (arith, entered.entries, e))

      module _ (ne : x.walk.entries ≡ v.entries → ⊥) where
        some_here : length es ≡ 0 → ⊥
        some_here z = ne (omega (arith, entered.entries, z))

        -- the times that the variation lost are counted with it
        pub some_lost : (q₂ : Cursor) → q₂.at ≡ skipped_at s x.next.at → variations_lost s to ≡ lost_from s c.at + variations_lost s q₂.at
        some_lost q₂ n =
            lost_more s to some_here
            ∙ ap₂ (λ (i j : ℕ). lost_from s i + variations_lost s j) (sym p) (sym (n ∙ ap (skipped_at s) past))

        hang_is : (h : Option (ℕ × ℕ)) (start : ℕ) → start ≡ ply_at s c.at → hanging_of w.lines start x.walk o₁ ≡ h → hangs (starts ps) (counts ps) (starts ps k) k ≡ h
        hang_is h start e y =
            let z : start ≡ ply_at s place = e ∙ ap (ply_at s) p in
            ap (λ (n : ℕ). hangs (starts ps) (counts ps) n k) (start_here s at k to up some_here ∙ sym z)
            ∙ sym (next-hangs ps w o₀ f k up.few i.done origin up.hung es entered entries-room start up.some)
            ∙ y

        -- the walk goes on
        pub next_less : (q₂ : Cursor) → q₂.at ≡ skipped_at s x.next.at → (to < q₂.at) × (q₂.at ≤ length s)
        next_less q₂ n =
            let b = variation_past s to some_here in
            let e : q₂.at ≡ skipped_at s (entries_at s place).at = n ∙ ap (skipped_at s) past in
            (omega (arith, b.0, e), omega (arith, b.1, e))

        -- there are more lines
        pub next_row : k < length ps
        next_row = more_left s at k to up some_here

        module _ (h : Option (ℕ × ℕ)) (start : ℕ) (z : start ≡ ply_at s c.at) (y : hanging_of w.lines start x.walk o₁ ≡ h) where
          here : line_of ls k ≡ line (ply_at s place) (parent_in ps k) es
          here = line_here some_here

          -- it hangs on nothing
          pub next_lost : h ≡ None → all_hung ps ≡ first k start
          next_lost e = next-loose s at k to up some_here (hang_is h start z y ∙ e) ∙ ap (first k) (ap (ply_at s) (sym p) ∙ sym z)

          -- it hangs, and its row is filled in
          module _ (parent e : ℕ) (on : h ≡ Some (parent, e)) {u : Walk} {o₂ : List ℕ} (row : u ≡ (put_line start parent v.entries x.walk o₁).walk)
              (rest_of : o₂ ≡ (put_line start parent v.entries x.walk o₁).buffer) where
            hang : hangs (starts ps) (counts ps) (starts ps k) k ≡ Some (parent, e)
            hang = hang_is h start z y ∙ on

            pub next_more : (q₂ : Cursor) → q₂.at ≡ skipped_at s x.next.at → Lining s at (k + 1) w u q₂.at o₀ o₂
            next_more q₂ n =
                let own : Entered (line_of ls k).entries v x.walk o o₁ = subst (λ (y : Line). Entered y.entries v x.walk o o₁) (sym here) entered in
                let all_of : Lined (take (k + 1) ls) w u o₀ o₂ =
                row_lined ls w o₀ f k i.done (more some_here) own (z ∙ ap (ply_at s) p ∙ ap (λ (y : Line). y.start) (sym here))
                (sym (ap (λ (y : Line). y.parent) here ∙ parent-of ps k parent e hang)) row rest_of in
                record { passed = next_passed s at k to up some_here hang (n ∙ ap (skipped_at s) past); done = all_of }

-- what was lost up to the last line is lost in all
pub fill_lost : (s : List ℕ) (at next : ℕ) {next₀ lost₀ lost : ℕ} → next₀ ≡ past_main s (slot_at s at).at → lost₀ ≡ lost_from s (slot_at s at).at
    → lost₀ + variations_lost s next₀ ≡ lost + variations_lost s next → variations_lost s next ≡ 0 → plays_lost s at ≡ lost
unfolding plays_lost
fill_lost s at next n m i z = omega (arith, ap (variations_lost s) n, m, i, z)
