-- Lines of play whose numbers go up by one.
--     sequence-more, sequence-none, sequence-stray   the first line, and what ends them
--     run_more, run_none, run-stray                  the same, and those of a whole line of play
--     run_room                                       what is counted of them is no more than the text has
--     sequence-all, sequence-whole                   where all numbers go up by one it is the line of play, and it is all where the text ends with it
-- Assumes nothing.
use Rattle.std.specs.Prelude.{Option, Some, None, Result, Ok, Err}
use Prim.Native.Nat.{ℕ, zero, suc, ◌+◌, ◌≤◌}
use native.Mathlib.Omega.{arith}
use mathlib.Core.Path.{◌≡◌, refl, sym, ap, ◌∙◌, subst}
use mathlib.Core.Bool.{Bool, true, false, true≢false}
use mathlib.Core.List.{List, [], ◌∷◌}
use lib.ListN.{length}
use lib.Dec.{eqb}
use borrow.Author.Tests.{eq-eqb, eqb-true}
use Rattle.lists.specs.Repeat.{Ended, ended, many_from}
use Rattle.lists.proofs.Laws.{by_pick}
use Rattle.text.specs.Text.{on_place, on_number, line_end_at, blanks_at, digits_at}
use Rattle.text.specs.declared.Cursor.{Cursor}
use Rattle.text.specs.declared.FigureError.{FigureError}
use Rattle.text.specs.declared.FigureError.TheVariants.{Absent, TooLarge}
use Rattle.text.proofs.Answers.{by_place}
use Rattle.jkf.specs.declared.Entry.{Entry}
use Rattle.jkf.specs.Model.{Noted}
use Rattle.block.specs.Encode.{comments_of, comment_text}
use Rattle.moves.specs.Moves.{on_what, on_move_line, what_at, time_at, color_of, finished, played_line, move_line_at}
use Rattle.moves.specs.declared.MoveLine.{MoveLine}
use Rattle.moves.proofs.Goings.{move_goes}
use Rattle.plays.specs.Plays.{noted, comments_at, entry_item, entries_at, number_item, numbers_at, in_sequence, sequence_at, ply_at}
use Rattle.plays.specs.inner.Runs.{goes_on, run_at}
use Rattle.plays.proofs.Items.{entries-more, entries_none, numbers_more, numbers_none}
use Rattle.plays.proofs.Weights.{entries-room}

module _ (s : List ℕ) where
  abbrev past : Cursor → ℕ
  past c = (comments_at s c.at).at

  sequence_more : (n at : ℕ) (e : Entry) (c : Cursor) → move_line_at s at ≡ Some (record { number = n; entry = e; next = c })
      → sequence_at n s at ≡ ended (sequence_at (n + 1) s (past c)).at (noted e (comments_at s c.at).state ∷ (sequence_at (n + 1) s (past c)).state)
  unfolding sequence_at in_sequence many_from entry_item
  sequence_more n at e c q = rw (numbers_more s at n e c q, eq-eqb n n refl, q)

  sequence_none : (n at : ℕ) → move_line_at s at ≡ None → sequence_at n s at ≡ ended at []
  unfolding sequence_at in_sequence many_from
  sequence_none n at q = rw (numbers_none s at q)

  sequence_stray : (n at m : ℕ) (e : Entry) (c : Cursor) → move_line_at s at ≡ Some (record { number = m; entry = e; next = c }) → eqb m n ≡ false → sequence_at n s at ≡ ended at []
  unfolding sequence_at in_sequence many_from
  sequence_stray n at m e c q f = rw (numbers_more s at m e c q, f)

  abbrev Within : Ended (List Noted) → Type 0
  Within r = length r.state + (length (comments_of r.state) + length (comment_text (comments_of r.state))) ≤ length s

  play-room : (at : ℕ) → Within (entries_at s at)
  unfolding entries_at
  play-room at = entries-room s (length s) at

  sequence_room : (n at : ℕ) → Within (sequence_at n s at)
  unfolding sequence_at
  sequence_room n at = entries-room s (in_sequence n (numbers_at s at)) at

  -- ---- a whole line of play, or one as far as its numbers go up by one

  -- the number printed at a place is that of its move line
  ply_is : (at m : ℕ) (e : Entry) (c : Cursor) → move_line_at s at ≡ Some (record { number = m; entry = e; next = c }) → ply_at s at ≡ m
  unfolding move_line_at ply_at
  ply_is at m e c = go (digits_at 18446744073709551615 s (blanks_at s at))
    where
      numbers : (n : ℕ) (w : Option (Entry × Cursor)) → on_move_line (on_what w (λ e d. on_place (line_end_at s (time_at s (blanks_at s d.at)).next.at) (λ f. Some (record { number = n; entry = (finished (color_of n) (time_at s (blanks_at s d.at)).time e); next = f })) None) None) (λ k e c. k) n ≡ n
      numbers n (Some (e, d)) = by_place (λ (r : Option MoveLine). on_move_line r (λ k e c. k) n ≡ n) refl (line_end_at s (time_at s (blanks_at s d.at)).next.at) (λ f. refl)
      numbers n None = refl

      none : {A : Type 0} → ◌≡◌ {A = Option MoveLine} None (Some (record { number = m; entry = e; next = c })) → A
      none q = let z : ◌≡◌ {A = ℕ} 0 1 = ap (λ (r : Option MoveLine). on_move_line r (λ k e c. 1) 0) q in absurd (omega arith)

      go : (r : Result (ℕ × Cursor) FigureError) → on_number r (λ n c. played_line n s (blanks_at s c.at)) None ≡ Some (record { number = m; entry = e; next = c }) → on_number r (λ n c. n) 0 ≡ m
      go (Ok (n, d)) q = sym (numbers n (what_at s (blanks_at s d.at))) ∙ ap (λ (r : Option MoveLine). on_move_line r (λ k e c. k) n) q
      go (Err Absent) q = none q
      go (Err TooLarge) q = none q

  pub run_none : (any : Bool) (n at : ℕ) → move_line_at s at ≡ None → run_at any n s at ≡ ended at []
  unfolding run_at
  run_none true n at q = entries_none s at q
  run_none false n at q = sequence_none n at q

  module _ (at m : ℕ) (e : Entry) (c : Cursor) (q : move_line_at s at ≡ Some (record { number = m; entry = e; next = c })) where
    pub run_stray : (any : Bool) (n : ℕ) → goes_on any n s at ≡ false → run_at any n s at ≡ ended at []
    unfolding run_at goes_on
    run_stray true n f = absurd (true≢false f)
    run_stray false n f = sequence_stray n at m e c q (ap (λ (k : ℕ). eqb k n) (sym (ply_is at m e c q)) ∙ f)

    pub run_more : (any : Bool) (n : ℕ) → goes_on any n s at ≡ true
        → run_at any n s at ≡ ended (run_at any (n + 1) s (past c)).at (noted e (comments_at s c.at).state ∷ (run_at any (n + 1) s (past c)).state)
    unfolding run_at goes_on
    run_more true n f = entries-more s at m e c q
    run_more false n f =
        let k : m ≡ n = sym (ply_is at m e c q) ∙ eqb-true _ _ f in
        sequence_more n at e c (subst (λ (j : ℕ). move_line_at s at ≡ Some (record { number = j; entry = e; next = c })) k q)

  pub run_room : (any : Bool) (n at : ℕ) → Within (run_at any n s at)
  unfolding run_at
  run_room true n at = play-room at
  run_room false n at = sequence_room n at

  -- ---- held against the whole line of play

  -- the numbers that stand from a place on, and the entries
  record Sequenced (n at : ℕ) (ns : List ℕ) (r : Ended (List Noted)) : Type 0 where
    pub many : length ns ≡ length r.state
    pub all : in_sequence n ns ≡ length ns → many_from (entry_item s) (in_sequence n ns) at ≡ r
    pub whole : (many_from (entry_item s) (in_sequence n ns) at).at ≡ length s → in_sequence n ns ≡ length ns

  module _ (n at m : ℕ) (e : Entry) (c : Cursor) (q : move_line_at s at ≡ Some (record { number = m; entry = e; next = c })) (ns : List ℕ) (r : Ended (List Noted)) where
    abbrev entry : Noted
    entry = noted e (comments_at s c.at).state

    abbrev added : Ended (List Noted) → Ended (List Noted)
    added x = ended x.at (entry ∷ x.state)

    one-more : (k : ℕ) → many_from (entry_item s) (suc k) at ≡ added (many_from (entry_item s) k (past c))
    unfolding many_from entry_item
    one-more k = rw q

    next_one : eqb m n ≡ true → Sequenced (n + 1) (past c) ns r → Sequenced n at (m ∷ ns) (added r)
    unfolding in_sequence
    next_one f h =
        let is : in_sequence n (m ∷ ns) ≡ suc (in_sequence (n + 1) ns) = rw f in
        let steps : many_from (entry_item s) (in_sequence n (m ∷ ns)) at ≡ added (many_from (entry_item s) (in_sequence (n + 1) ns) (past c)) =
        ap (λ (k : ℕ). many_from (entry_item s) k at) is ∙ one-more (in_sequence (n + 1) ns) in
        record {
          many = ap suc h.many;
          all = λ g. steps ∙ ap added (h.all (omega (arith, is, g)));
          whole = λ g. is ∙ ap suc (h.whole (sym (ap (λ (x : Ended (List Noted)). x.at) steps) ∙ g));
        }

    stray_one : eqb m n ≡ false → length ns ≡ length r.state → Sequenced n at (m ∷ ns) (added r)
    unfolding in_sequence many_from
    stray_one f h =
        let is : in_sequence n (m ∷ ns) ≡ 0 = rw f in
        let k = move_goes s at m e c q in
        record {
          many = ap suc h;
          all = λ g. absurd (omega (arith, is, g));
          whole = λ g. absurd (omega (arith, sym (ap (λ (i : ℕ). (many_from (entry_item s) i at).at) is) ∙ g, k.past, k.within));
        }

  sequenced : (k n at : ℕ) → Sequenced n at (many_from (number_item s) k at).state (many_from (entry_item s) k at)
  unfolding many_from number_item entry_item in_sequence
  sequenced zero n at = record { many = refl; all = λ _. refl; whole = λ _. refl }
  sequenced (suc k) n at = go (move_line_at s at) refl (sequenced k)
    where
      go : (r : Option MoveLine) → move_line_at s at ≡ r → ((n at : ℕ) → Sequenced n at (many_from (number_item s) k at).state (many_from (entry_item s) k at))
          → Sequenced n at (many_from (number_item s) (suc k) at).state (many_from (entry_item s) (suc k) at)
      go (Some y) q ih =
          let ns = (many_from (number_item s) k (past y.next)).state in
          let r = many_from (entry_item s) k (past y.next) in
          rw q (by_pick (λ (u : Unit {0}). Sequenced n at (y.number ∷ ns) (added n at y.number y.entry y.next q ns r r)) (eqb y.number n) tt tt (λ f. next_one n at y.number y.entry y.next q ns r f (ih (n + 1) (past y.next))) (λ f. stray_one n at y.number y.entry y.next q ns r f (ih n (past y.next)).many))
      go None q ih = rw q (record { many = refl; all = λ _. refl; whole = λ _. refl })

  pub numbers_many : (at : ℕ) → length (numbers_at s at) ≡ length (entries_at s at).state
  unfolding numbers_at entries_at
  numbers_many at = (sequenced (length s) 0 at).many

  pub sequence_all : (n at : ℕ) → in_sequence n (numbers_at s at) ≡ length (entries_at s at).state → sequence_at n s at ≡ entries_at s at
  unfolding sequence_at numbers_at entries_at
  sequence_all n at h = (sequenced (length s) n at).all (h ∙ sym (numbers_many at))

  pub sequence_whole : (n at : ℕ) → (sequence_at n s at).at ≡ length s → in_sequence n (numbers_at s at) ≡ length (entries_at s at).state
  unfolding sequence_at numbers_at
  sequence_whole n at h = (sequenced (length s) n at).whole h ∙ numbers_many at
