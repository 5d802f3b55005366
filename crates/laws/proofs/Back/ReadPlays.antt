-- What a reading gives can be said: its comments and values are of one line, and the line of each header entry is read as that entry.
-- Assumes nothing.
use Rattle.std.specs.Prelude.{Option, Some, None}
use Prim.Native.Nat.{ℕ, suc, ◌+◌, ◌-◌, ◌≤◌, ◌<◌}
use native.Mathlib.Omega.{arith}
use native.Mathlib.Nat.{le_refl}
use mathlib.Core.Path.{◌≡◌, refl, sym, ap, ◌∙◌}
use mathlib.Core.List.{List, [], ◌∷◌}
use mathlib.Core.Bool.{Bool, true, false≢true}
use lib.ListN.{length, get_or, take, drop}
use lib.Seq.{take-nil}
use lib.Dec.{eqb}
use borrow.Author.Tests.{eqb-true}
use Rattle.lists.specs.All.{All, leads}
use Rattle.lists.specs.Pick.{pick}
use Rattle.lists.proofs.Laws.{by_pick, pick_both, drop_step, in_list, head_at}
use Rattle.text.specs.Text.{cursor, on_place, is_text, span_from, span_at, text_at, prefix_from, stands_at, tag_at, break_at, tail_at}
use Rattle.text.specs.declared.Cursor.{Cursor}
use Rattle.text.proofs.Laws.{tag_back, no_past, past-at}
use Rattle.moves.specs.Moves.{remark_from, kept_at, comment_line_at}
use Rattle.moves.specs.declared.Remark.{Remark}
use Rattle.moves.proofs.Answers.{line_is}
use Rattle.moves.proofs.Fits.{move-line-fits}
use Rattle.plays.specs.Plays.{comments_at, entries_at, skipped_at, slot_at, past_main, main_at, plays_at}
use Rattle.plays.proofs.Items.{text_of}
use Rattle.laws.proofs.Playing.{comments-all, entries-all, variations_all}
use Rattle.laws.specs.Sayable.{every_byte, OneLine, NotedSayable, PlaysSayable}

-- ---- a span is of its class

span_ge : (f : ℕ → Bool) (l : List ℕ) (at : ℕ) → at ≤ span_from f l at
unfolding span_from
span_ge f [] at = le_refl at
span_ge f (b ∷ l) at = let h = span_ge f l (at + 1) in by_pick (λ (n : ℕ). at ≤ n) (f b) (span_from f l (at + 1)) at (λ _. omega arith) (λ _. le_refl at)

span-all : (f : ℕ → Bool) (l : List ℕ) (at : ℕ) → every_byte f (take (span_from f l at - at) l) ≡ true
unfolding span_from
span-all f [] at = ap (λ (m : List ℕ). every_byte f m) (take-nil (at - at))
span-all f (b ∷ l) at =
    let ih = span-all f l (at + 1) in
    let h = span_ge f l (at + 1) in
    let z : at - at ≡ 0 = omega arith in
    by_pick (λ (n : ℕ). every_byte f (take (n - at) (b ∷ l)) ≡ true) (f b) (span_from f l (at + 1)) at
    (λ t. let q : span_from f l (at + 1) - at ≡ suc (span_from f l (at + 1) - (at + 1)) = omega arith in rw (q, t) ih)
    (λ t. rw z)

pub text-all : (s : List ℕ) (at : ℕ) → OneLine (take (text_at s at - at) (drop at s))
unfolding span_at
text-all s at = span-all is_text (drop at s) at

-- a tail ends where the text of its line does
pub tail_is : (s : List ℕ) (at : ℕ) (c : Cursor) → tail_at s at ≡ Some c → c.at ≡ text_at s at
unfolding tail_at
tail_is s at c =
    let e = text_at s at in
    let x : (Option Cursor) = Some (cursor e) in
    let P : Option Cursor → Type 0 = λ r. r ≡ Some c → c.at ≡ e in
    by_pick P (eqb (get_or s e 0) 13) (pick (eqb (get_or s (e + 1) 0) 10) x None) x
    (λ _. by_pick P (eqb (get_or s (e + 1) 0) 10) x None (λ _ q. sym (past-at q)) (λ _ q. no_past c q)) (λ _ q. sym (past-at q))

-- ---- comments

text-on : (s : List ℕ) (at : ℕ) → get_or s at 0 ≡ 38 → text_at s at ≡ text_at s (at + 1)
unfolding span_at span_from
text-on s at h = let k : at < length s = in_list s at (omega arith) in rw (drop_step s at k, h)

and_first : (l : List ℕ) → prefix_from (38 ∷ []) l ≡ true → get_or l 0 0 ≡ 38
unfolding prefix_from
and_first [] h = absurd (false≢true h)
and_first (x ∷ l) h = eqb-true x 38 (pick_both (eqb x 38) true h).0

and_at : (s : List ℕ) (at : ℕ) (c : Cursor) → tag_at (38 ∷ []) s at ≡ Some c → (get_or s at 0 ≡ 38) × (c.at ≡ at + 1)
unfolding stands_at
and_at s at c e = let (h, k) = tag_back (38 ∷ []) s at c e in (head_at s at ∙ and_first (drop at s) h, k)

-- what is said of a remark
abbrev Said : List ℕ → Option Remark → Type 0
Said s r = (from to end : Cursor) → r ≡ Some (record { from = from; to = to; next = end }) → OneLine (text_of s from to)

no-remark : {A : Type 0} {from to end : Cursor} → ◌≡◌ {A = Option Remark} None (Some (record { from = from; to = to; next = end })) → A
no-remark e = let z : ◌≡◌ {A = ℕ} 0 1 = cc in absurd (omega arith)

remark_one : (s : List ℕ) (from : Cursor) (at : ℕ) → text_at s at ≡ text_at s from.at → Said s (remark_from from s at)
unfolding remark_from
remark_one s from at same = go (tail_at s at) refl
  where
    go : (t : Option Cursor) → tail_at s at ≡ t → Said s (on_place t (λ e. on_place (break_at s e.at) (λ n. Some (record { from = from; to = e; next = n })) None) None)
    go None q = λ f to end e. no-remark e
    go (Some c) q = over (break_at s c.at)
      where
        is : c.at ≡ text_at s from.at
        is = tail_is s at c q ∙ same

        over : (b : Option Cursor) → Said s (on_place b (λ n. Some (record { from = from; to = c; next = n })) None)
        over None f to end e = no-remark e
        over (Some n) f to end e =
            let w : ◌≡◌ {A = Remark} (record { from = from; to = c; next = n }) (record { from = f; to = to; next = end }) = cc in
            let p = ap (λ (r : Remark). r.from) w in
            let q = ap (λ (r : Remark). r.to) w in
            rw (← p, ← q, is) (text-all s from.at)

comment-one : (s : List ℕ) (at : ℕ) → Said s (comment_line_at s at)
unfolding comment_line_at kept_at
comment-one s at = go (tag_at (42 ∷ []) s at)
  where
    kept : (t : Option Cursor) → tag_at (38 ∷ []) s at ≡ t → Said s (on_place t (λ c. remark_from (cursor at) s c.at) None)
    kept None q = λ f to end e. no-remark e
    kept (Some c) q = let (h, k) = and_at s at c q in remark_one s (cursor at) c.at (ap (text_at s) k ∙ sym (text-on s at h))

    go : (t : Option Cursor) → Said s (on_place t (λ c. remark_from c s c.at) (on_place (tag_at (38 ∷ []) s at) (λ c. remark_from (cursor at) s c.at) None))
    go (Some c) = remark_one s c c.at refl
    go None = kept (tag_at (38 ∷ []) s at) refl

pub comments-one : (s : List ℕ) (at : ℕ) → All OneLine (comments_at s at).state
comments-one s = comments-all s OneLine (λ at from to end q. comment-one s at from to end q)

-- ---- entries

pub entries_sayable : (s : List ℕ) (at : ℕ) → All NotedSayable (entries_at s at).state
entries_sayable s = entries-all s NotedSayable (λ at n e c q. record { entry = (line_is (move-line-fits s at) q).entry; comments = comments-one s c.at })

pub plays_sayable : (s : List ℕ) (at : ℕ) → PlaysSayable (plays_at s at).state
unfolding plays_at main_at
plays_sayable s at =
    leads (leads (record { slot = refl; comments = comments-one s (skipped_at s at) }) (entries_sayable s (slot_at s at).at))
    (variations_all s (λ p. All NotedSayable p.entries) (λ start at h. entries_sayable s at) (past_main s (slot_at s at).at))
