-- Where reading stopped, and why: a rule that failed past the skip lines that no line of play follows tells it, and no line got further.
-- Assumes nothing.
use Rattle.std.specs.Prelude.{Option, Some, None}
use Prim.Native.Nat.{ℕ, zero, suc, ◌+◌, ◌≤◌, ◌<◌}
use native.Mathlib.Nat.{le_refl}
use native.Mathlib.Omega.{arith}
use native.Mathlib.Decide.{dec_lt}
use mathlib.Core.Path.{◌≡◌, refl, sym, ap, ◌∙◌}
use mathlib.Core.List.{List}
use mathlib.Core.Bool.{Bool, true, false}
use lib.ListN.{length}
use lib.Dec.{eqb, ltb}
use borrow.Author.Tests.{eqb-true, eqb-false, ltb-true, ltb-false}
use Rattle.lists.specs.Repeat.{Ended}
use Rattle.lists.proofs.Laws.{by_pick}
use Rattle.text.specs.Utf8.{well_formed_bytes}
use Rattle.text.specs.declared.Cursor.{Cursor}
use Rattle.jkf.specs.Attaching.{Hung, first, all, on_hung, all_hung}
use Rattle.jkf.specs.Model.{Noted}
use Rattle.moves.specs.Moves.{move_line_at, skip_line_at}
use Rattle.moves.specs.Failing.{further, move_line_fail, skip_line_fail, comment_fail, Seen, ToldBy, by_move, by_skip, by_comment}
use Rattle.moves.specs.declared.MoveLine.{MoveLine}
use Rattle.moves.specs.declared.Reason.{Reason}
use Rattle.moves.specs.declared.Reason.TheVariants.{EndOfText}
use Rattle.moves.proofs.FailedLines.{not_silent, move-line-within, skip_line-within, comment-within, move-line-seen, skip_line-seen, comment-seen, move-line-end, skip_line-end, comment-end, move-at-end, skip_at-end, comment-at-end, passed_move, passed_comment}
use Rattle.plays.specs.Plays.{entries_at, skipped_at, skips_at, variations_at, slot_at, past_main, plays_at}
use Rattle.plays.proofs.Items.{comments-within, entries-more, skips-more, skips-none, skips-from, skips-within, skipped_within}
use Rattle.plays.proofs.Variations.{variation_past, variations_more, variations_none, variations_within, main_short}
use Rattle.kakinoki.specs.Starts.{on_fault, start_read}
use Rattle.kakinoki.proofs.Bounds.{moves-within}
use Rattle.stops.specs.Stopping.{begins_at, last_end, seeking_at, tried_at, stopped_with, stopped_at, astray_from, played_stop, stop_of}
use Rattle.stops.specs.declared.Seeking.{Seeking}
use Rattle.stops.specs.declared.Seeking.TheVariants.{AtHead, AfterComments, AfterSkips}
use Rattle.stops.specs.declared.Astray.{Astray}
use Rattle.stops.specs.declared.StopAnswer.{StopAnswer}
use Rattle.stops.specs.declared.StopAnswer.TheVariants.{TextTooLong, NotUtf8, HandLine, NoEntry, Stopped}

-- ---- of two failures the one that got further

-- what holds of both holds of it
further-one : (P : Option (ℕ × Reason) → Type 0) (a b : Option (ℕ × Reason)) → P a → P b → P (further a b)
further-one P None b h k = k
further-one P (Some (p, r)) None h k = h
further-one P (Some (p, r)) (Some (q, x)) h k = by_pick P (ltb p q) (Some (q, x)) (Some (p, r)) (λ _. k) (λ _. h)

-- the first got no further than the second
abbrev UpTo : Option (ℕ × Reason) → Option (ℕ × Reason) → Type 0
UpTo None f = Unit {0}
UpTo (Some (p, r)) None = ⊥
UpTo (Some (p, r)) (Some (q, x)) = p ≤ q

-- a failure got no further than itself
up_refl : (f : Option (ℕ × Reason)) → UpTo f f
up_refl None = tt
up_refl (Some (p, r)) = le_refl p

-- where nothing is told, there is nothing to tell
up_silent : (f : Option (ℕ × Reason)) → UpTo f None → f ≡ None
up_silent None h = refl
up_silent (Some (p, r)) h = absurd h

-- the same of their places
up_at : {f g : Option (ℕ × Reason)} {p q : ℕ} {r x : Reason} → f ≡ Some (p, r) → g ≡ Some (q, x) → UpTo f g → p ≤ q
up_at e k h = rw (e, k) at h

-- where it got no further than f, neither did
further-most : (f a b : Option (ℕ × Reason)) → UpTo (further a b) f → UpTo a f × UpTo b f
further-most f None b h = (tt, h)
further-most f (Some (p, r)) None h = (h, tt)
further-most None (Some (p, r)) (Some (q, x)) h = by_pick (λ g. UpTo g None → ⊥ × ⊥) (ltb p q) (Some (q, x)) (Some (p, r)) (λ _ k. (k, k)) (λ _ k. (k, k)) h
further-most (Some (u, v)) (Some (p, r)) (Some (q, x)) h =
    by_pick (λ g. UpTo g (Some (u, v)) → (p ≤ u) × (q ≤ u)) (ltb p q) (Some (q, x)) (Some (p, r))
    (λ t k. (omega (arith, ltb-true p q t), k)) (λ t k. (k, omega (arith, ltb-false p q t))) h

-- ---- the rules that are tried

module _ (s : List ℕ) (q : ℕ) where
  -- what holds of each holds of what is told
  tried_one : (P : Option (ℕ × Reason) → Type 0) (k : Seeking) → P (move_line_fail s q) → P (skip_line_fail s q) → P (comment_fail s q) → P (tried_at k s q)
  unfolding tried_at
  tried_one P AtHead m k c = further-one P _ _ k (further-one P _ _ c m)
  tried_one P AfterComments m k c = further-one P _ _ c (further-one P _ _ m k)
  tried_one P AfterSkips m k c = further-one P _ _ k m

  -- where what is told got no further than f, neither did a move line nor a skip line
  tried_up : (k : Seeking) (f : Option (ℕ × Reason)) → UpTo (tried_at k s q) f → UpTo (move_line_fail s q) f × UpTo (skip_line_fail s q) f
  unfolding tried_at
  tried_up AtHead f h =
      let (k, g) = further-most f (skip_line_fail s q) (further (comment_fail s q) (move_line_fail s q)) h in
      ((further-most f (comment_fail s q) (move_line_fail s q) g).1, k)
  tried_up AfterComments f h =
      further-most f (move_line_fail s q) (skip_line_fail s q) (further-most f (comment_fail s q) (further (move_line_fail s q) (skip_line_fail s q)) h).1
  tried_up AfterSkips f h = let (k, m) = further-most f (skip_line_fail s q) (move_line_fail s q) h in (m, k)

  -- so neither got further than what is told
  tried_most : (k : Seeking) → UpTo (move_line_fail s q) (tried_at k s q) × UpTo (skip_line_fail s q) (tried_at k s q)
  tried_most k = tried_up k (tried_at k s q) (up_refl (tried_at k s q))

  -- nor did a comment where it is tried
  comment-most : (k : Seeking) → (k ≡ AfterSkips → ⊥) → UpTo (comment_fail s q) (tried_at k s q)
  unfolding tried_at
  comment-most AtHead n =
      let f = tried_at AtHead s q in
      (further-most f (comment_fail s q) (move_line_fail s q) (further-most f (skip_line_fail s q) (further (comment_fail s q) (move_line_fail s q)) (up_refl f)).1).0
  comment-most AfterComments n = let f = tried_at AfterComments s q in (further-most f (comment_fail s q) (further (move_line_fail s q) (skip_line_fail s q)) (up_refl f)).0
  comment-most AfterSkips n = absurd (n refl)

-- ---- what any of them tells

module _ (s : List ℕ) (q : ℕ) {p : ℕ} {r : Reason} where
  -- it stands between its place and the end of the text
  pub told-within : q ≤ length s → ToldBy s q p r → (q ≤ p) × (p ≤ length s)
  told-within h (by_move e) = move-line-within s q h e
  told-within h (by_skip e) = skip_line-within s q h e
  told-within h (by_comment e) = comment-within s q h e

  -- its reason is seen there
  pub told-seen : ToldBy s q p r → Seen s p r
  told-seen (by_move e) = move-line-seen s q e
  told-seen (by_skip e) = skip_line-seen s q e
  told-seen (by_comment e) = comment-seen s q e

  ended : ◌≡◌ {A = ℕ × Reason} (q, EndOfText) (p, r) → r ≡ EndOfText
  ended e = sym (ap (λ (x : ℕ × Reason). x.1) e)

  -- where no byte is left, it is the end of the text
  told-end : length s ≤ q → ToldBy s q p r → r ≡ EndOfText
  told-end h (by_move e) = ended (cc (move-at-end s q h))
  told-end h (by_skip e) = ended (cc (skip_at-end s q h))
  told-end h (by_comment e) = ended (cc (comment-at-end s q h))

-- and only there
told_left : (s : List ℕ) (q : ℕ) {p : ℕ} → q < length s → ToldBy s q p EndOfText → ⊥
told_left s q h (by_move e) = move-line-end s q h e
told_left s q h (by_skip e) = skip_line-end s q h e
told_left s q h (by_comment e) = comment-end s q h e

-- ---- where the lines of play end

module _ (s : List ℕ) where
  -- no line of play follows the skip lines at a place
  abbrev NoneLeft : ℕ → Type 0
  NoneLeft at = length (entries_at s (skips_at s at)).state ≡ 0

  -- none follows the variations from a place on, if none follows those from a later place on
  variations_by : (at : ℕ) → ((next : ℕ) → at < next → next ≤ length s → NoneLeft (variations_at s next).at) → NoneLeft (variations_at s at).at
  variations_by at ih = go (eqb (length (entries_at s (skips_at s at)).state) 0) refl
    where
      go : (t : Bool) → eqb (length (entries_at s (skips_at s at)).state) 0 ≡ t → NoneLeft (variations_at s at).at
      go true q = let e = eqb-true _ 0 q in rw (variations_none s at e) e
      go false q =
          let n = eqb-false _ 0 q in
          let (l, w) = variation_past s at n in
          rw (variations_more s at n) (ih (skipped_at s (entries_at s (skips_at s at)).at) l w)

  -- none follows the variations
  variations_end : (k at : ℕ) → length s ≤ k + at → NoneLeft (variations_at s at).at
  variations_end zero at h = variations_by at (λ next l w. absurd (omega arith))
  variations_end (suc k) at h = variations_by at (λ next l w. variations_end k next (omega arith))

  -- none follows all lines
  plays-end : (b : ℕ) → NoneLeft (plays_at s b).at
  unfolding plays_at
  plays-end b = variations_end (length s) (past_main s (slot_at s b).at) (omega arith)

  -- they end within the text
  plays-within : (b : ℕ) → b ≤ length s → (plays_at s b).at ≤ length s
  unfolding plays_at
  plays-within b h =
      variations_within s (past_main s (slot_at s b).at) ((main_short s (slot_at s b).at).1 (comments-within s (skipped_at s b) (skipped_within s b h)))

  -- where none follows, no move line is read
  no-line : (at : ℕ) → length (entries_at s at).state ≡ 0 → move_line_at s at ≡ None
  no-line at h = go (move_line_at s at) refl
    where
      go : (m : Option MoveLine) → move_line_at s at ≡ m → m ≡ None
      go (Some r) q = absurd (omega (arith, ap (λ (x : Ended (List Noted)). length x.state) (entries-more s at r.number r.entry r.next q)))
      go None q = refl

  -- before the place past some skip lines one is read, and ends no later
  skip_here : {b q : ℕ} → skips_at s b ≡ q → b < q → (c : Cursor) × (skip_line_at s b ≡ Some c) × (c.at ≤ q)
  skip_here {b} {q} e h = go (skip_line_at s b) refl
    where
      go : (l : Option Cursor) → skip_line_at s b ≡ l → (c : Cursor) × (skip_line_at s b ≡ Some c) × (c.at ≤ q)
      go (Some c) k = (c, k, omega (arith, skips-more s b c k, skips-from s c.at))
      go None k = absurd (omega (arith, skips-none s b k))

-- ---- what is known where reading stopped

-- what stands before the place past the skip lines that follow u bytes
abbrev seeking_past : List ℕ → ℕ → Seeking
seeking_past s u = seeking_at (start_read s).next.at (last_end s (start_read s).next.at) (skips_at s u)

-- of the rules that were tried past the skip lines one is told, within the text
record Halted (s : List ℕ) (t : ℕ) (r : Reason) (p : ℕ) : Type 0 where
  within : t ≤ length s
  tried : tried_at (seeking_past s t) s (skips_at s t) ≡ Some (p, r)

module _ (s : List ℕ) {t : ℕ} {r : Reason} {p : ℕ} where
  -- no fault is told
  after_fault : (f : Option ℕ) {a : StopAnswer} → on_fault f HandLine a ≡ Stopped t r p → a ≡ Stopped t r p
  after_fault (Some at) e = cc
  after_fault None e = e

  -- nor a variation that hangs nowhere
  after_hung : (h : Hung) (g : ℕ → ℕ → Astray) {a : StopAnswer} → on_hung h (λ k ply. NoEntry (g k ply)) a ≡ Stopped t r p → a ≡ Stopped t r p
  after_hung (first k ply) g e = cc
  after_hung all g e = e

  -- nor any refusal of the text, so that all lines of play are read
  played : stop_of s ≡ Stopped t r p → played_stop s (start_read s).next.at ≡ Stopped t r p
  unfolding stop_of
  played =
      by_pick P (ltb 65535 (length s)) (TextTooLong (length s)) _ (λ _ e. cc)
      (λ _. by_pick P (ltb (well_formed_bytes s) (length s)) (NotUtf8 (well_formed_bytes s)) _ (λ _ e. cc) (λ _ e. after_fault (start_read s).fault e))
    where
      P : StopAnswer → Type 0
      P a = a ≡ Stopped t r p → played_stop s (start_read s).next.at ≡ Stopped t r p

  -- some rule fails past them, and is told
  halted_by : (u : ℕ) → u ≤ length s → NoneLeft s u → stopped_with u (skips_at s u) (tried_at (seeking_past s u) s (skips_at s u)) ≡ Stopped t r p → Halted s t r p
  unfolding stopped_with
  halted_by u l n = go (tried_at (seeking_past s u) s (skips_at s u)) refl
    where
      go : (f : Option (ℕ × Reason)) → tried_at (seeking_past s u) s (skips_at s u) ≡ f → stopped_with u (skips_at s u) f ≡ Stopped t r p → Halted s t r p
      go (Some (q, x)) e h =
          let z : u ≡ t = cc in
          let w : Some (q, x) ≡ Some (p, r) = cc in
          record { within = omega arith; tried = ap (λ (v : ℕ). tried_at (seeking_past s v) s (skips_at s v)) (sym z) ∙ e ∙ w }
      go None e h = absurd (not_silent s (skips_at s u) (no-line s (skips_at s u) n) (up_silent _ (rw e at (tried_most s (skips_at s u) (seeking_past s u)).0)))

  -- and so it is wherever reading stopped
  halted : stop_of s ≡ Stopped t r p → Halted s t r p
  unfolding played_stop stopped_at
  halted h =
      let b = (start_read s).next.at in
      let u = (plays_at s b).at in
      halted_by u (plays-within s b (moves-within s)) (plays-end s b)
      (after_hung (all_hung (plays_at s b).state) (astray_from (plays_at s b).state (begins_at s b)) (played h))

  -- ---- the laws

  -- it is what the rules that are tried there come to
  pub chosen : stop_of s ≡ Stopped t r p
      → tried_at (seeking_at (start_read s).next.at (last_end s (start_read s).next.at) (skips_at s t)) s (skips_at s t) ≡ Some (p, r)
  chosen h = (halted h).tried

  -- a rule that failed past the skip lines tells it
  pub told : stop_of s ≡ Stopped t r p → ToldBy s (skips_at s t) p r
  told h =
      let i = halted h in
      tried_one s (skips_at s t) (λ f. f ≡ Some (p, r) → ToldBy s (skips_at s t) p r) (seeking_past s t) by_move by_skip by_comment i.tried

  -- the skip lines end within the text
  skips_inside : stop_of s ≡ Stopped t r p → skips_at s t ≤ length s
  skips_inside h = skips-within s t (halted h).within

  -- and what is told stands between them and its end
  pub placed : stop_of s ≡ Stopped t r p → (t ≤ skips_at s t) × (skips_at s t ≤ p) × (p ≤ length s)
  placed h = let (a, b) = told-within s (skips_at s t) (skips_inside h) (told h) in (skips-from s t, a, b)

  -- the reason is seen at its place
  pub seen : stop_of s ≡ Stopped t r p → Seen s p r
  seen h = told-seen s (skips_at s t) (told h)

  -- no move line tried there got further
  pub furthest_move : {q : ℕ} {x : Reason} → stop_of s ≡ Stopped t r p → move_line_fail s (skips_at s t) ≡ Some (q, x) → q ≤ p
  furthest_move h e = let i = halted h in up_at e i.tried (tried_most s (skips_at s t) (seeking_past s t)).0

  -- nor did a skip line
  pub furthest_skip : {q : ℕ} {x : Reason} → stop_of s ≡ Stopped t r p → skip_line_fail s (skips_at s t) ≡ Some (q, x) → q ≤ p
  furthest_skip h e = let i = halted h in up_at e i.tried (tried_most s (skips_at s t) (seeking_past s t)).1

  -- nor did a comment that was tried
  pub furthest_comment : {q : ℕ} {x : Reason} → stop_of s ≡ Stopped t r p
      → (seeking_at (start_read s).next.at (last_end s (start_read s).next.at) (skips_at s t) ≡ AfterSkips → ⊥)
      → comment_fail s (skips_at s t) ≡ Some (q, x) → q ≤ p
  furthest_comment h n e = up_at e (halted h).tried (comment-most s (skips_at s t) (seeking_past s t) n)

  -- a move line tried before that place got less far
  pub earlier-move : {b q : ℕ} {x : Reason} → stop_of s ≡ Stopped t r p → skips_at s b ≡ skips_at s t → b < skips_at s t → move_line_fail s b ≡ Some (q, x) → q < p
  earlier-move {b} h k l e = let (c, n, w) = skip_here s k l in omega (arith, passed_move s b n e, (placed h).1)

  -- and a comment had nothing to tell
  pub earlier-comment : {b : ℕ} → stop_of s ≡ Stopped t r p → skips_at s b ≡ skips_at s t → b < skips_at s t → comment_fail s b ≡ None
  earlier-comment {b} h k l = passed_comment s b (skip_here s k l).1

  -- where nothing is left past the skip lines, the end of the text is told
  pub end_is_told : stop_of s ≡ Stopped t r p → skips_at s t ≡ length s → r ≡ EndOfText
  end_is_told h k = told-end s (skips_at s t) (omega arith) (told h)

  -- and nowhere else
  pub end_is_so : stop_of s ≡ Stopped t r p → r ≡ EndOfText → skips_at s t ≡ length s
  end_is_so h k = go (dec_lt (skips_at s t) (length s))
    where
      go : Dec (skips_at s t < length s) → skips_at s t ≡ length s
      go (yes l) = absurd (told_left s (skips_at s t) l (rw k at (told h)))
      go (no l) = omega (arith, skips_inside h)
