-- An edited block, filled in part by part, is the block of the edited record; or it is refused by its length.
-- Assumes nothing.
use Rattle.std.specs.Prelude.{Ok, Err}
use Prim.Native.Nat.{ℕ, zero, suc, ◌+◌, ◌-◌, ◌≤◌}
use native.Mathlib.Omega.{arith}
use mathlib.Core.Path.{◌≡◌, refl, sym, ap, ap₂, ◌∙◌, subst}
use mathlib.Core.List.{List, [], ◌++◌, map}
use mathlib.Core.Bool.{true}
use lib.Dec.{ltb}
use borrow.Author.Tests.{ltb-false}
use Rattle.lists.proofs.Laws.{by_pick}
use lib.ListN.{length, drop, length-append, length-drop}
use Rattle.jkf.specs.Answers.{Outcome}
use Rattle.jkf.specs.declared.Answer.{Answer}
use Rattle.jkf.specs.declared.Answer.TheVariants.{Done}
use Rattle.jkf.specs.declared.Position.{Position}
use Rattle.jkf.specs.Model.{Header, Noted, Line}
use Rattle.block.specs.PositionBytes.{position_bytes, position_in}
use Rattle.block.specs.Encode.{block_length, header_text, entries_of, comments_of, comment_text, encode_flat, encode}
use Rattle.block.specs.Decode.{run, headers_in, lines_in, moves_in, key_length, value_length, key_of, value_of, header_in, noted_in, line_in, decode}
use Rattle.block.specs.inner.Sounds.{Sound}
use Rattle.block.specs.Sound.{header_bytes, entries_before}
use Rattle.block.proofs.ByteArrays.{bytes-length}
use Rattle.block.proofs.PositionsBack.{position-length}
use Rattle.block.proofs.Sums.{sum-none, sum_suc}
use Rattle.block.proofs.Tabling.{length_run, run_snoc, concat_snoc, concat-none, map-run}
use Rattle.block.proofs.Lengths.{block-length}
use Rattle.block.proofs.Within.{key-length, value-length}
use Rattle.filling.specs.Filling.{unless_refused, at_front, are_small, length_of, opening, opened, Grown}
use Rattle.filling.specs.inner.Parts.{sizes_of, Opens}
use Rattle.filling.specs.declared.Sizes.{Sizes}
use Rattle.filling.specs.declared.Walk.{Walk}
use Rattle.filling.proofs.Growing.{all_then}
use Rattle.filling.proofs.Putting.{length_is, opens, refuses, unrefused}
use Rattle.filling.proofs.Wholes.{opened-lines, opened_block}
use Rattle.edit.specs.inner.Splicing.{shifted, relined, lines_after, record_after, put_whole, put_wholes, entries_after, sizes_after, headers_put}
use Rattle.edit.specs.Edit.{reparented}
use Rattle.edit.specs.Outcomes.{edit_stored}
use Rattle.edit.proofs.Hung.{lines-put}
use Rattle.edit.proofs.Runs.{moved, after_is, after_length, entries-after}
use Rattle.edit.proofs.Measured.{entries_three, comments_three, bytes_three, no_text, sizes-same}

-- ---- the header entries of a sound block

module _ (b : List ℕ) (s : Sound b) where
  -- their texts are as long as their rows say
  texts_long : (n : ℕ) → n ≤ headers_in b → header_bytes b n ≡ length (header_text (run (header_in b) 0 n))
  texts_long zero h = sum-none (λ k. key_length b k + value_length b k) ∙ sym (ap length (concat-none (λ (x : Header). x.key ++ x.value) (header_in b) 0))
  texts_long (suc n) h =
      let hs = run (header_in b) 0 n in
      let key = key_of b n in
      let value = value_of b n in
      let e : length (header_text (run (header_in b) 0 (suc n))) ≡ length (header_text hs) + length (key ++ value) =
      ap (λ (l : List Header). length (header_text l)) (run_snoc (header_in b) n)
      ∙ ap length (concat_snoc (λ (x : Header). x.key ++ x.value) hs (header_in b n)) ∙ length-append (header_text hs) (key ++ value) in
      omega (arith, e, length-append key value, key-length b s n (omega arith), value-length b s n (omega arith), texts_long n (omega arith), sum_suc (λ k. key_length b k + value_length b k) n)

-- ---- the block of the edited record

-- a position that is read has all its bytes
pub position-long : (b : List ℕ) → length (position_bytes (position_in (drop 28 b))) ≡ 100
unfolding position_in
position-long b = position-length (position_in (drop 28 b)) (bytes-length (drop 28 b) 4 81) (bytes-length (drop 28 b) 85 14)

module _ (version : ℕ) (b : List ℕ) (s : Sound b) (p q : ℕ) (vs : List Line) (within : (p ≤ q) × (q ≤ lines_in b)) where
  abbrev hd : List Header
  hd = run (header_in b) 0 (headers_in b)

  abbrev ls : List Line
  ls = lines_after b p q vs

  abbrev start : Position
  start = position_in (drop 28 b)

  abbrev block : List ℕ
  block = encode (record_after version b p q vs)

  block_is : encode_flat version (position_bytes start) hd ls (entries_of ls) (comments_of (entries_of ls)) ≡ block
  unfolding encode relined decode
  block_is = refl

  entries_are : entries_of ls ≡ entries_after b p q (entries_of vs)
  entries_are = entries-after b s p q vs within.0 within.1

  -- it has the sizes that were reckoned
  sizes_are : sizes_after b p q (sizes_of [] vs) ≡ sizes_of hd ls
  sizes_are =
      let front = run (noted_in b) 0 (entries_before b p) in
      let back = run (noted_in b) (entries_before b q) (moves_in b - entries_before b q) in
      let own = entries_of vs in
      let h : headers_in b ≡ length hd = sym (length_run (header_in b) 0 (headers_in b)) in
      let l : p + length vs + (lines_in b - q) ≡ length ls = sym (after_length b p q vs within.0 within.1) in
      let n : entries_before b p + length own + (moves_in b - entries_before b q) ≡ length (entries_of ls) =
      omega (arith, ap length entries_are, entries_three front own back, length_run (noted_in b) 0 (entries_before b p), length_run (noted_in b) (entries_before b q) (moves_in b - entries_before b q)) in
      let c = sym (ap (λ (es : List Noted). length (comments_of es)) entries_are ∙ comments_three front own back) in
      let t = ap (λ (es : List Noted). length (comment_text (comments_of es))) entries_are ∙ bytes_three front own back in
      sizes-same h l n c (omega (arith, no_text, texts_long b s (headers_in b) (omega arith), t))

  module _ {added z : Sizes} (counted : added ≡ sizes_of [] vs) (found : z ≡ sizes_after b p q added) (small : are_small z ≡ true) {here : Position} (placed : here ≡ start)
      (second : ℕ) (o : List ℕ) where
    sized : z ≡ sizes_of hd ls
    sized = found ∙ ap (sizes_after b p q) counted ∙ sizes_are

    block_long : length_of z ≡ length block
    unfolding relined decode
    block_long = sym (length_is z small) ∙ whole ∙ sym (block-length (record_after version b p q vs) (position-long b))
      where
        size_of : Sizes → ℕ
        size_of y = block_length y.headers y.lines y.entries y.comments y.bytes

        whole : size_of z ≡ size_of (sizes_of hd ls)
        whole = ap size_of sized

    abbrev done : Outcome
    done = record { answer = Done (length block) second; buffer = at_front block o }

    -- refused
    pub refused_stored : {a : Answer} {o₁ : List ℕ} → Err a ≡ opening z (length o) → o₁ ≡ opened version z here o
        → (a ≡ (edit_stored block second o).answer) × (o₁ ≡ (edit_stored block second o).buffer)
    unfolding edit_stored
    refused_stored {a} {o₁} e f =
        subst (λ (n : ℕ). (a ≡ (unless_refused n o done).answer) × (o₁ ≡ (unless_refused n o done).buffer)) block_long (refuses version z here o e f done)

    -- or begun, its header entries put, and then its lines
    pub begun_stored : {w v : Walk} {n : ℕ} {o₁ o₂ o₃ : List ℕ} → Ok (w, n) ≡ opening z (length o) → o₁ ≡ opened version z here o
        → v ≡ (headers_put b w o₁).walk → o₂ ≡ (headers_put b w o₁).buffer → o₃ ≡ (put_wholes ls v o₂).buffer
        → (Done n second ≡ (edit_stored block second o).answer) × (o₃ ≡ (edit_stored block second o).buffer)
    unfolding edit_stored
    begun_stored {w} {v} {n} {o₁} {o₂} e f g h d =
        let t : Opens version (sizes_of hd ls) start w n o o₁ =
        subst (λ (x : Position). Opens version (sizes_of hd ls) x w n o o₁) placed (subst (λ (y : Sizes). Opens version y here w n o o₁) sized (opens version z here o e f)) in
        let long : length_of (sizes_of hd ls) ≡ length block = ap length_of (sym sized) ∙ block_long in
        let room = opened-lines version start hd ls (position-long b) t g h in
        let last = opened_block version start hd ls (position-long b) t g h (d ∙ lines-put ls v o₂ room) in
        let fits = unrefused (length block) o done (omega (arith, long, t.short)) (omega (arith, long, t.room)) in (
          ap (λ (c : ℕ). Done c second) (t.total ∙ long) ∙ ap (λ (c : Outcome). c.answer) (sym fits),
          last ∙ ap₂ ◌++◌ block_is (ap (λ (c : ℕ). drop c o) long) ∙ ap (λ (c : Outcome). c.buffer) (sym fits),
        )

-- it keeps the buffer's length
pub stored_size : (block : List ℕ) (second : ℕ) (o : List ℕ) → length (edit_stored block second o).buffer ≡ length o
unfolding edit_stored
stored_size block second o =
    by_pick (λ (r : Outcome). length r.buffer ≡ length o) (ltb 65535 (length block)) _ _ (λ _. refl)
    (λ _. by_pick (λ (r : Outcome). length r.buffer ≡ length o) (ltb (length o) (length block)) _ _ (λ _. refl)
    (λ e. length-append block (drop (length block) o) ∙ omega (arith, length-drop (length block) o, ltb-false (length o) (length block) e)))

-- ---- the lines, put run by run

-- those before line p, the new ones, and those from line q on
pub put-spliced : (b : List ℕ) (p q : ℕ) (vs : List Line) (w : Walk) (o : List ℕ) {c n : ℕ} {v u : Walk} {o₁ o₂ o₃ : List ℕ} → p ≤ q → q ≤ lines_in b
    → c ≡ length vs → v ≡ (put_wholes (map (reparented (shifted p q c)) (run (line_in b) 0 p)) w o).walk
    → o₁ ≡ (put_wholes (map (reparented (shifted p q c)) (run (line_in b) 0 p)) w o).buffer
    → u ≡ (put_wholes vs v o₁).walk → o₂ ≡ (put_wholes vs v o₁).buffer
    → n ≡ lines_in b → o₃ ≡ (put_wholes (map (reparented (shifted p q c)) (run (line_in b) q (n - q))) u o₂).buffer
    → o₃ ≡ (put_wholes (lines_after b p q vs) w o).buffer
put-spliced b p q vs w o {c} {n} {v} {u} {o₁} {o₂} {o₃} h l e a d f g k t =
    let r = shifted p q c in
    let xs = map (reparented r) (run (line_in b) 0 p) in
    let ys = map (reparented r) (run (line_in b) q (lines_in b - q)) in
    let is : lines_after b p q vs ≡ xs ++ (vs ++ ys) =
    after_is b p q vs h l ∙ ap (λ (m : ℕ). run (moved (shifted p q m) b) 0 p ++ (vs ++ run (moved (shifted p q m) b) q (lines_in b - q))) (sym e)
    ∙ ap₂ (λ (fs bs : List Line). fs ++ (vs ++ bs)) (sym (map-run (line_in b) (reparented r) 0 p)) (sym (map-run (line_in b) (reparented r) q (lines_in b - q))) in
    t ∙ ap (λ (m : ℕ). (put_wholes (map (reparented r) (run (line_in b) q (m - q))) u o₂).buffer) k
    ∙ ap₂ (λ (x : Walk) (y : List ℕ). (put_wholes ys x y).buffer) f g
    ∙ ap (λ (z : Grown). z.buffer) (sym (all_then put_whole vs ys v o₁))
    ∙ ap₂ (λ (x : Walk) (y : List ℕ). (put_wholes (vs ++ ys) x y).buffer) a d
    ∙ ap (λ (z : Grown). z.buffer) (sym (all_then put_whole xs (vs ++ ys) w o))
    ∙ ap (λ (ls : List Line). (put_wholes ls w o).buffer) (sym is)
