-- The record that a reading gives is well formed, and a reading that is done leaves its block at the front of the buffer.
-- Assumes nothing.
use Rattle.std.specs.Prelude.{Option, Some, None}
use Prim.Native.Nat.{ℕ, ◌+◌, ◌*◌, ◌≤◌, ◌<◌}
use native.Mathlib.Omega.{arith}
use mathlib.Core.Path.{◌≡◌, refl, ap, ◌∙◌}
use mathlib.Core.Bool.{false}
use mathlib.Core.List.{List, [], ◌∷◌}
use lib.ListN.{length, get_or, take, drop, replicate}
use lib.Seq.{take_at}
use lib.Dec.{eqb, ltb}
use borrow.Author.Tests.{ltb-false}
use Rattle.lists.specs.Repeat.{Step, more, stop}
use Rattle.lists.proofs.Laws.{by_pick}
use Rattle.text.specs.Text.{width_step, past_all}
use Rattle.text.specs.Utf8.{char_width, well_formed_bytes}
use Rattle.text.proofs.Widths.{char_within}
use Rattle.jkf.specs.Attaching.{Hung, on_hung, all, first, attach, all_hung}
use Rattle.jkf.specs.declared.Answer.{Answer}
use Rattle.jkf.specs.declared.Answer.TheVariants.{Done, TextTooLong, NotUtf8, HandLine, BlockTooLong, BufferShort, NoEntry}
use Rattle.jkf.specs.Answers.{figures, Outcome, refuse}
use Rattle.block.specs.Encode.{encode, head_bytes, entries_of, comments_of, header_text}
use Rattle.block.specs.Formed.{Formed}
use Rattle.moves.proofs.Smalls.{Bytes, each, bytes-at, bytes-join, bytes_one, bytes_16, zeros}
use Rattle.kakinoki.specs.Starts.{on_fault, start_read}
use Rattle.kakinoki.proofs.Reach.{repeat_keeps}
use Rattle.plays.specs.Plays.{plays_at}
use Rattle.filling.specs.Filling.{at_front}
use Rattle.parser.specs.Parse.{headers_of, parse, record_of, needed}
use Rattle.parser.specs.Read.{on_early, filled_with, read_stored, early_of, faultless, fill_of}
use Rattle.plays.proofs.Items.{on-more, no_more}
use Rattle.laws.proofs.Playing.{entries-kind, comments-valid, some-lines, lines_fit}
use Rattle.laws.proofs.Smalling.{lines-bytes, entries-bytes, remarks_bytes, comments-bytes}
use Rattle.parser.proofs.Opening.{start-cells, start-hands, start_fits, start-bytes}
use Rattle.parser.proofs.Needing.{needed_is}
use Rattle.laws.proofs.Heading.{headers_fit, headers-bytes, header-text-bytes}

-- ---- its bytes

pub head-bytes : (v t h l m c : ℕ) → Bytes (head_bytes v t h l m c)
unfolding head_bytes
head-bytes v t h l m c =
    let a : Bytes (75 ∷ 66 ∷ []) = each {b = 75} (omega arith) (bytes_one {b = 66} (omega arith)) in
    let b = bytes-join (bytes-join (bytes-join (bytes-join (bytes-join (bytes-join a (bytes_16 v)) (bytes_16 t)) (bytes_16 h)) (bytes_16 l)) (bytes_16 m)) (bytes_16 c) in
    let d = bytes-join (bytes-join (bytes-join b (bytes_16 128)) (bytes_16 (128 + 8 * h))) (bytes_16 (128 + 8 * h + 8 * l)) in
    bytes-join (bytes-join (bytes-join d (bytes_16 (128 + 8 * h + 8 * l + 20 * m))) (bytes_16 (128 + 8 * h + 8 * l + 20 * m + 4 * c))) (zeros 4)

module _ (s : List ℕ) (b : (k : ℕ) → get_or s k 0 < 256) where
  pub read-bytes : Bytes (encode (record_of (parse s)))
  unfolding encode parse
  read-bytes =
      let at = (start_read s).next.at in
      let hs = headers_of s in
      let ls = attach (plays_at s at).state in
      let cs = comments_of (entries_of ls) in
      bytes-join (bytes-join (bytes-join (bytes-join (bytes-join (bytes-join (bytes-join (head-bytes _ _ _ _ _ _) (start-bytes s)) (headers-bytes 0 hs)) (lines-bytes 0 ls))
      (entries-bytes s at 0)) (remarks_bytes (length (header_text hs)) cs)) (header-text-bytes s b)) (comments-bytes s at b)

  pub read_formed : well_formed_bytes s ≡ length s → needed (parse s) ≤ 65535 → all_hung (parse s).plays ≡ all → Formed (record_of (parse s))
  unfolding parse
  read_formed w n g =
      let at = (start_read s).next.at in
      record {
        version = refl;
        short = omega (arith, needed_is s);
        bytes = bytes-at read-bytes;
        cells = start-cells s;
        hands = start-hands s;
        position = start_fits s;
        headers = headers_fit s w;
        some = some-lines s at;
        lines = lines_fit s at g;
        entries = entries-kind s at;
        comments = comments-valid s at w;
      }

-- ---- what is done

-- no more is well formed than there is
pub well_within : (s : List ℕ) → well_formed_bytes s ≤ length s
unfolding past_all
well_within s = repeat_keeps (width_step (char_width s)) (λ to u. to ≤ length s) step (length s) 0 tt (omega arith)
  where
    step : (at : ℕ) (u : Unit {0}) (to : ℕ) (v : Unit {0}) → at ≤ length s → width_step (char_width s) at u ≡ more to v → to ≤ length s
    step at u to v h =
        by_pick (λ (r : Step (Unit {0})). r ≡ more to v → to ≤ length s) (eqb (char_width s at) 0) stop (more (at + char_width s at) u) (λ _ e. no_more e)
        (λ _ e. let n = on-more e in omega (arith, char_within s at))

-- a refusal is not done
pub refused : {A : Type 0} (a : Answer) (t m : ℕ) → 0 < (figures a).number → a ≡ Done t m → A
unfolding figures
refused a t m h e = absurd (omega (arith, ap (λ (x : Answer). (figures x).number) e))

pub done_second : (t n t' m : ℕ) → Done t n ≡ Done t' m → n ≡ m
unfolding figures
done_second t n t' m e = ap (λ (x : Answer). (figures x).second) e

-- ---- refusals 1 to 3

-- what refuses early has one of these numbers, and what passes is UTF-8
pub data EarlySays (s : List ℕ) : Option Answer → Type 0 where
  refuses : {a : Answer} → 0 < (figures a).number → (figures a).number ≤ 3 → EarlySays s (Some a)
  passes : well_formed_bytes s ≡ length s → EarlySays s None

pub early_says : (s : List ℕ) → EarlySays s (early_of s)
unfolding early_of faultless figures
early_says s =
    by_pick (EarlySays s) (ltb 65535 (length s)) _ _ (λ _. refuses {a = TextTooLong (length s)} (omega arith) (omega arith))
    (λ _. by_pick (EarlySays s) (ltb (well_formed_bytes s) (length s)) _ _ (λ _. refuses {a = NotUtf8 (well_formed_bytes s)} (omega arith) (omega arith)) (λ n. go (start_read s).fault n))
  where
    go : (f : Option ℕ) → ltb (well_formed_bytes s) (length s) ≡ false → EarlySays s (on_fault f (λ at. Some (HandLine at)) None)
    go (Some at) n = refuses {a = HandLine at} (omega arith) (omega arith)
    go None n = passes (omega (arith, well_within s, ltb-false (well_formed_bytes s) (length s) n))

-- ---- a reading that is done

module _ (s o : List ℕ) (b : (k : ℕ) → get_or s k 0 < 256) where
  -- where it says that it is done, the block is at the front of the buffer
  abbrev Fronted : Outcome → Type 0
  Fronted r = (t m : ℕ) → r.answer ≡ Done t m → (take m r.buffer ≡ encode (record_of (parse s))) × Formed (record_of (parse s))

  filled-front : well_formed_bytes s ≡ length s → needed (parse s) ≤ 65535 → Fronted (filled_with (parse s) o)
  unfolding filled_with figures
  filled-front w n = go (all_hung (parse s).plays) refl
    where
      go : (h : Hung) → all_hung (parse s).plays ≡ h
          → Fronted (on_hung h (λ k ply. record { answer = NoEntry k ply; buffer = replicate (length o) 0 })
          (record { answer = Done (parse s).taken (needed (parse s)); buffer = at_front (encode (record_of (parse s))) o }))
      go (first k ply) g t m e = refused (NoEntry k ply) t m (omega arith) e
      go all g t m e =
          (take_at (encode (record_of (parse s))) (drop (length (encode (record_of (parse s)))) o) m (needed_is s ∙ done_second _ _ t m e), read_formed s b w n g)

  stored_front : well_formed_bytes s ≡ length s → Fronted (read_stored (parse s) o)
  unfolding read_stored figures
  stored_front w =
      by_pick Fronted (ltb 65535 (needed (parse s))) _ _ (λ _ t m e. refused (BlockTooLong (needed (parse s))) t m (omega arith) e)
      (λ n. by_pick Fronted (ltb (length o) (needed (parse s))) _ _ (λ _ t m e. refused (BufferShort (needed (parse s))) t m (omega arith) e)
      (λ _. filled-front w (ltb-false 65535 (needed (parse s)) n)))

  pub read_done : (t m : ℕ) → (fill_of s o).answer ≡ Done t m
      → (take m (fill_of s o).buffer ≡ encode (record_of (parse s))) × Formed (record_of (parse s))
  unfolding fill_of
  read_done = go (early_of s) (early_says s)
    where
      go : (e : Option Answer) → EarlySays s e → Fronted (on_early e (λ a. refuse a o) (read_stored (parse s) o))
      go (Some a) (refuses h _) t m e = refused a t m h e
      go None (passes w) t m e = stored_front w t m e
