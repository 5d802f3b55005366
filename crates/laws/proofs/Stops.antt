-- Where reading stops: the laws of the rules' failures, of what is told, and of what filling answers beside it.                    (02, request (ii))
-- Assumes nothing.
use Rattle.std.specs.Prelude.{Option, Some, None}
use Prim.Native.Nat.{ℕ, ◌≤◌}
use native.Mathlib.Omega.{arith}
use mathlib.Core.Path.{◌≡◌, refl}
use mathlib.Core.List.{List}
use lib.ListN.{length, replicate, get_or}
use lib.Dec.{ltb}
use Rattle.lists.proofs.Laws.{by_pick}
use Rattle.text.specs.Utf8.{well_formed_bytes}
use Rattle.jkf.specs.declared.Answer.{Answer}
use Rattle.jkf.specs.declared.Answer.TheVariants.{Done, TextTooLong, NotUtf8, HandLine, BlockTooLong, BufferShort, NoEntry}
use Rattle.jkf.specs.Answers.{figures, Outcome, refuse}
use Rattle.jkf.specs.Attaching.{Hung, on_hung, first, all, all_hung}
use Rattle.block.specs.Encode.{encode}
use Rattle.filling.specs.Filling.{at_front}
use Rattle.kakinoki.specs.Starts.{on_fault, start_read}
use Rattle.moves.specs.Failing.{on_failed}
use Rattle.moves.specs.declared.Reason.{Reason}
use Rattle.moves.specs.declared.Reason.TheVariants.{EndOfText}
use Rattle.plays.specs.Plays.{skips_at, plays_at}
use Rattle.parser.specs.Parse.{parse, record_of, needed}
use Rattle.parser.specs.Read.{on_early, early_of, faultless, filled_with, read_stored, fill_of}
use Rattle.stops.specs.Stopping.{begins_at, last_end, seeking_at, tried_at, stopped_with, stopped_at, astray_from, played_stop, stop_of, stop_figures}
use Rattle.stops.specs.declared.Astray.{Astray}
use Rattle.stops.specs.declared.StopAnswer.{StopAnswer}
use Rattle.stops.specs.declared.StopAnswer.TheVariants.{TextTooLong as LongStop, NotUtf8 as Utf8Stop, HandLine as HandStop, NoEntry as LooseStop, Stopped}
use Rattle.moves.proofs.Failures as failures
use Rattle.moves.proofs.FailedLines as lines
use Rattle.stops.proofs.Telling as telling
use Rattle.laws.specs.Stops.{FailTheorems, StopTheorems, AlikeTheorems}

pub fails_hold : (s : List ℕ) (at : ℕ) → FailTheorems s at
fails_hold s at =
    record {
      line-end_silent = failures.line-end_silent s at;
      move-from_silent = failures.move-from_silent s at;
      move_silent = failures.move_silent s at;
      what_silent = failures.what_silent s at;
      move-line_silent = lines.move-line_silent s at;
      skip_line_silent = lines.skip_line_silent s at;
      comment_silent = lines.comment_silent s at;
      move-line_stands = lines.move-line_stands s at;
      within = telling.told-within s at;
      seen = telling.told-seen s at;
      passed_move = lines.passed_move s at;
      passed_comment = lines.passed_comment s at;
    }

pub stops_hold : (s : List ℕ) (t : ℕ) (r : Reason) (p : ℕ) → StopTheorems s t r p
stops_hold s t r p =
    record {
      chosen = telling.chosen s;
      told = telling.told s;
      placed = telling.placed s;
      seen = telling.seen s;
      furthest_move = telling.furthest_move s;
      furthest_skip = telling.furthest_skip s;
      furthest_comment = telling.furthest_comment s;
      earlier-move = telling.earlier-move s;
      earlier-comment = telling.earlier-comment s;
      end_is_told = telling.end_is_told s;
      end_is_so = telling.end_is_so s;
    }

-- ---- beside what filling answers, case by case

data Alike : Answer → StopAnswer → Type 0 where
  stopped : {t n p : ℕ} {r : Reason} → Alike (Done t n) (Stopped t r p)
  long : {n : ℕ} → Alike (TextTooLong n) (LongStop n)
  utf8 : {n : ℕ} → Alike (NotUtf8 n) (Utf8Stop n)
  hand : {n : ℕ} → Alike (HandLine n) (HandStop n)
  loose : {a : Astray} → Alike (NoEntry a.variation a.ply) (LooseStop a)
  unstored : {a : Answer} {x : StopAnswer} → 4 ≤ (figures a).number → (figures a).number ≤ 5 → Alike a x

module _ (s o : List ℕ) where
  abbrev b : ℕ
  b = (start_read s).next.at

  -- whatever is told, so much was taken
  taken_alike : (t n p : ℕ) (f : Option (ℕ × Reason)) → Alike (Done t n) (on_failed f (λ at r. Stopped t r at) (Stopped t EndOfText p))
  taken_alike t n p (Some (at, r)) = stopped
  taken_alike t n p None = stopped

  filled_alike : Alike (filled_with (parse s) o).answer (played_stop s b)
  unfolding filled_with played_stop parse astray_from stopped_at stopped_with
  filled_alike = go (all_hung (plays_at s b).state)
    where
      go : (h : Hung) → Alike (on_hung {A = Outcome} h (λ k ply. record { answer = NoEntry k ply; buffer = replicate (length o) 0 })
          (record { answer = Done (plays_at s b).at (needed (parse s)); buffer = at_front (encode (record_of (parse s))) o })).answer
          (on_hung h (λ k ply. LooseStop (astray_from (plays_at s b).state (begins_at s b) k ply)) (stopped_at s b (last_end s b) (plays_at s b).at))
      go (first k ply) = loose {a = astray_from (plays_at s b).state (begins_at s b) k ply}
      go all =
          let p = skips_at s (plays_at s b).at in
          taken_alike (plays_at s b).at (needed (parse s)) p (tried_at (seeking_at b (last_end s b) p) s p)

  stored_alike : Alike (read_stored (parse s) o).answer (played_stop s b)
  unfolding read_stored figures
  stored_alike =
      by_pick (λ (x : Outcome). Alike x.answer (played_stop s b)) (ltb 65535 (needed (parse s))) (refuse (BlockTooLong (needed (parse s))) o) _
      (λ _. unstored (omega arith) (omega arith))
      (λ _. by_pick (λ (x : Outcome). Alike x.answer (played_stop s b)) (ltb (length o) (needed (parse s))) (refuse (BufferShort (needed (parse s))) o) _
      (λ _. unstored (omega arith) (omega arith)) (λ _. filled_alike))

  alike : Alike (fill_of s o).answer (stop_of s)
  unfolding fill_of early_of faultless stop_of
  alike =
      by_pick (λ (u : Unit {0}). Alike (fill_of s o).answer (stop_of s)) (ltb 65535 (length s)) tt tt (λ e. rw e long)
      (λ e. by_pick (λ (u : Unit {0}). Alike (fill_of s o).answer (stop_of s)) (ltb (well_formed_bytes s) (length s)) tt tt (λ w. rw (e, w) utf8)
      (λ w. rw (e, w) (go (start_read s).fault)))
    where
      go : (f : Option ℕ) → Alike (on_early (on_fault f (λ at. Some (HandLine at)) None) (λ a. refuse a o) (read_stored (parse s) o)).answer (on_fault f HandStop (played_stop s b))
      go (Some at) = hand
      go None = stored_alike

-- ---- so their figures are alike

same_start : {a : Answer} {x : StopAnswer} → Alike a x → ((figures a).number ≡ 4 → ⊥) × ((figures a).number ≡ 5 → ⊥)
    → (get_or (stop_figures x) 0 0 ≡ (figures a).number) × (get_or (stop_figures x) 1 0 ≡ (figures a).first)
unfolding figures
same_start stopped n = (refl, refl)
same_start long n = (refl, refl)
same_start utf8 n = (refl, refl)
same_start hand n = (refl, refl)
same_start loose n = (refl, refl)
same_start (unstored h k) (n, m) = absurd (omega (arith, h, k, n, m))

same_second : {a : Answer} {x : StopAnswer} → Alike a x → (figures a).number ≡ 6 → get_or (stop_figures x) 2 0 ≡ (figures a).second
unfolding figures
same_second stopped e = absurd (omega (arith, e))
same_second long e = absurd (omega (arith, e))
same_second utf8 e = absurd (omega (arith, e))
same_second hand e = absurd (omega (arith, e))
same_second loose e = refl
same_second (unstored h k) e = absurd (omega (arith, e, k))

pub stops_alike : (s o : List ℕ) → AlikeTheorems s o
stops_alike s o =
    record {
      same_number = λ n. (same_start (alike s o) n).0;
      same_first = λ n. (same_start (alike s o) n).1;
      same_ply = λ e. same_second (alike s o) e;
    }
