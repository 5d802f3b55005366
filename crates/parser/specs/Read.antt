-- What `measure` and `fill` answer, and what the lent buffer then holds.                             (01, Numbers of refusal; 02, request (vii))
-- Assumes nothing: these are definitions.
use Rattle.std.specs.Prelude.{ℕ, List, length, replicate, eqb, ltb, Option, Some, None}
use Rattle.lists.specs.Pick.{pick}
use Rattle.text.specs.Utf8.{well_formed_bytes}
use Rattle.jkf.specs.Attaching.{on_hung, all_hung}
use Rattle.jkf.specs.Answers.{Outcome, figures, refuse}
use Rattle.jkf.specs.declared.Answer.{Answer}
use Rattle.jkf.specs.declared.Answer.TheVariants.{Done, TextTooLong, NotUtf8, HandLine, BlockTooLong, NoEntry}
use Rattle.block.specs.Encode.{encode}
use Rattle.filling.specs.Filling.{unless_refused, at_front}
use Rattle.plays.specs.Losses.{plays_lost}
use Rattle.kakinoki.specs.Starts.{on_fault, start_read}
use Rattle.parser.specs.Parse.{Parsed, parse, needed, record_of}

-- ---- words

abbrev pub on_early : {A : Type 0} → Option Answer → (Answer → A) → A → A
on_early (Some a) f d = f a
on_early None f d = d

-- ---- refusals 1 to 3, in this order                                                                 (01, Numbers of refusal: order)

-- Refusal 3: the hand line that cannot be read.
unfoldable pub faultless : List ℕ → Option Answer
faultless s = on_fault (start_read s).fault (λ at. Some (HandLine at)) None

-- Before it 1 and 2.
unfoldable pub early_of : List ℕ → Option Answer
early_of s =
    let r = faultless s in
    pick (ltb 65535 (length s))
    (Some (TextTooLong (length s)))
    (pick (ltb (well_formed_bytes s) (length s)) (Some (NotUtf8 (well_formed_bytes s))) r)

-- ---- measuring                                                                                       (02, request (vii))

-- The length needed and the bytes taken; or refusal 4.
unfoldable pub measured : ℕ → ℕ → Answer
measured n taken = pick (ltb 65535 n) (BlockTooLong n) (Done n taken)

-- Refusals 1 to 4. Nothing is lent.
unfoldable pub measure_of : List ℕ → Answer
measure_of s = let r = measured (needed (parse s)) (parse s).taken in on_early (early_of s) (λ a. a) r

-- ---- filling

-- Refusal 6 clears the whole buffer; success puts the block at its front and changes nothing past it.
unfoldable pub filled_with : Parsed → List ℕ → Outcome
filled_with p o =
    on_hung (all_hung p.plays)
    (λ k ply. record { answer = NoEntry k ply; buffer = replicate (length o) 0 })
    (record { answer = Done p.taken (needed p); buffer = at_front (encode (record_of p)) o })

-- Refusals 4 and 5 come before 6, so the length is asked for first.
unfoldable pub read_stored : Parsed → List ℕ → Outcome
read_stored p o = unless_refused (needed p) o (filled_with p o)

-- Refusals 1 to 6.
unfoldable pub fill_of : List ℕ → List ℕ → Outcome
fill_of s o = let r = read_stored (parse s) o in on_early (early_of s) (λ a. refuse a o) r

-- ---- times that were lost                                                                            (02, request (iv))

-- How many of the move lines taken lost a time, told beside the answer; 0 beside a refusal.
unfoldable pub lost_of : List ℕ → List ℕ → ℕ
lost_of s o = let n = plays_lost s (start_read s).next.at in pick (eqb (figures (fill_of s o).answer).number 0) n 0
