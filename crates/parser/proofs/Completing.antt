-- The parts that were filled in are the block of what the text says; or the first variation that does not hang is told.
-- Assumes nothing.
use Rattle.std.specs.Prelude.{Option, Some, None, Result, Ok, Err}
use Prim.Native.Nat.{ℕ, ◌≤◌}
use native.Mathlib.Omega.{arith}
use mathlib.Core.Path.{◌≡◌, refl, sym, ap, ap₂, ◌∙◌, subst}
use mathlib.Core.Bool.{Bool, true, false}
use mathlib.Core.List.{List, ◌++◌}
use lib.ListN.{length, drop, replicate}
use lib.Dec.{eqb, ltb}
use Rattle.lists.specs.Pick.{pick}
use Rattle.lent.specs.inner.Regions.{puts}
use Rattle.text.specs.Utf8.{well_formed_bytes}
use Rattle.text.specs.declared.Cursor.{Cursor}
use Rattle.jkf.specs.Answers.{Outcome, figures, refuse}
use Rattle.jkf.specs.Attaching.{Hung, on_hung, all, first, Play, attach, all_hung}
use Rattle.jkf.specs.declared.Position.{Position}
use Rattle.jkf.specs.declared.Answer.{Answer}
use Rattle.jkf.specs.declared.Answer.TheVariants.{Done, TextTooLong, NotUtf8, HandLine, BlockTooLong, BufferShort, NoEntry}
use Rattle.jkf.specs.Model.{Header, Line}
use Rattle.block.specs.PositionBytes.{position_bytes}
use Rattle.block.specs.Encode.{entries_of, comments_of, encode_flat, encode}
use Rattle.filling.specs.Filling.{if_fits, at_front, unless_refused, length_of, opening, opened}
use Rattle.filling.specs.inner.Parts.{put_headers, Opens}
use Rattle.filling.specs.inner.Parts.{line_texts, line_ends, LinesFit}
use Rattle.filling.specs.declared.Sizes.{Sizes}
use Rattle.filling.specs.declared.Walk.{Walk}
use Rattle.filling.proofs.Putting.{is_begun, is_refused, fits, opens, refuses, unrefused}
use Rattle.filling.proofs.Wholes.{front-size, front_rest, opened-lines, opened_block}
use Rattle.plays.specs.Plays.{plays_at}
use Rattle.plays.specs.Losses.{plays_lost}
use Rattle.kakinoki.specs.Starts.{on_fault, start_read}
use Rattle.parser.specs.inner.Headers.{headers_at}
use Rattle.parser.specs.inner.Lines.{hanging}
use Rattle.parser.specs.Parse.{Parsed, parse, needed, record_of}
use Rattle.parser.specs.Read.{on_early, early_of, faultless, filled_with, read_stored, fill_of, lost_of, measured}
use Rattle.parser.specs.inner.Stores.{Prepared, parsed_sizes, Opened, Surveyed, hung_lost, stored_lost}
use Rattle.parser.specs.declared.Survey.{Survey}
use Rattle.parser.proofs.Opening.{start-length}
use Rattle.parser.proofs.Needing.{needed_is}
use Rattle.parser.proofs.Storing.{headers_are, needed-length}

-- what a filling of lines answered
hanging-all : (h : Hung) (at lost : ℕ) (c : Cursor) (n : ℕ) → Ok (c, n) ≡ hanging h at lost → (h ≡ all) × (c.at ≡ at) × (n ≡ lost)
hanging-all all at lost c n e = (refl, ap place e, ap number e)
  where
    place : Result (Cursor × ℕ) (ℕ × ℕ) → ℕ
    place (Ok (d, k)) = d.at
    place (Err (k, ply)) = 0

    number : Result (Cursor × ℕ) (ℕ × ℕ) → ℕ
    number (Ok (d, k)) = k
    number (Err (k, ply)) = 0
hanging-all (first k ply) at lost c n e = let z : ◌≡◌ {A = ℕ} 0 1 = ap one e in absurd (omega arith)
  where
    one : Result (Cursor × ℕ) (ℕ × ℕ) → ℕ
    one (Ok (d, k)) = 0
    one (Err (k, ply)) = 1

hanging-loose : (h : Hung) (at lost k ply : ℕ) → Err (k, ply) ≡ hanging h at lost → h ≡ first k ply
hanging-loose all at lost k ply e = let z : ◌≡◌ {A = ℕ} 0 1 = ap one e in absurd (omega arith)
  where
    one : Result (Cursor × ℕ) (ℕ × ℕ) → ℕ
    one (Ok (d, k)) = 1
    one (Err (k, ply)) = 0
hanging-loose (first j q) at lost k ply e = sym (ap back e)
  where
    back : Result (Cursor × ℕ) (ℕ × ℕ) → Hung
    back (Ok (d, k)) = all
    back (Err (k, ply)) = first k ply

-- the answer and the buffer of a record that hangs, and of one that does not
hung_filled : (r : Parsed) (o : List ℕ) → all_hung r.plays ≡ all
    → ((filled_with r o).answer ≡ Done r.taken (needed r)) × ((filled_with r o).buffer ≡ at_front (encode (record_of r)) o)
unfolding filled_with
hung_filled r o e = rw e (refl, refl)

lost_filled : (r : Parsed) (o : List ℕ) (k ply : ℕ) → all_hung r.plays ≡ first k ply
    → ((filled_with r o).answer ≡ NoEntry k ply) × ((filled_with r o).buffer ≡ replicate (length o) 0)
unfolding filled_with
lost_filled r o k ply e = rw e (refl, refl)

-- the times that were lost, likewise
hung-lost : (s : List ℕ) → all_hung (parse s).plays ≡ all → hung_lost s ≡ plays_lost s (start_read s).next.at
unfolding hung_lost
hung-lost s e = rw e

none_lost : (s : List ℕ) (k ply : ℕ) → all_hung (parse s).plays ≡ first k ply → hung_lost s ≡ 0
unfolding hung_lost
none_lost s k ply e = rw e

-- both look at a buffer's length, and at what stands past the block
filled-same : (r : Parsed) (o o₁ : List ℕ) → length o₁ ≡ length o → drop (length (encode (record_of r))) o₁ ≡ drop (length (encode (record_of r))) o → filled_with r o₁ ≡ filled_with r o
unfolding filled_with
filled-same r o o₁ e q = rw (e, q)

-- ---- the parts of a text

module _ (s : List ℕ) {p : Position} (c : Cursor) (hs : List ℕ) (f : Prepared s p c.at hs) where
  abbrev hd : List Header
  hd = (parse s).headers

  abbrev ls : List Line
  ls = attach (parse s).plays

  headers_there : headers_at s hs ≡ hd
  unfolding parse
  headers_there = ap (headers_at s) f.headers ∙ sym (headers_are s)

  plays_there : (plays_at s c.at).state ≡ (parse s).plays
  unfolding parse
  plays_there = ap (λ (k : ℕ). (plays_at s k).state) f.place

  taken_there : (plays_at s c.at).at ≡ (parse s).taken
  unfolding parse
  taken_there = ap (λ (k : ℕ). (plays_at s k).at) f.place

  position-long : length (position_bytes (parse s).position) ≡ 100
  unfolding parse
  position-long = start-length s

  block_is : encode_flat 1 (position_bytes (parse s).position) hd ls (entries_of ls) (comments_of (entries_of ls)) ≡ encode (record_of (parse s))
  unfolding encode
  block_is = refl

  block_long : length_of (parsed_sizes (parse s)) ≡ length (encode (record_of (parse s)))
  block_long = needed-length f ∙ sym (needed_is s)

  -- ---- filled

  module _ (w : Walk) (n : ℕ) (o : List ℕ) (m : Opened (parse s) w n o) where
    module _ (v : Walk) (o₁ : List ℕ) (a : v ≡ (put_headers (headers_at s hs) w o).walk) (b : o₁ ≡ (put_headers (headers_at s hs) w o).buffer) where
      walk_there : v ≡ (put_headers hd w o).walk
      walk_there = a ∙ ap (λ (l : List Header). (put_headers l w o).walk) headers_there

      buffer_there : o₁ ≡ (put_headers hd w o).buffer
      buffer_there = b ∙ ap (λ (l : List Header). (put_headers l w o).buffer) headers_there

      pub lines_there : LinesFit (attach (plays_at s c.at).state) v o₁
      lines_there =
          subst (λ (ps : List Play). LinesFit (attach ps) v o₁) (sym plays_there)
          (opened-lines 1 (parse s).position hd ls position-long m.1 walk_there buffer_there)

      pub all_stored : (h : Result (Cursor × ℕ) (ℕ × ℕ)) (end : Cursor) (lost : ℕ) {o₂ : List ℕ} → h ≡ hanging (all_hung (plays_at s c.at).state) (plays_at s c.at).at (plays_lost s c.at)
          → (all_hung (plays_at s c.at).state ≡ all → o₂ ≡ puts o₁ (line_ends v) (line_texts 0 0 v.bytes (attach (plays_at s c.at).state))) → h ≡ Ok (end, lost)
          → (Done end.at n ≡ (filled_with (parse s) o).answer) × ((o₂ ≡ (filled_with (parse s) o).buffer) × (lost ≡ hung_lost s))
      all_stored h end lost {o₂} e g q =
          let (x, y, t) = hanging-all (all_hung (plays_at s c.at).state) (plays_at s c.at).at (plays_lost s c.at) end lost (sym q ∙ e) in
          let hung = ap all_hung (sym plays_there) ∙ x in
          let k = hung_filled (parse s) o hung in
          let l : length (encode (record_of (parse s))) ≡ length_of (parsed_sizes (parse s)) = sym block_long in
          let z = opened_block 1 (parse s).position hd ls position-long m.1 walk_there buffer_there
          (g x ∙ ap (λ (ps : List Play). puts o₁ (line_ends v) (line_texts 0 0 v.bytes (attach ps))) plays_there) in
          let r = front_rest 1 (parse s).position hd ls position-long m.1.short m.0 m.1.room o m.1.front in (
            ap₂ Done (y ∙ taken_there) (m.1.total ∙ needed-length f) ∙ sym k.0,
            (z ∙ ap₂ ◌++◌ block_is (sym r ∙ ap (λ (j : ℕ). drop j o) block_long) ∙ sym k.1, t ∙ ap (plays_lost s) f.place ∙ sym (hung-lost s hung)),
          )

      pub none_stored : (h : Result (Cursor × ℕ) (ℕ × ℕ)) (k ply : ℕ) {o₃ : List ℕ} → h ≡ hanging (all_hung (plays_at s c.at).state) (plays_at s c.at).at (plays_lost s c.at)
          → h ≡ Err (k, ply) → o₃ ≡ replicate (length o) 0 → (NoEntry k ply ≡ (filled_with (parse s) o).answer) × ((o₃ ≡ (filled_with (parse s) o).buffer) × (0 ≡ hung_lost s))
      none_stored h k ply {o₃} e q b =
          let x = ap all_hung (sym plays_there) ∙ hanging-loose (all_hung (plays_at s c.at).state) (plays_at s c.at).at (plays_lost s c.at) k ply (sym q ∙ e) in
          let l = lost_filled (parse s) o k ply x in
          (sym l.0, (b ∙ sym l.1, sym (none_lost s k ply x)))

  -- ---- stored

  position_there : p ≡ (parse s).position
  unfolding parse
  position_there = f.position

  pub prepared_so : Prepared s (parse s).position c.at hs
  prepared_so = subst (λ (r : Position). Prepared s r c.at hs) position_there f

  module _ (o : List ℕ) {z : Sizes} (sized : z ≡ parsed_sizes (parse s)) {o₁ : List ℕ} (left : o₁ ≡ opened 1 z p o) where
    -- a refusal is the one that the block's length calls for
    pub refused_so : {a : Answer} → Err a ≡ opening z (length o)
        → (a ≡ (read_stored (parse s) o).answer) × ((o₁ ≡ (read_stored (parse s) o).buffer) × (0 ≡ stored_lost s (length o)))
    unfolding read_stored stored_lost
    refused_so {a} e =
        let x = refuses 1 z p o e left (filled_with (parse s) o) in
        subst (λ (n : ℕ). (a ≡ (unless_refused n o (filled_with (parse s) o)).answer) × ((o₁ ≡ (unless_refused n o (filled_with (parse s) o)).buffer) × (0 ≡ if_fits n (length o) (λ b. 0) (hung_lost s))))
        (ap length_of sized ∙ needed-length f) (x.0, (x.1, is_refused z (length o) e (λ b. 0) (hung_lost s)))

    module _ {w : Walk} {n : ℕ} (e : Ok (w, n) ≡ opening z (length o)) where
      opens_so : Opens 1 (parsed_sizes (parse s)) (parse s).position w n o o₁
      opens_so =
          opens 1 (parsed_sizes (parse s)) (parse s).position o (e ∙ ap (λ (y : Sizes). opening y (length o)) sized)
          (left ∙ ap₂ (λ (y : Sizes) (r : Position). opened 1 y r o) sized position_there)

      pub opened_so : Opened (parse s) w n o₁
      opened_so = (o, opens_so)

      -- what is filled into a block that is begun is what is stored
      pub stored_so : {a : Answer} {o₂ : List ℕ} {lost : ℕ} → a ≡ (filled_with (parse s) o₁).answer → o₂ ≡ (filled_with (parse s) o₁).buffer → lost ≡ hung_lost s
          → (a ≡ (read_stored (parse s) o).answer) × ((o₂ ≡ (read_stored (parse s) o).buffer) × (lost ≡ stored_lost s (length o)))
      unfolding read_stored stored_lost
      stored_so {a} {o₂} x y l =
          let q = opens_so in
          let k = front-size 1 (parse s).position hd ls position-long q.short o q.room o₁ q.front in
          let r = front_rest 1 (parse s).position hd ls position-long q.short o q.room o₁ q.front in
          let same = filled-same (parse s) o o₁ k (subst (λ (j : ℕ). drop j o₁ ≡ drop j o) block_long r) in
          let short : needed (parse s) ≤ 65535 = omega (arith, needed-length f, q.short) in
          let room : needed (parse s) ≤ length o = omega (arith, needed-length f, q.room) in
          let u = unrefused (needed (parse s)) o (filled_with (parse s) o) short room in
          (x ∙ ap (λ (g : Outcome). g.answer) (same ∙ sym u), (y ∙ ap (λ (g : Outcome). g.buffer) (same ∙ sym u), l ∙ sym (fits (λ b. 0) (hung_lost s) short room)))

-- ---- lost

-- refusal after refusal, the times that are lost are those beside the answer
module _ (s o : List ℕ) where
  abbrev beside : Answer → ℕ
  beside a = pick (eqb (figures a).number 0) (plays_lost s (start_read s).next.at) 0

  hung_told : hung_lost s ≡ beside (filled_with (parse s) o).answer
  unfolding hung_lost filled_with figures
  hung_told = go (all_hung (parse s).plays)
    where
      go : (h : Hung) → on_hung h (λ k ply. 0) (plays_lost s (start_read s).next.at)
          ≡ beside (on_hung {A = Outcome} h (λ k ply. record { answer = NoEntry k ply; buffer = replicate (length o) 0 }) (record { answer = Done (parse s).taken (needed (parse s)); buffer = at_front (encode (record_of (parse s))) o })).answer
      go all = refl
      go (first k ply) = refl

  stored_told : stored_lost s (length o) ≡ beside (read_stored (parse s) o).answer
  unfolding stored_lost read_stored figures
  stored_told = go (ltb 65535 (needed (parse s))) (ltb (length o) (needed (parse s)))
    where
      go : (a b : Bool) → pick a 0 (pick b 0 (hung_lost s))
          ≡ beside (pick a (refuse (BlockTooLong (needed (parse s))) o) (pick b (refuse (BufferShort (needed (parse s))) o) (filled_with (parse s) o))).answer
      go true b = refl
      go false true = refl
      go false false = hung_told

  abbrev early : Bool → Bool → Option ℕ → Option Answer
  early a b f = pick a (Some (TextTooLong (length s))) (pick b (Some (NotUtf8 (well_formed_bytes s))) (on_fault f (λ at. Some (HandLine at)) None))

  lost_told : on_early (early_of s) (λ a. 0) (stored_lost s (length o)) ≡ lost_of s o
  unfolding lost_of fill_of early_of faultless figures
  lost_told = go (ltb 65535 (length s)) (ltb (well_formed_bytes s) (length s)) (start_read s).fault
    where
      go : (a b : Bool) (f : Option ℕ) → on_early (early a b f) (λ a. 0) (stored_lost s (length o)) ≡ beside (on_early {A = Outcome} (early a b f) (λ a. refuse a o) (read_stored (parse s) o)).answer
      go true b f = refl
      go false true f = refl
      go false false (Some at) = refl
      go false false None = stored_told

  pub early_lost : {a : Answer} → early_of s ≡ Some a → 0 ≡ lost_of s o
  early_lost e = sym (ap (λ (x : Option Answer). on_early x (λ a. 0) (stored_lost s (length o))) e) ∙ lost_told

  pub passed_lost : early_of s ≡ None → stored_lost s (length o) ≡ lost_of s o
  passed_lost e = sym (ap (λ (x : Option Answer). on_early x (λ a. 0) (stored_lost s (length o))) e) ∙ lost_told

-- ---- measured

-- a test that is made twice is made once
same_test : {A : Type 0} (b : Bool) (x y r : A) → pick b x (pick b y r) ≡ pick b x r
same_test true x y r = refl
same_test false x y r = refl

-- by what filling admits into a buffer that is long enough for every block
module _ (z : Sizes) (t : ℕ) where
  measured-fits : if_fits (length_of z) 65535 (λ a. a) (Done (length_of z) t) ≡ measured (length_of z) t
  unfolding measured
  measured-fits = same_test (ltb 65535 (length_of z)) (BlockTooLong (length_of z)) (BufferShort (length_of z)) (Done (length_of z) t)

  pub measured-refused : {a : Answer} → Err a ≡ opening z 65535 → a ≡ measured (length_of z) t
  measured-refused e = is_refused z 65535 e (λ a. a) (Done (length_of z) t) ∙ measured-fits

  pub measured-begun : {w : Walk} {n : ℕ} → Ok (w, n) ≡ opening z 65535 → Done n t ≡ measured (length_of z) t
  measured-begun e =
      let q = is_begun z 65535 e in
      ap (λ (k : ℕ). Done k t) q.total ∙ (sym (fits (λ a. a) (Done (length_of z) t) q.short q.room) ∙ measured-fits)

-- what was counted comes to the length needed
pub measured_so : {s : List ℕ} {v : Survey} {hs : List ℕ} → Surveyed s v hs → measured (length_of v.sizes) v.taken ≡ measured (needed (parse s)) (parse s).taken
measured_so f = ap₂ measured (ap length_of f.sizes ∙ needed-length f.ready) f.taken
