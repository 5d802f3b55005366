-- Reading back, of blocks: what was read, or edited by text or restated, and then written reads back as it was but for what the text loses, where
-- no entry that is written has two variations. Such a block is sound, and a text can say its record: reading gives that, and the edits keep it.
-- Assumes nothing.
use Prim.Native.Nat.{ℕ, ◌≤◌, ◌<◌}
use native.Mathlib.Omega.{arith}
use mathlib.Core.Path.{◌≡◌, sym, ap, ap₂, ◌∙◌, subst}
use mathlib.Core.List.{List, [], ◌∷◌, ◌++◌}
use lib.ListN.{length, take, drop, length-append, length-drop}
use lib.Seq.{length-take-le}
use Rattle.jkf.specs.Answers.{Outcome}
use Rattle.jkf.specs.declared.Answer.TheVariants.{Done}
use Rattle.jkf.specs.Model.{Record}
use Rattle.block.specs.Encode.{encode}
use Rattle.block.specs.Decode.{version_in, decode}
use Rattle.block.specs.inner.Sounds.{Sound}
use Rattle.block.specs.Formed.{Formed}
use Rattle.block.proofs.Deciding.{sound_says}
use Rattle.parser.specs.Parse.{parse, record_of}
use Rattle.parser.specs.Read.{fill_of}
use Rattle.converter.specs.declared.Mode.{Mode}
use Rattle.converter.specs.declared.Mode.TheVariants.{Plain}
use Rattle.edit.specs.Edit.{variation_of}
use Rattle.laws.specs.Blocks.{Bytes}
use Rattle.laws.specs.Edits.{with_version}
use Rattle.laws.specs.Modes.{text_in, as_read, kept_in, SingleIn, LosesNothing}
use Rattle.laws.specs.Sayable.{Sayable, ColorsFollow}
use Rattle.laws.specs.Back.{EditOf, put, cut, restate, EditsOf, none, then as after, OnceRead, read, then, read_into, ReadsBack, EditsReadBack, Restores, OneKept, ReadRestored}
use Rattle.laws.proofs.Decoded.{decode-encode}
use Rattle.laws.proofs.Made.{sound-encode}
use Rattle.laws.proofs.Forming.{read_done}
use Rattle.laws.proofs.Formed.{decode_formed}
use Rattle.laws.proofs.EditsDone.{put_place, put_lines, put_done, cut_many, cut_lines, cut_done, restate_done}
use Rattle.laws.proofs.Restating.{to_one}
use Rattle.laws.proofs.Back.Colors.{colors_stay}
use Rattle.laws.proofs.Back.ReadPlays.{entries_sayable}
use Rattle.laws.proofs.Back.Keeps.{read_sayable, relined_sayable, put_sayable, cut_led}
use Rattle.laws.proofs.Back.Records.{all_back, plain_back, plain-said, plain-bytes}
use Rattle.laws.proofs.Back.Written.{Wrote, write_says, all-later}

-- ---- the blocks of which reading back is promised

-- what is kept along the way
record SayableBlock (b : List ℕ) : Type 0 where
  pub bytes : Bytes b
  pub sound : Sound b
  pub sayable : Sayable (decode b)

sayable_encode : (r : Record) → Formed r → Sayable r → SayableBlock (encode r)
sayable_encode r g s = record { bytes = g.bytes; sound = sound-encode r g; sayable = subst Sayable (sym (decode-encode r g)) s }

edit_sayable : {b c : List ℕ} → SayableBlock b → EditOf b c → SayableBlock c
edit_sayable {b} w (put k t o n i ts e) =
    let d = put_done b t o w.bytes ts k n i e in
    let p = put_place b k t in
    let z : 0 < p = omega arith in
    subst SayableBlock (sym d.front)
    (sayable_encode _ d.formed
    (relined_sayable (version_in b) (decode b) (put_lines b k t) w.sayable (put_sayable p k (variation_of t) (decode b).lines z (entries_sayable t 0) w.sayable.plays)))
edit_sayable {b} w (cut k o n m e) =
    let d = cut_done b o w.bytes k n m e in
    subst SayableBlock (sym d.front)
    (sayable_encode _ d.formed
    (relined_sayable (version_in b) (decode b) (cut_lines b k) w.sayable (cut_led k (cut_many b k) (decode b).lines d.cut.later w.sayable.plays)))
edit_sayable {b} w (restate o n m e) =
    let d = restate_done b o w.bytes n m e in
    subst SayableBlock (sym d.front) (sayable_encode _ d.formed (record { headers = w.sayable.headers; plays = w.sayable.plays }))

once_sayable : {b : List ℕ} → OnceRead b → SayableBlock b
once_sayable (read s o t n bs e) =
    let (front, formed) = read_done s o bs t n e in
    subst SayableBlock (sym front) (sayable_encode (record_of (parse s)) formed (read_sayable s))
once_sayable (then h e) = edit_sayable (once_sayable h) e

-- ---- reading back

pub reads_back : ReadsBack
reads_back b h c single o n l e short o' room =
    let w = once_sayable h in
    let r = decode b in
    let g = decode_formed b w.bytes w.sound in
    let d = write_says o n l Plain b e in
    let m = d.count in
    let back = plain_back r g w.sayable c d.hands single (omega arith) o' room in (
      ap (λ (t : List ℕ). fill_of t o') d.front ∙ back ∙ ap (λ (k : ℕ). read_into k (kept_in Plain r) o') (sym m),
      decode-encode (kept_in Plain r) (subst Formed (plain-said r g w.sayable c d.hands single)
          (read_done (text_in Plain r) o' (plain-bytes r g w.sayable c d.hands) (length (text_in Plain r)) (length (encode (kept_in Plain r))) (ap (λ (x : Outcome). x.answer) back)).1),
    )

once_edited : {b c : List ℕ} → OnceRead b → EditsOf b c → OnceRead c
once_edited h none = h
once_edited h (after es e) = then (once_edited h es) e

pub edits_read_back : EditsReadBack
edits_read_back b c h f es = reads_back c (once_edited h es) (colors_stay b c (once_sayable h).bytes es f)

-- ---- where nothing is lost                                                                           (02, xi)

-- with another version a block is as long
version-long : (v : ℕ) (b : List ℕ) → 128 ≤ length b → length (with_version v b) ≡ length b
version-long v b h = omega (arith, length-append (take 2 b) (v ∷ drop 3 b), length-take-le 2 b (omega arith), length-drop 3 b)

-- with its own it is the same
byte_same : (b : List ℕ) → 128 ≤ length b → version_in b ≡ 1 → with_version 1 b ≡ b
byte_same [] n e = absurd (omega arith)
byte_same (x ∷ []) n e = absurd (omega arith)
byte_same (x ∷ y ∷ []) n e = absurd (omega arith)
byte_same (x ∷ y ∷ z ∷ []) n e = absurd (omega arith)
byte_same (x ∷ y ∷ z ∷ w ∷ b) n e = let q : 1 ≡ z = omega arith in ap (λ (i : ℕ). x ∷ y ∷ i ∷ w ∷ b) q

pub one_kept : OneKept
one_kept b s e = byte_same b (sound_says b s).head.0 e

-- a sound block is restored where its record can be said, of which a writing that is done may tell
pub restored : {mode : Mode} → LosesNothing mode → (b : List ℕ) → Bytes b → Sound b → ((n l : ℕ) (x : List ℕ) → Wrote mode (decode b) n l x → Sayable (decode b)) → ColorsFollow (decode b)
    → SingleIn mode (decode b) → Restores mode b
restored {mode} m b bs s says c single o n l e short o' room =
    let d = write_says o n l mode b e in
    let q = d.count in
    let i = sym (to_one b s bs) in
    let k = ap length i ∙ version-long 1 b s.head.0 in
    ap (λ (t : List ℕ). fill_of t o') d.front
    ∙ all_back (decode b) (decode_formed b bs s) (says n l _ d) c d.hands m single (all-later m (decode b) d.starts) (omega arith) o' (omega arith)
    ∙ ap₂ (λ (k j : ℕ). record { answer = Done k j; buffer = encode (as_read (decode b)) ++ drop j o' }) (sym q) k
    ∙ ap (λ (x : List ℕ). record { answer = Done n (length b); buffer = x ++ drop (length b) o' }) i

pub read_restored : ReadRestored
read_restored mode m b c h f es =
    let w = once_sayable (once_edited h es) in
    restored m c w.bytes w.sound (λ _ _ _ _. w.sayable) (colors_stay b c (once_sayable h).bytes es f)
