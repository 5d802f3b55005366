-- What was tested and stored, held against what one part more makes of a walk and a buffer.
-- Assumes nothing.
use Rattle.std.specs.Prelude.{Result, Ok, Err}
use Prim.Native.Nat.{ℕ, ◌+◌, ◌-◌, ◌≤◌, ◌<◌}
use native.Mathlib.Omega.{arith}
use mathlib.Core.Path.{◌≡◌, refl, sym, ap, ap₂, ◌∙◌}
use mathlib.Core.List.{List, ◌++◌}
use mathlib.Core.Bool.{Bool, true, false}
use lib.ListN.{length, take, drop, length-drop}
use lib.Seq.{length-take-le, drop-drop}
use lib.Dec.{eqb, leb, ltb}
use borrow.Author.Tests.{leb-true, le-leb, lt-ltb, le-ltb, ltb-true, ltb-false}
use Rattle.lists.specs.Pick.{pick}
use Rattle.lists.proofs.Laws.{pick_both}
use borrow.Rule.Slice.PartMut.{mid_of, put_mid}
use Rattle.lent.specs.Bytes.{Wrote, bytes16, fitting}
use Rattle.lent.specs.Stored.{Stored, put}
use Rattle.lent.proofs.Writes.{wrote_all, wrote_whole}
use Rattle.lent.proofs.Regions.{length-put, put_eq, put-more, stored_all}
use Rattle.jkf.specs.Answers.{Outcome, refuse}
use Rattle.jkf.specs.declared.Answer.{Answer}
use Rattle.jkf.specs.declared.Answer.TheVariants.{BlockTooLong, BufferShort}
use Rattle.jkf.specs.declared.Entry.{Entry}
use Rattle.jkf.specs.declared.Position.{Position}
use Rattle.block.specs.EntryBytes.{entry_bytes}
use Rattle.block.specs.PositionBytes.{position_bytes}
use Rattle.block.specs.Encode.{line_bytes, block_length, header_row, comment_row}
use Rattle.block.proofs.EntriesBack.{entry_length}
use Rattle.block.proofs.Lengths.{head-length}
use Rattle.filling.specs.declared.Sizes.{Sizes}
use Rattle.filling.specs.declared.Walk.{Walk}
use Rattle.filling.specs.Filling.{if_fits, unless_refused, are_small, length_of, begun, opening, head_for, front_put, opened, header, has_header, put_header, put_line, has_comment, put_comment, has_entry, entered, put_entry}
use Rattle.filling.specs.inner.Parts.{on_opening, Opens}

-- ---- how long a block is

pub record SmallSizes (z : Sizes) : Type 0 where
  pub headers : z.headers ≤ 288230376151711743
  pub lines : z.lines ≤ 288230376151711743
  pub entries : z.entries ≤ 288230376151711743
  pub comments : z.comments ≤ 288230376151711743
  pub bytes : z.bytes ≤ 288230376151711743

pub small-sizes : (z : Sizes) → are_small z ≡ true → SmallSizes z
unfolding are_small
small-sizes z e =
    let (a, e₁) = pick_both (leb z.headers 288230376151711743) _ e in
    let (b, e₂) = pick_both (leb z.lines 288230376151711743) _ e₁ in
    let (c, e₃) = pick_both (leb z.entries 288230376151711743) _ e₂ in
    let (d, f) = pick_both (leb z.comments 288230376151711743) _ e₃ in
    record { headers = leb-true _ _ a; lines = leb-true _ _ b; entries = leb-true _ _ c; comments = leb-true _ _ d; bytes = leb-true _ _ f }

pub small_enough : (z : Sizes) → SmallSizes z → are_small z ≡ true
unfolding are_small
small_enough z s =
    rw (le-leb z.headers 288230376151711743 s.headers, le-leb z.lines 288230376151711743 s.lines, le-leb z.entries 288230376151711743 s.entries, le-leb z.comments 288230376151711743 s.comments)
    (le-leb z.bytes 288230376151711743 s.bytes)

module _ (z : Sizes) where
  pub length-past : are_small z ≡ false → 18446744073709551615 ≡ length_of z
  unfolding length_of
  length-past e = rw e

  pub length_is : are_small z ≡ true → block_length z.headers z.lines z.entries z.comments z.bytes ≡ length_of z
  unfolding length_of
  length_is e = rw e

  -- a block that is not too long has sizes that can be added up
  pub short-small : length_of z ≤ 65535 → are_small z ≡ true
  short-small h = go (are_small z) refl
    where
      go : (t : Bool) → are_small z ≡ t → are_small z ≡ true
      go true e = e
      go false e = absurd (omega (arith, length-past e, h))

  -- its length is where its texts begin, and these
  pub begun-length : are_small z ≡ true → (begun z).text + z.bytes ≡ length_of z
  unfolding begun
  begun-length h = length_is h

  -- a block that is not too long is as long as its sizes say
  pub length-short : length_of z ≤ 65535 → length_of z ≡ block_length z.headers z.lines z.entries z.comments z.bytes
  length-short h = go (are_small z) refl
    where
      go : (t : Bool) → are_small z ≡ t → length_of z ≡ block_length z.headers z.lines z.entries z.comments z.bytes
      go true e = sym (length_is e)
      go false e = absurd (omega (arith, length-past e, h))

-- ---- its front

module _ (version : ℕ) (z : Sizes) (p : Position) (o : List ℕ) where
  pub front_done : {o₁ o₂ : List ℕ} {q r : ℕ} → length_of z ≤ 65535 → length_of z ≤ length o
      → Stored (fitting (head_for version z) o) o o₁ 0 q
      → Stored (fitting (position_bytes p) (drop 28 o₁)) o₁ o₂ 28 r → o₂ ≡ front_put version z p o
  unfolding front_put
  front_done {o₁} {o₂} {q} {r} h k x y =
      let long = head-length version (length_of z) z.headers z.lines z.entries z.comments in
      let x₁ = stored_all {t = head_for version z} (omega (arith, long, length-short z h, h, k)) x in
      y.bytes ∙ ap (λ (u : List ℕ). put u 28 (fitting (position_bytes p) (drop 28 u))) x₁.bytes

-- ---- whether it is admitted

module _ (z : Sizes) (room : ℕ) where
  pub admit_long : 65535 < length_of z → Err (BlockTooLong (length_of z)) ≡ opening z room
  unfolding opening
  admit_long h = rw (lt-ltb 65535 (length_of z) h)

  module _ (h : length_of z ≤ 65535) where
    pub admit_short : room < length_of z → Err (BufferShort (length_of z)) ≡ opening z room
    unfolding opening
    admit_short k = rw (le-ltb 65535 (length_of z) h, lt-ltb room (length_of z) k)

    pub admit_done : {w : Walk} → length_of z ≤ room → w ≡ begun z → Ok (w, length_of z) ≡ opening z room
    unfolding opening
    admit_done k e = rw (le-ltb 65535 (length_of z) h, le-ltb room (length_of z) k) (ap (λ (v : Walk). Ok (v, length_of z)) e)

-- a beginning and a refusal told apart, and what each holds
abbrev Opening : Type 0
Opening = Result (Walk × ℕ) Answer

which_of : Opening → ℕ
which_of r = on_opening r (λ w n. 0) (λ a. 1)

pub not_begun : {A : Type 0} {w : Walk} {n : ℕ} {a : Answer} → ◌≡◌ {A = Opening} (Ok (w, n)) (Err a) → A
unfolding which_of
not_begun e = let z : ◌≡◌ {A = ℕ} 0 1 = ap which_of e in absurd (omega arith)

pub begun-walk : {w v : Walk} {n m : ℕ} → ◌≡◌ {A = Opening} (Ok (w, n)) (Ok (v, m)) → w ≡ v
begun-walk {w} e = ap (λ (r : Opening). on_opening r (λ v m. v) (λ a. w)) e

pub begun-total : {w v : Walk} {n m : ℕ} → ◌≡◌ {A = Opening} (Ok (w, n)) (Ok (v, m)) → n ≡ m
begun-total e = ap (λ (r : Opening). on_opening r (λ v m. m) (λ a. 0)) e

pub refused-answer : {a b : Answer} → ◌≡◌ {A = Opening} (Err a) (Err b) → a ≡ b
refused-answer {a} e = ap (λ (r : Opening). on_opening r (λ v m. a) (λ b. b)) e

pub record IsBegun (z : Sizes) (k : ℕ) (w : Walk) (n : ℕ) : Type 0 where
  pub walk : w ≡ begun z
  pub total : n ≡ length_of z
  pub short : length_of z ≤ 65535
  pub room : length_of z ≤ k

-- a block is begun only where it fits, and refused only where it does not
module _ (z : Sizes) (room : ℕ) where
  pub is_begun : {w : Walk} {n : ℕ} → Ok (w, n) ≡ opening z room → IsBegun z room w n
  is_begun {w} {n} e = go (ltb 65535 (length_of z)) refl
    where
      fit : length_of z ≤ 65535 → (t : Bool) → ltb room (length_of z) ≡ t → IsBegun z room w n
      fit h true k = not_begun (e ∙ sym (admit_short z room h (ltb-true room (length_of z) k)))
      fit h false k =
          let r = ltb-false room (length_of z) k in
          let q = e ∙ sym (admit_done z room h {w = begun z} r refl) in
          record { walk = begun-walk q; total = begun-total q; short = h; room = r }

      go : (t : Bool) → ltb 65535 (length_of z) ≡ t → IsBegun z room w n
      go true k = not_begun (e ∙ sym (admit_long z room (ltb-true 65535 (length_of z) k)))
      go false k = fit (ltb-false 65535 (length_of z) k) (ltb room (length_of z)) refl

  pub is_refused : {A : Type 0} {a : Answer} → Err a ≡ opening z room → (f : Answer → A) (r : A) → f a ≡ if_fits (length_of z) room f r
  is_refused {A} {a} e f r = go (ltb 65535 (length_of z)) refl
    where
      fit : length_of z ≤ 65535 → (t : Bool) → ltb room (length_of z) ≡ t → f a ≡ if_fits (length_of z) room f r
      fit h true k = rw (le-ltb 65535 (length_of z) h, k) (ap f (refused-answer (e ∙ sym (admit_short z room h (ltb-true room (length_of z) k)))))
      fit h false k = not_begun (admit_done z room h {w = begun z} (ltb-false room (length_of z) k) refl ∙ sym e)

      go : (t : Bool) → ltb 65535 (length_of z) ≡ t → f a ≡ if_fits (length_of z) room f r
      go true k = rw k (ap f (refused-answer (e ∙ sym (admit_long z room (ltb-true 65535 (length_of z) k)))))
      go false k = fit (ltb-false 65535 (length_of z) k) (ltb room (length_of z)) refl

-- what fits comes out
pub fits : {A : Type 0} {n room : ℕ} (f : Answer → A) (r : A) → n ≤ 65535 → n ≤ room → if_fits n room f r ≡ r
fits {A} {n} {room} f r h k = rw (le-ltb 65535 n h, le-ltb room n k)

module _ (version : ℕ) (z : Sizes) (p : Position) (o : List ℕ) where
  pub left_shut : {a : Answer} → Err a ≡ opening z (length o) → o ≡ opened version z p o
  unfolding opened
  left_shut e = is_refused z (length o) e (λ a. o) (front_put version z p o)

  pub front-opened : length_of z ≤ 65535 → length_of z ≤ length o → front_put version z p o ≡ opened version z p o
  unfolding opened
  front-opened h k = rw (le-ltb 65535 (length_of z) h, le-ltb (length o) (length_of z) k)

  pub opens : {w : Walk} {n : ℕ} {o₁ : List ℕ} → Ok (w, n) ≡ opening z (length o) → o₁ ≡ opened version z p o → Opens version z p w n o o₁
  opens e f =
      let q = is_begun z (length o) e in
      record { walk = q.walk; total = q.total; short = q.short; room = q.room; front = f ∙ sym (front-opened q.short q.room) }

  pub refuses : {a : Answer} {o₁ : List ℕ} → Err a ≡ opening z (length o) → o₁ ≡ opened version z p o → (r : Outcome)
      → (a ≡ (unless_refused (length_of z) o r).answer) × (o₁ ≡ (unless_refused (length_of z) o r).buffer)
  refuses e f r =
      let q = is_refused z (length o) e (λ a. refuse a o) r in
      (ap (λ (t : Outcome). t.answer) q, f ∙ (sym (left_shut e) ∙ ap (λ (t : Outcome). t.buffer) q))

-- a block that fits is not refused
pub unrefused : (n : ℕ) (o : List ℕ) (r : Outcome) → n ≤ 65535 → n ≤ length o → unless_refused n o r ≡ r
unrefused n o r h k = fits (λ a. refuse a o) r h k

-- ---- a text in a part that is just as long

pub part_put : (t o : List ℕ) (p n : ℕ) {y : List ℕ} {m : ℕ} → n ≡ length t → p + n ≤ length o → Wrote (fitting t (mid_of p n o)) (mid_of p n o) y m
    → put_mid p n o y ≡ put o p t
part_put t o p n {y} {m} e h w =
    let l : length (mid_of p n o) ≡ n = length-take-le n (drop p o) (simp length-drop (omega arith)) in
    let v = wrote_all {t = t} (omega (arith, l, e)) w in
    let z : y ≡ t = wrote_whole v (l ∙ e) in
    rw z (ap (λ (u : List ℕ). take p o ++ (t ++ u)) (drop-drop n p o ∙ ap (λ (k : ℕ). drop (p + k) o) e) ∙ sym (put_eq o p t (omega (arith, e, h))))

-- ---- a comment

pub record CommentRoom (n : ℕ) (w : Walk) (room : ℕ) : Type 0 where
  pub row : w.comments + 4 ≤ room
  pub text : w.text + n ≤ room
  pub noted : w.noted + 1 ≤ 18446744073709551615
  pub bytes : w.bytes + n ≤ 18446744073709551615

pub comment-room : (n : ℕ) (w : Walk) (room : ℕ) → has_comment n w room ≡ true → CommentRoom n w room
unfolding has_comment
comment-room n w room e =
    let (a, e₁) = pick_both (leb (w.comments + 4) room) _ e in
    let (b, e₂) = pick_both (leb (w.text + n) room) _ e₁ in
    let (c, d) = pick_both (leb (w.noted + 1) 18446744073709551615) _ e₂ in
    record { row = leb-true _ _ a; text = leb-true _ _ b; noted = leb-true _ _ c; bytes = leb-true _ _ d }

module _ (c : List ℕ) (w : Walk) (o : List ℕ) where
  pub comment-none : has_comment (length c) w (length o) ≡ false → (w ≡ (put_comment c w o).walk) × (o ≡ (put_comment c w o).buffer)
  unfolding put_comment
  comment-none e = rw e (refl, refl)

  pub comment_done : {o₁ y : List ℕ} {p n m : ℕ} → has_comment (length c) w (length o) ≡ true
      → Stored (fitting (bytes16 w.bytes ++ bytes16 (length c)) (drop w.comments o)) o o₁ w.comments p
      → Wrote (fitting c (mid_of w.text n o₁)) (mid_of w.text n o₁) y m → n ≡ length c
      → (◌≡◌ {A = Walk}
      (record {
        headers = w.headers;
        lines = w.lines;
        moves = w.moves;
        comments = p;
        text = w.text + length c;
        entries = w.entries;
        noted = w.noted + 1;
        bytes = w.bytes + length c;
      })
      (put_comment c w o).walk) × (put_mid w.text n o₁ y ≡ (put_comment c w o).buffer)
  unfolding put_comment
  comment_done {o₁} {y} {p} {n} {m} e x z q =
      let k = comment-room (length c) w (length o) e in
      let x₁ = stored_all {t = comment_row w.bytes c} k.row x in
      let l : length o₁ ≡ length o = ap length x₁.bytes ∙ length-put o w.comments (comment_row w.bytes c) in
      rw (e, x₁.end) (refl, part_put c o₁ w.text n q (omega (arith, k.text, l, q)) z ∙ ap (λ (u : List ℕ). put u w.text c) x₁.bytes)

-- ---- an entry

pub record EntryRoom (w : Walk) (room : ℕ) : Type 0 where
  pub row : w.moves + 20 ≤ room
  pub number : w.entries + 1 ≤ 18446744073709551615

pub entry-room : (w : Walk) (room : ℕ) → has_entry w room ≡ true → EntryRoom w room
unfolding has_entry
entry-room w room e = let (a, b) = pick_both (leb (w.moves + 20) room) _ e in record { row = leb-true _ _ a; number = leb-true _ _ b }

module _ (e : Entry) (first : ℕ) (v : Walk) (o : List ℕ) where
  pub entry-none : has_entry v (length o) ≡ false → (v ≡ (put_entry e first v o).walk) × (o ≡ (put_entry e first v o).buffer)
  unfolding put_entry
  entry-none n = rw n (refl, refl)

  pub entry_done : {o₁ : List ℕ} {p m count : ℕ} {r : Walk} → has_entry v (length o) ≡ true → count ≡ v.noted - first → m ≡ pick (eqb count 0) 0 first
      → Stored (fitting (entry_bytes e m count) (drop v.moves o)) o o₁ v.moves p → r ≡ entered v p
      → (r ≡ (put_entry e first v o).walk) × (o₁ ≡ (put_entry e first v o).buffer)
  unfolding put_entry
  entry_done {o₁} {p} {m} {count} h c q x y =
      let n = entry_length e m count in
      let x₁ = stored_all {t = entry_bytes e m count} (omega (arith, n, (entry-room v (length o) h).row)) x in
      let z : p ≡ v.moves + 20 = omega (arith, x₁.end, n) in
      rw (h, ← c, ← q) (y ∙ ap (entered v) z, x₁.bytes)

-- ---- a line's row

module _ (start parent first : ℕ) (v : Walk) (o : List ℕ) where
  pub line-none : leb (v.lines + 8) (length o) ≡ false → (v ≡ (put_line start parent first v o).walk) × (o ≡ (put_line start parent first v o).buffer)
  unfolding put_line
  line-none n = rw n (refl, refl)

  pub line_done : {o₁ : List ℕ} {p count : ℕ} → leb (v.lines + 8) (length o) ≡ true → count ≡ v.entries - first
      → Stored (fitting (line_bytes start first count parent) (drop v.lines o)) o o₁ v.lines p
      → (◌≡◌ {A = Walk}
      (record {
        headers = v.headers;
        lines = p;
        moves = v.moves;
        comments = v.comments;
        text = v.text;
        entries = v.entries;
        noted = v.noted;
        bytes = v.bytes;
      })
      (put_line start parent first v o).walk) × (o₁ ≡ (put_line start parent first v o).buffer)
  unfolding put_line
  line_done {o₁} {p} {count} a n x =
      let x₁ = stored_all {t = line_bytes start first count parent} (leb-true (v.lines + 8) (length o) a) x in
      rw (a, ← n, x₁.end) (refl, x₁.bytes)

-- ---- a header entry

pub record HeaderRoom (key value : ℕ) (w : Walk) (room : ℕ) : Type 0 where
  pub row : w.headers + 8 ≤ room
  pub text : w.text + key + value ≤ room
  pub bytes : w.bytes + key + value ≤ 18446744073709551615

pub header-room : (key value : ℕ) (w : Walk) (room : ℕ) → has_header key value w room ≡ true → HeaderRoom key value w room
unfolding has_header
header-room key value w room e =
    let (a, e₁) = pick_both (leb (w.headers + 8) room) _ e in
    let (b, e₂) = pick_both (leb (w.text + key) room) _ e₁ in
    let (c, e₃) = pick_both (leb (w.text + key + value) room) _ e₂ in
    let (d, f) = pick_both (leb (w.bytes + key) 18446744073709551615) _ e₃ in
    record { row = leb-true _ _ a; text = leb-true _ _ c; bytes = leb-true _ _ f }

module _ (key value : List ℕ) (w : Walk) (o : List ℕ) where
  pub header-none : has_header (length key) (length value) w (length o) ≡ false
      → (w ≡ (put_header (header key value) w o).walk) × (o ≡ (put_header (header key value) w o).buffer)
  unfolding put_header
  header-none e = rw e (refl, refl)

  pub header_done : {o₁ o₂ o₃ : List ℕ} {p q r : ℕ} → has_header (length key) (length value) w (length o) ≡ true
      → Stored (fitting (header_row w.bytes (header key value)) (drop w.headers o)) o o₁ w.headers p
      → Stored (fitting key (drop w.text o₁)) o₁ o₂ w.text q
      → Stored (fitting value (drop q o₂)) o₂ o₃ q r
      → (◌≡◌ {A = Walk}
      (record {
        headers = p;
        lines = w.lines;
        moves = w.moves;
        comments = w.comments;
        text = r;
        entries = w.entries;
        noted = w.noted;
        bytes = w.bytes + length key + length value;
      })
      (put_header (header key value) w o).walk) × (o₃ ≡ (put_header (header key value) w o).buffer)
  unfolding put_header
  header_done {o₁} {o₂} {o₃} {p} {q} {r} e x y z =
      let k = header-room (length key) (length value) w (length o) e in
      let row = header_row w.bytes (header key value) in
      let x₁ = stored_all {t = row} k.row x in
      let l₁ : length o₁ ≡ length o = ap length x₁.bytes ∙ length-put o w.headers row in
      let y₁ = stored_all {t = key} (omega (arith, k.text, l₁)) y in
      let l₂ : length o₂ ≡ length o₁ = ap length y₁.bytes ∙ length-put o₁ w.text key in
      let z₁ = stored_all {t = value} (omega (arith, k.text, l₁, l₂, y₁.end)) z in
      let t : r ≡ w.text + length key + length value = z₁.end ∙ ap (λ (n : ℕ). n + length value) y₁.end in
      rw (e, x₁.end, t) (
        refl,
        z₁.bytes ∙ ap₂ (λ (u : List ℕ) (m : ℕ). put u m value) y₁.bytes y₁.end ∙ put-more o₁ key value w.text
            ∙ ap (λ (u : List ℕ). put u w.text (key ++ value)) x₁.bytes,
      )
