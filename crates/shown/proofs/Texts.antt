-- The texts of the listing in pieces: how long each is, and that there is room for each piece where there is for the whole.
-- Assumes nothing.
use Prim.Native.Nat.{ℕ, suc, ◌+◌, ◌-◌, ◌≤◌, ◌<◌}
use native.Mathlib.Omega.{arith}
use native.Mathlib.Numerals.{add-one}
use mathlib.Core.Path.{◌≡◌, sym, ap, ◌∙◌}
use mathlib.Core.List.{List, [], ◌∷◌, ◌++◌}
use lib.ListN.{length, length-append}
use borrow.Author.Tests.{le-leb, lt-leb}
use borrow.Rule.Slice.PartMut.{mid_of, put_mid}
use Rattle.lent.specs.Bytes.{Wrote, fitting}
use Rattle.lent.specs.Numbers.{decimal}
use Rattle.lent.proofs.Digits.{digits_five, digits_twenty}
use Rattle.lent.proofs.Writes.{as_text, nothing, written, wrote_all, then}
use Rattle.block.specs.Encode.{concat}
use Rattle.block.specs.Decode.{run, lines_in, start_of, entry_count, parent_of}
use Rattle.block.proofs.Tabling.{run_snoc, concat_snoc}
use Rattle.shown.specs.Listing.{field, fields, last_fields, read_tag, block_tag, refused_tag, space_tag, line_tag, start_tag, moves_tag, parent_tag, read_text, refusal_text, row_text, listed_row, rows_text, listing_text, listing_room, listed}

-- ---- how long the texts are

field-length : (word : List ℕ) (v : ℕ) → length (field word v) ≡ length word + length (decimal v)
field-length word v = length-append word (decimal v)

fields-length : (word : List ℕ) (v : ℕ) (next : List ℕ) (w : ℕ)
    → length (fields word v next w) ≡ length word + length (decimal v) + (length next + length (decimal w))
fields-length word v next w = omega (arith, length-append (field word v) (field next w), field-length word v, field-length next w)

last_length : (word : List ℕ) (v : ℕ) (next : List ℕ) (w : ℕ)
    → length (last_fields word v next w) ≡ length word + length (decimal v) + (length next + length (decimal w)) + 1
last_length word v next w = omega (arith, length-append (fields word v next w) (10 ∷ []), fields-length word v next w)

pub read_length : (taken len : ℕ) → length (read_text taken len) ≡ 13 + length (decimal taken) + length (decimal len)
unfolding read_text
read_length taken len = omega (arith, last_length read_tag taken block_tag len)

-- the room that is asked for before it is written, and what is written
pub read-room : (taken len : ℕ) {n : ℕ} → 13 + length (decimal taken) + length (decimal len) ≤ n → length (last_fields read_tag taken block_tag len) ≤ n
read-room taken len h = omega (arith, last_length read_tag taken block_tag len)

pub read_wrote : (taken len : ℕ) {o o' : List ℕ} {n : ℕ} → Wrote (last_fields read_tag taken block_tag len) o o' n
    → Wrote (fitting (read_text taken len) o) o o' n
unfolding read_text
read_wrote taken len w = written w

-- where there are 53 bytes it fits
pub read_fits : (taken len : ℕ) {o o' : List ℕ} {n : ℕ} → taken < 18446744073709551616 → len < 18446744073709551616 → 53 ≤ length o
    → Wrote (fitting (read_text taken len) o) o o' n → Wrote (read_text taken len) o o' n × (n ≤ 53)
read_fits taken len {o} h g l w =
    let s : length (read_text taken len) ≤ 53 = omega (arith, read_length taken len, digits_twenty taken (omega arith), digits_twenty len (omega arith)) in
    let v = wrote_all {t = read_text taken len} (omega arith) w in
    (v, omega (arith, v.count))

pub refusal_length : (number first second : ℕ)
    → length (refusal_text number first second) ≡ 11 + (length (decimal number) + length (decimal first) + length (decimal second))
unfolding refusal_text
refusal_length number first second =
    omega (arith, length-append (field refused_tag number) (last_fields space_tag first space_tag second), field-length refused_tag number, last_length space_tag first space_tag second)

-- a row of numbers below 65,536 has at most 48 bytes
pub row_room : (k start moves parent n : ℕ) → 48 ≤ n → k < 65536 → start < 65536 → moves < 65536 → parent < 65536
    → length (row_text k start moves parent) ≤ n
unfolding row_text
row_room k start moves parent n h a b c d =
    omega (arith, length-append (fields line_tag k start_tag start) (last_fields moves_tag moves parent_tag parent), fields-length line_tag k start_tag start, last_length moves_tag moves parent_tag parent, digits_five k (omega arith), digits_five start (omega arith), digits_five moves (omega arith), digits_five parent (omega arith))

-- ---- the lines of a block

-- a row is a line's, by what the block says
pub line_is : (b : List ℕ) (k : ℕ) {s m p : ℕ} → s ≡ start_of b k → m ≡ entry_count b k → p ≡ parent_of b k → row_text k s m p ≡ listed_row b k
unfolding listed_row
line_is b k {s} {m} {p} e f g = ap (λ (x : ℕ). row_text k x m p) e ∙ ap (λ (x : ℕ). row_text k (start_of b k) x p) f ∙ ap (row_text k (start_of b k) (entry_count b k)) g

-- line n stands behind the n lines before it
pub lines_more : (b : List ℕ) (n : ℕ) → rows_text b n ++ listed_row b n ≡ rows_text b (suc n)
unfolding rows_text
lines_more b n = sym (ap (λ (ts : List (List ℕ)). concat (λ t. t) ts) (run_snoc (listed_row b) n) ∙ concat_snoc (λ (t : List ℕ). t) (run (listed_row b) 0 n) (listed_row b n))

pub lines_none : (b o : List ℕ) → Wrote (rows_text b 0) o o 0
unfolding rows_text concat run
lines_none b o = nothing o

pub lines_step : (b : List ℕ) (k : ℕ) {o o₁ p : List ℕ} {n m : ℕ} → Wrote (rows_text b k) o o₁ n
    → Wrote (listed_row b k) (mid_of n (length o₁ - n) o₁) p m → Wrote (rows_text b (k + 1)) o (put_mid n (length o₁ - n) o₁ p) (n + m)
lines_step b k w v = as_text (lines_more b k ∙ ap (rows_text b) (sym (add-one k))) (then w v)

-- ---- the listing

pub listed-none : (taken : ℕ) (b o : List ℕ) → length o < listing_room b → Wrote (listed taken b o) o o 0
unfolding listed
listed-none taken b o h = as_text (sym (rw (lt-leb (listing_room b) (length o) h))) (nothing o)

pub listed-all : {o o' : List ℕ} {n : ℕ} (taken : ℕ) (b : List ℕ) → listing_room b ≤ length o
    → Wrote (read_text taken (length b) ++ rows_text b (lines_in b)) o o' n → Wrote (listed taken b o) o o' n
unfolding listed listing_text
listed-all {o} taken b h w = rw (le-leb (listing_room b) (length o) h) w
