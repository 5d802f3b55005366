-- A block with some of its lines left out is shorter by what these take, wherever they stood: of each list that stands in it only a run is left
-- out.
--     cut_short     so one that lines are cut out of is not too long
--     put-adds      and one that a line is put into is longer by what this takes
-- Assumes nothing.
use Prim.Native.Nat.{ℕ, ◌+◌, ◌*◌, ◌≤◌}
use native.Mathlib.Omega.{arith}
use mathlib.Core.Path.{◌≡◌, refl, sym, ap, ap₂, ◌∙◌}
use mathlib.Core.List.{List, [], ◌∷◌, ◌++◌, map, map-append}
use lib.ListN.{length, take, drop, length-append, take-append-drop}
use lib.Seq.{drop-drop}
use Rattle.jkf.specs.Model.{Noted, Line}
use Rattle.jkf.specs.Attaching.{Play, play}
use Rattle.block.specs.Encode.{concat, encode, block_length, header_text, entries_of, comments_of, comment_text}
use Rattle.block.specs.Decode.{version_in, decode}
use Rattle.block.specs.inner.Sounds.{Sound}
use Rattle.block.proofs.Tabling.{concat-append}
use Rattle.block.proofs.Lengths.{block-length}
use Rattle.plays.specs.inner.Entries.{play_entries}
use Rattle.edit.specs.Edit.{plays_in, reparented, lines_with, line_on, lowered, without_lines}
use Rattle.edit.specs.inner.Splicing.{relined}
use Rattle.edit.proofs.Listing.{map-take, map-drop, plays-long, plays-put}
use Rattle.edit.proofs.Assembled.{position-long}
use Rattle.laws.specs.Blocks.{Bytes}
use Rattle.laws.proofs.Encoded.{encode-decode}

-- ---- a list with a run left out

record Fewer {A : Type 0} (few out all : List A) : Type 0 where
  front : List A
  back : List A
  left : few ≡ front ++ back
  whole : all ≡ front ++ (out ++ back)

fewer_length : {A : Type 0} {few out all : List A} → Fewer few out all → length few + length out ≡ length all
fewer_length {out = out} f =
    omega (
      arith,
      ap length f.left,
      ap length f.whole,
      length-append f.front f.back,
      length-append f.front (out ++ f.back),
      length-append out f.back,
    )

-- so are the parts of what it holds
fewer_parts : {A B : Type 0} (part : A → List B) {few out all : List A} → Fewer few out all
    → Fewer (concat part few) (concat part out) (concat part all)
fewer_parts part {out = out} f =
    record {
      front = concat part f.front;
      back = concat part f.back;
      left = ap (concat part) f.left ∙ concat-append part f.front f.back;
      whole =
          ap (concat part) f.whole ∙ concat-append part f.front (out ++ f.back)
          ∙ ap (λ l. concat part f.front ++ l) (concat-append part out f.back);
    }

-- ---- lines without their parents

abbrev bare : Line → Play
bare l = play l.start l.entries

bare_same : (f : ℕ → ℕ) (ls : List Line) → plays_in (map (reparented f) ls) ≡ plays_in ls
bare_same f [] = refl
bare_same f (l ∷ ls) = ap (λ (ps : List Play). bare l ∷ ps) (bare_same f ls)

entries_bare : (ls : List Line) → entries_of ls ≡ play_entries (plays_in ls)
unfolding concat
entries_bare [] = refl
entries_bare (l ∷ ls) = ap (λ (es : List Noted). l.entries ++ es) (entries_bare ls)

plays-cut : (k m : ℕ) (ls : List Line) → plays_in (without_lines k m ls) ≡ take k (plays_in ls) ++ drop (k + m) (plays_in ls)
plays-cut k m ls =
    bare_same (lowered k m) (take k ls ++ drop (k + m) ls) ∙ map-append bare (take k ls) (drop (k + m) ls)
    ∙ ap₂ (λ (a b : List Play). a ++ b) (map-take bare k ls) (map-drop bare (k + m) ls)

fewer_cut : (k m : ℕ) (ls : List Line) → Fewer (plays_in (without_lines k m ls)) (take m (drop k (plays_in ls))) (plays_in ls)
fewer_cut k m ls =
    let ps = plays_in ls in
    record {
      front = take k ps;
      back = drop (k + m) ps;
      left = plays-cut k m ls;
      whole =
          sym (take-append-drop k ps)
          ∙ ap (λ (l : List Play). take k ps ++ l) (sym (take-append-drop m (drop k ps)) ∙ ap (λ (l : List Play). take m (drop k ps) ++ l) (drop-drop m k ps));
    }

fewer_put : (n k : ℕ) (v : Play) (ls : List Line) → Fewer (plays_in ls) (v ∷ []) (plays_in (lines_with n (line_on k v) ls))
fewer_put n k v ls =
    let ps = plays_in ls in
    record { front = take n ps; back = drop n ps; left = sym (take-append-drop n ps); whole = plays-put n k v ls }

-- ---- a block with other lines

-- what lines take in a block: their rows, their entries, their comments and the texts of these
abbrev pub takes : List Play → ℕ
takes ps =
    let es = play_entries ps in
    8 * length ps + 20 * length es + 4 * length (comments_of es) + length (comment_text (comments_of es))

-- the record with its own lines
pub same_record : (b : List ℕ) → relined (version_in b) (decode b) (decode b).lines ≡ decode b
unfolding relined decode
same_record b = refl

-- and so its block
pub block_same : (b : List ℕ) → Sound b → Bytes b → encode (relined (version_in b) (decode b) (decode b).lines) ≡ b
block_same b s u = ap encode (same_record b) ∙ encode-decode b s u

module _ (b : List ℕ) where
  long : (v : ℕ) (ls : List Line) → length (encode (relined v (decode b) ls))
      ≡ block_length (length (decode b).headers) (length (plays_in ls)) (length (play_entries (plays_in ls))) (length (comments_of (play_entries (plays_in ls))))
      (length (header_text (decode b).headers) + length (comment_text (comments_of (play_entries (plays_in ls)))))
  unfolding relined decode
  long v ls =
      let hs = (decode b).headers in
      block-length (relined v (decode b) ls) (position-long b)
      ∙ ap₂ (λ (n : ℕ) (es : List Noted). block_length (length hs) n (length es) (length (comments_of es)) (length (header_text hs) + length (comment_text (comments_of es))))
      (sym (plays-long ls)) (entries_bare ls)

  fewer_long : (v w : ℕ) (few all : List Line) {out : List Play} → Fewer (plays_in few) out (plays_in all)
      → length (encode (relined v (decode b) few)) + takes out ≡ length (encode (relined w (decode b) all))
  fewer_long v w few all lines =
      let entries = fewer_parts (λ (p : Play). p.entries) lines in
      let comments = fewer_parts (λ (e : Noted). e.comments) entries in
      let texts = fewer_parts (λ (c : List ℕ). c) comments in
      omega (arith, long v few, long w all, fewer_length lines, fewer_length entries, fewer_length comments, fewer_length texts)

  -- the version takes nothing
  pub version_adds : (v w : ℕ) (ls : List Line) → length (encode (relined v (decode b) ls)) ≡ length (encode (relined w (decode b) ls))
  version_adds v w ls = long v ls ∙ sym (long w ls)

  pub put_adds : (v n k : ℕ) (x : Play) (ls : List Line)
      → length (encode (relined v (decode b) ls)) + takes (x ∷ []) ≡ length (encode (relined v (decode b) (lines_with n (line_on k x) ls)))
  put_adds v n k x ls = fewer_long v v ls (lines_with n (line_on k x) ls) (fewer_put n k x ls)

  pub cut_short : Sound b → Bytes b → (k m : ℕ) → length (encode (relined (version_in b) (decode b) (without_lines k m (decode b).lines))) ≤ 65535
  cut_short s u k m =
      omega (arith, s.head.1.0, ap length (block_same b s u), fewer_long (version_in b) (version_in b) (without_lines k m (decode b).lines) (decode b).lines (fewer_cut k m (decode b).lines))
