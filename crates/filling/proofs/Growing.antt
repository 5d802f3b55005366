-- One part more, and several: where there is room for them they are filled in, each at its end.
-- Assumes nothing.
use Prim.Native.Nat.{ℕ, ◌+◌, ◌-◌}
use native.Mathlib.Omega.{arith}
use mathlib.Core.Path.{◌≡◌, refl, sym, ap, ap₂, ◌∙◌, subst}
use mathlib.Core.List.{List, [], ◌∷◌, ◌++◌, append-nil}
use mathlib.Core.Bool.{true}
use lib.ListN.{length, length-append}
use lib.Dec.{eqb, leb}
use borrow.Author.Tests.{le-leb}
use Rattle.lists.specs.Pick.{pick}
use Rattle.lists.proofs.Laws.{by_pick}
use Rattle.lent.specs.Stored.{Stored, put}
use Rattle.lent.specs.inner.Regions.{Room, Filled}
use Rattle.lent.proofs.Regions.{put-none, length-put, room-front, room_at, then_fill, then-room, as_texts, filled_under, filled-first}
use Rattle.jkf.specs.Model.{Header, Noted, Line}
use Rattle.jkf.specs.declared.Entry.{Entry}
use Rattle.block.specs.EntryBytes.{entry_bytes}
use Rattle.block.specs.Encode.{table, concat, header_row, header_text, line_bytes, line_row, entry_row, comment_row, entries_of, comments_of, comment_text}
use Rattle.block.proofs.RowPlaces.{entry-wide}
use Rattle.filling.specs.declared.Walk.{Walk}
use Rattle.filling.specs.Filling.{Grown, grown, has_header, put_header, put_line, has_comment, put_comment, has_entry, put_entry, put_all, put_comments, put_noted, put_entries}
use Rattle.filling.specs.inner.Parts.{put_headers}
use Rattle.filling.specs.inner.Parts.{header_texts, comment_texts, entry_texts, line_texts, header_ends, comment_ends, entry_ends, line_ends, HeadersFit, CommentsFit, EntriesFit, LineFits, Headed, Commented, Entered, Lined}
use Rattle.filling.proofs.Texts.{headers-append, comments-append, entries-append, keyed, one-header, texted, one-comment, commented, written}

-- ---- the buffer keeps its length

pub all-size : {X : Type 0} (one : X → Walk → List ℕ → Grown) → ((x : X) (w : Walk) (o : List ℕ) → length (one x w o).buffer ≡ length o)
    → (xs : List X) (w : Walk) (o : List ℕ) → length (put_all one xs w o).buffer ≡ length o
unfolding put_all
all-size one k [] w o = refl
all-size one k (x ∷ xs) w o = all-size one k xs (one x w o).walk (one x w o).buffer ∙ k x w o

pub header-size : (h : Header) (w : Walk) (o : List ℕ) → length (put_header h w o).buffer ≡ length o
unfolding put_header
header-size h w o =
    by_pick (λ (g : Grown). length g.buffer ≡ length o) (has_header (length h.key) (length h.value) w (length o)) _ (grown w o)
    (λ _. length-put _ w.text (h.key ++ h.value) ∙ length-put o w.headers (header_row w.bytes h)) (λ _. refl)

pub comment-size : (c : List ℕ) (w : Walk) (o : List ℕ) → length (put_comment c w o).buffer ≡ length o
unfolding put_comment
comment-size c w o =
    by_pick (λ (g : Grown). length g.buffer ≡ length o) (has_comment (length c) w (length o)) _ (grown w o)
    (λ _. length-put _ w.text c ∙ length-put o w.comments (comment_row w.bytes c)) (λ _. refl)

pub entry-size : (e : Entry) (first : ℕ) (v : Walk) (o : List ℕ) → length (put_entry e first v o).buffer ≡ length o
unfolding put_entry
entry-size e first v o =
    let n = v.noted - first in
    by_pick (λ (g : Grown). length g.buffer ≡ length o) (has_entry v (length o)) _ (grown v o)
    (λ _. length-put o v.moves (entry_bytes e (pick (eqb n 0) 0 first) n)) (λ _. refl)

pub noted-size : (e : Noted) (w : Walk) (o : List ℕ) → length (put_noted e w o).buffer ≡ length o
unfolding put_noted
noted-size e w o =
    let g = put_comments e.comments w o in
    entry-size e.what w.noted g.walk g.buffer ∙ all-size put_comment comment-size e.comments w o

pub line-size : (start parent first : ℕ) (v : Walk) (o : List ℕ) → length (put_line start parent first v o).buffer ≡ length o
unfolding put_line
line-size start parent first v o =
    by_pick (λ (g : Grown). length g.buffer ≡ length o) (leb (v.lines + 8) (length o)) _ (grown v o)
    (λ _. length-put o v.lines (line_bytes start first (v.entries - first) parent)) (λ _. refl)

-- some, and then the others
pub all_then : {X : Type 0} (one : X → Walk → List ℕ → Grown) (xs ys : List X) (w : Walk) (o : List ℕ)
    → put_all one (xs ++ ys) w o ≡ put_all one ys (put_all one xs w o).walk (put_all one xs w o).buffer
unfolding put_all
all_then one [] ys w o = refl
all_then one (x ∷ xs) ys w o = all_then one xs ys (one x w o).walk (one x w o).buffer

-- ---- a loop that puts them one by one: what is still to do from here comes to what was to do at first

pub record Doing {X : Type 0} (one : X → Walk → List ℕ → Grown) (xs₀ xs : List X) (w₀ w : Walk) (o₀ o : List ℕ) : Type 0 where
  pub same : put_all one xs w o ≡ put_all one xs₀ w₀ o₀
  pub long : length o ≡ length o₀

pub doing_start : {X : Type 0} {one : X → Walk → List ℕ → Grown} {xs : List X} {w : Walk} {o : List ℕ} → Doing one xs xs w w o o
doing_start = record { same = refl; long = refl }

module _ {X : Type 0} {one : X → Walk → List ℕ → Grown} {xs₀ xs : List X} {w₀ w : Walk} {o₀ o : List ℕ} where
  pub doing_step : (x : X) {w' : Walk} {o' : List ℕ} → length (one x w o).buffer ≡ length o → Doing one xs₀ (x ∷ xs) w₀ w o₀ o
      → w' ≡ (one x w o).walk → o' ≡ (one x w o).buffer → Doing one xs₀ xs w₀ w' o₀ o'
  unfolding put_all
  doing_step x k d p q = record { same = ap₂ (put_all one xs) p q ∙ d.same; long = ap length q ∙ k ∙ d.long }

  pub doing_as : {ys : List X} → ys ≡ xs → Doing one xs₀ ys w₀ w o₀ o → Doing one xs₀ xs w₀ w o₀ o
  doing_as e d = subst (λ (zs : List X). Doing one xs₀ zs w₀ w o₀ o) e d

pub doing_done : {X : Type 0} {one : X → Walk → List ℕ → Grown} {xs₀ : List X} {w₀ w : Walk} {o₀ o : List ℕ} → Doing one xs₀ [] w₀ w o₀ o
    → (w ≡ (put_all one xs₀ w₀ o₀).walk) × (o ≡ (put_all one xs₀ w₀ o₀).buffer)
unfolding put_all
doing_done d = (ap (λ (g : Grown). g.walk) d.same, ap (λ (g : Grown). g.buffer) d.same)

-- ---- one comment

comment_has : {c : List ℕ} {w : Walk} {o : List ℕ} → CommentsFit (c ∷ []) w o → has_comment (length c) w (length o) ≡ true
unfolding has_comment table
comment_has {c} {w} {o} f =
    let n = one-comment c in
    rw (le-leb (w.comments + 4) (length o) (omega (arith, f.room.0, f.room.1.0)), le-leb (w.text + length c) (length o) (omega (arith, f.room.1.0, n)), le-leb (w.noted + 1) 18446744073709551615 (omega (arith, f.noted)))
    (le-leb (w.bytes + length c) 18446744073709551615 (omega (arith, f.bytes, n)))

comment-put : {c : List ℕ} {w : Walk} {o : List ℕ} → CommentsFit (c ∷ []) w o → Commented (c ∷ []) w (put_comment c w o).walk o (put_comment c w o).buffer
unfolding put_comment table concat
comment-put {c} {w} {o} f =
    let one : c ++ [] ≡ c = append-nil c in
    rw (comment_has f)
    (record {
      filled =
          record {
            bytes = ap (λ (u : List ℕ). put (put o w.comments (comment_row w.bytes c)) w.text u) (sym one);
            ends = (omega arith, (omega (arith, ap length one), tt));
          };
      lines = refl;
      moves = refl;
      entries = refl;
      noted = refl;
      bytes = omega (arith, ap length one);
    })

-- ---- comments

comments-first : (c : List ℕ) (cs : List (List ℕ)) {w : Walk} {o : List ℕ} → CommentsFit (c ∷ cs) w o → CommentsFit (c ∷ []) w o
comments-first c cs {w} {o} f =
    let n = texted (c ∷ []) cs in
    record {
      noted = omega (arith, f.noted);
      bytes = omega (arith, f.bytes, n);
      room =
          room-front (length o) (comment_ends w) (comment_texts w.bytes (c ∷ [])) (comment_texts (w.bytes + length (comment_text (c ∷ []))) cs)
          (subst (Room (length o) (comment_ends w)) (comments-append w.bytes (c ∷ []) cs) f.room);
    }

comments_rest : (c : List ℕ) (cs : List (List ℕ)) {w v : Walk} {o o₁ : List ℕ} → CommentsFit (c ∷ cs) w o → Commented (c ∷ []) w v o o₁ → CommentsFit cs v o₁
comments_rest c cs {w} {v} {o} {o₁} f d =
    let n = texted (c ∷ []) cs in
    record {
      noted = omega (arith, f.noted, d.noted);
      bytes = omega (arith, f.bytes, d.bytes, n);
      room =
          subst (λ (k : ℕ). Room (length o₁) (comment_ends v) (comment_texts k cs)) (sym d.bytes)
          (then-room (comment_texts (w.bytes + length (comment_text (c ∷ []))) cs) (subst (Room (length o) (comment_ends w)) (comments-append w.bytes (c ∷ []) cs) f.room) d.filled);
    }

comments-then : (c : List ℕ) (cs : List (List ℕ)) {w v r : Walk} {o o₁ o₂ : List ℕ} → CommentsFit (c ∷ cs) w o → Commented (c ∷ []) w v o o₁ → Commented cs v r o₁ o₂
    → Commented (c ∷ cs) w r o o₂
comments-then c cs {w} {v} {r} {o} {o₁} {o₂} f d g =
    let e = comments-append w.bytes (c ∷ []) cs in
    let n = texted (c ∷ []) cs in
    record {
      filled =
          as_texts (sym e) (then_fill (subst (Room (length o) (comment_ends w)) e f.room) d.filled
          (subst (λ (k : ℕ). Filled (comment_texts k cs) o₁ o₂ (comment_ends v) (comment_ends r)) d.bytes g.filled));
      lines = g.lines ∙ d.lines;
      moves = g.moves ∙ d.moves;
      entries = g.entries ∙ d.entries;
      noted = omega (arith, g.noted, d.noted);
      bytes = omega (arith, g.bytes, d.bytes, n);
    }

pub comments-put : (cs : List (List ℕ)) {w : Walk} {o : List ℕ} → CommentsFit cs w o → Commented cs w (put_comments cs w o).walk o (put_comments cs w o).buffer
unfolding put_all table concat
comments-put [] {w} {o} f =
    record {
      filled = record { bytes = simp put-none; ends = (omega arith, (omega arith, tt)) };
      lines = refl;
      moves = refl;
      entries = refl;
      noted = omega arith;
      bytes = omega arith;
    }
comments-put (c ∷ cs) {w} {o} f =
    let d = comment-put (comments-first c cs f) in
    comments-then c cs f d (comments-put cs (comments_rest c cs f d))

-- ---- an entry with its comments

module _ (x : Noted) where
  own_comments : comments_of (x ∷ []) ≡ x.comments
  unfolding concat
  own_comments = append-nil x.comments

  own_texts : (n t : ℕ) → entry_texts n t (x ∷ []) ≡ entry_row n x ∷ comment_texts t x.comments
  unfolding table
  own_texts n t = ap₂ ◌∷◌ (append-nil (entry_row n x)) (ap (comment_texts t) own_comments)

  module _ {w : Walk} {o : List ℕ} (f : EntriesFit (x ∷ []) w o) where
    room_is : Room (length o) (entry_ends w) (entry_row w.noted x ∷ comment_texts w.bytes x.comments)
    room_is = subst (Room (length o) (entry_ends w)) (own_texts w.noted w.bytes) f.room

    own_fit : CommentsFit x.comments w o
    own_fit =
        record {
          noted = omega (arith, f.noted, ap length own_comments);
          bytes = omega (arith, f.bytes, ap (λ (l : List (List ℕ)). length (comment_text l)) own_comments);
          room = room_is.1;
        }

    abbrev v : Walk
    v = (put_comments x.comments w o).walk

    abbrev o₁ : List ℕ
    o₁ = (put_comments x.comments w o).buffer

    own_put : Commented x.comments w v o o₁
    own_put = comments-put x.comments own_fit

    row_room : Room (length o₁) (entry_ends v) (entry_row w.noted x ∷ [])
    row_room = then-room (entry_row w.noted x ∷ []) room_is (filled_under w.moves v.moves own_put.moves own_put.filled)

    entry_has : has_entry v (length o₁) ≡ true
    unfolding has_entry
    entry_has =
        let n = entry-wide w.noted x in
        let k = room_at (length o₁) (entry_ends v) (entry_row w.noted x ∷ []) 0 row_room (omega arith) in
        rw (le-leb (v.moves + 20) (length o₁) (omega (arith, n, k))) (le-leb (v.entries + 1) 18446744073709551615 (omega (arith, own_put.entries, f.entries)))

    pub noted-put : Entered (x ∷ []) w (put_noted x w o).walk o (put_noted x w o).buffer
    unfolding put_noted put_entry
    noted-put =
        let d = own_put in
        let n : v.noted - w.noted ≡ length x.comments = omega (arith, d.noted) in
        let wide = entry-wide w.noted x in
        let s : Stored (entry_row w.noted x) o₁ (put o₁ v.moves (entry_row w.noted x)) v.moves (v.moves + 20) =
        record { bytes = refl; end = omega (arith, wide) } in
        rw (entry_has, n)
        (record {
          filled =
              as_texts (sym (own_texts w.noted w.bytes))
              (then_fill room_is (filled_under w.moves v.moves d.moves d.filled) (filled-first (comment_ends v) s));
          lines = d.lines;
          entries = omega (arith, d.entries);
          noted = omega (arith, d.noted, ap length own_comments);
          bytes = omega (arith, d.bytes, ap (λ (l : List (List ℕ)). length (comment_text l)) own_comments);
        })

-- ---- put by hand: the comments, and then the entry, whose bytes say how many they are

pub noted_done : (e : Entry) (cs : List (List ℕ)) (w : Walk) (o : List ℕ) {v r : Walk} {o₁ o₂ : List ℕ} {at end : ℕ} → v ≡ (put_comments cs w o).walk → o₁ ≡ (put_comments cs w o).buffer
    → r ≡ (put_entry e w.noted v o₁).walk → o₂ ≡ (put_entry e w.noted v o₁).buffer
    → at ≡ end → (r ≡ (put_noted (record { what = e; comments = cs }) w o).walk) × ((o₂ ≡ (put_noted (record { what = e; comments = cs }) w o).buffer) × (at ≡ end))
unfolding put_noted
noted_done e cs w o {v} {r} {o₁} {o₂} a b c d f = (c ∙ rw (a, b), (d ∙ rw (a, b), f))

-- ---- entries

module _ (xs ys : List Noted) where
  pub entries-front : {w : Walk} {o : List ℕ} → EntriesFit (xs ++ ys) w o → EntriesFit xs w o
  entries-front {w} {o} f =
      record {
        entries = omega (arith, f.entries, length-append xs ys);
        noted = omega (arith, f.noted, commented xs ys);
        bytes = omega (arith, f.bytes, written xs ys);
        room =
            room-front (length o) (entry_ends w) (entry_texts w.noted w.bytes xs)
            (entry_texts (w.noted + length (comments_of xs)) (w.bytes + length (comment_text (comments_of xs))) ys)
            (subst (Room (length o) (entry_ends w)) (entries-append w.noted w.bytes xs ys) f.room);
      }

  module _ {w v : Walk} {o o₁ : List ℕ} (f : EntriesFit (xs ++ ys) w o) (d : Entered xs w v o o₁) where
    pub entries_rest : EntriesFit ys v o₁
    entries_rest =
        let n = w.noted + length (comments_of xs) in
        let t = w.bytes + length (comment_text (comments_of xs)) in
        record {
          entries = omega (arith, f.entries, d.entries, length-append xs ys);
          noted = omega (arith, f.noted, d.noted, commented xs ys);
          bytes = omega (arith, f.bytes, d.bytes, written xs ys);
          room =
              subst (λ (k : ℕ). Room (length o₁) (entry_ends v) (entry_texts k v.bytes ys)) (sym d.noted)
              (subst (λ (k : ℕ). Room (length o₁) (entry_ends v) (entry_texts n k ys)) (sym d.bytes)
              (then-room (entry_texts n t ys) (subst (Room (length o) (entry_ends w)) (entries-append w.noted w.bytes xs ys) f.room) d.filled));
        }

    pub entries-then : {r : Walk} {o₂ : List ℕ} → Entered ys v r o₁ o₂ → Entered (xs ++ ys) w r o o₂
    entries-then {r} {o₂} g =
        let e = entries-append w.noted w.bytes xs ys in
        let t = w.bytes + length (comment_text (comments_of xs)) in
        record {
          filled =
              as_texts (sym e) (then_fill (subst (Room (length o) (entry_ends w)) e f.room) d.filled
              (subst (λ (n : ℕ). Filled (entry_texts n t ys) o₁ o₂ (entry_ends v) (entry_ends r)) d.noted
              (subst (λ (n : ℕ). Filled (entry_texts v.noted n ys) o₁ o₂ (entry_ends v) (entry_ends r)) d.bytes g.filled)));
          lines = g.lines ∙ d.lines;
          entries = omega (arith, d.entries, g.entries, length-append xs ys);
          noted = omega (arith, d.noted, g.noted, commented xs ys);
          bytes = omega (arith, d.bytes, g.bytes, written xs ys);
        }

pub entries-put : (es : List Noted) {w : Walk} {o : List ℕ} → EntriesFit es w o → Entered es w (put_entries es w o).walk o (put_entries es w o).buffer
unfolding put_all table concat
entries-put [] {w} {o} f =
    record {
      filled = record { bytes = simp put-none; ends = (omega arith, (omega arith, (omega arith, tt))) };
      lines = refl;
      entries = omega arith;
      noted = omega arith;
      bytes = omega arith;
    }
entries-put (e ∷ es) {w} {o} f =
    let d = noted-put e (entries-front (e ∷ []) es f) in
    entries-then (e ∷ []) es f d (entries-put es (entries_rest (e ∷ []) es f d))

-- ---- header entries

header_has : {h : Header} {w : Walk} {o : List ℕ} → HeadersFit (h ∷ []) w o → has_header (length h.key) (length h.value) w (length o) ≡ true
unfolding has_header table
header_has {h} {w} {o} f =
    let n = one-header h in
    rw (le-leb (w.headers + 8) (length o) (omega (arith, f.room.0, f.room.1.0)), le-leb (w.text + length h.key) (length o) (omega (arith, f.room.1.0, n)), le-leb (w.text + length h.key + length h.value) (length o) (omega (arith, f.room.1.0, n)), le-leb (w.bytes + length h.key) 18446744073709551615 (omega (arith, f.bytes, n)))
    (le-leb (w.bytes + length h.key + length h.value) 18446744073709551615 (omega (arith, f.bytes, n)))

header-put : {h : Header} {w : Walk} {o : List ℕ} → HeadersFit (h ∷ []) w o → Headed (h ∷ []) w (put_header h w o).walk o (put_header h w o).buffer
unfolding put_header table concat
header-put {h} {w} {o} f =
    let one : (h.key ++ h.value) ++ [] ≡ h.key ++ h.value = append-nil (h.key ++ h.value) in
    let n = length-append h.key h.value in
    rw (header_has f)
    (record {
      filled =
          record {
            bytes = ap (λ (u : List ℕ). put (put o w.headers (header_row w.bytes h)) w.text u) (sym one);
            ends = (omega arith, (omega (arith, ap length one, n), tt));
          };
      lines = refl;
      moves = refl;
      comments = refl;
      entries = refl;
      noted = refl;
      bytes = omega (arith, ap length one, n);
    })

module _ (h : Header) (hs : List Header) {w : Walk} {o : List ℕ} (f : HeadersFit (h ∷ hs) w o) where
  headers-first : HeadersFit (h ∷ []) w o
  headers-first =
      record {
        bytes = omega (arith, f.bytes, keyed (h ∷ []) hs);
        room =
            room-front (length o) (header_ends w) (header_texts w.bytes (h ∷ [])) (header_texts (w.bytes + length (header_text (h ∷ []))) hs)
            (subst (Room (length o) (header_ends w)) (headers-append w.bytes (h ∷ []) hs) f.room);
      }

  module _ {v : Walk} {o₁ : List ℕ} (d : Headed (h ∷ []) w v o o₁) where
    headers_rest : HeadersFit hs v o₁
    headers_rest =
        record {
          bytes = omega (arith, f.bytes, d.bytes, keyed (h ∷ []) hs);
          room =
              subst (λ (k : ℕ). Room (length o₁) (header_ends v) (header_texts k hs)) (sym d.bytes)
              (then-room (header_texts (w.bytes + length (header_text (h ∷ []))) hs) (subst (Room (length o) (header_ends w)) (headers-append w.bytes (h ∷ []) hs) f.room) d.filled);
        }

    headers-then : {r : Walk} {o₂ : List ℕ} → Headed hs v r o₁ o₂ → Headed (h ∷ hs) w r o o₂
    headers-then {r} {o₂} g =
        let e = headers-append w.bytes (h ∷ []) hs in
        record {
          filled =
              as_texts (sym e) (then_fill (subst (Room (length o) (header_ends w)) e f.room) d.filled
              (subst (λ (k : ℕ). Filled (header_texts k hs) o₁ o₂ (header_ends v) (header_ends r)) d.bytes g.filled));
          lines = g.lines ∙ d.lines;
          moves = g.moves ∙ d.moves;
          comments = g.comments ∙ d.comments;
          entries = g.entries ∙ d.entries;
          noted = g.noted ∙ d.noted;
          bytes = omega (arith, g.bytes, d.bytes, keyed (h ∷ []) hs);
        }

pub headers-put : (hs : List Header) {w : Walk} {o : List ℕ} → HeadersFit hs w o → Headed hs w (put_headers hs w o).walk o (put_headers hs w o).buffer
unfolding put_all table concat
headers-put [] {w} {o} f =
    record {
      filled = record { bytes = simp put-none; ends = (omega arith, (omega arith, tt)) };
      lines = refl;
      moves = refl;
      comments = refl;
      entries = refl;
      noted = refl;
      bytes = omega arith;
    }
headers-put (h ∷ hs) {w} {o} f =
    let d = header-put (headers-first h hs f) in
    headers-then h hs f d (headers-put hs (headers_rest h hs f d))

-- ---- a line: its entries, and then its row

abbrev pub line : ℕ → ℕ → List Noted → Line
line start parent es = record { start = start; parent = parent; entries = es }

pub own_entries : (x : Line) → entries_of (x ∷ []) ≡ x.entries
unfolding concat
own_entries x = append-nil x.entries

module _ (start parent : ℕ) (es : List Noted) where
  line-texts : (k n t : ℕ) → line_texts k n t (line start parent es ∷ []) ≡ line_row k (line start parent es) ∷ entry_texts n t es
  unfolding table
  line-texts k n t = ap₂ ◌∷◌ (append-nil (line_row k (line start parent es))) (ap (entry_texts n t) (own_entries (line start parent es)))

  module _ {w : Walk} {o : List ℕ} (f : LineFits (line start parent es) w o) where
    line-room : Room (length o) (line_ends w) (line_row w.entries (line start parent es) ∷ entry_texts w.noted w.bytes es)
    line-room = subst (Room (length o) (line_ends w)) (line-texts w.entries w.noted w.bytes) f.room

    pub line_fit : EntriesFit es w o
    line_fit = record { entries = f.entries; noted = f.noted; bytes = f.bytes; room = line-room.1 }

    pub line-put : {v : Walk} {o₁ : List ℕ} → Entered es w v o o₁
        → Lined (line start parent es ∷ []) w (put_line start parent w.entries v o₁).walk o (put_line start parent w.entries v o₁).buffer
    unfolding put_line
    line-put {v} {o₁} d =
        let n : v.entries - w.entries ≡ length es = omega (arith, d.entries) in
        let row = line_row w.entries (line start parent es) in
        let g = filled_under w.lines v.lines d.lines d.filled in
        let m = then-room (row ∷ []) line-room g in
        let k = room_at (length o₁) (line_ends v) (row ∷ []) 0 m (omega arith) in
        let s : Stored row o₁ (put o₁ v.lines row) v.lines (v.lines + 8) = record { bytes = refl; end = refl } in
        rw (le-leb (v.lines + 8) (length o₁) (omega (arith, k)), n)
        (record {
          filled = as_texts (sym (line-texts w.entries w.noted w.bytes)) (then_fill line-room g (filled-first (entry_ends v) s));
          entries = omega (arith, d.entries, ap length (own_entries (line start parent es)));
          noted = omega (arith, d.noted, ap (λ (l : List Noted). length (comments_of l)) (own_entries (line start parent es)));
          bytes = omega (arith, d.bytes, ap (λ (l : List Noted). length (comment_text (comments_of l))) (own_entries (line start parent es)));
        })
