-- Lines one after another: where those before line k are in the buffer there is room for line k, which is put behind them. Where the attaching
-- rule hangs them, the rows of those before line k are read back from the buffer to hang line k.
-- Assumes nothing.
use Prim.Native.Nat.{ℕ, suc, ◌+◌, ◌-◌, ◌*◌, ◌/◌, ◌≤◌, ◌<◌}
use native.Mathlib.Omega.{arith}
use mathlib.Core.Path.{◌≡◌, refl, sym, ap, ap₂, ◌∙◌, subst}
use mathlib.Core.List.{List, [], ◌∷◌, ◌++◌, append-nil}
use native.Mathlib.Decide.{dec_lt}
use lib.ListN.{length, take, drop, get_or, take-append-drop, length-append}
use lib.Seq.{get_or-take, get_or-drop, take-suc, length-take-le}
use Rattle.lent.specs.Bytes.{le16}
use Rattle.lent.specs.Stored.{put}
use Rattle.lent.specs.inner.Regions.{join, first as next, puts, Room}
use Rattle.lent.proofs.Regions.{room-front, then_fill, then-room, as_texts, filled_at, join_nil, put-none, length-put, room_at}
use Rattle.jkf.specs.Attaching.{hangs, all, hung_from, Play, play_of, starts, counts, parent_in, attach}
use Rattle.jkf.specs.Following.{start_at, count_at, parent_at}
use Rattle.jkf.proofs.Nears.{near_before}
use Rattle.jkf.proofs.Hangings.{hung_front}
use Rattle.jkf.specs.Model.{Noted, Line}
use Rattle.block.specs.Formed.{line_of}
use Rattle.block.specs.Encode.{table, concat, line_row, line_step, entries_of, comments_of, comment_text}
use Rattle.block.proofs.Tabling.{table-length, concat-append}
use Rattle.block.proofs.RowPlaces.{line-wide}
use Rattle.block.proofs.LineTables.{start_back, count_back, parent_back}
use Rattle.block.proofs.Tabled.{put_low, Tabled, tabled_hangs}
use Rattle.block.proofs.Attached.{all-hang, start_bound, attach-length, attach-entries, attach-line, parent-first, parent-later}
use Rattle.filling.specs.Filling.{Grown, put_line, hanging_of}
use Rattle.filling.specs.inner.Parts.{entry_texts, line_texts, entry_ends, line_ends, EntriesFit, Entered, LinesFit, LineFits, Lined}
use Rattle.filling.specs.declared.Walk.{Walk}
use Rattle.filling.proofs.Texts.{lines-append, entries_both, comments_both, bytes_both}
use Rattle.filling.proofs.Hooking.{later-hangs}
use Rattle.filling.proofs.Growing.{line, own_entries, line_fit, line-put}

-- ---- lines after lines

module _ (ys : List Line) {xs : List Line} {w v : Walk} {o o₁ : List ℕ} (k : Room (length o) (line_ends w) (line_texts w.entries w.noted w.bytes (xs ++ ys))) (d : Lined xs w v o o₁) where
  abbrev rest : List (List ℕ)
  rest = line_texts v.entries v.noted v.bytes ys

  texts_here : line_texts w.entries w.noted w.bytes (xs ++ ys) ≡ join (line_texts w.entries w.noted w.bytes xs) rest
  texts_here =
      lines-append w.entries w.noted w.bytes xs ys
      ∙ ap (λ (n : ℕ). join (line_texts w.entries w.noted w.bytes xs) (line_texts n (w.noted + length (comments_of (entries_of xs))) (w.bytes + length (comment_text (comments_of (entries_of xs)))) ys)) (sym d.entries)
      ∙ ap (λ (n : ℕ). join (line_texts w.entries w.noted w.bytes xs) (line_texts v.entries n (w.bytes + length (comment_text (comments_of (entries_of xs)))) ys)) (sym d.noted)
      ∙ ap (λ (n : ℕ). join (line_texts w.entries w.noted w.bytes xs) (line_texts v.entries v.noted n ys)) (sym d.bytes)

  room_here : Room (length o) (line_ends w) (join (line_texts w.entries w.noted w.bytes xs) rest)
  room_here = subst (Room (length o) (line_ends w)) texts_here k

  lined_then : {r : Walk} {o₂ : List ℕ} → Lined ys v r o₁ o₂ → Lined (xs ++ ys) w r o o₂
  lined_then g =
      record {
        filled = as_texts (sym texts_here) (then_fill room_here d.filled g.filled);
        entries = omega (arith, d.entries, g.entries, entries_both xs ys);
        noted = omega (arith, d.noted, g.noted, comments_both xs ys);
        bytes = omega (arith, d.bytes, g.bytes, bytes_both xs ys);
      }

  lined_room : Room (length o₁) (line_ends v) rest
  lined_room = then-room rest room_here d.filled

-- ---- what stands before the regions that are filled stays

puts_low : (o ps : List ℕ) (ts : List (List ℕ)) (i : ℕ) → Room (length o) ps ts → i < next (length o) ps → get_or (puts o ps ts) i 0 ≡ get_or o i 0
puts_low o [] ts i r h = refl
puts_low o (p ∷ ps) [] i r h = refl
puts_low o (p ∷ ps) (t ∷ ts) i r h =
    let n = length-put o p t in
    puts_low (put o p t) ps ts i (rw n r.1) (rw n (omega (arith, r.0))) ∙ put_low o t p (room_at (length o) (p ∷ ps) (t ∷ ts) 0 r (omega arith)) i h

-- one line more of those that are done
pub take_more : (ls : List Line) (k : ℕ) → k < length ls → take (k + 1) ls ≡ take k ls ++ (line_of ls k ∷ [])
take_more ls k h = let z : k + 1 ≡ suc k = omega arith in ap (λ (j : ℕ). take j ls) z ∙ take-suc ls k (line 0 0 []) h

-- no line yet
pub lined_none : (w : Walk) (o : List ℕ) → Lined [] w w o o
unfolding table concat
lined_none w o =
    record {
      filled = record { bytes = simp put-none; ends = (omega arith, (omega arith, (omega arith, (omega arith, tt)))) };
      entries = omega arith;
      noted = omega arith;
      bytes = omega arith;
    }

-- where no entry is left there is room for none
no_entries : (v : Walk) (o : List ℕ) → Room (length o) (line_ends v) (line_texts v.entries v.noted v.bytes []) → v.entries < 18446744073709551616
    → v.noted < 18446744073709551616 → v.bytes < 18446744073709551616 → EntriesFit [] v o
unfolding table concat
no_entries v o r a b c = record { entries = omega arith; noted = omega arith; bytes = omega arith; room = r.1 }

-- ---- the first k lines of these are in

module _ (ls : List Line) (w : Walk) (o₀ : List ℕ) (f : LinesFit ls w o₀) where
  -- the texts of lines after what is in the block
  abbrev texts_of : List Line → List (List ℕ)
  texts_of l = line_texts w.entries w.noted w.bytes l

  room-all : Room (length o₀) (line_ends w) (texts_of ls)
  room-all =
      subst (λ (n : ℕ). Room (length o₀) (line_ends w) (line_texts n w.noted w.bytes ls)) (sym f.none)
      (subst (λ (n : ℕ). Room (length o₀) (line_ends w) (line_texts 0 n w.bytes ls)) (sym f.unnoted) f.room)

  room_upto : (k : ℕ) → Room (length o₀) (line_ends w) (texts_of (take k ls))
  room_upto k =
      room-front (length o₀) (line_ends w) (texts_of (take k ls))
      (line_texts (w.entries + length (entries_of (take k ls))) (w.noted + length (comments_of (entries_of (take k ls)))) (w.bytes + length (comment_text (comments_of (entries_of (take k ls))))) (drop k ls))
      (subst (Room (length o₀) (line_ends w)) (ap texts_of (sym (take-append-drop k ls)) ∙ lines-append w.entries w.noted w.bytes (take k ls) (drop k ls)) room-all)

  -- the numbers of the first k lines are no more than all
  within : (k : ℕ) → (length (entries_of (take k ls)) ≤ 65535) × (length (comments_of (entries_of (take k ls))) ≤ 65535) × (w.bytes + length (comment_text (comments_of (entries_of (take k ls)))) ≤ 65535)
  within k =
      let e = take-append-drop k ls in (
        omega (arith, f.entries, ap (λ (l : List Line). length (entries_of l)) e, entries_both (take k ls) (drop k ls)),
        omega (arith, f.comments, ap (λ (l : List Line). length (comments_of (entries_of l))) e, comments_both (take k ls) (drop k ls)),
        omega (arith, f.bytes, ap (λ (l : List Line). length (comment_text (comments_of (entries_of l)))) e, bytes_both (take k ls) (drop k ls)),
      )

  -- where all are in, the buffer has all of their texts
  pub all_lined : {v : Walk} {o : List ℕ} → Lined ls w v o₀ o → o ≡ puts o₀ (line_ends w) (line_texts 0 0 w.bytes ls)
  all_lined d =
      d.filled.bytes ∙ ap (λ (n : ℕ). puts o₀ (line_ends w) (line_texts n w.noted w.bytes ls)) f.none
      ∙ ap (λ (n : ℕ). puts o₀ (line_ends w) (line_texts 0 n w.bytes ls)) f.unnoted

  module _ (k : ℕ) {v : Walk} {o : List ℕ} (done : Lined (take k ls) w v o₀ o) where
    -- there is room for no entry more
    pub room_for_none : EntriesFit [] v o
    room_for_none =
        let r = subst (λ (l : List Line). Room (length o₀) (line_ends w) (texts_of l)) (sym (append-nil (take k ls))) (room_upto k) in
        no_entries v o (lined_room [] r done) (omega (arith, done.entries, (within k).0, f.none)) (omega (arith, done.noted, (within k).1, f.unnoted))
        (omega (arith, done.bytes, (within k).2))

    -- the rows end behind those of the first k lines
    lined_end : k ≤ length ls → v.lines ≡ w.lines + 8 * k
    lined_end few =
        let n = length-take-le k ls few in
        omega (arith, done.filled.ends.0, table-length line_row line_step 8 line-wide w.entries (take k ls), n)

    -- ---- line k

    module _ (more : k < length ls) where
      abbrev own : Line
      own = line_of ls k

      room-more : Room (length o₀) (line_ends w) (texts_of (take k ls ++ (own ∷ [])))
      room-more = subst (λ (l : List Line). Room (length o₀) (line_ends w) (texts_of l)) (take_more ls k more) (room_upto (k + 1))

      -- it has its room
      pub room_for : LineFits own v o
      room_for =
          let e = take_more ls k more in
          let n = within (k + 1) in
          let a = ap (λ (l : List Line). length (entries_of l)) e ∙ entries_both (take k ls) (own ∷ []) in
          let b = ap (λ (l : List Line). length (comments_of (entries_of l))) e ∙ comments_both (take k ls) (own ∷ []) in
          let c = ap (λ (l : List Line). length (comment_text (comments_of (entries_of l)))) e ∙ bytes_both (take k ls) (own ∷ []) in
          record {
            entries = omega (arith, done.entries, n.0, a, ap length (own_entries own), f.none);
            noted = omega (arith, done.noted, n.1, b, ap (λ (l : List Noted). length (comments_of l)) (own_entries own), f.unnoted);
            bytes = omega (arith, done.bytes, n.2, c, ap (λ (l : List Noted). length (comment_text (comments_of l))) (own_entries own));
            room = lined_room (own ∷ []) room-more done;
          }

      -- and so have its entries
      pub entries_fit : EntriesFit own.entries v o
      entries_fit = line_fit own.start own.parent own.entries room_for

      -- its entries are in, and its row is put
      pub row_lined : {x : Walk} {o₁ : List ℕ} → Entered own.entries v x o o₁ → {start parent : ℕ} {u : Walk} {o₂ : List ℕ} → start ≡ own.start → parent ≡ own.parent
          → u ≡ (put_line start parent v.entries x o₁).walk → o₂ ≡ (put_line start parent v.entries x o₁).buffer → Lined (take (k + 1) ls) w u o₀ o₂
      row_lined {x} {o₁} d {u = u} {o₂ = o₂} a b r s =
          let row : ℕ → ℕ → Grown = λ i j. put_line i j v.entries x o₁ in
          let put = line-put own.start own.parent own.entries room_for d in
          let put₁ : Lined (own ∷ []) v u o o₂ =
          subst (λ (c : Walk). Lined (own ∷ []) v c o o₂) (sym (r ∙ ap₂ (λ (i j : ℕ). (row i j).walk) a b))
          (subst (λ (l : List ℕ). Lined (own ∷ []) v (row own.start own.parent).walk o l) (sym (s ∙ ap₂ (λ (i j : ℕ). (row i j).buffer) a b)) put) in
          subst (λ (l : List Line). Lined l w u o₀ o₂) (sym (take_more ls k more)) (lined_then (own ∷ []) room-more done put₁)

-- ---- of lines that the attaching rule hangs, where those before line k hang: their rows are read back

module _ (ps : List Play) (w : Walk) (o₀ : List ℕ) (f : LinesFit (attach ps) w o₀) (k : ℕ) {v : Walk} {o : List ℕ} (few : k ≤ length ps)
    (done : Lined (take k (attach ps)) w v o₀ o) (origin : starts ps 0 ≡ 0) (hung : hung_from (starts ps) (counts ps) 1 (k - 1) ≡ all) where
  abbrev ls : List Line
  ls = attach ps

  early : (j : ℕ) → j < k → (starts ps j < 65536) × (counts ps j < 65536)
  early j h =
      let z : k - 1 ≡ j + (k - 1 - j) = omega arith in
      let a = hung_front (starts ps) (counts ps) j 1 (k - 1 - j) (sym (ap (hung_from (starts ps) (counts ps) 1) z) ∙ hung) in
      let b = start_bound ps origin j (omega (arith, few)) a in
      let e = ap (λ (l : List Play). length (concat (λ (p : Play). p.entries) l)) (take-append-drop (j + 1) ps) in
      let n = ap length (concat-append (λ (p : Play). p.entries) (take (j + 1) ps) (drop (j + 1) ps)) in
      let m = length-append (concat (λ (p : Play). p.entries) (take (j + 1) ps)) (concat (λ (p : Play). p.entries) (drop (j + 1) ps)) in
      let t = ap length (attach-entries ps) in
      (omega (arith, b, e, n, m, t, f.entries), omega (arith, b, e, n, m, t, f.entries))

  line_early : (j : ℕ) → j < k → line_of (take k ls) j ≡ line (starts ps j) (parent_in ps j) (play_of ps j).entries
  line_early j h = get_or-take k ls j (line 0 0 []) h ∙ attach-line ps j (omega (arith, few))

  long : length (take k ls) ≡ k
  long = length-take-le k ls (omega (arith, attach-length ps, few))

  abbrev rows : List ℕ
  rows = table line_row line_step w.entries (take k ls)

  rows_long : length rows ≡ 8 * k
  rows_long = table-length line_row line_step 8 line-wide w.entries (take k ls) ∙ ap (λ (n : ℕ). 8 * n) long

  module _ (es : List Noted) {x : Walk} {o₁ : List ℕ} (d : Entered es v x o o₁) (g : EntriesFit es v o) where
    abbrev seen : List ℕ
    seen = drop w.lines o₁

    byte_back : (n : ℕ) → n < 8 * k → get_or seen n 0 ≡ get_or rows n 0
    byte_back n h =
        let r = room_upto ls w o₀ f k in
        let t = line_texts w.entries w.noted w.bytes (take k ls) in
        let u = then-room [] (subst (Room (length o₀) (line_ends w)) (sym (join_nil t)) r) done.filled in
        let e = done.filled.ends.0 in
        get_or-drop w.lines o₁ n 0 ∙ ap (λ (l : List ℕ). get_or l (w.lines + n) 0) d.filled.bytes
        ∙ puts_low o (entry_ends v) (entry_texts v.noted v.bytes es) (w.lines + n) g.room (omega (arith, u.0, e, rows_long))
        ∙ filled_at 0 n r done.filled (omega arith) (omega (arith, rows_long))

    two_back : (n : ℕ) → n + 1 < 8 * k → le16 seen n ≡ le16 rows n
    two_back n h = ap₂ (λ (a b : ℕ). a + 256 * b) (byte_back n (omega arith)) (byte_back (n + 1) h)

    start-read : (j : ℕ) → j < k → start_at seen j ≡ starts ps j
    start-read j h = two_back (8 * j) (omega arith) ∙ start_back w.entries (take k ls) j (omega (arith, long)) (rw (line_early j h) (early j h).0) ∙ ap (λ (x : Line). x.start) (line_early j h)

    count-read : (j : ℕ) → j < k → count_at seen j ≡ counts ps j
    count-read j h = two_back (8 * j + 4) (omega arith) ∙ count_back w.entries (take k ls) j (omega (arith, long)) (rw (line_early j h) (early j h).1) ∙ ap (λ (x : Line). length x.entries) (line_early j h)

    parent-read : (j : ℕ) → j < k → parent_at seen j ≡ parent_in ps j
    parent-read j h =
        two_back (8 * j + 6) (omega arith) ∙ parent_back w.entries (take k ls) j (omega (arith, long)) (rw (line_early j h) (parent-small (dec_lt 0 j)))
        ∙ ap (λ (x : Line). x.parent) (line_early j h)
      where
        parent-small : Dec (0 < j) → parent_in ps j < 65536
        parent-small (yes z) =
            let e = parent-later ps j (all-hang (starts ps) (counts ps) (k - 1) hung j z (omega arith)) in
            omega (arith, e, near_before (starts ps) (starts ps j) j z, few, f.lines, attach-length ps)
        parent-small (no z) = let y : j ≡ 0 = omega arith in omega (arith, ap (parent_in ps) y, parent-first ps)

    rows_tabled : Tabled ps k seen
    rows_tabled = record { start = start-read; count = count-read; parent = parent-read }

    -- as many rows stand before line k
    row_number : k ≡ (x.lines - w.lines) / 8
    row_number = omega (arith, d.lines, lined_end ls w o₀ f k done (omega (arith, attach-length ps)))

    -- so the next line hangs as it does in the list
    pub next-hangs : (start : ℕ) → 0 < k → hanging_of w.lines start x o₁ ≡ hangs (starts ps) (counts ps) start k
    next-hangs start some = sym (later-hangs w.lines start x o₁ row_number (λ q. omega arith)) ∙ tabled_hangs ps rows_tabled hung start some
