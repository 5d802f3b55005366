-- The parts of a block, filled in one after the other, are the block.
-- Assumes nothing.
use Prim.Native.Nat.{ℕ, ◌+◌, ◌*◌, ◌-◌, ◌≤◌}
use native.Mathlib.Omega.{arith}
use mathlib.Core.Path.{◌≡◌, refl, sym, ap, ◌∙◌, subst}
use mathlib.Core.List.{List, [], ◌∷◌, ◌++◌, append_assoc, append-nil}
use lib.ListN.{length, drop, length-append}
use lib.Seq.{drop-append-add, drop-drop}
use Rattle.lent.specs.Stored.{put}
use Rattle.lent.specs.inner.Regions.{puts, ends_past, join, Room, SameMany, Filled, all, places_of}
use Rattle.lent.proofs.Regions.{same_of, filled-length, length-put, put-more, put_front, stored_all, room-front, then_fill, then-room, as_texts, whole, whole_room, put-none}
use Rattle.block.specs.PositionBytes.{position_bytes}
use Rattle.jkf.specs.declared.Position.{Position}
use Rattle.jkf.specs.Model.{Header, Noted, Line}
use Rattle.block.specs.Encode.{table, block_length, header_row, header_step, header_text, line_row, line_step, entry_row, entry_step, comment_row, comment_step, entries_of, comments_of, comment_text, encode_flat}
use Rattle.block.proofs.Tabling.{table-length}
use Rattle.block.proofs.RowPlaces.{header-wide, line-wide, entry-wide, comment-wide}
use Rattle.block.proofs.Lengths.{head-length}
use Rattle.filling.specs.Filling.{length_of, begun, head_for, front_put}
use Rattle.filling.specs.inner.Parts.{sizes_of, line_texts, line_ends, Headed, HeadersFit, LinesFit, Opens, put_headers}
use Rattle.filling.specs.declared.Sizes.{Sizes}
use Rattle.filling.specs.declared.Walk.{Walk}
use Rattle.filling.proofs.Growing.{headers-put}
use Rattle.filling.proofs.Putting.{length-short}

module _ (version : ℕ) (p : Position) (hs : List Header) (ls : List Line) where
  abbrev es : List Noted
  es = entries_of ls

  abbrev cs : List (List ℕ)
  cs = comments_of es

  abbrev z : Sizes
  z = sizes_of hs ls

  abbrev n : ℕ
  n = length_of z

  abbrev text_size : ℕ
  text_size = length (header_text hs)

  -- the first 128 bytes
  abbrev head : List ℕ
  head = head_for version z ++ position_bytes p

  abbrev line_place : ℕ
  line_place = 128 + 8 * length hs

  abbrev move_place : ℕ
  move_place = line_place + 8 * length ls

  abbrev comment_place : ℕ
  comment_place = move_place + 20 * length es

  abbrev text_place : ℕ
  text_place = comment_place + 4 * length cs

  -- the six parts and their places
  abbrev places : List ℕ
  places = 0 ∷ 128 ∷ line_place ∷ move_place ∷ comment_place ∷ text_place ∷ []

  abbrev texts : List (List ℕ)
  texts =
      head ∷
      table header_row header_step 0 hs ∷
      table line_row line_step 0 ls ∷
      table entry_row entry_step 0 es ∷
      table comment_row comment_step text_size cs ∷
      (header_text hs ++ comment_text cs) ∷ []

  module _ (long : length (position_bytes p) ≡ 100) where
    front_long : length (head_for version z) ≡ 28
    front_long = head-length version n (length hs) (length ls) (length es) (length cs)

    head-long : length head ≡ 128
    head-long = omega (arith, length-append (head_for version z) (position_bytes p), front_long, long)

    places_are : SameMany places (places_of 0 texts)
    places_are =
        let a = table-length header_row header_step 8 header-wide 0 hs in
        let b = table-length line_row line_step 8 line-wide 0 ls in
        let c = table-length entry_row entry_step 20 entry-wide 0 es in
        let d = table-length comment_row comment_step 4 comment-wide text_size cs in
        (refl, (omega (arith, head-long), (omega (arith, head-long, a), (omega (arith, head-long, a, b), (omega (arith, head-long, a, b, c), (omega (arith, head-long, a, b, c, d), tt))))))

    all-long : length (all texts) ≡ block_length (length hs) (length ls) (length es) (length cs) (text_size + length (comment_text cs))
    all-long =
        let a = table-length header_row header_step 8 header-wide 0 hs in
        let b = table-length line_row line_step 8 line-wide 0 ls in
        let c = table-length entry_row entry_step 20 entry-wide 0 es in
        let d = table-length comment_row comment_step 4 comment-wide text_size cs in
        let e = length-append (header_text hs) (comment_text cs) in
        simp length-append (omega (arith, front_long, long, a, b, c, d, e))

    module _ (short : n ≤ 65535) where
      size : n ≡ block_length (length hs) (length ls) (length es) (length cs) (text_size + length (comment_text cs))
      size = length-short z short

      block_is : all texts ≡ encode_flat version (position_bytes p) hs ls es cs
      block_is = rw (← size) (simp (append_assoc, append-nil))

      module _ (o : List ℕ) (fits : n ≤ length o) where
        room_whole : Room (length o) places texts
        room_whole = whole_room (length o) places texts (omega (arith, all-long, size)) places_are

        -- what each step fills in
        abbrev head_texts : List (List ℕ)
        head_texts = head ∷ []

        abbrev next_texts : List (List ℕ)
        next_texts = [] ∷ table header_row header_step 0 hs ∷ [] ∷ [] ∷ [] ∷ header_text hs ∷ []

        abbrev last_texts : List (List ℕ)
        last_texts = [] ∷ [] ∷ line_texts 0 0 text_size ls

        texts_are : join (join head_texts next_texts) last_texts ≡ texts
        texts_are = simp append-nil

        room_steps : Room (length o) places (join (join head_texts next_texts) last_texts)
        room_steps = subst (λ (ts : List (List ℕ)). Room (length o) places ts) (sym texts_are) room_whole

        -- the places after the first
        abbrev after_head : List ℕ
        after_head = 128 ∷ 128 ∷ line_place ∷ move_place ∷ comment_place ∷ text_place ∷ []

        front_is : front_put version z p o ≡ put o 0 head
        unfolding front_put
        front_is =
            let q = put o 0 (head_for version z) in
            let k : length q ≡ length o = length-put o 0 (head_for version z) in
            let s = stored_all {t = position_bytes p} {o = q} {at = 28} (omega (arith, k, long, fits, size)) (record { bytes = refl; end = refl }) in
            let e : 28 ≡ 0 + length (head_for version z) = omega (arith, front_long) in
            s.bytes ∙ ap (λ (j : ℕ). put q j (position_bytes p)) e ∙ put-more o (head_for version z) (position_bytes p) 0

        module _ (o₁ : List ℕ) (first : o₁ ≡ front_put version z p o) where
          head-filled : Filled head_texts o o₁ places after_head
          head-filled = record { bytes = first ∙ front_is; ends = (omega (arith, head-long), (refl, (refl, (refl, (refl, (refl, tt)))))) }

          -- past the front nothing changed
          pub front-size : length o₁ ≡ length o
          front-size = filled-length head-filled

          pub front_rest : drop n o₁ ≡ drop n o
          front_rest =
              let e : n ≡ length head + (n - 128) = omega (arith, head-long, size) in
              let k : 128 + (n - 128) ≡ n = omega (arith, size) in
              ap (drop n) (first ∙ front_is ∙ put_front o head (omega (arith, head-long, size, fits)))
              ∙ ap (λ (m : ℕ). drop m (head ++ drop (length head) o)) e ∙ drop-append-add head (drop (length head) o) (n - 128)
              ∙ drop-drop (n - 128) (length head) o ∙ ap (λ (m : ℕ). drop (m + (n - 128)) o) head-long ∙ ap (λ (m : ℕ). drop m o) k

          pub headers_fit : HeadersFit hs (begun z) o₁
          unfolding begun
          headers_fit =
              record {
                bytes = omega (arith, size, short);
                room = (omega (arith, table-length header_row header_step 8 header-wide 0 hs), (omega (arith, size, fits, front-size), tt));
              }

          module _ (r : Walk) (o₂ : List ℕ) (second : Headed hs (begun z) r o₁ o₂) where
            abbrev after_headers : List ℕ
            after_headers = 128 ∷ r.headers ∷ r.lines ∷ r.moves ∷ r.comments ∷ r.text ∷ []

            headers-filled : Filled next_texts o₁ o₂ after_head after_headers
            unfolding begun
            headers-filled =
                let e = second.filled.ends in
                record {
                  bytes = second.filled.bytes ∙ simp put-none;
                  ends = (omega arith, (e.0, (omega (arith, second.lines), (omega (arith, second.moves), (omega (arith, second.comments), (e.1.0, tt))))));
                }

            front-filled : Filled (join head_texts next_texts) o o₂ places after_headers
            front-filled = then_fill (room-front (length o) places (join head_texts next_texts) last_texts room_steps) head-filled headers-filled

            bytes_are : r.bytes ≡ text_size
            unfolding begun
            bytes_are = omega (arith, second.bytes)

            pub lines_fit : LinesFit ls r o₂
            unfolding begun
            lines_fit =
                let u = then-room last_texts room_steps front-filled in
                record {
                  none = second.entries;
                  unnoted = second.noted;
                  lines = omega (arith, size, short, second.lines);
                  entries = omega (arith, size, short);
                  comments = omega (arith, size, short);
                  bytes = omega (arith, size, short, bytes_are);
                  room = subst (λ (k : ℕ). Room (length o₂) (line_ends r) (line_texts 0 0 k ls)) (sym bytes_are) u.1.1;
                }

            pub block_filled : {o₃ : List ℕ} → o₃ ≡ puts o₂ (line_ends r) (line_texts 0 0 r.bytes ls) → o₃ ≡ encode_flat version (position_bytes p) hs ls es cs ++ drop n o
            block_filled {o₃} q =
                let q₁ : o₃ ≡ puts o₂ (line_ends r) (line_texts 0 0 text_size ls) = q ∙ ap (λ (k : ℕ). puts o₂ (line_ends r) (line_texts 0 0 k ls)) bytes_are in
                let last : Filled last_texts o₂ o₃ after_headers (ends_past after_headers last_texts) = record { bytes = q₁ ∙ simp put-none; ends = same_of {ps = ends_past after_headers last_texts} refl } in
                let f = as_texts texts_are (then_fill room_steps front-filled last) in
                let e : length (all texts) ≡ n = omega (arith, all-long, size) in
                whole (omega (arith, e, fits)) f places_are ∙ ap (λ (k : ℕ). all texts ++ drop k o) e ∙ ap (λ (l : List ℕ). l ++ drop n o) block_is

    -- ---- a block that was opened, and whose header entries were put

    module _ {w₀ w : Walk} {n₀ : ℕ} {o q o₁ : List ℕ} (t : Opens version z p w₀ n₀ o q) (a : w ≡ (put_headers hs w₀ q).walk) (c : o₁ ≡ (put_headers hs w₀ q).buffer) where
      opened-headers : Headed hs (begun z) w q o₁
      opened-headers =
          subst (λ (x : Walk). Headed hs (begun z) x q o₁) (sym (a ∙ ap (λ (x : Walk). (put_headers hs x q).walk) t.walk))
          (subst (λ (l : List ℕ). Headed hs (begun z) (put_headers hs (begun z) q).walk q l) (sym (c ∙ ap (λ (x : Walk). (put_headers hs x q).buffer) t.walk))
          (headers-put hs (headers_fit t.short o t.room q t.front)))

      -- its lines have room
      pub opened-lines : LinesFit ls w o₁
      opened-lines = lines_fit t.short o t.room q t.front w o₁ opened-headers

      -- and with them it is whole
      pub opened_block : {o₂ : List ℕ} → o₂ ≡ puts o₁ (line_ends w) (line_texts 0 0 w.bytes ls) → o₂ ≡ encode_flat version (position_bytes p) hs ls es cs ++ drop n o
      opened_block = block_filled t.short o t.room q t.front w o₁ opened-headers
