-- Lines of play passed with their rows in a table: what is known before line k, what is told where no line follows or line k hangs nowhere, and
-- one line more.
-- Assumes nothing.
use Rattle.std.specs.Prelude.{Option, Some, None}
use Prim.Native.Nat.{ℕ, suc, ◌+◌, ◌-◌, ◌*◌, ◌≤◌, ◌<◌}
use native.Mathlib.Omega.{arith}
use native.Mathlib.Decide.{dec_lt}
use mathlib.Core.Path.{◌≡◌, refl, sym, ap, ap₂, ◌∙◌}
use mathlib.Core.List.{List, [], ◌∷◌, ◌++◌}
use lib.ListN.{length, take, drop, get_or, length-drop, length-append}
use lib.Seq.{get_or-drop, drop-drop, take-suc}
use lib.Dec.{eqb}
use Rattle.lists.specs.Pick.{pick}
use Rattle.lists.specs.Repeat.{Ended}
use Rattle.lent.specs.Bytes.{fitting}
use Rattle.lent.proofs.Regions.{length-put}
use Rattle.jkf.specs.Attaching.{near, hangs, on_hang, Hung, on_hung, all, first, hung_from, Play, play, play_of, starts, counts, parent_in, all_hung}
use Rattle.jkf.specs.Following.{start_at, count_at, hangs_by}
use Rattle.jkf.proofs.Nears.{near_before, near_same}
use Rattle.block.specs.Encode.{concat, line_bytes}
use Rattle.block.proofs.Tabling.{concat_snoc}
use Rattle.block.proofs.Attached.{start_bound, parent-first, parent-later, all-hang}
use Rattle.block.proofs.Tabled.{Tabled, tabled_hangs, tabled_more}
use Rattle.text.specs.declared.Cursor.{Cursor}
use Rattle.plays.specs.declared.Remarks.{Remarks}
use Rattle.plays.specs.declared.Extent.{Extent}
use Rattle.plays.specs.Counted.{remarks_at, extent_of, extent_at}
use Rattle.plays.specs.Plays.{comments_at, entries_at, ply_at, skipped_at, skips_at, slot_at, past_main, main_at, plays_at}
use Rattle.plays.proofs.Items.{skips-from, skipped_from, skipped_within, comments-within}
use Rattle.plays.proofs.Weights.{entries-wide}
use Rattle.plays.proofs.Variations.{said_more, said-none, variation_past, main_is, main_past, main_short}
use Rattle.plays.proofs.Passing.{Passed, passed_main, all-hung, all-taken, more_left, play_here, start_here, next-loose, next_passed}
use Rattle.stops.specs.Stopping.{begin_item, begins_from, begins_at, last_end, stopped_at, astray_from, played_stop}
use Rattle.stops.specs.inner.Tables.{main_row, row_put, astray_in}
use Rattle.stops.specs.declared.Astray.{Astray}
use Rattle.stops.specs.declared.StopAnswer.TheVariants.{NoEntry}

module _ (s : List ℕ) (b : ℕ) where
  abbrev ps : List Play
  ps = (plays_at s b).state

  abbrev slot : ℕ
  slot = (slot_at s b).at

  -- how many entries the lines before line k have
  abbrev entries_to : ℕ → ℕ
  entries_to k = length (concat (λ (p : Play). p.entries) (take k ps))

  -- ---- before line k

  pub record Walked (k next end : ℕ) (rows : List ℕ) : Type 0 where
    pub passed : Passed s b k next
    pub tabled : Tabled ps k rows
    pub long : length rows ≡ 65536
    pub within : next ≤ length s
    pub few : 8 * k ≤ next + 8
    pub sum : 8 * entries_to k ≤ next + 8
    pub begun : k ≤ length (begins_at s b)
    pub left : drop k (begins_at s b) ≡ begins_from s next
    pub last : end ≡ (entries_at s (get_or (begins_at s b) (k - 1) 0)).at

  -- ---- the main line

  main_first : play_of ps 0 ≡ main_at s b
  unfolding plays_at
  main_first = refl

  main_start : starts ps 0 ≡ 0
  unfolding main_at
  main_start = ap (λ (p : Play). p.start) main_first

  main_count : counts ps 0 ≡ 1 + length (entries_at s slot).state
  unfolding main_at
  main_count = ap (λ (p : Play). length p.entries) main_first ∙ omega arith

  entries-one : entries_to 1 ≡ 1 + length (entries_at s slot).state
  entries-one =
      ap (λ (l : List Play). length (concat (λ (p : Play). p.entries) l)) one
      ∙ ap length (concat_snoc (λ (p : Play). p.entries) [] (main_at s b)) ∙ none ∙ main_count_here
    where
      one : take 1 ps ≡ [] ++ (main_at s b ∷ [])
      one = unfold plays_at in refl

      none : length (concat (λ (p : Play). p.entries) [] ++ (main_at s b).entries) ≡ length (main_at s b).entries
      none = unfold concat in refl

      main_count_here : length (main_at s b).entries ≡ 1 + length (entries_at s slot).state
      main_count_here = unfold main_at in (omega arith)

  slot-within : b ≤ length s → slot ≤ length s
  slot-within h = comments-within s (skipped_at s b) (skipped_within s b h)

  -- each of its moves takes eight bytes
  main_wide : 8 * length (entries_at s slot).state ≤ past_main s slot
  main_wide = go (dec_lt 0 (length (entries_at s slot).state))
    where
      go : Dec (0 < length (entries_at s slot).state) → 8 * length (entries_at s slot).state ≤ past_main s slot
      go (yes h) = omega (arith, main_is s slot (λ z. omega (arith, z, h)), skipped_from s (entries_at s slot).at, entries-wide s slot)
      go (no h) = omega arith

  none_tabled : (rows : List ℕ) → Tabled ps 0 rows
  none_tabled rows = record { start = λ j h. absurd (omega arith); count = λ j h. absurd (omega arith); parent = λ j h. absurd (omega arith) }

  -- it is counted from the place past the comments of its slot
  module _ {skip : Cursor} {slotted : Remarks} {line : Extent} (p : skip.at ≡ skipped_at s b) (q : slotted ≡ remarks_at s skip.at) (e : line ≡ extent_at s slotted.next.at) where
    pub main_slot : slotted.next.at ≡ slot
    unfolding remarks_at
    main_slot = ap (λ (r : Remarks). r.next.at) q ∙ ap (λ (n : ℕ). (comments_at s n).at) p

    line_is : line ≡ extent_at s slot
    line_is = e ∙ ap (extent_at s) main_slot

    pub main_entries : line.entries ≡ length (entries_at s slot).state
    unfolding extent_of
    main_entries = ap (λ (x : Extent). x.entries) line_is

    pub main_end : line.next.at ≡ (entries_at s slot).at
    unfolding extent_of
    main_end = ap (λ (x : Extent). x.next.at) line_is

    -- its entries are few
    pub main_few : length s ≤ 65535 → b ≤ length s → 1 + line.entries < 65536
    main_few h l = omega (arith, h, main_entries, main_wide, (main_short s slot).1 (slot-within l))

    -- past it
    pub main_next : {next : ℕ} → next ≡ pick (eqb line.entries 0) slotted.next.at (skipped_at s line.next.at) → next ≡ past_main s slot
    main_next n =
        n ∙ ap (λ (m : ℕ). pick (eqb line.entries 0) m (skipped_at s line.next.at)) main_slot
        ∙ main_past s slot main_entries main_end

  -- what counting a line of play says of the one at a place
  pub line_counted : {place : ℕ} {c : Cursor} {x : Extent} → c.at ≡ place → x ≡ extent_at s c.at
      → (x.entries ≡ length (entries_at s place).state) × (x.next.at ≡ (entries_at s place).at)
  unfolding extent_of
  line_counted p e = let q = e ∙ ap (extent_at s) p in (ap (λ (x : Extent). x.entries) q, ap (λ (x : Extent). x.next.at) q)

  module _ (short : length s ≤ 65535) where
    pub walked_start : {next end : ℕ} (rows : List ℕ) {rows' : List ℕ} → b ≤ length s → length rows ≡ 65536 → end ≡ (entries_at s slot).at → next ≡ past_main s slot
        → rows' ≡ row_put 0 (main_row s b) rows → Walked 1 next end rows'
    walked_start {next} {end} rows {rows'} h l q p put =
        let n = length (entries_at s slot).state in
        let w = (main_short s slot).1 (slot-within h) in
        record {
          passed = passed_main s b p;
          tabled =
              tabled_more ps (none_tabled rows) 0 0 (1 + n) 0 (omega (arith, l)) put (omega arith) (omega (arith, main_wide, w, short)) (omega arith) (sym main_start) (sym main_count)
              (sym (parent-first ps));
          long = ap length put ∙ length-put rows 0 (fitting (main_row s b) rows) ∙ l;
          within = omega (arith, p, w);
          few = omega arith;
          sum = omega (arith, entries-one, main_wide, p);
          begun = begun-one;
          left = left_one ∙ ap (begins_from s) (sym p);
          last = q ∙ last_one;
        }
      where
        begun-one : 1 ≤ length (begins_at s b)
        begun-one = unfold begins_at in (omega arith)

        left_one : drop 1 (begins_at s b) ≡ begins_from s (past_main s slot)
        left_one = unfold begins_at in refl

        last_one : (entries_at s slot).at ≡ (entries_at s (get_or (begins_at s b) 0 0)).at
        last_one = unfold begins_at in refl

    module _ (k next end : ℕ) (rows : List ℕ) (i : Walked k next end rows) where
      abbrev place : ℕ
      place = skips_at s next

      -- ---- no line follows

      pub walked_done : length (entries_at s place).state ≡ 0 → played_stop s b ≡ stopped_at s b end next
      unfolding played_stop last_end
      walked_done e =
          ap (λ (h : Hung). on_hung h (λ m ply. NoEntry (astray_from ps (begins_at s b) m ply)) (stopped_at s b (last_end s b) (plays_at s b).at)) (all-hung s b k next i.passed e)
          ∙ ap₂ (stopped_at s b) (ap (λ (m : ℕ). (entries_at s (get_or (begins_at s b) (m - 1) 0)).at) all-begun ∙ sym i.last) (all-taken s b k next i.passed e)
        where
          none_left : begins_from s next ≡ []
          none_left = unfold begins_from begin_item in (ap (λ (r : Ended (List ℕ)). r.state) (said-none s (skips_at s) next e))

          all-begun : length (begins_at s b) ≡ k
          all-begun = omega (arith, ap length (i.left ∙ none_left), length-drop k (begins_at s b), i.begun)

      -- ---- one follows

      module _ (some : length (entries_at s place).state ≡ 0 → ⊥) where
        abbrev onward : ℕ
        onward = skipped_at s (entries_at s place).at

        next-begins : drop k (begins_at s b) ≡ place ∷ begins_from s onward
        next-begins = i.left ∙ more_begin
          where
            more_begin : begins_from s next ≡ place ∷ begins_from s onward
            more_begin = unfold begins_from begin_item in (ap (λ (r : Ended (List ℕ)). r.state) (said_more s (skips_at s) next some))

        begins_here : get_or (begins_at s b) k 0 ≡ place
        begins_here =
            let z : k ≡ k + 0 = omega arith in
            ap (λ (j : ℕ). get_or (begins_at s b) j 0) z ∙ sym (get_or-drop k (begins_at s b) 0 0) ∙ ap (λ (l : List ℕ). get_or l 0 0) next-begins

        begins_left : k < length (begins_at s b)
        begins_left = omega (arith, ap length next-begins, length-drop k (begins_at s b))

        onward_wide : next + 8 * length (entries_at s place).state ≤ onward
        onward_wide = omega (arith, skips-from s next, entries-wide s place, skipped_from s (entries_at s place).at)

        module _ {start : ℕ} (at-ply : start ≡ ply_at s place) where
          start_is : start ≡ starts ps k
          start_is = at-ply ∙ sym (start_here s b k next i.passed some)

          pub hangs_here : hangs_by rows start k ≡ hangs (starts ps) (counts ps) (starts ps k) k
          hangs_here =
              tabled_hangs ps i.tabled i.passed.hung start (omega (arith, i.passed.some))
              ∙ ap (λ (n : ℕ). hangs (starts ps) (counts ps) n k) start_is

          -- it hangs nowhere
          pub walked_loose : {at : ℕ} → at ≡ place → hangs_by rows start k ≡ None → played_stop s b ≡ NoEntry (astray_in rows k start at)
          unfolding played_stop astray_from astray_in
          walked_loose {at} here h =
              ap (λ (g : Hung). on_hung g (λ m ply. NoEntry (astray_from ps (begins_at s b) m ply)) (stopped_at s b (last_end s b) (plays_at s b).at)) loose ∙ ap NoEntry told
            where
              loose : all_hung ps ≡ first k start
              loose = next-loose s b k next i.passed some (sym hangs_here ∙ h) ∙ ap (first k) (sym at-ply)

              some-before : 0 < k
              some-before = omega (arith, i.passed.some)

              near_is : near (start_at rows) start k ≡ near (starts ps) start k
              near_is = near_same (start_at rows) (starts ps) start k i.tabled.start

              of_parent : (m : ℕ) → m ≡ near (starts ps) start k → (start_at rows m ≡ starts ps m) × (count_at rows m ≡ counts ps m)
              of_parent m e = let l : m < k = omega (arith, e, near_before (starts ps) start k some-before) in (i.tabled.start m l, i.tabled.count m l)

              astray : ℕ → ℕ → ℕ → ℕ → Astray
              astray q f n a = record { variation = k; ply = start; parent = q; first = f; last = f + (n - 1); at = a }

              told : astray_from ps (begins_at s b) k start ≡ astray_in rows k start at
              told =
                  let q = near (starts ps) start k in
                  let e = of_parent q refl in
                  ap₂ (λ (f n : ℕ). astray q f n (get_or (begins_at s b) k 0)) (sym e.0) (sym e.1)
                  ∙ ap (λ (m : ℕ). astray m (start_at rows m) (count_at rows m) (get_or (begins_at s b) k 0)) (sym near_is)
                  ∙ ap (λ (a : ℕ). astray (near (start_at rows) start k) (start_at rows (near (start_at rows) start k)) (count_at rows (near (start_at rows) start k)) a) (begins_here ∙ sym here)

          -- it hangs, and its row is put
          module _ {parent e count : ℕ} {rows' : List ℕ} (on : hangs_by rows start k ≡ Some (parent, e)) (n : count ≡ length (entries_at s place).state)
              (put : rows' ≡ row_put k (line_bytes start 0 count parent) rows) where
            hangs-on_it : hangs (starts ps) (counts ps) (starts ps k) k ≡ Some (parent, e)
            hangs-on_it = sym hangs_here ∙ on

            count_is : count ≡ counts ps k
            count_is = n ∙ sym (ap (λ (p : Play). length p.entries) (play_here s b k next i.passed some))

            parent_is : parent ≡ parent_in ps k
            parent_is = unfold parent_in in (sym (ap (λ (g : Option (ℕ × ℕ)). on_hang g (λ p e. p) 0) hangs-on_it))

            entries-more : entries_to (k + 1) ≡ entries_to k + count
            entries-more =
                let z : k + 1 ≡ suc k = omega arith in
                let t = ap (λ (j : ℕ). take j ps) z ∙ take-suc ps k (play 0 []) (more_left s b k next i.passed some) in
                ap (λ (l : List Play). length (concat (λ (p : Play). p.entries) l)) t
                ∙ ap length (concat_snoc (λ (p : Play). p.entries) (take k ps) (play_of ps k))
                ∙ length-append (concat (λ (p : Play). p.entries) (take k ps)) (play_of ps k).entries
                ∙ ap (λ (m : ℕ). entries_to k + m) (sym count_is)

            -- how far it goes
            further-on : (8 * (entries_to k + count) ≤ onward + 8) × (onward ≤ length s) × (next + 8 ≤ onward)
            further-on =
                let p = variation_past s next some in
                (omega (arith, onward_wide, n, i.sum), p.1, omega (arith, onward_wide, nonzero))
              where
                nonzero : 1 ≤ length (entries_at s place).state
                nonzero = go (dec_lt 0 (length (entries_at s place).state))
                  where
                    go : Dec (0 < length (entries_at s place).state) → 1 ≤ length (entries_at s place).state
                    go (yes h) = h
                    go (no h) = absurd (some (omega arith))

            -- all up to it hang
            hung_here : hung_from (starts ps) (counts ps) 1 k ≡ all
            hung_here =
                let z : k ≡ k + 1 - 1 = omega arith in
                ap (hung_from (starts ps) (counts ps) 1) z ∙ (next_passed s b k next i.passed some hangs-on_it refl).hung

            parent-small : parent < k
            parent-small =
                let z : 0 < k = omega (arith, i.passed.some) in
                omega (arith, parent_is, parent-later ps k (all-hang (starts ps) (counts ps) k hung_here k z (omega arith)), near_before (starts ps) (starts ps k) k z)

            pub walked_more : {to end' : ℕ} → end' ≡ (entries_at s place).at → to ≡ onward → Walked (k + 1) to end' rows'
            walked_more {to} {end'} q t =
                let up : Passed s b (k + 1) to = next_passed s b k next i.passed some hangs-on_it t in
                let f = further-on in
                let z : k + 1 - 1 ≡ k = omega arith in
                let bound = start_bound ps main_start k (more_left s b k next i.passed some) hung_here in
                record {
                  passed = up;
                  tabled =
                      tabled_more ps i.tabled start 0 count parent (omega (arith, i.long, i.few, f.1, f.2, short)) put
                      (omega (arith, bound, entries-more, f.0, f.1, start_is, short)) (omega (arith, f.0, f.1, short))
                      (omega (arith, parent-small, i.few, i.within, short)) start_is count_is parent_is;
                  long = ap length put ∙ length-put rows (8 * k) (fitting (line_bytes start 0 count parent) (drop (8 * k) rows)) ∙ i.long;
                  within = omega (arith, t, f.1);
                  few = omega (arith, t, f.2, i.few);
                  sum = omega (arith, entries-more, t, f.0);
                  begun = begins_left_one;
                  left = sym (drop-drop 1 k (begins_at s b)) ∙ ap (drop 1) next-begins ∙ ap (begins_from s) (sym t);
                  last = q ∙ ap (λ (m : ℕ). (entries_at s m).at) (sym begins_here) ∙ ap (λ (m : ℕ). (entries_at s (get_or (begins_at s b) m 0)).at) (sym z);
                }
              where
                begins_left_one : k + 1 ≤ length (begins_at s b)
                begins_left_one = omega (arith, begins_left)
