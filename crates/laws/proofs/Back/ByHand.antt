-- Blocks made by hand are restored: a key that holds no ： ends where its own colon stands, and a writing that is done says that the entries can
-- be read.                                                                                            (02, xi)
-- Assumes nothing.
use Rattle.std.specs.Prelude.{Option, Some, None}
use Prim.Native.Nat.{ℕ, ◌+◌, ◌<◌}
use native.Mathlib.Omega.{arith}
use mathlib.Core.Path.{◌≡◌, refl, sym, ap, ◌∙◌}
use mathlib.Core.List.{List, [], ◌∷◌, ◌++◌, map}
use mathlib.Core.Bool.{Bool, true, false}
use lib.ListN.{length, get_or, drop}
use lib.Dec.{eqb, leb}
use borrow.Author.Tests.{leb-true}
use Rattle.lists.specs.All.{All, none, next, Led, leads}
use Rattle.lent.specs.Bytes.{bytes16}
use Rattle.lists.specs.Pick.{pick}
use Rattle.lists.specs.Test.{claim}
use Rattle.lists.proofs.Laws.{pick_both}
use Rattle.text.specs.Text.{is_text, prefix_from, wide_colon, key_from}
use Rattle.spell.specs.Tables.{sides}
use Rattle.block.specs.EntryBytes.{clock_bytes, time_bytes, entry_head, entry_bytes}
use Rattle.jkf.specs.Entries.{time_of}
use Rattle.jkf.specs.declared.Clock.{Clock}
use Rattle.jkf.specs.declared.Clock.TheVariants.{Hms, Ms}
use Rattle.jkf.specs.declared.Time.{Time}
use Rattle.jkf.specs.declared.Time.TheVariants.{Untimed, Timed}
use Rattle.jkf.specs.declared.Target.{Target}
use Rattle.jkf.specs.declared.Target.TheVariants.{Same, Square}
use Rattle.jkf.specs.declared.Entry.{Entry}
use Rattle.jkf.specs.declared.Entry.TheVariants.{Slot, Moved, End}
use Rattle.jkf.specs.Model.{Header, Noted, Line, Record}
use Rattle.block.specs.Decode.{decode}
use Rattle.block.specs.inner.Sounds.{Sound}
use Rattle.block.proofs.Deciding.{sound_says}
use Rattle.block.specs.Sound.{kind_test}
use Rattle.kakinoki.specs.Informations.{preset_line_at}
use Rattle.moves.proofs.Smalls.{Bytes as AllBytes, each, empty}
use Rattle.moves.specs.Fits.{ClockFits, hms_fits, ms_fits, TimeFits, untimed_fits, timed_fits, TargetFits, same_fits, square_fits, EntryFits, play_fits, end_fits}
use Rattle.converter.specs.declared.Mode.{Mode}
use Rattle.converter.specs.Headers.{header_line}
use Rattle.converter.specs.Entries.{within, target_on_board, can_write}
use Rattle.converter.specs.Said.{said_move, said_entry, said_noted, said_line, said_lines, said_record}
use Rattle.converter.specs.Show.{on_obstacle, entry_obstacle, line_obstacle}
use Rattle.edit.specs.Edit.{plays_in}
use Rattle.laws.specs.Blocks.{Bytes}
use Rattle.laws.specs.Sayable.{every_byte, OneLine, begins_hand, HeaderSayable, NotedSayable, SlotSayable, PlaysSayable, Sayable}
use Rattle.laws.specs.Modes.{LosesNothing, EntryByHand, slot, move, ending, holds_text, ByHand}
use Rattle.laws.specs.Back.{HandRestored}
use Rattle.laws.proofs.Firsts.{all_so}
use Rattle.laws.proofs.Relining.{First, Later, Side, Standing, block_lines}
use Rattle.laws.proofs.Back.Leaves.{pick_neither}
use Rattle.laws.proofs.Back.Shown.{shown-same}
use Rattle.laws.proofs.Back.Fits.{all_unmap}
use Rattle.laws.proofs.Back.Written.{Wrote, all-later}
use Rattle.laws.proofs.Back.Blocks.{restored}

-- ---- a header entry made by hand

neither : (t u : Bool) → pick t (pick u false false) false ≡ false
neither true true = refl
neither true false = refl
neither false u = refl

-- where ： does not stand, no byte of the ： that follows makes it stand
colon_fails : (b : ℕ) (k : List ℕ) → prefix_from wide_colon (b ∷ k) ≡ false → prefix_from wide_colon (b ∷ (k ++ wide_colon)) ≡ false
unfolding prefix_from
colon_fails b [] h = neither (eqb b 239) false
colon_fails b (c ∷ []) h = neither (eqb b 239) (eqb c 188)
colon_fails b (c ∷ d ∷ k) h = h

key-ends : (k : List ℕ) → OneLine k → holds_text wide_colon k ≡ false → key_from (k ++ wide_colon) ≡ k
unfolding key_from prefix_from
key-ends [] o h = refl
key-ends (b ∷ k) o h =
    let (t, ts) = pick_both (is_text b) (every_byte is_text k) o in
    let (c, cs) = pick_neither (prefix_from wide_colon (b ∷ k)) (holds_text wide_colon k) h in
    rw (t, colon_fails b k c, key-ends k ts cs)

headers_sayable : {hs : List Header} → All (λ h. preset_line_at (header_line h) 0 ≡ None) hs → All (λ h. begins_hand sides ((h.key ++ wide_colon) ++ h.value) ≡ false) hs
    → All (λ h. eqb (get_or h.key 0 0) 35 ≡ false) hs → All (λ h. 0 < length h.key) hs → All (λ h. holds_text wide_colon h.key ≡ false) hs
    → All (λ h. OneLine h.key) hs → All (λ h. OneLine h.value) hs → All HeaderSayable hs
headers_sayable none ns xs ss cs ks vs = none
headers_sayable (next {x = h} p ps) (next n ns) (next x xs) (next s ss) (next c cs) (next k ks) (next v vs) =
    next (record { some = s; key = key-ends h.key k c; value = v; no_hash = x; no_hand = n; no_preset = p }) (headers_sayable ps ns xs ss cs ks vs)

-- ---- what a writing that is done says of the entries

entries_clear : (k i : ℕ) (es : List Noted) → entry_obstacle k i es ≡ None → All (λ e. can_write e.what ≡ true) es
unfolding entry_obstacle
entries_clear k i [] h = none
entries_clear k i (e ∷ es) h = go (can_write e.what) refl h (entries_clear k (i + 1) es)
  where
    go : (t : Bool) → can_write e.what ≡ t → pick t (entry_obstacle k (i + 1) es) (Some (k, i)) ≡ None → (entry_obstacle k (i + 1) es ≡ None → All (λ e. can_write e.what ≡ true) es)
        → All (λ e. can_write e.what ≡ true) (e ∷ es)
    go true q h ih = next q (ih h)
    go false q h ih = let z : ◌≡◌ {A = ℕ} 0 1 = cc in absurd (omega arith)

lines_clear : (k : ℕ) (ls : List Line) → line_obstacle k ls ≡ None → All (λ l. All (λ e. can_write e.what ≡ true) l.entries) ls
unfolding line_obstacle
lines_clear k [] h = none
lines_clear k (l ∷ ls) h = go (entry_obstacle k 0 l.entries) refl h (lines_clear (k + 1) ls)
  where
    go : (x : Option (ℕ × ℕ)) → entry_obstacle k 0 l.entries ≡ x → on_obstacle x (λ a b. Some (a, b)) (line_obstacle (k + 1) ls) ≡ None
        → (line_obstacle (k + 1) ls ≡ None → All (λ l. All (λ e. can_write e.what ≡ true) l.entries) ls) → All (λ l. All (λ e. can_write e.what ≡ true) l.entries) (l ∷ ls)
    go (Some (a, b)) q h ih = let z : ◌≡◌ {A = ℕ} 0 1 = cc in absurd (omega arith)
    go None q h ih = next (entries_clear k 0 l.entries q) (ih h)

-- every entry can be written as it is said
abbrev Writable : Mode → Noted → Type 0
Writable mode e = can_write (said_entry mode e.what) ≡ true

lines_writable : (mode : Mode) (ls : List Line) → All (λ l. 0 < l.start) (drop 1 ls) → line_obstacle 0 (said_lines mode ls) ≡ None → All (λ l. All (Writable mode) l.entries) ls
unfolding said_lines said_line said_noted
lines_writable mode [] z h = none
lines_writable mode (l ∷ ls) z h =
    all_so (λ k w. all_unmap (said_noted mode) k.entries w)
    (all_unmap (said_line mode) (l ∷ ls) (lines_clear 0 (map (said_line mode) (l ∷ ls)) (ap (λ (k : List Line). line_obstacle 0 (said_line mode l ∷ map (said_line mode) k)) (sym (shown-same z)) ∙ h)))

-- ---- an entry made by hand

front : (l m : List ℕ) → AllBytes (l ++ m) → AllBytes l
front [] m h = empty
front (x ∷ l) m (each p h) = each p (front l m h)

behind : (l m : List ℕ) → AllBytes (l ++ m) → AllBytes m
behind [] m h = h
behind (x ∷ l) m (each p h) = behind l m h

clock_fits : (c : Clock) → AllBytes (clock_bytes c) → ClockFits c
clock_fits (Hms h m s) (each a (each b (each d e))) = hms_fits {h = h} {m = m} {s = s} (omega arith) (omega arith) (omega arith)
clock_fits (Ms m s) (each a (each b (each d e))) = ms_fits {m = m} {s = s} (omega arith) (omega arith)

time-fits : (t : Time) → AllBytes (time_bytes t) → TimeFits t
time-fits Untimed h = untimed_fits
time-fits (Timed now total) h = timed_fits (clock_fits now (front (clock_bytes now) (clock_bytes total) h)) (clock_fits total (behind (clock_bytes now) (clock_bytes total) h))

row-time : (e : Entry) (f n : ℕ) → AllBytes (entry_bytes e f n) → TimeFits (time_of e)
unfolding entry_bytes
row-time e f n h = time-fits (time_of e) (behind (entry_head e) (time_bytes (time_of e)) (front (entry_head e ++ time_bytes (time_of e)) (0 ∷ []) (front _ (bytes16 f) (front _ (bytes16 n) h))))

target_fits : (t : Target) → target_on_board t ≡ true → TargetFits t
target_fits Same h = same_fits
target_fits (Square x y) h =
    let (a, b) = pick_both (within x) (within y) h in
    let (p, q) = pick_both (leb 1 x) (leb x 9) a in
    let (r, s) = pick_both (leb 1 y) (leb y 9) b in
    square_fits (leb-true 1 x p) (leb-true x 9 q) (leb-true 1 y r) (leb-true y 9 s)

entry-fits : (mode : Mode) (e : Entry) → claim (kind_test 1 e) → TimeFits (time_of e) → EntryByHand e → can_write (said_entry mode e) ≡ true → EntryFits e
unfolding can_write said_entry said_move
entry-fits mode Slot k t slot w = absurd (omega arith)
entry-fits mode (Moved m) k t (move o) w =
    play_fits (record { side = k.1.0; some = k.1.1.0; kind = k.1.1.1.0; mark = k.1.1.1.1; target = target_fits m.to (pick_both (target_on_board m.to) _ w).0; origin = o; time = t })
entry-fits mode (End x u) k t (ending h) w = end_fits h t

module _ (mode : Mode) where
  notes_sayable : {es : List Noted} → All Later es → All (λ e. EntryByHand e.what) es → All (λ e. All OneLine e.comments) es → All (Writable mode) es → All NotedSayable es
  notes_sayable none none none none = none
  notes_sayable (next {x = e} (s, k) ls) (next h hs) (next c cs) (next w ws) =
      next (record { entry = entry-fits mode e.what k (row-time e.what _ _ (s.row 0)) h w; comments = c }) (notes_sayable ls hs cs ws)

  main_sayable : {es : List Noted} → Led First Later es → All (λ e. EntryByHand e.what) es → All (λ e. All OneLine e.comments) es → All (Writable mode) es → Led SlotSayable NotedSayable es
  main_sayable (leads (s, q) ls) (next h hs) (next c cs) (next w ws) = leads (record { slot = q; comments = c }) (notes_sayable ls hs cs ws)

  sides_sayable : (ls : List Line) → All Side ls → All (λ l. All (λ e. EntryByHand e.what) l.entries) ls → All (λ l. All (λ e. All OneLine e.comments) l.entries) ls
      → All (λ l. All (Writable mode) l.entries) ls → All (λ p. All NotedSayable p.entries) (plays_in ls)
  sides_sayable [] ss hs cs ws = none
  sides_sayable (l ∷ ls) (next s ss) (next h hs) (next c cs) (next w ws) = next (notes_sayable s.each h c w) (sides_sayable ls ss hs cs ws)

  plays_sayable : (ls : List Line) → Standing ls → All (λ l. All (λ e. EntryByHand e.what) l.entries) ls → All (λ l. All (λ e. All OneLine e.comments) l.entries) ls
      → All (λ l. All (Writable mode) l.entries) ls → PlaysSayable (plays_in ls)
  plays_sayable [] x4 _ _ _ = elim x4 [ ]
  plays_sayable (l ∷ ls) (leads m ss) (next h hs) (next c cs) (next w ws) = leads (main_sayable m h c w) (sides_sayable ls ss hs cs ws)

-- no key holds ：
keys_free : {r : Record} → ByHand r → All (λ h. holds_text wide_colon h.key ≡ false) r.headers
keys_free h = h.no_colon

hand_sayable : {mode : Mode} → LosesNothing mode → (b : List ℕ) → Bytes b → Sound b → ByHand (decode b) → (n l : ℕ) (x : List ℕ) → Wrote mode (decode b) n l x → Sayable (decode b)
unfolding said_record
hand_sayable {mode} m b bs s h n l x d =
    let w = lines_writable mode (decode b).lines (all-later m (decode b) d.starts) d.lines in
    record {
      headers = headers_sayable h.no_preset h.no_hand h.no_hash h.some_key (keys_free h) h.keys h.values;
      plays = plays_sayable mode (decode b).lines (block_lines b s bs) h.entries h.comments w;
    }

pub hand_restored : HandRestored
hand_restored mode m b bs t h c = let s = sound_says b t in restored m b bs s (hand_sayable m b bs s h) c
