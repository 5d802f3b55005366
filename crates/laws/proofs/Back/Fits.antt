-- A well-formed record that a text can say is fit to be read back, where colours follow their plies, hands hold at most 99 of a kind, and no
-- variation starts at 0.
-- Assumes nothing.
use Rattle.std.specs.Prelude.{Some, None}
use Prim.Native.Nat.{ℕ, zero, suc, ◌+◌, ◌-◌, ◌/◌, ◌%◌, ◌≤◌, ◌<◌}
use native.Mathlib.Omega.{arith}
use native.Mathlib.Decide.{dec_lt}
use native.Mathlib.Numerals.{add-one}
use mathlib.Core.Path.{◌≡◌, refl, sym, ap, ap₂, ◌∙◌, subst}
use mathlib.Core.List.{List, [], ◌∷◌, map}
use mathlib.Core.Bool.{Bool, true, false, false≢true}
use lib.ListN.{length, get_or, replicate, length-append}
use lib.Dec.{eqb, ltb}
use borrow.Author.Tests.{eqb-true, eqb-false, ltb-false, lt-ltb, le-ltb}
use Rattle.lists.specs.All.{All, none, next, Led, leads}
use Rattle.lists.specs.Pick.{pick}
use Rattle.lists.specs.Test.{claim, each, ◌and◌, ◌equals◌, flag}
use Rattle.lists.proofs.Tests.{says}
use Rattle.jkf.specs.declared.Position.{Position}
use Rattle.jkf.specs.declared.Entry.TheVariants.{Slot}
use Rattle.jkf.specs.Model.{Header, Noted, Line, Record}
use Rattle.block.specs.Encode.{concat, entries_of}
use Rattle.text.specs.Text.{before}
use Rattle.block.specs.Sound.{is_cell, fits_test}
use Rattle.block.specs.Formed.{header_of, line_of, header_fits, Formed}
use Rattle.kakinoki.specs.Boards.{no_cells}
use Rattle.sorted.specs.Sorted.{on_order, compared, by_bytes}
use Rattle.sorted.specs.inner.Orders.{Ascending}
use Rattle.std.specs.declared.cmp.Ordering.{Ordering}
use Rattle.std.specs.declared.cmp.Ordering.TheVariants.{Less, Equal, Greater}
use Rattle.sorted.proofs.Orders.{Chain, bytes_chain}
use Rattle.parser.specs.Parse.{by_header}
use Rattle.plays.specs.Plays.{noted}
use Rattle.converter.specs.Said.{shown}
use Rattle.converter.specs.Show.{hand_obstacle, hands_obstacle}
use Rattle.edit.specs.Edit.{plays_in}
use Rattle.edit.proofs.Listing.{starts_in, counts_in, BranchedIn, as_branched}
use Rattle.parser.proofs.Alls.{index_all}
use Rattle.laws.proofs.Decoded.{formed_fits}
use Rattle.laws.proofs.Fields.{fits}
use Rattle.laws.specs.Sayable.{NotedSayable, SlotSayable, PlaysSayable, Sayable, Colored, end, then, ColorsFollow}
use Rattle.laws.proofs.Back.Entries.{EntriesFit, done, also}
use Rattle.laws.proofs.Back.Lines.{LineFits}
use Rattle.laws.proofs.Back.Information.{Side, black, white}
use Rattle.laws.proofs.Back.Starts.{preset_at, diagram_of}
use Rattle.laws.proofs.Back.Texts.{PositionFits, named, drawn, LinesFit, fit, RecordFits}
use Rattle.laws.proofs.Back.Shown.{shown-all, shown-later}

-- ---- entries

entries_fitted : (ply : ℕ) {es : List Noted} → All NotedSayable es → Colored ply es → ply + length es ≤ 18446744073709551615 → EntriesFit ply es
entries_fitted ply none end h = done
entries_fitted ply (next {l = l} s ss) (then c cs) h =
    let n : ply ≤ 18446744073709551615 = omega arith in
    also (record { number = n; entry = s.entry; color = c; comments = s.comments }) (entries_fitted (ply + 1) ss cs (omega arith))

line_fitted : (l : Line) → 0 < l.start → 1 ≤ length l.entries → All NotedSayable l.entries → Colored l.start l.entries → l.start + length l.entries ≤ 18446744073709551615 → LineFits l
line_fitted l z n s c h = go l.entries refl n (entries_fitted l.start s c h)
  where
    go : (es : List Noted) → l.entries ≡ es → 1 ≤ length es → EntriesFit l.start l.entries → LineFits l
    go [] e n f = absurd (omega arith)
    go (x ∷ xs) e n f = record { later = z; first = x; others = xs; some = e; entries = f }

-- ---- the position

past_zero : (l : List ℕ) (k : ℕ) → length l ≤ k → get_or l k 0 ≡ 0
past_zero [] k h = refl
past_zero (x ∷ l) zero h = absurd (omega arith)
past_zero (x ∷ l) (suc k) h = past_zero l k (omega arith)

all_zero : (n : ℕ) (l : List ℕ) → length l ≡ n → ((k : ℕ) → k < n → get_or l k 0 ≡ 0) → l ≡ replicate n 0
all_zero zero [] e h = refl
all_zero zero (x ∷ l) e h = absurd (omega arith)
all_zero (suc n) [] e h = absurd (omega arith)
all_zero (suc n) (x ∷ l) e h = ap₂ (λ (y : ℕ) (k : List ℕ). y ∷ k) (h 0 (omega arith)) (all_zero n l (omega arith) (λ k b. h (suc k) (omega arith)))

few_clear : (hands : List ℕ) (n i : ℕ) → hand_obstacle hands i n ≡ None → (k : ℕ) → i ≤ k → k < i + n → get_or hands k 0 ≤ 99
unfolding hand_obstacle
few_clear hands zero i e k a b = absurd (omega arith)
few_clear hands (suc n) i e k a b = go (ltb 99 (get_or hands i 0)) refl e (few_clear hands n (i + 1)) (dec_lt i k)
  where
    go : (t : Bool) → ltb 99 (get_or hands i 0) ≡ t → pick t (Some (i / 7, i % 7)) (hand_obstacle hands (i + 1) n) ≡ None
        → (hand_obstacle hands (i + 1) n ≡ None → (k : ℕ) → i + 1 ≤ k → k < i + 1 + n → get_or hands k 0 ≤ 99) → Dec (i < k) → get_or hands k 0 ≤ 99
    go true q e ih d = let z : ◌≡◌ {A = ℕ} 0 1 = cc in absurd (omega arith)
    go false q e ih (yes l) = ih e k (omega arith) (omega arith)
    go false q e ih (no l) = let z : k ≡ i = omega arith in rw z (ltb-false 99 (get_or hands i 0) q)

side_of : (t : ℕ) → t ≤ 1 → Side t
side_of t h = go (eqb t 0) refl
  where
    go : (u : Bool) → eqb t 0 ≡ u → Side t
    go true e = subst Side (sym (eqb-true t 0 e)) black
    go false e = let n : t ≡ 0 → ⊥ = eqb-false t 0 e in let z : 1 ≡ t = omega arith in subst Side z white

position_fitted : (p : Position) → length p.cells ≡ 81 → length p.hands ≡ 14 → claim (fits_test p) → hands_obstacle p ≡ None → PositionFits p
unfolding hands_obstacle
position_fitted p c n f o = go (eqb p.board 0) refl f.1.1.1.1 o
  where
    go : (t : Bool) → eqb p.board 0 ≡ t
        → pick t (flag (p.turn equals 0 and each 81 (λ i. get_or p.cells i 0 equals 0) and each 14 (λ i. get_or p.hands i 0 equals 0))) (eqb p.preset 16) ≡ true
        → pick t None (hand_obstacle p.hands 0 14) ≡ None → PositionFits p
    go true e d o =
        let (t₀, z) = says (p.turn equals 0 and each 81 (λ i. get_or p.cells i 0 equals 0) and each 14 (λ i. get_or p.hands i 0 equals 0)) d in
        let b₀ : p.board ≡ 0 = eqb-true p.board 0 e in
        let cs : p.cells ≡ no_cells = all_zero 81 p.cells c z.0 in
        let hs : p.hands ≡ replicate 14 0 = all_zero 14 p.hands n z.1 in
        let q : p ≡ preset_at p.preset =
        ap₂ (λ (x y : ℕ). record { preset = p.preset; board = x; turn = y; cells = p.cells; hands = p.hands }) b₀ t₀
        ∙ ap₂ (λ (x y : List ℕ). record { preset = p.preset; board = 0; turn = 0; cells = x; hands = y }) cs hs in
        subst PositionFits (sym q) (named f.0)
    go false e d o =
        let ne : p.board ≡ 0 → ⊥ = eqb-false p.board 0 e in
        let b₁ : p.board ≡ 1 = omega (arith, f.1.0) in
        let p₁ : p.preset ≡ 16 = eqb-true p.preset 16 d in
        let q : p ≡ diagram_of p.turn p.cells p.hands = ap₂ (λ (x y : ℕ). record { preset = x; board = y; turn = p.turn; cells = p.cells; hands = p.hands }) p₁ b₁ in
        subst PositionFits (sym q) (drawn (side_of p.turn f.1.1.0) c cells n few)
      where
        cells : (k : ℕ) → is_cell (get_or p.cells k 0) ≡ true
        cells k = by (dec_lt k 81)
          where
            by : Dec (k < 81) → is_cell (get_or p.cells k 0) ≡ true
            by (yes l) = f.1.1.1.0 k l
            by (no l) = rw (past_zero p.cells k (omega arith))

        few : (k : ℕ) → get_or p.hands k 0 ≤ 99
        few k = by (dec_lt k 14)
          where
            by : Dec (k < 14) → get_or p.hands k 0 ≤ 99
            by (yes l) = few_clear p.hands 14 0 o k (omega arith) (omega arith)
            by (no l) = omega (arith, past_zero p.hands k (omega arith))

-- ---- the header

before_less : (a b : List ℕ) → before a b ≡ true → by_bytes a b ≡ Less
unfolding by_bytes compared before
before_less a [] h = absurd (false≢true h)
before_less [] (y ∷ b) h = refl
before_less (x ∷ a) (y ∷ b) h = go (ltb x y) refl (eqb x y) refl (before_less a b) h
  where
    go : (t : Bool) → ltb x y ≡ t → (u : Bool) → eqb x y ≡ u → (before a b ≡ true → by_bytes a b ≡ Less) → pick t true (pick u (before a b) false) ≡ true
        → on_order (pick (ltb x y) Less (pick (ltb y x) Greater Equal)) Less (by_bytes a b) Greater ≡ Less
    go true p u q ih h = rw p
    go false p true q ih h = let e : x ≡ y = eqb-true x y q in rw (p, le-ltb y x (omega arith)) (ih h)
    go false p false q ih h = absurd (false≢true h)

less_less : (x y z : Header) → by_header x y ≡ Less → by_header y z ≡ Less → by_header x z ≡ Less
less_less x y z p q = go (by_header x y) (by_header y z) (by_header x z) p q (bytes_chain x.key y.key z.key)
  where
    go : (a b c : Ordering) → a ≡ Less → b ≡ Less → Chain a b c → c ≡ Less
    go a b c p q h = subst (λ (b : Ordering). Chain Less b c) q (subst (λ (a : Ordering). Chain a b c) p h)

less_all : (x y : Header) (hs : List Header) → by_header x y ≡ Less → All (λ z. by_header y z ≡ Less) hs → All (λ z. by_header x z ≡ Less) hs
less_all x y [] p none = none
less_all x y (z ∷ hs) p (next a h) = next (less_less x y z p a) (less_all x y hs p h)

ascend : (hs : List Header) → ((k : ℕ) → suc k < length hs → before (header_of hs k).key (header_of hs (suc k)).key ≡ true) → Ascending by_header hs
ascend [] h = tt
ascend (x ∷ []) h = (none, tt)
ascend (x ∷ y ∷ hs) h =
    let up = ascend (y ∷ hs) (λ k l. h (suc k) (omega arith)) in
    let e : by_header x y ≡ Less = before_less x.key y.key (h 0 (omega arith)) in
    (next e (less_all x y hs e up.0), up)

headers_ascend : (hs : List Header) → claim (each (length hs) (header_fits hs)) → Ascending by_header hs
headers_ascend hs f = ascend hs (λ k l. let m : k < length hs = omega arith in let w : k + 1 < length hs = omega arith in
    subst (λ (j : ℕ). before (header_of hs k).key (header_of hs j).key ≡ true) (add-one k) (rw (lt-ltb (k + 1) (length hs) w) at (f k m).1.1))

-- ---- lines

entries-long : (ls : List Line) (k : ℕ) → k < length ls → length (line_of ls k).entries ≤ length (entries_of ls)
unfolding concat
entries-long [] k h = absurd (omega arith)
entries-long (l ∷ ls) zero h = omega (arith, length-append l.entries (entries_of ls))
entries-long (l ∷ ls) (suc k) h = omega (arith, length-append l.entries (entries_of ls), entries-long ls k (omega arith))

-- what is known of each line
record Known (l : Line) : Type 0 where
  pub some : 1 ≤ length l.entries
  pub low : l.start + length l.entries ≤ 18446744073709551615

lines_fitted : {ls : List Line} → All (λ l. 0 < l.start) ls → All Known ls → All (λ l. All NotedSayable l.entries) ls → All (λ l. Colored l.start l.entries) ls → All LineFits ls
lines_fitted none ks ss cs = none
lines_fitted (next {x = l} z zs) (next k ks) (next s ss) (next c cs) = next (line_fitted l z k.some s c k.low) (lines_fitted zs ks ss cs)

pub all_unmap : {A B : Type 0} {P : B → Type 0} (f : A → B) (l : List A) → All P (map f l) → All (λ x. P (f x)) l
all_unmap f [] h = none
all_unmap f (x ∷ l) (next p h) = next p (all_unmap f l h)

main_is : (l : Line) {cs : List (List ℕ)} {es : List Noted} → l.start ≡ 0 → l.parent ≡ 0 → l.entries ≡ noted Slot cs ∷ es → l ≡ record { start = 0; parent = 0; entries = noted Slot cs ∷ es }
main_is l {cs} {es} a b c = ap₂ (λ (x y : ℕ). record { start = x; parent = y; entries = l.entries }) a b ∙ ap (λ (z : List Noted). record { start = 0; parent = 0; entries = z }) c

slot_is : (e : Noted) → e.what ≡ Slot → e ≡ noted Slot e.comments
slot_is e h = ap (λ x. noted x e.comments) h

-- colours after the slot
later_colored : {ply : ℕ} {e : Noted} {es : List Noted} → Colored ply (e ∷ es) → Colored (ply + 1) es
later_colored (then c cs) = cs

no_lines : shown [] ≡ []
unfolding shown
no_lines = refl

none-shown : (x : Line) (xs : List Line) → x.start ≡ 0 → shown (x ∷ xs) ≡ []
unfolding shown
none-shown x xs e = rw e

-- the main line, and the variations that are shown
abbrev pub shown_lines : List Line → List Line
shown_lines [] = []
shown_lines (l ∷ ls) = l ∷ shown ls

abbrev pub shown_record : Record → Record
shown_record r = record { version = r.version; headers = r.headers; position = r.position; lines = shown_lines r.lines }

all_fitted : (ls : List Line) → 1 ≤ length ls → BranchedIn ls → All Known ls → PlaysSayable (plays_in ls) → All (λ p. Colored p.start p.entries) (plays_in ls) → LinesFit (shown_lines ls)
all_fitted [] n g ks s c = absurd (omega arith)
all_fitted (l ∷ ls) n g (next k ks) (leads s ss) (next c cs) = go l.entries refl s c
  where
    -- where the main line has only its slot, a variation can only start at 0
    alone : (m : ℕ) → length l.entries ≡ suc m → m ≡ 0 → (ls : List Line) → BranchedIn (l ∷ ls) → shown ls ≡ []
    alone m e q [] g = no_lines
    alone m e q (x ∷ xs) g =
        let t = g.each 1 (omega arith) (omega arith) in
        let b : x.parent ≡ 0 = omega (arith, t.before) in
        let w : x.start - l.start < length l.entries = subst (λ (j : ℕ). x.start - starts_in (l ∷ x ∷ xs) j < counts_in (l ∷ x ∷ xs) j) b t.within in
        none-shown x xs (omega (arith, g.origin))

    go : (es : List Noted) → l.entries ≡ es → Led SlotSayable NotedSayable es → Colored l.start es → LinesFit (l ∷ shown ls)
    go [] e x11 c = elim x11 [ ]
    go (x ∷ es) e (leads t ts) c =
        let e' : l.entries ≡ noted Slot x.comments ∷ es = e ∙ ap (λ (y : Noted). y ∷ es) (slot_is x t.slot) in
        let q : l ≡ record { start = 0; parent = 0; entries = noted Slot x.comments ∷ es } = main_is l g.origin g.root e' in
        let c₁ : Colored 1 es = subst (λ (p : ℕ). Colored (p + 1) es) g.origin (later_colored c) in
        let n₁ : 1 + length es ≤ 18446744073709551615 = omega (arith, k.low, ap length e) in
        subst (λ (l : Line). LinesFit (l ∷ shown ls)) (sym q)
        (fit t.comments (entries_fitted 1 ts c₁ n₁)
        (lines_fitted (shown-later ls) (shown-all ks) (shown-all (all_unmap _ ls ss)) (shown-all (all_unmap _ ls cs))) (λ y. alone (length es) (ap length e) y ls g))

pub record_fitted : (r : Record) → Formed r → Sayable r → ColorsFollow r → hands_obstacle r.position ≡ None → RecordFits (shown_record r)
record_fitted r g s c o =
    let w = formed_fits r g in
    let low : length (entries_of r.lines) ≤ 65535 = omega (arith, fits r w) in
    record {
      ascending = headers_ascend r.headers g.headers;
      headers = s.headers;
      position = position_fitted r.position g.cells g.hands g.position o;
      lines =
          all_fitted r.lines g.some (as_branched r.version r.lines g.some (λ k h. (g.lines k h).1))
          (index_all Known (record { start = 0; parent = 0; entries = [] }) r.lines
          (λ k h. record { some = (g.lines k h).0; low = omega (arith, w.starts k h, entries-long r.lines k h) })) s.plays c;
    }
