-- What stands before the moves reads back: the header, and a preset or a diagram with its hands and the side to move.
-- Assumes nothing.
use Rattle.std.specs.Prelude.{None}
use Prim.Native.Nat.{ℕ, ◌+◌, ◌≤◌, ◌<◌}
use native.Mathlib.Omega.{arith}
use mathlib.Core.Path.{◌≡◌, refl, sym, ap, ap₂, ◌∙◌, subst}
use mathlib.Core.List.{List, [], ◌∷◌, ◌++◌, map, append_assoc, append-nil}
use mathlib.Core.Bool.{Bool, true, false}
use lib.ListN.{length, get_or, drop, replicate}
use lib.Dec.{eqb, ltb}
use borrow.Author.Tests.{ne_eqb, le-ltb}
use Rattle.lists.specs.All.{All, none, next}
use Rattle.lists.specs.Pick.{pick}
use Rattle.lists.specs.Repeat.{more, stop, ended}
use Rattle.lists.proofs.Laws.{by_pick}
use Rattle.lists.proofs.Repeats.{many_more, many_stop}
use Rattle.lists.proofs.Stand.{Stands, Came, Reads, Any, then, came, stands_past, stands_same}
use Rattle.text.specs.Text.{cursor, prefix_from, tag_at, wide_colon, key_from, key_at}
use Rattle.spell.specs.Tables.{sides}
use Rattle.spell.specs.Spell.{first_of}
use Rattle.spell.proofs.Written.{clash, clear, first_fails}
use Rattle.jkf.specs.declared.Position.{Position}
use Rattle.jkf.specs.Model.{Header}
use Rattle.block.specs.Encode.{concat}
use Rattle.block.specs.Decode.{run}
use Rattle.block.specs.Sound.{is_cell}
use Rattle.block.proofs.Tabling.{concat-append, run-all}
use Rattle.kakinoki.specs.Informations.{hash_lines_at, preset_line_at, turn_line_at, empty_hand, hand_line_at, value_at, key_value_at, Said, of_preset, of_turn, of_hands, of_pair, information, keyed_at, hands_or_keyed_at, information_at, information_item, informations_at, fault_at, untold, tell, tell_all, pairs_of}
use Rattle.spell.specs.Words.{preset_tag, files_tag, rule_tag}
use Rattle.kakinoki.specs.Boards.{no_cells, board_at, no_board, board}
use Rattle.kakinoki.specs.Starts.{add_hands, merged, position_said, headers_said, start_read}
use Rattle.kakinoki.specs.declared.Told.{Told}
use Rattle.kakinoki.specs.declared.Info.TheVariants.{Nothing}
use Rattle.kakinoki.proofs.Items.{item_goes}
use Rattle.parser.proofs.Alls.{all_append, all-concat}
use Rattle.parser.specs.Parse.{by_header, headers_of}
use Rattle.sorted.specs.Sorted.{enter_all}
use Rattle.sorted.specs.inner.Orders.{Ascending}
use Rattle.converter.specs.Headers.{leading_number, numbered, range, header_line, lines_of, headers_text}
use Rattle.converter.specs.Diagrams.{preset_line, board_text, turn_text, board_rows, hand_line_text}
use Rattle.converter.specs.Show.{number_line}
use Rattle.laws.specs.Sayable.{HeaderSayable}
use Rattle.laws.proofs.Back.Leaves.{tag_fails, byte_fails}
use Rattle.laws.proofs.Back.KeyOrder.{written, order_back}
use Rattle.laws.proofs.Back.Boards.{board_came, board-parts}
use Rattle.laws.proofs.Back.Hands.{counts_of}
use Rattle.laws.proofs.Back.Information.{hash_none, preset_item, turn_item, Side, black, white, hands_item}
use Rattle.laws.proofs.Back.HeaderLines.{first_byte, header_item}

-- ---- lines one after the other

pub data Says : List ℕ → List Said → Type 0 where
  silent : Says [] []
  says : {t u : List ℕ} {x : Said} {xs : List Said} → Reads information_item (λ e. more e x) t Any → Says u xs → Says (t ++ u) (x ∷ xs)

says_one : {t : List ℕ} {x : Said} → Reads information_item (λ e. more e x) t Any → Says t (x ∷ [])
says_one {t} {x} h = subst (λ (l : List ℕ). Says l (x ∷ [])) (append-nil t) (says h silent)

says_append : {t u : List ℕ} {xs ys : List Said} → Says t xs → Says u ys → Says (t ++ u) (xs ++ ys)
says_append silent k = k
says_append {u = u} {ys = ys} (says {t = t} {u = v} {x = x} {xs = xs} h g) k =
    subst (λ (l : List ℕ). Says l (x ∷ (xs ++ ys))) (sym (append_assoc t v u)) (says h (says_append g k))

-- no line begins here
abbrev Stops : List ℕ → Type 0
Stops r = (s : List ℕ) (at : ℕ) → Stands s at r → information_item s at ≡ stop

infos_came : {t : List ℕ} {xs : List Said} → Says t xs → {s : List ℕ} {at : ℕ} (r : List ℕ) → Stops r → Stands s at (t ++ r) → Came (informations_at s at) (λ e. ended e xs) s r
unfolding informations_at
infos_came silent {s} {at} r z st = record { end = at; is = many_stop (information_item s) (length s) at (z s at st); left = st }
infos_came (says {t = t} {u = u} {x = x} {xs = xs} h g) {s} {at} r z st =
    then h (stands_same (append_assoc t u r) st) tt λ e₁ i₁ l₁.
    came (infos_came g r z l₁) λ e₂ i₂ l₂.
    record { end = e₂; is = many_more (information_item s) (length s) (item_goes s) at e₁ x i₁ ∙ rw i₂; left = l₂ }

-- ---- a line that is none: no #, no preset, no side, and no ：

record Bare (t : List ℕ) : Type 0 where
  pub hash : eqb (get_or t 0 0) 35 ≡ false
  pub preset : clash preset_tag t ≡ false
  pub side : clear t sides ≡ true
  pub some : 0 < length t
  pub key : (r : List ℕ) → key_from (t ++ (10 ∷ r)) ≡ t

module _ (t : List ℕ) (b : Bare t) {s : List ℕ} {at : ℕ} (r : List ℕ) (st : Stands s at (t ++ (10 ∷ r))) where
  bare_hash : hash_lines_at s at ≡ at
  bare_hash = hash_none st (ap (λ (x : ℕ). eqb x 35) (first_byte t (10 ∷ r) b.some) ∙ b.hash)

  bare_line : information_at s at ≡ information Nothing empty_hand (cursor at)
  unfolding information_at preset_line_at turn_line_at hands_or_keyed_at hand_line_at keyed_at key_value_at value_at key_at
  bare_line =
      let f : first_of sides s at ≡ None = first_fails sides t b.side (10 ∷ r) st in
      let k : key_from (drop at s) ≡ t = ap key_from st.rest ∙ b.key r in
      let ne : eqb (length t) 0 ≡ false = ne_eqb (length t) 0 (λ e. let g = b.some in omega arith) in
      let l = stands_past t (10 ∷ r) s at st in
      let z : tag_at wide_colon s (at + length t) ≡ None = byte_fails 239 (188 ∷ 154 ∷ []) l refl in
      rw (tag_fails preset_tag t b.preset (10 ∷ r) st, f, k, ne, z)

  bare_stops : information_item s at ≡ stop
  unfolding information_item
  bare_stops = rw (bare_hash, bare_line)

  bare_fault : fault_at s at ≡ None
  unfolding fault_at
  bare_fault = rw (bare_hash, bare_line)

-- the 手数 line, without its LF, and the first line of a diagram
number_text : List ℕ
number_text =
    230 ∷ 137 ∷ 139 ∷ 230 ∷ 149 ∷ 176 ∷ 45 ∷ 45 ∷ 45 ∷ 45 ∷ 230 ∷ 140 ∷ 135 ∷ 230 ∷ 137 ∷ 139 ∷ 45 ∷ 45 ∷ 45 ∷ 45 ∷ 45 ∷ 45 ∷ 45 ∷ 45 ∷ 45 ∷ 230 ∷ 182 ∷ 136 ∷ 232 ∷ 178 ∷ 187 ∷ 230 ∷ 153 ∷ 130 ∷ 233 ∷ 150 ∷ 147 ∷ 45 ∷ 45 ∷ []

number_bare : Bare number_text
unfolding number_text key_from prefix_from
number_bare = record { hash = refl; preset = refl; side = refl; some = omega arith; key = λ r. refl }

number-text : (r : List ℕ) → number_line ++ r ≡ number_text ++ (10 ∷ r)
unfolding number_text
number-text r = refl

files_bare : Bare files_tag
unfolding key_from prefix_from
files_bare = record { hash = refl; preset = refl; side = refl; some = omega arith; key = λ r. refl }

number_stops : (r : List ℕ) → Stops (number_line ++ r)
number_stops r s at st = bare_stops number_text number_bare r (stands_same (number-text r) st)

number_fault : {s : List ℕ} {at : ℕ} (r : List ℕ) → Stands s at (number_line ++ r) → fault_at s at ≡ None
number_fault r st = bare_fault number_text number_bare r (stands_same (number-text r) st)

files_stops : (r : List ℕ) → Stops (files_tag ++ (10 ∷ r))
files_stops r s at st = bare_stops files_tag files_bare r st

no_diagram : {s : List ℕ} {at : ℕ} (r : List ℕ) → Stands s at (number_line ++ r) → board_at s at ≡ no_board
unfolding board_at
no_diagram r st = rw (byte_fails 32 _ st refl)

-- ---- the header

concat_twice : {X Y Z : Type 0} (f : Y → List Z) (g : X → List Y) (xs : List X) → concat (λ x. concat f (g x)) xs ≡ concat f (concat g xs)
unfolding concat
concat_twice f g [] = refl
concat_twice f g (x ∷ xs) = ap (λ l. concat f (g x) ++ l) (concat_twice f g xs) ∙ sym (concat-append f (g x) (concat g xs))

headers-text : (hs : List Header) → headers_text hs ≡ concat header_line (written hs)
unfolding headers_text lines_of
headers-text hs =
    ap (λ (l : List ℕ). l ++ concat header_line (numbered 0 hs)) (concat_twice header_line (λ n. numbered n hs) (range 1 12))
    ∙ sym (concat-append header_line (concat (λ n. numbered n hs) (range 1 12)) (numbered 0 hs))

headers_say : {hs : List Header} → All HeaderSayable hs → Says (concat header_line hs) (map of_pair hs)
unfolding concat
headers_say none = silent
headers_say (next h g) = says (header_item _ h) (headers_say g)

pub numbered-all : {P : Header → Type 0} (n : ℕ) {hs : List Header} → All P hs → All P (numbered n hs)
unfolding numbered
numbered-all n none = none
numbered-all {P} n (next {x = x} {l = l} p g) =
    by_pick (λ (k : List Header). All P k) (eqb (leading_number x.key) n) (x ∷ numbered n l) (numbered n l) (λ _. next p (numbered-all n g)) (λ _. numbered-all n g)

written_all : {P : Header → Type 0} {hs : List Header} → All P hs → All P (written hs)
unfolding run
written_all {P} {hs} g = all_append (all-concat (λ n. numbered n hs) (each (range 1 12))) (numbered-all 0 g)
  where
    each : (ns : List ℕ) → All (λ n. All P (numbered n hs)) ns
    each [] = none
    each (n ∷ ns) = next (numbered-all n g) (each ns)

pairs_are : (hs : List Header) (xs : List Said) → pairs_of (map of_pair hs ++ xs) ≡ hs ++ pairs_of xs
unfolding pairs_of
pairs_are [] xs = refl
pairs_are (h ∷ hs) xs = ap (λ (l : List Header). h ∷ l) (pairs_are hs xs)

pairs_tell : (hs : List Header) (xs : List Said) (t : Told) → tell_all t (map of_pair hs ++ xs) ≡ tell_all t xs
unfolding tell_all tell
pairs_tell [] xs t = refl
pairs_tell (h ∷ hs) xs t = pairs_tell hs xs t

-- ---- hands of the two blocks

abbrev Few : ℕ → Type 0
Few n = n ≤ 99

add_left : {b : List ℕ} → All Few b → add_hands (replicate (length b) 0) b ≡ b
unfolding add_hands
add_left none = refl
add_left (next {x = x} {l = l} h g) =
    let e : 0 + x ≡ x = omega arith in
    let z : ltb 255 (0 + x) ≡ false = le-ltb 255 (0 + x) (omega arith) in
    ap₂ (λ (y : ℕ) (k : List ℕ). y ∷ k) (ap (λ (t : Bool). pick t 255 (0 + x)) z ∙ e) (add_left g)

add_right : {b : List ℕ} → All Few b → add_hands b (replicate (length b) 0) ≡ b
unfolding add_hands
add_right none = refl
add_right (next {x = x} {l = l} h g) =
    let e : x + 0 ≡ x = omega arith in
    let z : ltb 255 (x + 0) ≡ false = le-ltb 255 (x + 0) (omega arith) in
    ap₂ (λ (y : ℕ) (k : List ℕ). y ∷ k) (ap (λ (t : Bool). pick t 255 (x + 0)) z ∙ e) (add_right g)

counts-run : (hands : List ℕ) → counts_of hands 0 ++ counts_of hands 1 ≡ run (λ i. get_or hands i 0) 0 14
unfolding run
counts-run hands = refl

-- a diagram begins with its first line
board_stops : (cells q : List ℕ) → Stops (board_text cells ++ q)
unfolding board_text
board_stops cells q s at st = files_stops _ s at (stands_same (board-parts files_tag rule_tag (board_rows cells) q) st)

module _ (hands : List ℕ) (few : (k : ℕ) → get_or hands k 0 ≤ 99) where
  few-counts : (side : ℕ) → All Few (counts_of hands side)
  few-counts side = next (few _) (next (few _) (next (few _) (next (few _) (next (few _) (next (few _) (next (few _) none))))))

  hands_are : length hands ≡ 14 → add_hands empty_hand (counts_of hands 0) ++ add_hands (counts_of hands 1) empty_hand ≡ hands
  hands_are n = ap₂ (λ (a b : List ℕ). a ++ b) (add_left (few-counts 0)) (add_right (few-counts 1)) ∙ counts-run hands ∙ run-all (λ i. get_or hands i 0) 0 14 hands (sym n) (λ i h. refl)

-- ---- a preset

pub record Starts (s : List ℕ) (hs : List Header) (p : Position) (r : List ℕ) : Type 0 where
  pub end : ℕ
  pub fault : (start_read s).fault ≡ None
  pub position : (start_read s).position ≡ p
  pub next : (start_read s).next.at ≡ end
  pub headers : headers_of s ≡ hs
  pub left : Stands s end (number_line ++ r)

abbrev pub preset_at : ℕ → Position
preset_at n = record { preset = n; board = 0; turn = 0; cells = no_cells; hands = replicate 14 0 }

abbrev pub diagram_of : ℕ → List ℕ → List ℕ → Position
diagram_of turn cells hands = record { preset = 16; board = 1; turn = turn; cells = cells; hands = hands }

module _ (hs : List Header) (up : Ascending by_header hs) (fit : All HeaderSayable hs) where
  header_says : Says (headers_text hs) (map of_pair (written hs))
  header_says = subst (λ (t : List ℕ). Says t (map of_pair (written hs))) (sym (headers-text hs)) (headers_say (written_all fit))

  pub preset-starts : (n : ℕ) → n ≤ 16 → (s r : List ℕ) → Stands s 0 ((headers_text hs ++ preset_line n) ++ (number_line ++ r)) → Starts s hs (preset_at n) r
  unfolding start_read headers_of headers_said position_said merged tell_all tell pairs_of
  preset-starts n h s r st =
      came (infos_came (says_append header_says (says_one (preset_item n h))) _ (number_stops r) st) λ e i l.
      let d : board_at s e ≡ no_board = no_diagram r l in
      came (infos_came silent _ (number_stops r) l) λ f j m.
      let z : fault_at s f ≡ None = number_fault r m in
      record {
        end = f;
        fault = rw (i, d, j, z);
        position = rw (i, d, j, pairs_tell (written hs) (of_preset n ∷ []) untold);
        next = rw (i, d, j);
        headers = rw (i, d, j, pairs_are (written hs) (of_preset n ∷ []), append-nil (written hs), append-nil (written hs)) (order_back hs up);
        left = m;
      }

  -- ---- a diagram

  module _ (cells hands : List ℕ) (c : length cells ≡ 81) (cs : (k : ℕ) → is_cell (get_or cells k 0) ≡ true) (n : length hands ≡ 14) (few : (k : ℕ) → get_or hands k 0 ≤ 99) where
    hands_say : {side : ℕ} → Side side → Reads information_item (λ e. more e (of_hands side (counts_of hands side))) (hand_line_text hands side) Any
    hands_say d = hands_item hands d (λ k a b. few _)

    first_says : Says (headers_text hs ++ (preset_line 16 ++ hand_line_text hands 1)) (map of_pair (written hs) ++ (of_preset 16 ∷ of_hands 1 (counts_of hands 1) ∷ []))
    first_says = says_append header_says (says (preset_item 16 (omega arith)) (says_one (hands_say white)))

    -- what the second block says, by the side to move
    abbrev turned : {turn : ℕ} → Side turn → List Said
    turned black = []
    turned white = of_turn 1 ∷ []

    second_says : {turn : ℕ} (d : Side turn) → Says (hand_line_text hands 0 ++ turn_text turn) (of_hands 0 (counts_of hands 0) ∷ turned d)
    unfolding turn_text
    second_says black = says (hands_say black) silent
    second_says white = says (hands_say black) (says_one turn_item)

    pub diagram-starts : {turn : ℕ} → Side turn → (s r : List ℕ)
        → Stands s 0 ((headers_text hs ++ (preset_line 16 ++ hand_line_text hands 1)) ++ (board_text cells ++ ((hand_line_text hands 0 ++ turn_text turn) ++ (number_line ++ r)))) → Starts s hs (diagram_of turn cells hands) r
    unfolding start_read headers_of headers_said position_said merged tell_all tell pairs_of
    diagram-starts {turn} d s r st =
        came (infos_came first_says _ (board_stops cells _) st) λ e i l.
        came (board_came cells cs c _ l) λ f j m.
        came (infos_came (second_says d) _ (number_stops r) m) λ g k o.
        let z : fault_at s g ≡ None = number_fault r o in
        let pairs = pairs_are (written hs) (of_preset 16 ∷ of_hands 1 (counts_of hands 1) ∷ []) in
        let tells = pairs_tell (written hs) (of_preset 16 ∷ of_hands 1 (counts_of hands 1) ∷ []) untold in
        record {
          end = g;
          fault = rw (i, j, k, z);
          position = rw (i, j, k, tells) (placed d);
          next = rw (i, j, k);
          headers = rw (i, j, k, pairs) (ap (enter_all by_header []) (paired d) ∙ order_back hs up);
          left = o;
        }
      where
        placed : {turn : ℕ} (d : Side turn)
            → position_said (board true cells (cursor 0)) (merged (tell_all untold (of_preset 16 ∷ of_hands 1 (counts_of hands 1) ∷ [])) (tell_all untold (of_hands 0 (counts_of hands 0) ∷ turned d))) ≡ diagram_of turn cells hands
        placed black = ap (diagram_of 0 cells) (hands_are hands few n)
        placed white = ap (diagram_of 1 cells) (hands_are hands few n)

        paired : {turn : ℕ} (d : Side turn) → (written hs ++ []) ++ pairs_of (of_hands 0 (counts_of hands 0) ∷ turned d) ≡ written hs
        paired black = append-nil (written hs ++ []) ∙ append-nil (written hs)
        paired white = append-nil (written hs ++ []) ∙ append-nil (written hs)
