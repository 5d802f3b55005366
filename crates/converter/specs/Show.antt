-- The text of what is said of a record, or why there is none.                                          (01, Writing, and what is lost; 02, xi)
-- Assumes nothing: these are definitions.
use Rattle.std.specs.Prelude.{ℕ, zero, suc, ◌+◌, ◌/◌, ◌%◌, List, [], ◌∷◌, ◌++◌, drop, get_or, eqb, ltb, Option, Some, None}
use Rattle.lists.specs.Pick.{pick}
use Rattle.lent.specs.Numbers.{decimal}
use Rattle.jkf.specs.declared.Answer.{Answer}
use Rattle.jkf.specs.declared.Answer.TheVariants.{HandCount, CannotWrite, StartsAtZero}
use Rattle.jkf.specs.declared.Position.{Position}
use Rattle.jkf.specs.Model.{Noted, Line, Record}
use Rattle.block.specs.Encode.{concat}
use Rattle.converter.specs.Headers.{headers_text}
use Rattle.converter.specs.Diagrams.{position_text}
use Rattle.converter.specs.Entries.{remarks_text, entries_text, can_write}
use Rattle.converter.specs.Said.{left_out, said_record}
use Rattle.converter.specs.declared.Mode.{Mode}
use Rattle.converter.specs.declared.Mode.TheVariants.{Plain, Whole, Shared}

-- ---- the lines

-- 手数----指手---------消費時間--
abbrev pub number_line : List ℕ
number_line =
    230 ∷ 137 ∷ 139 ∷ 230 ∷ 149 ∷ 176 ∷ 45 ∷ 45 ∷ 45 ∷ 45 ∷ 230 ∷ 140 ∷ 135 ∷ 230 ∷ 137 ∷ 139 ∷ 45 ∷ 45 ∷ 45 ∷ 45 ∷ 45 ∷ 45 ∷ 45 ∷ 45 ∷ 45 ∷ 230 ∷ 182 ∷ 136 ∷ 232 ∷ 178 ∷ 187 ∷ 230 ∷ 153 ∷ 130 ∷ 233 ∷ 150 ∷ 147 ∷ 45 ∷ 45 ∷ 10 ∷ []

-- 変化：
abbrev pub variation_tag : List ℕ
variation_tag = 229 ∷ 164 ∷ 137 ∷ 229 ∷ 140 ∷ 150 ∷ 239 ∷ 188 ∷ 154 ∷ []

-- 手 and LF
abbrev pub ply_tag : List ℕ
ply_tag = 230 ∷ 137 ∷ 139 ∷ 10 ∷ []

abbrev pub slot_comments : List Noted → List (List ℕ)
slot_comments [] = []
slot_comments (e ∷ es) = e.comments

-- Line 0: the comments of its slot, then its entries from 1 on.
unfoldable pub main_text : Line → List ℕ
main_text l = remarks_text (slot_comments l.entries) ++ entries_text 1 (drop 1 l.entries)

-- An empty line and 変化：n手.
unfoldable pub variation_head : ℕ → List ℕ
variation_head start = (((10 ∷ []) ++ variation_tag) ++ decimal start) ++ ply_tag

-- A later line.
unfoldable pub variation_text : Line → List ℕ
variation_text l = variation_head l.start ++ entries_text l.start l.entries

-- The 手数 line, line 0, and the later lines in their order.                                          (the Rust's write_moves)
unfoldable pub lines_text : List Line → List ℕ
lines_text [] = []
lines_text (l ∷ ls) = (number_line ++ main_text l) ++ concat variation_text ls

unfoldable pub record_text : Record → List ℕ
record_text r = (headers_text r.headers ++ position_text r.position) ++ lines_text r.lines

-- ---- what stands in the way

abbrev pub on_obstacle : {A : Type 0} → Option (ℕ × ℕ) → (ℕ → ℕ → A) → A → A
on_obstacle (Some (a, b)) f d = f a b
on_obstacle None f d = d

-- The first of n hand counts from the i-th on that is over 99: its side, and its kind from 0.          (01, Numbers of refusal: 8)
unfoldable pub hand_obstacle : List ℕ → ℕ → ℕ → Option (ℕ × ℕ)
hand_obstacle hands i zero = None
hand_obstacle hands i (suc n) =
    let r = hand_obstacle hands (i + 1) n in pick (ltb 99 (get_or hands i 0)) (Some (i / 7, i % 7)) r

-- Counts are looked at where there is a diagram.
unfoldable pub hands_obstacle : Position → Option (ℕ × ℕ)
hands_obstacle p = pick (eqb p.board 0) None (hand_obstacle p.hands 0 14)

-- The first entry of a line, counted from i on, that cannot be written.                                (01, Numbers of refusal: 9)
unfoldable pub entry_obstacle : ℕ → ℕ → List Noted → Option (ℕ × ℕ)
entry_obstacle line i [] = None
entry_obstacle line i (e ∷ es) = let r = entry_obstacle line (i + 1) es in pick (can_write e.what) r (Some (line, i))

-- The first in some lines, counted from k on.
unfoldable pub line_obstacle : ℕ → List Line → Option (ℕ × ℕ)
line_obstacle k [] = None
line_obstacle k (l ∷ ls) = let r = line_obstacle (k + 1) ls in on_obstacle (entry_obstacle k 0 l.entries) (λ a b. Some (a, b)) r

-- The first of some variations, counted from k on, that starts at 0.                                   (02, xi: refusal 20)
unfoldable pub zero_start : ℕ → List Line → Option (ℕ × ℕ)
zero_start k [] = None
zero_start k (l ∷ ls) = let r = zero_start (k + 1) ls in pick (eqb l.start 0) (Some (k, 0)) r

-- The plain text leaves such lines out; the others lose none.
unfoldable pub start_obstacle : Mode → List Line → Option (ℕ × ℕ)
start_obstacle Plain ls = None
start_obstacle Whole ls = zero_start 1 (drop 1 ls)
start_obstacle Shared ls = zero_start 1 (drop 1 ls)

-- ---- the whole

-- A text and how many lines it leaves out, or a refusal.
pub data Showing : Type 0 where
  text : List ℕ → ℕ → Showing
  refused : Answer → Showing

-- Where no entry stands in the way, the whole text. Lines that are left out are not looked at.           (01, Numbers of refusal: 9)
unfoldable pub show_lines : Mode → Record → Showing
show_lines mode r =
    on_obstacle (line_obstacle 0 (said_record mode r).lines) (λ line entry. refused (CannotWrite line entry)) (text (record_text (said_record mode r)) (left_out r.lines))

-- The hands are looked at before the entries.                                                          (01, Numbers of refusal: order)
unfoldable pub show_hands : Mode → Record → Showing
show_hands mode r = let s = show_lines mode r in on_obstacle (hands_obstacle r.position) (λ side kind. refused (HandCount side kind)) s

-- And the starts of variations before both.                                                            (02, xi: refusal 20)
unfoldable pub show : Mode → Record → Showing
show mode r = let s = show_hands mode r in on_obstacle (start_obstacle mode r.lines) (λ line _. refused (StartsAtZero line)) s
