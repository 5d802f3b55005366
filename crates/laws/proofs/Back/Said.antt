-- What the plain text says of a record is fit to be read back where the record is: each loss is of a kind that reads, and its lines hang as they did.
-- Assumes nothing.
use Prim.Native.Nat.{ℕ, suc, ◌≤◌, ◌<◌}
use native.Mathlib.Omega.{arith}
use mathlib.Core.Path.{◌≡◌, refl, sym, ap, ◌∙◌, subst}
use mathlib.Core.List.{List, [], ◌∷◌, map}
use lib.ListN.{length, take, length-map, get_or-map}
use lib.Dec.{eqb}
use lib.Seq.{length-take-le, get_or-take}
use Rattle.lists.proofs.Laws.{by_pick}
use Rattle.jkf.specs.declared.Clock.{Clock}
use Rattle.jkf.specs.declared.Time.{Time}
use Rattle.jkf.specs.declared.Entry.{Entry}
use Rattle.jkf.specs.Model.{Noted, Line, Record}
use Rattle.moves.specs.Fits.{ClockFits, hms_fits, ms_fits, TimeFits, untimed_fits, timed_fits, EntryFits, play_fits, end_fits}
use Rattle.block.specs.Formed.{line_of}
use Rattle.converter.specs.declared.Mode.TheVariants.{Plain}
use Rattle.converter.specs.Said.{hour, minute, second, said_mark, said_now, said_total, said_origin, said_time, said_move, said_entry, said_noted, said_line, shown, said_lines, said_record}
use Rattle.parser.proofs.Alls.{all_map}
use Rattle.edit.proofs.Listing.{starts_in, counts_in, parents_in, LinesAs, none, as_front}
use Rattle.laws.proofs.Firsts.{all_so}
use Rattle.laws.specs.Sayable.{Follows, slot, move, ending}
use Rattle.laws.proofs.Back.Entries.{NotedFits, EntriesFit, done, also}
use Rattle.laws.proofs.Back.Lines.{LineFits}
use Rattle.laws.proofs.Back.Texts.{LinesFit, fit, RecordFits}
use Rattle.laws.proofs.Back.Fits.{shown_lines, shown_record}
use Rattle.laws.proofs.Back.Shown.{shown-take, shown-few}

-- ---- entries

clock_figures : {c : Clock} → ClockFits c → (hour c ≤ 255) × (minute c ≤ 255) × (second c ≤ 255)
clock_figures (hms_fits h m s) = (h, m, s)
clock_figures (ms_fits m s) = (omega arith, m, s)

time-said : {t : Time} → TimeFits t → TimeFits (said_time Plain t)
unfolding said_time said_now said_total
time-said untimed_fits = untimed_fits
time-said (timed_fits f g) =
    let (h, m, s) = clock_figures f in
    let (k, n, o) = clock_figures g in
    timed_fits (ms_fits m s) (hms_fits k n o)

mark-low : (p : ℕ) → p ≤ 2 → said_mark Plain p ≤ 2
unfolding said_mark
mark-low p h = by_pick (λ (n : ℕ). n ≤ 2) (eqb p 1) 0 p (λ _. omega arith) (λ _. h)

entry-said : {e : Entry} → EntryFits e → EntryFits (said_entry Plain e)
unfolding said_entry said_move said_origin
entry-said (play_fits f) =
    play_fits (record { side = f.side; some = f.some; kind = f.kind; mark = mark-low _ f.mark; target = f.target; origin = f.origin; time = time-said f.time })
entry-said (end_fits h f) = end_fits h (time-said f)

follows_said : {ply : ℕ} {e : Entry} → Follows ply e → Follows ply (said_entry Plain e)
unfolding said_entry said_move
follows_said slot = slot
follows_said (move h) = move h
follows_said ending = ending

noted-said : {ply : ℕ} {e : Noted} → NotedFits ply e → NotedFits ply (said_noted Plain e)
unfolding said_noted
noted-said f = record { number = f.number; entry = entry-said f.entry; color = follows_said f.color; comments = f.comments }

entries-said : {ply : ℕ} {es : List Noted} → EntriesFit ply es → EntriesFit ply (map (said_noted Plain) es)
entries-said done = done
entries-said (also f fs) = also (noted-said f) (entries-said fs)

line-said : {l : Line} → LineFits l → LineFits (said_line Plain l)
unfolding said_line
line-said f = record {
  later = f.later;
  first = said_noted Plain f.first;
  others = map (said_noted Plain) f.others;
  some = ap (map (said_noted Plain)) f.some;
  entries = entries-said f.entries;
}

lines-said : {ls : List Line} → LinesFit ls → LinesFit (map (said_line Plain) ls)
unfolding said_line said_noted said_entry
lines-said (fit {cs} {es} {ls} o h k alone) =
    fit o (entries-said h) (all_map (said_line Plain) (all_so (λ l. line-said) k)) (λ z. ap (map (said_line Plain)) (alone (sym (length-map es (said_noted Plain)) ∙ z)))

said-shown : (ls : List Line) → said_lines Plain ls ≡ map (said_line Plain) (shown_lines ls)
unfolding said_lines
said-shown [] = refl
said-shown (l ∷ ls) = refl

pub said_fits : (r : Record) → RecordFits (shown_record r) → RecordFits (said_record Plain r)
unfolding said_record
said_fits r f =
    record {
      ascending = f.ascending;
      headers = f.headers;
      position = f.position;
      lines = subst LinesFit (sym (said-shown r.lines)) (lines-said f.lines);
    }

-- ---- the lines that are shown are the first n

pub record Taken (ls : List Line) : Type 0 where
  pub n : ℕ
  pub some : 1 ≤ n
  pub most : n ≤ length ls
  pub is : said_lines Plain ls ≡ map (said_line Plain) (take n ls)

pub taken_of : (ls : List Line) → 1 ≤ length ls → Taken ls
unfolding said_lines
taken_of [] h = absurd (omega arith)
taken_of (l ∷ ls) h = record {
  n = suc (length (shown ls));
  some = omega arith;
  most = omega (arith, shown-few ls);
  is = ap (λ (k : List Line). said_line Plain l ∷ map (said_line Plain) k) (shown-take ls);
}

-- ---- they hang as they did

-- lines that hang as a version asks, each with an entry
pub record Hung (version : ℕ) (ls : List Line) : Type 0 where
  pub some : 1 ≤ length ls
  pub hangs : LinesAs version ls
  pub full : (k : ℕ) → k < length ls → 1 ≤ counts_in ls k

line_at : (n : ℕ) (ls : List Line) (i : ℕ) → i < n → line_of (map (said_line Plain) (take n ls)) i ≡ said_line Plain (line_of ls i)
unfolding said_line
line_at n ls i h = get_or-map (said_line Plain) (take n ls) i none ∙ ap (said_line Plain) (get_or-take n ls i none h)

module _ (n : ℕ) (ls : List Line) (some : 1 ≤ n) (most : n ≤ length ls) where
  abbrev ms : List Line
  ms = map (said_line Plain) (take n ls)

  start-at : (i : ℕ) → i < n → starts_in ms i ≡ starts_in ls i
  unfolding said_line
  start-at i h = ap (λ (l : Line). l.start) (line_at n ls i h)

  count-at : (i : ℕ) → i < n → counts_in ms i ≡ counts_in ls i
  unfolding said_line
  count-at i h = ap (λ (l : Line). length l.entries) (line_at n ls i h) ∙ length-map (line_of ls i).entries (said_noted Plain)

  parent-at : (i : ℕ) → i < n → parents_in ms i ≡ parents_in ls i
  unfolding said_line
  parent-at i h = ap (λ (l : Line). l.parent) (line_at n ls i h)

  many : length ms ≡ n
  many = length-map (take n ls) (said_line Plain) ∙ length-take-le n ls most

  front_hung : (version : ℕ) → Hung version ls → Hung version ms
  front_hung version h =
      record {
        some = omega (arith, many);
        hangs =
            as_front version ls ms (omega (arith, many)) (omega (arith, many)) (λ i l. start-at i (omega (arith, many))) (λ i l. count-at i (omega (arith, many)))
            (λ i l. parent-at i (omega (arith, many))) h.hangs;
        full = λ i l. omega (arith, many, count-at i (omega (arith, many)), h.full i (omega (arith, many)));
      }

pub said_hung : {version : ℕ} {ls : List Line} → Hung version ls → Hung version (said_lines Plain ls)
said_hung {version} {ls} h = let t = taken_of ls h.some in subst (Hung version) (sym t.is) (front_hung t.n ls t.some t.most version h)
