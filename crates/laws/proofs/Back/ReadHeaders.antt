-- The header entries of a reading: each has a line in the text that was read as a key and a value, and it is read so wherever it stands.
-- Assumes nothing.
use Rattle.std.specs.Prelude.{Option, Some, None}
use Prim.Native.Nat.{ℕ, zero, suc, ◌+◌, ◌-◌, ◌≤◌, ◌<◌}
use native.Mathlib.Omega.{arith}
use mathlib.Core.Path.{◌≡◌, refl, sym, ap, ◌∙◌, subst}
use mathlib.Core.List.{List, [], ◌∷◌, ◌++◌, append_assoc}
use mathlib.Core.Bool.{Bool, true, false}
use lib.ListN.{length, get_or, take, drop, length-append, take-append-drop}
use lib.Seq.{drop-drop, get_or-drop}
use lib.Dec.{eqb}
use borrow.Author.Tests.{eqb-true}
use Rattle.lists.specs.All.{All, none, next}
use Rattle.lists.specs.Pick.{pick}
use Rattle.lists.specs.Repeat.{Step, more, stop, on_step}
use Rattle.lists.proofs.Laws.{pick_both, head_at}
use Rattle.lists.proofs.Stand.{Stands, then, stands_past, stands_same, byte_0, byte_1}
use Rattle.text.specs.Text.{cursor, on_place, is_text, prefix_from, stands_at, break_at, tail_at, text_at, line_end_at, wide_colon, key_from, key_at, same}
use Rattle.text.specs.declared.Cursor.{Cursor}
use Rattle.text.proofs.Laws.{tag_back, no_past, break_after, tail_from}
use Rattle.text.proofs.Boundaries.{key_part}
use Rattle.spell.specs.Tables.{Spelling, sides}
use Rattle.spell.specs.Spell.{on_spelled, first_of}
use Rattle.spell.proofs.Written.{covers, holds, found}
use Rattle.spell.proofs.Counts.{tag_reads}
use Rattle.kakinoki.specs.Informations.{on_held, on_key_value, hash_line_at, hash_lines_at, preset_line_at, turn_line_at, empty_hand, hand_at, held_at, hand_said, hand_line_at, text_between, header_at, Said, information, keyed_at, hands_or_keyed_at, information_at, information_item, keyed_place, header_places_from, header_places_at, padded_end_at}
use Rattle.spell.specs.Words.{hands_tag}
use Rattle.kakinoki.specs.Starts.{second_place, headers_said, header_places}
use Rattle.kakinoki.specs.declared.Held.{Held}
use Rattle.kakinoki.specs.declared.Held.TheVariants.{By, Unreadable, NoHand}
use Rattle.kakinoki.specs.declared.KeyValue.{KeyValue}
use Rattle.kakinoki.specs.declared.Info.{Info}
use Rattle.kakinoki.specs.declared.Info.TheVariants.{Preset, Turn, Hands, Keyed, Refused, Nothing}
use Rattle.kakinoki.proofs.Lines.{HeaderLine, hash_more, hash_stop}
use Rattle.kakinoki.proofs.Items.{line_at, keyed_line}
use Rattle.kakinoki.proofs.Places.{place_at}
use Rattle.kakinoki.proofs.Heads.{headers-said}
use Rattle.sorted.proofs.Kept.{enter_all-all}
use Rattle.parser.specs.Parse.{by_header, headers_of}
use Rattle.parser.proofs.Alls.{all_append, all_map}
use Rattle.converter.specs.Headers.{header_line}
use Rattle.laws.proofs.Breaking.{pair_parts}
use Rattle.laws.specs.Sayable.{every_byte, OneLine, begins_hand, HeaderSayable}
use Rattle.laws.proofs.Back.Leaves.{all_append as text-append, span-reads}
use Rattle.laws.proofs.Back.PresetLines.{Break, lf, crlf, prefix_split, preset_alike, break_off}
use Rattle.laws.proofs.Back.HeaderLines.{prefix_enough, key-text}
use Rattle.laws.proofs.Back.ReadPlays.{text-all, tail_is}

-- ---- what is tried before a key and a value

keyed_preset : (s : List ℕ) (at : ℕ) → (information_at s at).info ≡ Keyed → (preset_line_at s at ≡ None) × ((hand_line_at s at).held ≡ NoHand)
unfolding information_at hands_or_keyed_at
keyed_preset s at e = go (preset_line_at s at) refl (turn_line_at s at) (hand_line_at s at).held refl e
  where
    go : (p : Option (ℕ × Cursor)) → preset_line_at s at ≡ p → (t : Option (ℕ × Cursor)) (h : Held) → (hand_line_at s at).held ≡ h
        → (on_spelled p (λ n c. information (Preset n) empty_hand c) (on_spelled t (λ n c. information (Turn n) empty_hand c)
        (on_held h (λ side c. information (Hands side) (hand_line_at s at).counts c) (information Refused empty_hand (cursor at)) (keyed_at s at)))).info ≡ Keyed
        → (preset_line_at s at ≡ None) × ((hand_line_at s at).held ≡ NoHand)
    go (Some (n, c)) q t h r e = let z : ◌≡◌ {A = ℕ} 0 1 = cc in absurd (omega arith)
    go None q (Some (n, c)) h r e = let z : ◌≡◌ {A = ℕ} 0 1 = cc in absurd (omega arith)
    go None q None (By side c) r e = let z : ◌≡◌ {A = ℕ} 0 1 = cc in absurd (omega arith)
    go None q None Unreadable r e = let z : ◌≡◌ {A = ℕ} 0 1 = cc in absurd (omega arith)
    go None q None NoHand r e = (q, r)

-- ---- the parts of a header line

-- a break begins what follows
break_back : (s : List ℕ) (at : ℕ) (c : Cursor) → break_at s at ≡ Some c → Break (drop at s)
unfolding break_at
break_back s at c e = go (drop at s) (head_at s at) second (eqb (get_or s at 0) 10) refl (eqb (get_or s at 0) 13) refl (eqb (get_or s (at + 1) 0) 10) refl e
  where
    second : get_or s (at + 1) 0 ≡ get_or (drop at s) 1 0
    second = sym (get_or-drop at s 1 0)

    go : (l : List ℕ) → get_or s at 0 ≡ get_or l 0 0 → get_or s (at + 1) 0 ≡ get_or l 1 0 → (t : Bool) → eqb (get_or s at 0) 10 ≡ t → (u : Bool) → eqb (get_or s at 0) 13 ≡ u → (v : Bool) → eqb (get_or s (at + 1) 0) 10 ≡ v
        → pick t (Some (cursor (at + 1))) (pick u (pick v (Some (cursor (at + 2))) None) None) ≡ Some c → Break l
    go [] f g true p u q v r e = let z : ◌≡◌ {A = ℕ} 0 10 = sym f ∙ eqb-true _ _ p in absurd (omega arith)
    go (x ∷ l) f g true p u q v r e = let z : x ≡ 10 = sym f ∙ eqb-true _ _ p in subst (λ (y : ℕ). Break (y ∷ l)) (sym z) lf
    go l f g false p false q v r e = no_past c e
    go l f g false p true q false r e = no_past c e
    go [] f g false p true q true r e = let z : ◌≡◌ {A = ℕ} 0 13 = sym f ∙ eqb-true _ _ q in absurd (omega arith)
    go (x ∷ []) f g false p true q true r e = let z : ◌≡◌ {A = ℕ} 0 10 = sym g ∙ eqb-true _ _ r in absurd (omega arith)
    go (x ∷ y ∷ l) f g false p true q true r e =
        let z : x ≡ 13 = sym f ∙ eqb-true _ _ q in
        let w : y ≡ 10 = sym g ∙ eqb-true _ _ r in
        subst (λ (a : ℕ). Break (a ∷ y ∷ l)) (sym z) (subst (λ (b : ℕ). Break (13 ∷ b ∷ l)) (sym w) crlf)

-- key, ：, value and a break
record Parts (s : List ℕ) (at : ℕ) : Type 0 where
  pub value : List ℕ
  pub rest : List ℕ
  pub stands : Stands s at (key_at s at ++ (wide_colon ++ (value ++ rest)))
  pub break : Break rest
  pub one : OneLine value
  pub is : (header_at s at).value ≡ value
  pub some : 0 < length (key_at s at)

between : (s : List ℕ) (a e : ℕ) → a ≤ e → drop a s ≡ take (e - a) (drop a s) ++ drop e s
between s a e h =
    let q : a + (e - a) ≡ e = omega arith in
    sym (take-append-drop (e - a) (drop a s)) ∙ ap (λ (l : List ℕ). take (e - a) (drop a s) ++ l) (drop-drop (e - a) a s ∙ ap (λ (n : ℕ). drop n s) q)

key_stands : (s : List ℕ) (at : ℕ) → drop at s ≡ key_at s at ++ drop (at + length (key_at s at)) s
key_stands s at =
    let n = length (key_at s at) in
    sym (take-append-drop n (drop at s)) ∙ ap (λ (l : List ℕ). l ++ drop n (drop at s)) (sym (key_part s at)) ∙ ap (λ (l : List ℕ). key_at s at ++ l) (drop-drop n at s)

parts_of : (s : List ℕ) (at : ℕ) (end : Cursor) → HeaderLine s at end → Parts s at
unfolding header_at stands_at
parts_of s at end l =
    let from = l.from in
    let to = l.to in
    let p = pair_parts s at from to end l.is in
    let n : ℕ = at + length (key_at s at) in
    let (t, c) = tag_back wide_colon s n from p.colon in
    let (v, q) = prefix_split wide_colon (drop n s) t in
    let e₁ : drop (n + 3) s ≡ v = sym (drop-drop 3 n s) ∙ ap (drop 3) q in
    let e₂ : drop from.at s ≡ v = ap (λ (i : ℕ). drop i s) c ∙ e₁ in
    let a = break_after s to.at end p.over in
    let m : from.at ≤ to.at = tail_from s from.at to p.tail in
    let e₃ : v ≡ take (to.at - from.at) (drop from.at s) ++ drop to.at s = sym e₂ ∙ between s from.at to.at m in
    let k : to.at ≡ text_at s from.at = tail_is s from.at to p.tail in
    record {
      value = take (to.at - from.at) (drop from.at s);
      rest = drop to.at s;
      stands = record {
        rest = key_stands s at ∙ ap (λ (l : List ℕ). key_at s at ++ l) (q ∙ ap (λ (l : List ℕ). wide_colon ++ l) e₃);
        within = omega (arith, a.past, a.within, m, c);
      };
      break = break_back s to.at end p.over;
      one = subst (λ (i : ℕ). OneLine (take (i - from.at) (drop from.at s))) (sym k) (text-all s from.at);
      is = ap (λ (r : Option KeyValue). on_key_value r (λ from to end. text_between s from to) []) l.is;
      some = l.named;
    }

-- ---- the key

key-short : (k r : List ℕ) → key_from (k ++ (wide_colon ++ r)) ≡ k → key_from (k ++ wide_colon) ≡ k
unfolding key_from prefix_from
key-short [] r h = refl
key-short (b ∷ k) r h = go (is_text b) (prefix_from wide_colon (b ∷ (k ++ (wide_colon ++ r)))) refl refl h (key-short k r)
  where
    same : prefix_from wide_colon (b ∷ (k ++ (wide_colon ++ r))) ≡ prefix_from wide_colon (b ∷ (k ++ wide_colon))
    same =
        ap (λ (l : List ℕ). prefix_from wide_colon (b ∷ l)) (sym (append_assoc k wide_colon r))
        ∙ prefix_enough wide_colon (b ∷ (k ++ wide_colon)) r (omega (arith, length-append k wide_colon))

    go : (t u : Bool) → is_text b ≡ t → prefix_from wide_colon (b ∷ (k ++ (wide_colon ++ r))) ≡ u → pick (pick t u true) [] (b ∷ key_from (k ++ (wide_colon ++ r))) ≡ b ∷ k
        → (key_from (k ++ (wide_colon ++ r)) ≡ k → key_from (k ++ wide_colon) ≡ k)
        → pick (pick (is_text b) (prefix_from wide_colon (b ∷ (k ++ wide_colon))) true) [] (b ∷ key_from (k ++ wide_colon)) ≡ b ∷ k
    go true true e f q ih = let z : ◌≡◌ {A = ℕ} 0 1 = cc in absurd (omega arith)
    go true false e f q ih = let w : key_from (k ++ (wide_colon ++ r)) ≡ k = cc in rw (e, sym same ∙ f, ih w)
    go false u e f q ih = let z : ◌≡◌ {A = ℕ} 0 1 = cc in absurd (omega arith)

-- ---- no # line

line-ends : (u : List ℕ) → OneLine u → {x : List ℕ} → Break x → {s : List ℕ} {at : ℕ} → Stands s at (u ++ x) → line_end_at s at ≡ None → ⊥
unfolding line_end_at tail_at break_at
line-ends u o b {s} {at} st q = then (span-reads is_text u o) st (break_off b) λ e i l. over b e i l
  where
    never : {c : Cursor} → Some c ≡ None → ⊥
    never q = let z : ◌≡◌ {A = ℕ} 0 1 = cc in omega arith

    over : {x : List ℕ} → Break x → (e : ℕ) → text_at s at ≡ e → Stands s e x → ⊥
    over lf e i l = never (rw (i, byte_0 l, byte_0 l) at q)
    over crlf e i l = never (rw (i, byte_0 l, byte_1 l, byte_0 l, byte_1 l) at q)

no-hash : (b : ℕ) (u : List ℕ) → OneLine u → {x : List ℕ} → Break x → {s : List ℕ} {at : ℕ} → Stands s at (b ∷ (u ++ x)) → hash_line_at s at ≡ None → eqb b 35 ≡ false
unfolding hash_line_at
no-hash b u o {x} k {s} {at} st q = go (eqb b 35) refl
  where
    go : (t : Bool) → eqb b 35 ≡ t → eqb b 35 ≡ false
    go true e =
        let z : b ≡ 35 = eqb-true b 35 e in
        let st' : Stands s at ((35 ∷ []) ++ (u ++ x)) = subst (λ (y : ℕ). Stands s at (y ∷ (u ++ x))) z st in
        then (tag_reads (35 ∷ [])) st' tt λ e₁ i₁ l₁. absurd (line-ends u o k l₁ (rw i₁ at q))
    go false e = e

-- ---- no hand

held_not : (side : ℕ) (s : List ℕ) (at : ℕ) → (held_at side s at).held ≡ NoHand → ⊥
unfolding held_at
held_not side s at = go (padded_end_at s (hand_at s at).next.at)
  where
    go : (p : Option Cursor) → (on_place p (λ e. hand_said (By side e) (hand_at s at).counts) (hand_said Unreadable empty_hand)).held ≡ NoHand → ⊥
    go (Some c) q = let z : ◌≡◌ {A = ℕ} 0 1 = cc in omega arith
    go None q = let z : ◌≡◌ {A = ℕ} 0 1 = cc in omega arith

no-hand : (es : List Spelling) → covers sides es ≡ true → (u x : List ℕ) → {s : List ℕ} {at : ℕ} → Stands s at (u ++ x) → (hand_line_at s at).held ≡ NoHand → begins_hand es u ≡ false
unfolding hand_line_at
no-hand [] h u x st q = refl
no-hand (e ∷ es) h u x {s} {at} st q =
    let (a, b) = pick_both (holds sides e.number e.bytes) (covers sides es) h in
    go (prefix_from (e.bytes ++ hands_tag) u) refl a (no-hand es b u x st q)
  where
    go : (t : Bool) → prefix_from (e.bytes ++ hands_tag) u ≡ t → holds sides e.number e.bytes ≡ true → begins_hand es u ≡ false → pick t true (begins_hand es u) ≡ false
    go true f a ih =
        let (v, w) = prefix_split (e.bytes ++ hands_tag) u f in
        let st' : Stands s at (e.bytes ++ (hands_tag ++ (v ++ x))) = stands_same (ap (λ (l : List ℕ). l ++ x) w ∙ append_assoc (e.bytes ++ hands_tag) v x ∙ append_assoc e.bytes hands_tag (v ++ x)) st in
        let i : first_of sides s at ≡ Some (e.number, cursor (at + length e.bytes)) = found sides e.number e.bytes refl a (hands_tag ++ (v ++ x)) st' in
        then (tag_reads hands_tag) (stands_past e.bytes (hands_tag ++ (v ++ x)) s at st') tt λ e₁ i₁ l₁.
        absurd (held_not e.number s e₁ (rw (i, i₁) at q))
    go false f a ih = ih

-- ---- the entry

body_parts : (k v x : List ℕ) → k ++ (wide_colon ++ (v ++ x)) ≡ ((k ++ wide_colon) ++ v) ++ x
body_parts k v x = sym (append_assoc (k ++ wide_colon) v x ∙ append_assoc k wide_colon (v ++ x))

key_here : (s : List ℕ) (at : ℕ) → key_from (drop at s) ≡ key_at s at
unfolding key_at
key_here s at = refl

line_stands : (k v : List ℕ) → Stands (header_line (record { key = k; value = v })) 0 (((k ++ wide_colon) ++ v) ++ (10 ∷ []))
unfolding header_line
line_stands k v = record { rest = refl; within = omega arith }

pub header_sayable : (s : List ℕ) (at : ℕ) → (information_at s at).info ≡ Keyed → hash_line_at s at ≡ None → HeaderSayable (header_at s at)
unfolding header_at same
header_sayable s at e n = go (header_at s at).value p.is
  where
    p : Parts s at
    p = parts_of s at _ (keyed_line s at e)

    k : List ℕ
    k = key_at s at

    v : List ℕ
    v = p.value

    body : List ℕ
    body = (k ++ wide_colon) ++ v

    key : key_from (k ++ wide_colon) ≡ k
    key = key-short k (v ++ p.rest) (ap key_from (sym p.stands.rest) ∙ key_here s at)

    o : OneLine body
    o = text-append is_text (k ++ wide_colon) v (text-append is_text k wide_colon (key-text k key) refl) p.one

    st : Stands s at (body ++ p.rest)
    st = stands_same (body_parts k v p.rest) p.stands

    hash : (k : List ℕ) → 0 < length k → Stands s at ((((k ++ wide_colon) ++ v)) ++ p.rest) → OneLine ((k ++ wide_colon) ++ v) → eqb (get_or k 0 0) 35 ≡ false
    hash [] z st o = absurd (omega arith)
    hash (b ∷ k) z st o = no-hash b ((k ++ wide_colon) ++ v) (pick_both (is_text b) (every_byte is_text ((k ++ wide_colon) ++ v)) o).1 p.break st n

    go : (w : List ℕ) → w ≡ v → HeaderSayable (record { key = k; value = w })
    go w q =
        subst (λ (y : List ℕ). HeaderSayable (record { key = k; value = y })) (sym q)
        (record {
          some = p.some;
          key = key;
          value = p.one;
          no_hash = hash k p.some st o;
          no_hand = no-hand sides refl body p.rest st (keyed_preset s at e).1;
          no_preset = line-none;
        })
      where
        line-none : preset_line_at (header_line (record { key = k; value = v })) 0 ≡ None
        line-none = preset_alike body o p.break (lf {r = []}) st (line_stands k v) (keyed_preset s at e).0

-- ---- all entries

-- past all # lines none follows
hash_step : (s : List ℕ) (n : ℕ) → ((at : ℕ) → length s ≤ n + at → hash_line_at s (hash_lines_at s at) ≡ None) → (at : ℕ) → length s ≤ suc n + at → hash_line_at s (hash_lines_at s at) ≡ None
hash_step s n ih at h = go (hash_line_at s at) refl
  where
    go : (r : Option Cursor) → hash_line_at s at ≡ r → hash_line_at s (hash_lines_at s at) ≡ None
    go None q = ap (hash_line_at s) (hash_stop s at q) ∙ q
    go (Some c) q = let (a, e) = hash_more s at c q in ap (hash_line_at s) e ∙ ih c.at (omega (arith, a.past))

hash_first : (s : List ℕ) (at : ℕ) → length s ≤ at → hash_line_at s (hash_lines_at s at) ≡ None
hash_first s at h = go (hash_line_at s at) refl
  where
    go : (r : Option Cursor) → hash_line_at s at ≡ r → hash_line_at s (hash_lines_at s at) ≡ None
    go None q = ap (hash_line_at s) (hash_stop s at q) ∙ q
    go (Some c) q = let a = (hash_more s at c q).0 in absurd (omega (arith, a.past, a.within))

hash_last : (s : List ℕ) (n : ℕ) (at : ℕ) → length s ≤ n + at → hash_line_at s (hash_lines_at s at) ≡ None
hash_last s zero at h = hash_first s at (omega arith)
hash_last s (suc n) at h = hash_step s n (hash_last s n) at h

module _ (s : List ℕ) where
  abbrev Fit : ℕ → Type 0
  Fit at = HeaderSayable (header_at s at)

  place_fit : (at : ℕ) → All Fit (place_at s at)
  place_fit at = go (line_at s at).info refl
    where
      go : (i : Info) → (line_at s at).info ≡ i → All Fit (keyed_place i (hash_lines_at s at))
      go (Preset n) e = none
      go (Turn n) e = none
      go (Hands side) e = none
      go Keyed e = next (header_sayable s (hash_lines_at s at) e (hash_last s (length s) at (omega arith))) none
      go Refused e = none
      go Nothing e = none

  places_fit : (k at : ℕ) → All Fit (header_places_from s k at)
  unfolding header_places_from
  places_fit zero at = none
  places_fit (suc k) at = go (information_item s at) (places_fit k)
    where
      go : (r : Step Said) → ((to : ℕ) → All Fit (header_places_from s k to)) → All Fit (on_step r (λ to x. place_at s at ++ header_places_from s k to) [])
      go (more to x) ih = all_append (place_fit at) (ih to)
      go stop ih = none

  pub headers_sayable : All HeaderSayable (headers_of s)
  unfolding headers_of header_places header_places_at
  headers_sayable =
      enter_all-all by_header HeaderSayable [] (headers_said s) none
      (subst (All HeaderSayable) (headers-said s) (all_map (header_at s) (all_append (places_fit (length s) 0) (places_fit (length s) (second_place s)))))
