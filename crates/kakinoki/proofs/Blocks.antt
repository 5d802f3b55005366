-- The turns of the loop of `informations`, over plain values.
-- Assumes nothing.
use Rattle.std.specs.Prelude.{Option}
use Prim.Native.Nat.{ℕ, ◌+◌, ◌≤◌, ◌<◌}
use native.Mathlib.Omega.{arith}
use mathlib.Core.Path.{◌≡◌, refl, sym, ap, ◌∙◌}
use mathlib.Core.List.{List, [], ◌∷◌, ◌++◌}
use mathlib.Core.Bool.{true, false}
use lib.ListN.{length, length-append}
use Rattle.lists.specs.Repeat.{more, stop, Ended}
use Rattle.lists.proofs.Repeats.{many_more, many_stop}
use Rattle.lent.specs.Stored.{put}
use Rattle.lent.proofs.Regions.{put-none, put-more, length-put}
use Rattle.text.specs.Text.{cursor}
use Rattle.text.specs.declared.Cursor.{Cursor}
use Rattle.kakinoki.specs.Informations.{header_at, Said, information_at, is_line, said_of, hash_lines_at, information_item, informations_at, fault_of, fault_at, tell, tell_all, untold, keyed_place, header_places_at, low16}
use Rattle.kakinoki.specs.inner.Blocks.{block_at}
use Rattle.kakinoki.specs.declared.Told.{Told}
use Rattle.kakinoki.specs.declared.Information.{Information}
use Rattle.kakinoki.specs.declared.InformationBlock.{InformationBlock}
use Rattle.kakinoki.proofs.Items.{line_at, item, item_more, item_stop, item_goes}
use Rattle.kakinoki.proofs.Places.{places_more, places_stop, block_five, block_within}

pub low-append : (a b : List ℕ) → low16 (a ++ b) ≡ low16 a ++ low16 b
low-append [] b = refl
low-append (x ∷ a) b = ap (λ (l : List ℕ). low16 (x ∷ []) ++ l) (low-append a b)

pub low-length : (a : List ℕ) → length (low16 a) ≡ length a
low-length [] = refl
low-length (x ∷ a) = omega (arith, low-length a)

-- a block
abbrev pub made : Told → ℕ → Option ℕ → Cursor → InformationBlock
made t n f c = record { told = t; headers = n; fault = f; next = c }

-- from `start` to `at` the block has said t, and n header lines are found and kept in o; what is said from `at` on is still to come
pub record Saying (s : List ℕ) (start : ℕ) (o₀ : List ℕ) (t : Told) (n at : ℕ) (o : List ℕ) : Type 0 where
  pub says : tell_all untold (informations_at s start).state ≡ tell_all t (informations_at s at).state
  pub ends : (informations_at s start).at ≡ (informations_at s at).at
  pub counts : length (header_places_at s start) ≡ n + length (header_places_at s at)
  pub keeps : put o₀ 0 (low16 (header_places_at s start)) ≡ put o n (low16 (header_places_at s at))

pub saying_none : (s : List ℕ) (at : ℕ) (o : List ℕ) → Saying s at o untold 0 at o
saying_none s at o = record { says = refl; ends = refl; counts = omega arith; keeps = refl }

module _ {s : List ℕ} {start : ℕ} {o₀ : List ℕ} {t : Told} {n at : ℕ} {o : List ℕ} (w : Saying s start o₀ t n at o) where
  pub saying_length : length o ≡ length o₀
  saying_length =
      sym (length-put o n (low16 (header_places_at s at))) ∙ sym (ap length w.keeps) ∙ length-put o₀ 0 (low16 (header_places_at s start))

  -- no more header lines than bytes
  pub saying_few : n ≤ length s
  saying_few = omega (arith, w.counts, block_five s start, block_within s start)

  -- h is the place past the # lines, and i the line that stands there, as the code read them
  module _ {h : ℕ} {i : Information} (q : h ≡ hash_lines_at s at) (p : i ≡ information_at s h) where
    read : i ≡ line_at s at
    read = p ∙ ap (information_at s) q

    module _ (line : is_line i.info ≡ true) where
      here : information_item s at ≡ more i.next.at (said_of i.info i.counts (header_at s h))
      here = rw (q, read) (item_more s at (rw read at line))

      -- it goes on within the text
      pub saying_past : at < i.next.at
      saying_past = (item s at _ _ here).past

      pub saying_within : i.next.at ≤ length s
      saying_within = (item s at _ _ here).within

      pub saying_more : {t' : Told} {n' : ℕ} {o' : List ℕ} → t' ≡ tell t (said_of i.info i.counts (header_at s h))
          → n' ≡ n + length (keyed_place i.info h) → o' ≡ put o n (low16 (keyed_place i.info h)) → Saying s start o₀ t' n' i.next.at o'
      unfolding informations_at tell_all
      saying_more {t'} {n'} {o'} f g r =
          let next : ℕ = i.next.at in
          let ps : List ℕ = keyed_place i.info h in
          let qs : List ℕ = header_places_at s next in
          let m = many_more (information_item s) (length s) (item_goes s) at next _ here in
          let d : header_places_at s at ≡ ps ++ qs = rw (read, q) (places_more s at (line_at s at).next.at _ (item_more s at (rw read at line))) in
          let k = low-length ps in
          let e : n + length (low16 ps) ≡ n' = omega arith in
          record {
            says = w.says ∙ ap (λ (b : Ended (List Said)). tell_all t b.state) m ∙ ap (λ (u : Told). tell_all u (informations_at s next).state) (sym f);
            ends = w.ends ∙ ap (λ (b : Ended (List Said)). b.at) m;
            counts = omega (arith, w.counts, ap length d, length-append ps qs);
            keeps =
                w.keeps ∙ ap (λ (l : List ℕ). put o n (low16 l)) d ∙ ap (λ (l : List ℕ). put o n l) (low-append ps qs)
                ∙ sym (put-more o (low16 ps) (low16 qs) n) ∙ ap (λ (j : ℕ). put (put o n (low16 ps)) j (low16 qs)) e
                ∙ ap (λ (l : List ℕ). put l n' (low16 qs)) (sym r);
          }

    module _ (none : is_line i.info ≡ false) where
      over : information_item s at ≡ stop
      over = item_stop s at (rw read at none)

      pub saying_kept : o ≡ put o₀ 0 (low16 (header_places_at s start))
      saying_kept = sym (w.keeps ∙ ap (λ (l : List ℕ). put o n (low16 l)) (places_stop s at over) ∙ put-none o n)

      pub saying_all : made t n (fault_of i.info h) (cursor at) ≡ block_at s start
      unfolding block_at informations_at fault_at tell_all
      saying_all =
          let m = many_stop (information_item s) (length s) at over in
          let k = ap length (places_stop s at over) in
          let f : fault_of i.info h ≡ fault_at s at = rw (read, q) in
          let u : t ≡ tell_all untold (informations_at s start).state = sym (w.says ∙ ap (λ (b : Ended (List Said)). tell_all t b.state) m) in
          let v : at ≡ (informations_at s start).at = sym (w.ends ∙ ap (λ (b : Ended (List Said)). b.at) m) in
          let e : n ≡ length (header_places_at s start) = omega (arith, w.counts) in
          ap (λ (x : Option ℕ). made t n x (cursor at)) f ∙ ap (λ (x : Told). made x n (fault_at s at) (cursor at)) u
          ∙ ap (λ (x : ℕ). made (tell_all untold (informations_at s start).state) x (fault_at s at) (cursor at)) e
          ∙ ap (λ (x : ℕ). made (tell_all untold (informations_at s start).state) (length (header_places_at s start)) (fault_at s x) (cursor x)) v
