-- Both searches find the same line.
-- Assumes nothing.
use Prim.Native.Nat.{ℕ, zero, suc, ◌-◌, ◌<◌, ◌≤◌}
use native.Mathlib.Omega.{arith}
use native.Mathlib.Decide.{dec_lt}
use mathlib.Core.Path.{◌≡◌, refl, sym, ap, ◌∙◌}
use mathlib.Core.List.{List}
use lib.ListN.{drop}
use Rattle.jkf.specs.Attaching.{near}
use Rattle.jkf.specs.Following.{start_at, parent_at, follow, followed}
use Rattle.jkf.proofs.Nears.{near_hit, follow_here, follow_up, followed-near}
use Rattle.jkf.proofs.Branching.{Branched}
use Rattle.jkf.proofs.OneTwo.{near_jump_2, branched_as}
use Rattle.block.specs.Decode.{version_in, lines_in, line_place, start_of, entry_count, parent_of}
use Rattle.block.proofs.Deciding.{sound_says}
use Rattle.block.proofs.LineTables.{table-start, table-parent}
use Rattle.block.proofs.Hanging.{lines_linked, lines_hung}
use Rattle.edit.proofs.Alike.{hang-same}
use Rattle.laws.specs.Searches.{SearchesAgree, SoundLinked, SoundSearched}

pub searches_agree : SearchesAgree
searches_agree lines k s l = followed-near l s

pub sound_linked : SoundLinked
sound_linked b h one = lines_linked b (lines_in b) one (sound_says b h).lines

-- along the parents of a tree the search finds the nearest line
module _ (t : List ℕ) (count : ℕ → ℕ) {n : ℕ} (g : Branched (start_at t) count (parent_at t) n) (s : ℕ) where
  follow_tree : (m j : ℕ) → j < m → j < n → follow t s (suc j) j ≡ near (start_at t) s (suc j)
  follow_tree zero j h l = absurd (omega arith)
  follow_tree (suc m) j h l = go (dec_lt s (start_at t j)) (dec_lt 0 j) (follow_tree m (parent_at t j))
    where
      go : Dec (s < start_at t j) → Dec (0 < j) → (parent_at t j < m → parent_at t j < n → follow t s (suc (parent_at t j)) (parent_at t j) ≡ near (start_at t) s (suc (parent_at t j)))
          → follow t s (suc j) j ≡ near (start_at t) s (suc j)
      go (no x) d ih = let e : start_at t j ≤ s = omega arith in follow_here t s j e ∙ sym (near_hit (start_at t) s j e)
      go (yes x) (yes z) ih =
          let b = (g.each j z l).before in
          follow_up t s j (parent_at t j) x refl b ∙ ih (omega arith) (omega arith) ∙ sym (near_jump_2 (start_at t) count (parent_at t) g s j z l x)
      go (yes x) (no z) ih = let e : j ≡ 0 = omega arith in absurd (omega (arith, ap (start_at t) e, g.origin))

  followed_tree : (k : ℕ) → k ≤ n → followed t s k ≡ near (start_at t) s k
  unfolding follow near
  followed_tree zero l = refl
  followed_tree (suc k) l =
      let e : suc k - 1 ≡ k = omega arith in
      ap (λ (j : ℕ). follow t s (suc k) j) e ∙ follow_tree (suc k) k (omega arith) (omega arith)

pub sound-searched : SoundSearched
sound-searched b s k h m =
    let t = drop (line_place b 0) b in
    let z = (sound_says b h).totals.0 in
    followed_tree t (entry_count b)
    (branched_as (start_at t) (entry_count b) (parent_at t) (version_in b) (lines_in b) z
    (hang-same (version_in b) (start_of b) (entry_count b) (parent_of b) (start_at t) (entry_count b) (parent_at t) z (omega arith)
    (λ j l. table-start b j) (λ j l. refl) (λ j l. table-parent b j) (lines_hung b (lines_in b) (sound_says b h).lines)))
    s k m
