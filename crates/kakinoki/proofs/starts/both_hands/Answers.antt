-- The first half is one list, and the second the other.
-- Assumes nothing.
use Prim.Native.Nat.{ℕ}
use mathlib.Core.Path.{◌≡◌, ◌∙◌}
use mathlib.Core.List.{List, [], ◌∷◌, ◌++◌}
use lib.ListN.{length}
use borrow.Author.Rules.{rules}
use borrow.Rule.Slice.PartMut.{put_mid}
use Rattle.kakinoki.proofs.Sevens.{append_sevens, seven}
use Rattle.kakinoki.proofs.starts.both_hands.Goals as goal

halves : (a b x y : List ℕ) → length a ≡ 7 → length b ≡ 7 → x ≡ a → y ≡ b → put_mid 7 7 (x ++ (0 ∷ 0 ∷ 0 ∷ 0 ∷ 0 ∷ 0 ∷ 0 ∷ [])) y ≡ a ++ b
halves a b x y e f g h = rw (g ∙ seven a e, h ∙ seven b f) (append_sevens a b e f)

pub returns : goal.returns
returns c = halves c.args.a c.args.b _ _ (search rules) (search rules) c.copy_from_slice.ensures.after c.copy_from_slice-2.ensures.after
