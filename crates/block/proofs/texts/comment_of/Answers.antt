-- The text at the comment's offset, of its length, both of which stand in its row.
-- Assumes nothing.
use Prim.Native.Nat.{ℕ, ◌+◌, ◌*◌}
use native.Mathlib.Omega.{arith}
use mathlib.Core.Path.{◌≡◌, ap, ◌∙◌}
use lib.ListN.{drop}
use Rattle.lent.specs.Bytes.{le16}
use Rattle.block.specs.Decode.{comment_place, text_place, stored_text, comment_of}
use Rattle.block.proofs.Cuts.{text-in}
use Rattle.block.proofs.texts.comment_of.Goals as goal

pub returns : goal.returns
unfolding comment_of
returns c =
    let a = c.args in
    let b = a.b.now in
    let rows = c.comment_place-rows in
    let t : rows.result + 4 * c.comments.result ≡ text_place b = omega (arith, rows.ensures.0, c.comments.ensures.0) in
    let p : rows.result + 4 * a.k ≡ comment_place b a.k = omega (arith, rows.ensures.0) in
    c.text_in.ensures ∙ text-in b _ (c.rest-texts.ensures ∙ ap (λ (i : ℕ). drop i b) t) (le16 b (rows.result + 4 * a.k)) (le16 b (rows.result + 4 * a.k + 2)) ∙ ap (λ (i : ℕ). stored_text b (le16 b i) (le16 b (i + 2))) p
