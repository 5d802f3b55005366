-- Each leaf answers its definition, and the laws of `Ends` say what that is past the end.
-- Assumes nothing.
use native.Mathlib.Omega.{arith}
use mathlib.Core.List.{[], ◌∷◌}
use mathlib.Core.Path.{refl, ◌∙◌}
use borrow.Author.Tests.{eq-eqb}
use Rattle.text.proofs.Ends.{character_end, blanks_end, padding_end, tail-end, break-end, tag_end, digits-end}
use Rattle.edges.proofs.reads_nothing.Goals as goal

pub expect-requires : goal.expect-requires
expect-requires c = eq-eqb c.blanks.result.at c.args.at (c.blanks.ensures ∙ blanks_end c.args.s.now c.args.at c.requires)

pub expect-requires-2 : goal.expect-requires-2
expect-requires-2 c = eq-eqb c.padding.result.at c.args.at (c.padding.ensures ∙ padding_end c.args.s.now c.args.at c.requires)

pub expect-requires-3 : goal.expect-requires-3
expect-requires-3 c =
    let a = c.args in
    rw (c.is_past.ensures, c.tail.ensures, tail-end a.s.now a.at c.requires) (eq-eqb a.at a.at refl)

pub expect-requires-4 : goal.expect-requires-4
expect-requires-4 c =
    let a = c.args in
    rw (c.is_absent.ensures, c.line_ending.ensures, break-end a.s.now a.at c.requires)

pub expect-requires-5 : goal.expect-requires-5
expect-requires-5 c =
    let a = c.args in
    rw (c.is_absent-2.ensures, c.tag.ensures, tag_end a.s.now a.at c.requires (120 ∷ []) (omega arith))

pub expect-requires-6 : goal.expect-requires-6
expect-requires-6 c =
    let a = c.args in
    rw (c.is_value.ensures, c.digits.ensures, digits-end a.s.now a.at c.requires 255)

pub expect-requires-7 : goal.expect-requires-7
expect-requires-7 c =
    let a = c.args in
    rw (c.is_absent-3.ensures, c.character.ensures, character_end a.s.now a.at c.requires)
