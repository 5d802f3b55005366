-- Each table answers its definition, which finds nothing past the end (`first-end`).
-- Assumes nothing.
-- an answer that found nothing
use Rattle.std.specs.Prelude.{ℕ, Option}
use mathlib.Core.Bool.{Bool, true, false}
use mathlib.Core.Path.{refl, ap, ◌∙◌}
use Rattle.spell.specs.Spell.{on_spelled}
use Rattle.spell.proofs.Counts.{count-end}
use Rattle.spell.proofs.Answers.{first-end}
use Rattle.spell.specs.Tables.{kinds, specials, presets, sides, numerals, files}
use Rattle.edges.proofs.finds_nothing.Goals as goal
use Rattle.text.specs.declared.Cursor.{Cursor}

abbrev nothing : Option (ℕ × Cursor) → Bool
nothing r = on_spelled r (λ n c. false) true

pub expect-requires : goal.expect-requires
expect-requires c =
    let a = c.args in
    c.is_not.ensures ∙ ap nothing (c.kind.ensures ∙ first-end 15 kinds refl a.s.now a.at c.requires)

pub expect-requires-2 : goal.expect-requires-2
expect-requires-2 c =
    let a = c.args in
    c.is_not-2.ensures ∙ ap nothing (c.special.ensures ∙ first-end 14 specials refl a.s.now a.at c.requires)

pub expect-requires-3 : goal.expect-requires-3
expect-requires-3 c =
    let a = c.args in
    c.is_not-3.ensures ∙ ap nothing (c.preset.ensures ∙ first-end 17 presets refl a.s.now a.at c.requires)

pub expect-requires-4 : goal.expect-requires-4
expect-requires-4 c =
    let a = c.args in
    c.is_not-4.ensures ∙ ap nothing (c.side.ensures ∙ first-end 2 sides refl a.s.now a.at c.requires)

pub expect-requires-5 : goal.expect-requires-5
expect-requires-5 c =
    let a = c.args in
    c.is_not-5.ensures ∙ ap nothing (c.numeral.ensures ∙ first-end 10 numerals refl a.s.now a.at c.requires)

pub expect-requires-6 : goal.expect-requires-6
expect-requires-6 c =
    let a = c.args in
    c.is_not-6.ensures ∙ ap nothing (c.file.ensures ∙ first-end 10 files refl a.s.now a.at c.requires)

pub expect-requires-7 : goal.expect-requires-7
expect-requires-7 c =
    let a = c.args in
    c.is_not-7.ensures ∙ ap nothing (c.count.ensures ∙ count-end a.s.now a.at c.requires)
