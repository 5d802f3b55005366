use Rattle.std.specs.Prelude.{ℕ}
use Rattle.std.specs.Prelude.{Option}
use native.Mathlib.Omega.{arith}
use mathlib.Core.Path.{◌≡◌, sym, ap, ◌∙◌}
use mathlib.Core.Bool.{true}
use Rattle.kakinoki.specs.Informations.{is_line}
use Rattle.kakinoki.proofs.Blocks.{made, saying_none, saying_few, saying_past, saying_within, saying_more, saying_kept, saying_all}
use Rattle.kakinoki.proofs.infos.informations.Goals as goal
use Rattle.kakinoki.proofs.infos.informations.Goals.{After-next-1}

-- the line that is gone on from
line : (c : After-next-1) → is_line c.information-said.result.info ≡ true
line c = sym c.is_line.ensures ∙ c.if-not-is_line.false

pub loop-said-init : goal.loop-said-init
loop-said-init c = saying_none _ _ _

pub returns-then-not-is_line : goal.returns-then-not-is_line
returns-then-not-is_line c =
    let none = sym c.is_line.ensures ∙ c.if-not-is_line.true in
    record { value = ap (λ (f : Option ℕ). made c.loop-said.told c.loop-said.headers f c.loop-said.next) c.fault.ensures ∙ saying_all c.loop-said.invariant c.hash_lines-line.ensures c.information-said.ensures none; places_after = saying_kept c.loop-said.invariant c.hash_lines-line.ensures c.information-said.ensures none }

pub keep-headers-requires : goal.keep-headers-requires
keep-headers-requires c = omega (arith, saying_few c.loop-said.invariant)

pub loop-said-smaller : goal.loop-said-smaller
loop-said-smaller c =
    let w = c.loop-said.invariant in
    omega (arith, saying_past w c.hash_lines-line.ensures c.information-said.ensures (line c), saying_within w c.hash_lines-line.ensures c.information-said.ensures (line c))

pub loop-said-preserved : goal.loop-said-preserved
loop-said-preserved c =
    saying_more c.loop-said.invariant c.hash_lines-line.ensures c.information-said.ensures (line c) (c.tell-told.ensures _)
    c.keep-headers.ensures.value c.keep-headers.ensures.places_after
