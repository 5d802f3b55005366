-- A plain byte is of the key, a CR or an LF ends it, and so does the first byte of ： where the rest of it follows.
-- Assumes nothing.
use Prim.Native.Nat.{ℕ, ◌+◌}
use native.Mathlib.Omega.{arith}
use mathlib.Core.Path.{sym, ap, ◌∙◌}
use Rattle.sorted.specs.inner.Heads.{head_of}
use Rattle.sorted.proofs.Keys.{key-end, key-on, key-past, plain-on, break_off, colon_is}
use Rattle.sorted.proofs.key_head.Goals as goal

pub returns-then-s-at : goal.returns-then-s-at
returns-then-s-at c = let a = c.args in (sym (key-end a.s.now a.at (key-past _ _ c.if-s-at.true)), omega arith)

pub returns-then-plain : goal.returns-then-plain
returns-then-plain c =
    let a = c.args in
    let e = plain-on a.s.now a.at c.if-s-at.false (sym c.plain.ensures ∙ c.if-plain.true) in
    (ap (λ (b : ℕ). b + 1) c.wide.ensures.0 ∙ sym (ap head_of (key-on a.s.now a.at e).parts), omega arith)

pub returns-then-b : goal.returns-then-b
returns-then-b c =
    let a = c.args in
    let e = break_off a.s.now a.at c.if-s-at.false (sym c.plain.ensures ∙ c.if-plain.false) c.if-b.true in
    (sym (key-end a.s.now a.at e), omega arith)

pub returns-then-stands : goal.returns-then-stands
returns-then-stands c =
    let a = c.args in
    let e = colon_is a.s.now a.at c.if-s-at.false c.if-b.false in
    (sym (key-end a.s.now a.at (e ∙ sym c.stands.ensures ∙ c.if-stands.true)), omega arith)

pub returns : goal.returns
returns c =
    let a = c.args in
    let e = colon_is a.s.now a.at c.if-s-at.false c.if-b.false in
    let m = key-on a.s.now a.at (e ∙ sym c.stands.ensures ∙ c.if-stands.false) in
    (ap (λ (b : ℕ). b + 1) (sym c.if-b.false) ∙ sym (ap head_of m.parts), omega arith)
