-- `holds::height_within` meets its contract, test by test: a negated time is within its range already.
use Prim.Native.Nat.{◌+◌}
use native.Mathlib.Omega.{arith}
use mathlib.Core.Bool.{true, false}
use mathlib.Core.Path.{◌≡◌, sym, ap, ◌∙◌}
use mir.Facts.{to_z-of_z}
use mir.Syntax.{w32}
use mir.Val.{SFits}
use borrow.Author.Rules.{rules}
use borrow.Author.Tests.{eq-eqb, ne_eqb, not-true, not-false, le-leb, lt-leb}
use Rattle.height.specs.Words.{height_at}
use Rattle.protocol.specs.Holds.{delta_holds}
use Rattle.holds.proofs.HoldsLaws.{other-node, bad-level, bad-delta, late-election, by-leader}
use Rattle.holds.proofs.height_within.Goals as goal

pub returns-then-words-at : goal.returns-then-words-at
unfolding height_at
returns-then-words-at c =
    let a = c.args in
    other-node a.n a.k a.c a.words.now a.at (omega (arith, c.type_inv.words (a.at + 4))) (ne_eqb _ _ c.if-words-at.true)

pub returns-then-not-level_within : goal.returns-then-not-level_within
unfolding height_at
returns-then-not-level_within c =
    let a = c.args in
    bad-level a.n a.k a.c a.words.now a.at (omega (arith, c.type_inv.words (a.at + 4)))
    (sym c.level_within.ensures ∙ not-true _ c.if-not-level_within.true-raw)

pub returns-then-not-delta_holds : goal.returns-then-not-delta_holds
unfolding height_at
returns-then-not-delta_holds c =
    let a = c.args in
    let d = c.delta_of in
    let f : SFits w32 d.result = search rules in
    let delta : delta_holds (height_at a.words.now a.at).delta ≡ false =
    ap delta_holds (sym d.ensures) ∙ sym (rw (to_z-of_z f) at c.delta_holds.ensures) ∙ not-true _ c.if-not-delta_holds.true-raw in
    bad-delta a.n a.k a.c a.words.now a.at (omega (arith, c.type_inv.words (a.at + 4))) delta

pub returns-then-c-words : goal.returns-then-c-words
unfolding height_at
returns-then-c-words c =
    let a = c.args in
    late-election a.n a.k a.c a.words.now a.at (omega (arith, c.type_inv.words (a.at + 4))) (lt-leb _ _ c.if-c-words.true)

pub returns : goal.returns
unfolding height_at
returns c =
    let a = c.args in
    let d = c.delta_of in
    let f : SFits w32 d.result = search rules in
    let delta : delta_holds (height_at a.words.now a.at).delta ≡ true =
    ap delta_holds (sym d.ensures) ∙ sym (rw (to_z-of_z f) at c.delta_holds.ensures) ∙ not-false _ c.if-not-delta_holds.false-raw in
    by-leader a.n a.k a.c a.words.now a.at (omega (arith, c.type_inv.words (a.at + 4)))
    (eq-eqb _ _ c.if-words-at.false) (sym c.level_within.ensures ∙ not-false _ c.if-not-level_within.false-raw) delta
    (le-leb _ _ c.if-c-words.false)
