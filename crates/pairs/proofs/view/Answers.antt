-- `pairs::view` meets its contract: a height where v is a neighbor, zero words where it is not.
use Prim.Native.Nat.{ℕ, ◌+◌, ◌-◌, ◌*◌}
use mathlib.Core.Bool.{true}
use mathlib.Core.List.{List}
use mathlib.Core.Path.{sym, ap, ◌∙◌}
use Rattle.tables.specs.Cell.{all_zero}
use Rattle.tables.proofs.RowsLaws.{height-from-start}
use Rattle.pairs.specs.inner.Findings.{finding}
use Rattle.pairs.proofs.PairLaws.{view-linked, view-absent, slice-part}
use Rattle.pairs.proofs.view.Goals as goal

pub returns-then-is_member : goal.returns-then-is_member
returns-then-is_member c =
    let a = c.args in
    rw (c.height_start-a.ensures.0, ← height-from-start a.row.now a.v c.requires.1.low) at c.height_at.ensures
    ∙ view-linked a.n a.v a.row.now (sym c.is_member.ensures ∙ c.if-is_member.true)

pub returns : goal.returns
returns c =
    let a = c.args in
    c.unused.ensures
    ∙ ap (λ (ws : List ℕ). finding (all_zero ws) true) (slice-part c.height_start-a.result (3 + (a.v - 1) * 7) 7 a.row.now c.height_start-a.ensures.0)
    ∙ view-absent a.n a.v a.row.now (sym c.is_member.ensures ∙ c.if-is_member.false) c.requires.1.low
