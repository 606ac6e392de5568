-- `image_snapshot::looking::placed` meets its contract: 3, 13, or the record where it starts.
use Prim.Native.Nat.{ℕ}
use Rattle.image.specs.Places.{node_place}
use native.Mathlib.Omega.{arith}
use mathlib.Core.Path.{sym, ap, ◌∙◌}
use Rattle.image_snapshot.proofs.LookLaws.{not-node, node-is, not-place, at_place, record-inside, reader-reads}
use Rattle.image_snapshot.proofs.looking.placed.Goals as goal

pub returns-then-k-fields : goal.returns-then-k-fields
returns-then-k-fields c = not-node _ _ _ _ _ _ c.if-k-fields.true

pub returns-then-place-at : goal.returns-then-place-at
returns-then-place-at c =
    let node = node-is _ c.args.k c.if-k-fields.false in
    not-place _ _ _ _ _ _ node (λ e. c.if-place-at.true (e ∙ sym c.start-at.ensures.0))

pub returns : goal.returns
returns c =
    let a = c.args in
    let node = node-is _ a.k c.if-k-fields.false in
    let here = c.start-at.ensures.0 in
    let at = here ∙ ap (λ (h : ℕ). node_place h 16 a.fields.n a.k) c.requires.0 in
    c.read_node.ensures
    ∙ reader-reads _ _ _ _ (omega (arith, node.low, node.high)) c.requires.1 c.requires.2 (record-inside _ _ a.k _ c.requires.3 node at)
    ∙ at_place _ _ _ _ _ _ node _ here c.if-place-at.false
