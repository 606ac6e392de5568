use Prim.Native.Nat.{ℕ, ◌+◌}
use native.Mathlib.Omega.{arith}
use mathlib.Core.Path.{refl, ap, sym, ◌∙◌}
use lib.ListN.{length, replicate, length-replicate}
use Rattle.protocol.specs.Network.{Node}
use Rattle.lent.proofs.FilledLaws.{filled_none, part-wide, filled-one, filled-all}
use Rattle.lent.proofs.filling.fill.Goals as goal

pub loop-u-init : goal.loop-u-init
loop-u-init c =
    filled_none _ _
    (c.fill_zero.ensures ∙ ap (λ (k : ℕ). replicate k 0) c.requires.nodes)

pub put_height-requires : goal.put_height-requires
put_height-requires c =
    let inv = c.loop-u.invariant in
    let here : Node c.args.n c.loop-u.u = record { low = omega arith; high = omega arith } in
    let height = c.fresh_height-h.ensures in
    let a = c.node_start-a in
    let ends = ap (λ (k : ℕ). a.result + k) c.row_width.ensures.0 in
    (c.requires.few, here, part-wide _ _ _ inv here a.ensures.0 ends, height.1)

pub loop-u-preserved : goal.loop-u-preserved
loop-u-preserved c =
    let inv = c.loop-u.invariant in
    let here : Node c.args.n c.loop-u.u = record { low = omega arith; high = omega arith } in
    let a = c.node_start-a in
    let ends = ap (λ (k : ℕ). a.result + k) c.row_width.ensures.0 in
    filled-one _ _ _ inv here a.ensures.0 ends
    c.fresh_height-h.ensures.0 c.put_height.ensures refl

pub shape_of-nodes : goal.shape_of-nodes
shape_of-nodes c =
    c.loop-u.invariant.size ∙ sym c.requires.nodes

pub shape_of-channels : goal.shape_of-channels
shape_of-channels c = ap length c.fill_zero-2.ensures ∙ length-replicate {A = ℕ} _ 0

pub returns : goal.returns
returns c =
    filled-all _ _ _ _ c.requires.low c.requires.few c.loop-u.invariant (omega arith)
    (c.fill_zero-2.ensures ∙ ap (λ (k : ℕ). replicate k 0) c.requires.channels)
