-- `pairs::read_channel` meets its contract: as `channel`, with what is known of a cell that was read.
use native.Mathlib.Omega.{arith}
use mathlib.Core.Path.{sym, ◌∙◌}
use Rattle.basics.proofs.Tests.{and_both}
use Rattle.pairs.proofs.PairLaws.{channel-read-empty, channel-faulty, channel-found, rest_of}
use Rattle.pairs.proofs.read_channel.Goals as goal

pub returns-then-count-eq0 : goal.returns-then-count-eq0
returns-then-count-eq0 c =
    let w = c.waiting-count in
    let a = c.args in
    channel-read-empty a.n a.u a.v a.row.now a.cell.now w.result w.ensures c.requires.4 c.if-count-eq0.true

pub messages-requires : goal.messages-requires
messages-requires c =
    let w = c.waiting-count in
    (omega (arith, w.ensures, c.requires.4.few), c.requires.3)

pub returns-then-is_up : goal.returns-then-is_up
returns-then-is_up c =
    let w = c.waiting-count in
    let a = c.args in
    c.messages.ensures
    ∙ channel-found a.n a.u a.v a.row.now a.cell.now w.result w.ensures c.if-count-eq0.false (omega (arith, w.ensures, c.requires.4.few))
    (and_both (sym c.is_up.ensures ∙ c.if-is_up.true) (rest_of a.cell.now c.requires.4 w.result w.ensures))

pub returns : goal.returns
returns c =
    let w = c.waiting-count in
    let a = c.args in
    let down = sym c.is_up.ensures ∙ c.if-is_up.false in
    channel-faulty a.n a.u a.v a.row.now a.cell.now w.result w.ensures c.if-count-eq0.false (omega (arith, w.ensures, c.requires.4.few)) (rw down)
