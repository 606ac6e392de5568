-- `pairs::channel` meets its contract: empty and unused, or past 8 messages at fault, or else the messages, a set that holds v, and unused words.
use mathlib.Core.Path.{◌∙◌}
use Rattle.pairs.proofs.PairLaws.{channel-empty, channel-over, channel-faulty, channel-found}
use Rattle.pairs.proofs.channel.Goals as goal

pub returns-then-count-eq0 : goal.returns-then-count-eq0
returns-then-count-eq0 c =
    let a = c.args in
    c.unused.ensures ∙ channel-empty a.n a.u a.v a.row.now a.cell.now c.waiting-count.result c.waiting-count.ensures c.if-count-eq0.true

pub returns-then-count-gt-CAPACITY : goal.returns-then-count-gt-CAPACITY
returns-then-count-gt-CAPACITY c =
    let a = c.args in
    channel-over a.n a.u a.v a.row.now a.cell.now c.waiting-count.result c.waiting-count.ensures c.if-count-gt-CAPACITY.true

pub returns-then-up-is_unused_after : goal.returns-then-up-is_unused_after
returns-then-up-is_unused_after c =
    let a = c.args in
    c.messages-found.ensures
    ∙ channel-found a.n a.u a.v a.row.now a.cell.now c.waiting-count.result c.waiting-count.ensures c.if-count-eq0.false c.if-count-gt-CAPACITY.false
    (rw (c.is_up-up.ensures, c.is_unused_after.ensures) at c.if-up-is_unused_after.true)

pub returns : goal.returns
returns c =
    let a = c.args in
    channel-faulty a.n a.u a.v a.row.now a.cell.now c.waiting-count.result c.waiting-count.ensures c.if-count-eq0.false c.if-count-gt-CAPACITY.false
    (rw (c.is_up-up.ensures, c.is_unused_after.ensures) at c.if-up-is_unused_after.false)
