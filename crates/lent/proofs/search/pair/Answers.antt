-- `lent::search::pair` meets its contract, by whether u is v: the parts that are lent are the row of u and the cell of u to v.
use Rattle.pairs.proofs.PairLaws.{pair-own, pair-other}
use Rattle.lent.specs.Check.{pair_at, timely_at}
use Rattle.lent.proofs.search.pair.Goals as goal

pub returns-then-u-v : goal.returns-then-u-v
unfolding pair_at timely_at
returns-then-u-v c =
    let a = c.args in
    let row = c.node-row in
    let cell = c.channel-cell in
    rw (← row.ensures.0, ← cell.ensures.0)
    (pair-own a.n a.u a.v row.result.now cell.result.now c.if-u-v.true c.own.ensures)

pub returns : goal.returns
unfolding pair_at timely_at
returns c =
    let a = c.args in
    let row = c.node-row in
    let cell = c.channel-cell in
    rw (← row.ensures.0, ← cell.ensures.0)
    (pair-other a.n a.u a.v row.result.now cell.result.now c.if-u-v.false c.view.ensures
    c.channel.ensures c.both.ensures)
