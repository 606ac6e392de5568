-- `pairs::read_pair` meets its contract, by whether u is v.
use Rattle.pairs.proofs.PairLaws.{pair-own, pair-other}
use Rattle.pairs.proofs.read_pair.Goals as goal

pub returns-then-u-v : goal.returns-then-u-v
returns-then-u-v c =
    let a = c.args in
    pair-own a.n a.u a.v a.row.now a.cell.now c.if-u-v.true c.own.ensures

pub returns : goal.returns
returns c =
    let a = c.args in
    pair-other a.n a.u a.v a.row.now a.cell.now c.if-u-v.false c.view.ensures
    c.read_channel.ensures c.both.ensures
