-- `height::words::load_height` meets its contract: seven words in bounds, one field each.
use borrow.Author.Rules.{rules}
use mir.Syntax.{w32}
use mir.Val.{SFits}
use mir.Facts.{to_z-of_z}
use Rattle.height.specs.Words.{height_at}
use Rattle.height.proofs.words.load_height.Goals as goal

pub returns : goal.returns
unfolding height_at
returns c =
    let d = c.delta_of-delta in
    let q = c.pair_of-pair in
    let fd : SFits w32 d.result = search rules in
    (rw (to_z-of_z fd, d.ensures, q.ensures.0), q.ensures.1)
