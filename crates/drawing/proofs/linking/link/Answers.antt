-- `drawing::linking::link` meets its contract: two calls of `up`.
use Rattle.protocol.specs.Step.{up}
use Rattle.drawing.proofs.Walks.{both-ups}
use Rattle.drawing.proofs.linking.link.Goals as goal

pub returns : goal.returns
returns c =
    let second = c.up-2 in
    let first = c.up in
    both-ups _ (up c.args.e.first c.args.e.second) (up c.args.e.second c.args.e.first) _ first.ensures second.ensures
