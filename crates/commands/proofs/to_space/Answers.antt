-- `commands::to_space` meets its contract: `position` finds the first space.
use Rattle.std.proofs.Common.{rules, tests}
use Rattle.std.proofs.lemmas.Iterator.{YieldsList-from_slice}
use Rattle.std.proofs.lemmas.Iterator.Search.{position_from_yields_List}
use Rattle.commands.proofs.Seeking.{is_byte, spaces, found}
use Rattle.commands.proofs.to_space.Goals as goal

pub returns : goal.returns
returns c =
    let at = position_from_yields_List (is_byte 32) _ _ c.position.result c.position.ensures.ran (YieldsList-from_slice c.args.bytes.now cc) (λ x b q k. search (rules, tests)) in
    found 32 c.args.bytes.now _ (spaces c.args.bytes.now) _ at _ c.unwrap_or.ensures
