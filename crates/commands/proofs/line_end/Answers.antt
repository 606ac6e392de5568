-- `commands::line_end` meets its contract: `position` finds the first newline from the offset on.
use Rattle.std.proofs.Common.{rules, tests, arith, drop, length-drop}
use Rattle.std.proofs.lemmas.Iterator.{YieldsList-from_slice}
use Rattle.std.proofs.lemmas.Iterator.Search.{position_from_yields_List}
use Rattle.std.proofs.lemmas.List.{take_rest}
use Rattle.commands.proofs.Seeking.{is_byte, newlines, found}
use Rattle.commands.proofs.line_end.Goals as goal

pub returns : goal.returns
returns c =
    let l = c.args.input.now in
    let rest = take_rest l c.args.at in
    let at = position_from_yields_List (is_byte 10) _ _ c.position.result c.position.ensures.ran (YieldsList-from_slice _ c.iter.ensures.rest) (λ x b q k. search (rules, tests)) in
    let p = found 10 (drop c.args.at l) _ (newlines (drop c.args.at l)) _ (rw rest at at) _ (rw rest at c.unwrap_or.ensures) in
    (omega arith, omega arith, omega (arith, length-drop c.args.at l))
