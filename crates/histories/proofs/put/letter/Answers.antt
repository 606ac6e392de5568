-- `histories::put::letter` meets its contract: the letter of the candidate.
use mathlib.Core.Path.{sym, ap}
use Rattle.protocol.specs.Step.{Event}
use Rattle.enumeration.specs.Order.{line_of}
use Rattle.histories.proofs.PutLaws.{event-up, event-down, event-receive}
use Rattle.histories.proofs.put.letter.Goals as goal

pub returns-then-c-lt9 : goal.returns-then-c-lt9
returns-then-c-lt9 c = sym (ap (λ (e : Event). (line_of e).letter) (event-up c.args.c c.if-c-lt9.true))

pub returns-then-c-lt18 : goal.returns-then-c-lt18
returns-then-c-lt18 c = sym (ap (λ (e : Event). (line_of e).letter) (event-down c.args.c c.if-c-lt9.false c.if-c-lt18.true))

pub returns : goal.returns
returns c = sym (ap (λ (e : Event). (line_of e).letter) (event-receive c.args.c c.if-c-lt9.false c.if-c-lt18.false))
