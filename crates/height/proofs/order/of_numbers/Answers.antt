-- `height::order::of_numbers` meets its contract: each way out is one case of the order of two keys of one number.
use mir.Syntax.{w64}
use Rattle.height.specs.Comparison.{order_of, place_of}
use Rattle.height.specs.Order.{before}
use Rattle.height.proofs.Signed.{test-lt}
use Rattle.height.proofs.order.of_numbers.Goals as goal

pub returns-then-a-b : goal.returns-then-a-b
unfolding order_of before place_of
returns-then-a-b c = simp (test-lt w64 c.args.a c.args.b c.ranges.a c.ranges.b c.if-a-b.true)

pub returns-then-b-a : goal.returns-then-b-a
unfolding order_of before place_of
returns-then-b-a c = simp (test-lt w64 c.args.a c.args.b c.ranges.a c.ranges.b c.if-a-b.false, test-lt w64 c.args.b c.args.a c.ranges.b c.ranges.a c.if-b-a.true)

pub returns : goal.returns
unfolding order_of before place_of
returns c = simp (test-lt w64 c.args.a c.args.b c.ranges.a c.ranges.b c.if-a-b.false, test-lt w64 c.args.b c.args.a c.ranges.b c.ranges.a c.if-b-a.false)
