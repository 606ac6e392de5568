-- What the test of a pair finds, by the two tests of its words.
use Rattle.std.specs.Prelude.{ℕ, Bool, cond, ◌&&◌}
use Rattle.protocol.specs.Holds.{message_holds}
use Rattle.protocol.specs.Network.{Message}
use Rattle.protocol.specs.Times.{message_timely}
use Rattle.pairs.specs.declared.Finding.TheVariants.{Good, Untimely, Faulty}
use Rattle.pairs.specs.declared.Finding.{Finding}

-- whether they break no rule, and whether their times make sense
abbrev pub finding : Bool → Bool → Finding
finding sound timely = cond sound (cond timely Good Untimely) Faulty

-- a message of u's, whose clock is c: both tests
unfoldable pub passes : ℕ → ℕ → ℕ → Message → Bool
passes n u c m = message_holds n u m && message_timely c m

-- two findings of one pair
abbrev pub joined : Finding → Finding → Finding
joined Good g = g
joined Untimely Good = Untimely
joined Untimely Untimely = Untimely
joined Untimely Faulty = Faulty
joined Faulty g = Faulty
