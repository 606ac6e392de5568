-- What `run` answers and what the lent bytes are afterwards: the listing's length and the listing at the front, or 14 and nothing changed.
use Rattle.std.specs.Prelude.{ℕ, List}
use Rattle.refusal.specs.Outcome.{Answered, Outcome, put_front}
use Rattle.bench_run.specs.Listing.{listing}

unfoldable pub run_on : List ℕ → List ℕ → Outcome (Answered ℕ) (List ℕ)
run_on input out = put_front (listing input) out
