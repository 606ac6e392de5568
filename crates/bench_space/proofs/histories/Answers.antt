-- `bench_space::histories` has the length it says, which is too long to be counted.
use Rattle.std.proofs.Common.{ℕ, sym}
use Rattle.std.proofs.lemmas.List.{length-replicate}
use Rattle.bench_space.proofs.histories.Goals as goal

pub returns : goal.returns
returns c = sym (length-replicate {A = ℕ} 654636 0)
