-- `lent::search::contents` meets its contract. The invariants: no fault before row u, or before pair v of it, and `found` is the first untimely pair
-- so far.
use Rattle.tables.specs.Tables.{tables}
use Rattle.lent.specs.Check.{pair_at, timely_at}
use Rattle.lent.proofs.Walks.{BothRows, BothRow}
use Rattle.lent.proofs.search.contents.Given as goal

abbrev pub invariant-loop-v : goal.invariant-loop-v
invariant-loop-v l =
    BothRow (pair_at l.n (tables l.nodes l.channels)) (timely_at l.n (tables l.nodes l.channels)) l.n l.u l.initial.found l.found l.v

abbrev pub invariant-search : goal.invariant-search
invariant-search l =
    BothRows (pair_at l.n (tables l.nodes l.channels)) (timely_at l.n (tables l.nodes l.channels)) l.n l.found l.u
