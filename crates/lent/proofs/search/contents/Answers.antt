use native.Mathlib.Omega.{arith}
use mathlib.Core.Path.{refl}
use Rattle.lent.specs.Check.{first_fault, first_untimely, contents_on}
use Rattle.lent.proofs.Walks.{both-next, both-late, both-fault, both_end, all-next, all-fault, all_end}
use Rattle.lent.proofs.search.contents.Goals as goal
use Rattle.lent.proofs.search.contents.Goals.{in-Good, in-Untimely}

pub loop-v-preserved : goal.loop-v-preserved
loop-v-preserved c =
    elim c.match-pair.branch [
      | in-Good w ↦ rw w.found-is (both-next _ _ _ _ _ _ _ c.loop-v.invariant (omega arith) c.pair.ensures w.in-Good.is)
      | in-Untimely w ↦
          both-late _ _ _ _ _ _ _ c.loop-v.invariant (omega arith) c.pair.ensures w.in-Untimely.is (cc)
    ]

pub search-preserved : goal.search-preserved
search-preserved c =
    let end = both_end _ _ _ _ _ _ _ c.loop-v.invariant (omega arith) in
    all-next _ _ _ _ _ c.search.invariant (omega arith) _ end.0 end.1

pub returns-in-Faulty : goal.returns-in-Faulty
unfolding contents_on first_fault first_untimely
returns-in-Faulty c =
    let row = both-fault _ _ _ _ _ _ _ c.loop-v.invariant (omega arith) c.pair.ensures c.in-Faulty.is in
    all-fault _ _ _ _ _ c.search.invariant (omega arith) row refl

pub returns-after-search : goal.returns-after-search
unfolding contents_on first_fault first_untimely
returns-after-search c = all_end _ _ _ _ _ c.search.invariant (omega arith)
