-- Laws and theorems about one event; a file uses only those above it.
-- Said, ClockMoves, SoundStep, TimelyStep, HeightMoves, Locality and Cases hold the results, the others lead to them.
pub mod Said
pub mod NodeLaws
pub mod Channels
pub mod RuleLaws
pub mod RuleCases
pub mod ClockMoves
pub mod Timed
pub mod LinkLaws
pub mod Invariant
pub mod Accepted
pub mod Ranges
pub mod RangesAfter
pub mod Kept
pub mod StepKeeps
pub mod Soundness
pub mod StepFits
pub mod Restrict
pub mod Holding
pub mod SoundStep
pub mod TimedStep
pub mod TimelyStep
pub mod HeightMoves
pub mod Locality
pub mod Cases
