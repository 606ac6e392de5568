-- Document 01, "Lists of calls": the history of accepted events, groups and collectors, and runs of events, saves and restores.
-- Document 02, [5]: causal clocks.
pub mod History
pub mod Causal
pub mod Component
pub mod Run
pub mod inner
