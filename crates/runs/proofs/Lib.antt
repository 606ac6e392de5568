-- Demand 3, causal clocks, and what they rest on.
pub mod Lists
pub mod Entries
pub mod ImageBack
pub mod Simulation
pub mod TablesRun
pub mod AllowedLists
pub mod Demand3
pub mod SavedComesBack
pub mod NeverUntimely
pub mod CausalRuns
pub mod ReadOff
pub mod Desk
pub mod OlderSave
pub mod Sketched
pub mod ShortHistories
