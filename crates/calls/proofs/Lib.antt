-- Theorems about lists of calls. CausalClocks, Leaders, Groups, SavesLaws, LastSave, Runs and Theorems hold the results, the others lead to them.
pub mod SentSet
pub mod HistoryLaws
pub mod CausalLaws
pub mod CountLaws
pub mod Quiescence
pub mod Good
pub mod CausalClocks
pub mod CausalWorked
pub mod Leaders
pub mod Groups
pub mod SavesLaws
pub mod LastSave
pub mod Runs
pub mod Theorems
