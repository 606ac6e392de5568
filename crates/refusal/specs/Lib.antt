-- What every call answers: its value or a reason, and what it leaves.
pub mod Refusal
pub mod Outcome
