-- Document 01 as definitions, in the order of its sections. Start with Network; Cases are the plots worked by hand.
pub mod Network
pub mod Holds
pub mod Times
pub mod Clock
pub mod Sink
pub mod Rules
pub mod Answer
pub mod Step
pub mod Refusal
pub mod Quiet
pub mod Cases
