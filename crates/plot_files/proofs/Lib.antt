-- Laws of the events of a bench input.
mod EventLaws
