-- Every definition that `decision` adds serves its leaves and their callers' proofs; the meaning of each is in `protocol`.
pub mod inner
