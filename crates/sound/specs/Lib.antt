-- Every definition that `sound` adds serves its looks and their callers' proofs; what they mean is in `protocol` and `tables`.
pub mod inner
