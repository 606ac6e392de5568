-- Laws of the check of the lent tables and of the fresh ones.
pub mod Walks
pub mod CheckLaws
pub mod SoundTables
pub mod SoundNetworks
pub mod SoundLoads
pub mod FilledLaws
pub mod PutLaws
