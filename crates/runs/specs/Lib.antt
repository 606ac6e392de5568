-- Lists of calls with saves and restores: on lent tables, and by the meaning.
pub mod OnTables
pub mod inner
pub mod Benched
