-- What `ranges` writes for what it reads: read Sessions from the top.
pub mod Sessions
