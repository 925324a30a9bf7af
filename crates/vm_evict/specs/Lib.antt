pub mod Phases
pub mod Tables
pub mod Evictions
pub mod Writes
pub mod Flushes
pub mod Stages
