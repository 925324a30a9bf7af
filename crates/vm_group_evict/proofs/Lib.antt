pub mod Prelude
pub mod LeavingPages
pub mod SavingPages
pub mod GroupLocks
pub mod GroupReleases
pub mod Ending
pub mod GroupsInTurn
pub mod Emptying
