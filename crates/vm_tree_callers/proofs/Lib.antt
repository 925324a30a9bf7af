pub mod Evidence
pub mod Pairs
pub mod Answered
pub mod Resident
pub mod Beginnings
pub mod Homes
pub mod WriteHomes
