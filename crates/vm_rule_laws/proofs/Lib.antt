pub mod Lists
pub mod Alone
pub mod Histories
pub mod Knowing
pub mod Standing
pub mod Begun
pub mod Noted
pub mod Places
