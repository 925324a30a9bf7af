pub mod Alone
pub mod Known
pub mod Standing
pub mod Noted
