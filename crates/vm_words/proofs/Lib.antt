mod Passing
mod Faultless
mod Filled
mod Meanings
mod Table
pub mod Lines
