pub mod Lists
pub mod Counting
pub mod Tallying
pub mod Sums
pub mod Totals
