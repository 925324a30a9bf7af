pub mod First
pub mod Named
pub mod Entries
pub mod Written
pub mod Homecoming
pub mod Taking
pub mod Lasting
