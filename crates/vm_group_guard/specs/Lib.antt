pub mod Group
pub mod Steps
pub mod Reading
pub mod Denied
pub mod Translations
pub mod Locking
pub mod Releasing
