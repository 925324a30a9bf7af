pub mod Drafting
pub mod Numbering
pub mod Splitting
pub mod Rooting
pub mod Framing
