pub mod Prelude
pub mod BundleBits
pub mod FrameMoves
pub mod Handing
pub mod Answering
pub mod Walking
pub mod Returning
