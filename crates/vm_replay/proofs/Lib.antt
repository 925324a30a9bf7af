mod Lines
mod Seeing
mod Shapes
mod Stopping
pub mod OnePlay
