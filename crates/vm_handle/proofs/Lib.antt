pub mod SlotSteps
pub mod Values
