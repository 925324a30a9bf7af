pub mod Ranks
pub mod Halves
pub mod RoundTrip
pub mod BytesLaws
pub mod KeyMaps
pub mod EditLaws
pub mod Samples
