pub mod Placed
pub mod Each
pub mod GroupEvents
pub mod EventKinds
pub mod ReleaseEvents
pub mod ElsewhereEvents
