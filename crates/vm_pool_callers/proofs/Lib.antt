pub mod Prelude
pub mod OnePage
pub mod FirstPage
pub mod RoundTrip
pub mod from_vm_pool
