pub mod from_vm_serve
