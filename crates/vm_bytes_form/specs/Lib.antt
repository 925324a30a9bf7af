pub mod Strings
pub mod Cuts
pub mod Forms
pub mod Bytes
pub mod KeyMap
pub mod NodeEdits
