pub mod KeyScripts
pub mod Readings
pub mod KeyReplies
