pub mod Row
pub mod Levels
pub mod Counted
pub mod Filled
pub mod Proper
pub mod InLists
pub mod Rereading
