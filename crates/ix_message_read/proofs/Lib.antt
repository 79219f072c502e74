pub mod Failing
pub mod TextLists
