pub mod Firsts
pub mod Keeping
pub mod Noting
pub mod Telling
