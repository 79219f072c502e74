pub mod Slashes
pub mod Turns
pub mod Numbers
pub mod Named
pub mod Told
