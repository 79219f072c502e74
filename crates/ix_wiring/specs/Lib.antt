-- What public contracts say.
pub mod Wired
