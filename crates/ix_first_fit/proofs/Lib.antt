pub mod Walks
pub mod Counting
pub mod Fitting
pub mod Netlists
pub mod Naming
pub mod Apart
