pub mod Verdicts
pub mod Scans
pub mod Soundness
pub mod Rows
pub mod Places
pub mod Simulation
pub mod Coverings
