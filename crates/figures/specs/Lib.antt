pub mod Panel
pub mod Figures
