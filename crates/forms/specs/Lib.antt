pub mod Parts
pub mod Forms
pub mod Equation
pub mod Built
