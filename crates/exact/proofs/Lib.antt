pub mod Integers
pub mod NumberLaws
pub mod EnclosureLaws
