pub mod Lists
pub mod Graphs
pub mod Checks
pub mod Programs
pub mod Runs
pub mod Made
pub mod Running
pub mod Covering
