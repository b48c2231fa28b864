pub mod Runs
pub mod Ledger
pub mod Agreement
pub mod Asked
pub mod Worths
pub mod Promises
