pub mod Ints
pub mod Sound
pub mod Claimed
pub mod Inputs
pub mod Priced
pub mod Rising
