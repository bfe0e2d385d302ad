pub mod Placing
pub mod Failing
pub mod Finishing
pub mod Cutting
