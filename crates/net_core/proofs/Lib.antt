pub mod Putting
pub mod Linking
pub mod Unmoved
pub mod Enabling
pub mod Steps
pub mod Numbers
pub mod Asked
pub mod Stands
