pub mod SomeParameters
pub mod TwoPorts
pub mod TypeNames
