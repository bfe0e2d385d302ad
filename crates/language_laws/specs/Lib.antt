pub mod Unwanted
pub mod Places
pub mod KindLaws
pub mod PlaceLaws
pub mod examples
