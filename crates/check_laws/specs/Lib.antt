pub mod PartsLaw
pub mod KeepsLaw
pub mod OwnFilesLaw
pub mod DollarMeantLaw
pub mod examples
