pub mod StreamTable
pub mod Describes
pub mod SiteTable
