mod Searching
mod Rows
mod DefinedPlaces
mod Circles
mod Gathering
mod Meanings
