pub mod Changing
mod Asking
mod Wanting
mod Prefixes
mod CallNames
