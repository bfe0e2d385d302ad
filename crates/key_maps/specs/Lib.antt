pub mod MapKeys
