mod Giving
mod Taking
mod Texts
