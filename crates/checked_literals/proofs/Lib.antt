mod Rules
mod Texts
mod Falling
mod Flattened
mod Programs
mod FilterSpelled
mod Refusals
