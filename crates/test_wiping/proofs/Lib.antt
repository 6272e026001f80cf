mod Both
mod Passes
mod Resting
