mod Left
mod Taken
mod Zeros
