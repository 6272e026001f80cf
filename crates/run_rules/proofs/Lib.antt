mod Lists
mod Scripts
mod Files
mod Zero
mod Refused
mod Full
mod Crews
mod Fitting
mod Opened
mod Numbers
mod EntriesLeft
mod Lone
pub mod Counts
pub mod Offered
pub mod Left
mod LastWords
mod PutAndGet
mod Suiting
mod LeftAlone
mod Unspent
mod Private
mod Unnamed
mod UnnamedLast
mod PrivateAnchors
pub mod TabsApart
