pub mod Numbers
pub mod Urls
pub mod Shares
pub mod Requests
pub mod Script
pub mod Kinds
pub mod Counts
pub mod Text
