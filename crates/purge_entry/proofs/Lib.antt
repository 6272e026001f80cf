mod Growing
mod Doomed
mod Answering
mod Following
mod LastUser
mod Blanking
