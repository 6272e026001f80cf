mod Adds
mod Alphabet
mod Ends
mod Gets
mod Gives
mod Inner
mod Letters
pub mod Leaving
pub mod Faults
pub mod Standing
pub mod Keeping
pub mod Entries
pub mod Outcomes
pub mod Grown
pub mod Anchors
pub mod Slots
pub mod Writers
pub mod Readers
pub mod Purges
pub mod Wipes
pub mod Serving
pub mod StandingReaders
pub mod AddingUp
pub mod AnchorDeeds
pub mod SlotDeeds
pub mod EntryTabs
pub mod WriterDeeds
pub mod ReaderDeeds
pub mod PurgeDeeds
pub mod WipeDeeds
pub mod ServingDeeds
pub mod Counts
