pub mod Telling
pub mod DeedLines
pub mod TabLines
pub mod Shown
pub mod Doomed
pub mod Turns
pub mod Tracking
pub mod CallDeeds
pub mod Halting
pub mod Running
pub mod ReadNames
pub mod OneKey
pub mod OtherUrls
pub mod Small
pub mod TooLarge
mod Unfit
pub mod OpenedLengths
pub mod Fitting
pub mod TurningAway
pub mod WriterLines
pub mod Dropping
pub mod Closing
pub mod Causes
pub mod Loading
pub mod Refusing
pub mod Coming
pub mod Purging
pub mod Readers
pub mod Beginning
mod ReadersFound
pub mod Offering
pub mod NotBegun
pub mod BeginLines
pub mod GivingUp
pub mod AddLines
pub mod Ended
pub mod EndLines
pub mod PutLines
pub mod Opened
pub mod OpenLines
pub mod ReadingOn
pub mod Stopped
pub mod MoreLines
pub mod GetLines
pub mod LeavingTabs
pub mod MarkLines
pub mod Starting
pub mod AnyLine
pub mod Waiting
pub mod BodyLengths
pub mod GivenBytes
pub mod WaitsAt
mod Steps
mod Going
mod CrewLists
mod Pieces
mod Counting
pub mod ScriptLines
mod Halted
mod MarksMet
mod Faults
mod Taking
mod Crews
mod Begun
mod AtAnchors
mod Pasts
mod OldEntries
mod Stores
mod Stored
mod SavedLines
pub mod Dooming
