pub mod Rows
mod Ended
pub mod Gathered
pub mod Versions
pub mod Courses
pub mod Names
pub mod GivenWay
pub mod HaltedNew
pub mod Printing
pub mod HitVersions
pub mod Found
pub mod Finished
pub mod Tabs
mod Stopping
pub mod Ordering
pub mod Parts
pub mod Scripts
pub mod Idle
pub mod Alone
pub mod PutAndGet
pub mod Quiet
pub mod Told
pub mod Stages
mod Begun
pub mod Crews
pub mod Known
mod Unexplained
mod UnexplainedEpochs
mod UnexplainedOrder
mod UnexplainedTabs
mod UnexplainedReaders
mod UnexplainedDraws
