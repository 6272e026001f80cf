pub mod Faults
pub mod Plan
pub mod Sink
pub mod LineBuffer
pub mod MemSource
pub mod MemSink
pub mod StdSource
pub mod StdSink
