pub mod UrlFacts
pub mod KeyFacts
