pub mod Numbers
pub mod CommandFacts
pub mod ReportFacts
pub mod CreateFacts
pub mod RunFacts
pub mod Carried
