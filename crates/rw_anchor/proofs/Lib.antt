pub mod LastTabs
pub mod Taking
pub mod Drawing
