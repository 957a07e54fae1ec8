pub mod ReportJson
pub mod FirstVersion
pub mod Laws
