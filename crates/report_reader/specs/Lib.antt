pub mod ReportRead
pub mod JsonAnswers
pub mod Laws
