pub mod PredictionText
pub mod Adding
pub mod Laws
