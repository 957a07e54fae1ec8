pub mod PredictionInput
pub mod Laws
