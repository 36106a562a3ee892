pub mod MeansFit
