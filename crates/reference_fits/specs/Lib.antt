pub mod Known
pub mod AnswersFit
