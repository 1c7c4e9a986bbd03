-- What C gets of the rules' answers.
pub mod Codes
