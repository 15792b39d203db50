pub mod TableLaws
pub mod ReferenceLaws
