pub mod AddedRules
pub mod AtMostMeaning
pub mod DictionaryOrder
pub mod EqualityMeaning
pub mod Reading
pub mod Unique
pub mod Writing
