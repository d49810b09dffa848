pub mod AtomsInTurn
pub mod FirstFound
pub mod PositionsInTurn
pub mod ScanLaws
pub mod SettledClauses
pub mod Unique
pub mod UnitedLaws
pub mod UnitedScan
