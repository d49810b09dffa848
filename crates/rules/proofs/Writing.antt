pub mod AddedLaws
pub mod Examples
pub mod FrameLaws
pub mod PlaceLaws
pub mod RoundTrip
pub mod UpToLaws
pub mod WrittenLaws
