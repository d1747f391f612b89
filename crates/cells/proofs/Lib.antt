pub mod Keys
pub mod HeldLaws
pub mod RangeLaws
pub mod SlotLaws
pub mod PlaceLaws
pub mod WriteLaws
pub mod LiveLaws
