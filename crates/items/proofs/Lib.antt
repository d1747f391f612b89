pub mod FirstPlace
pub mod FirstRemoved
pub mod Found
pub mod ItemValues
pub mod Removal
pub mod TakenOut
