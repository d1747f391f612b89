pub mod NearLaws
pub mod ScaledLaws
