pub mod NearChange
