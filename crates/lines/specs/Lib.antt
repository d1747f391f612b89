pub mod LineRecord
