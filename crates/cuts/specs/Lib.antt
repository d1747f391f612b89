pub mod CutRecord
