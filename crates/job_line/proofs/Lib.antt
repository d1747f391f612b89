pub mod RangeTests
pub mod LineLaws
pub mod OneAnswer
