pub mod RectLaws
pub mod OpenLaws
pub mod FigureLaws
pub mod CutLaws
pub mod NumberLaws
