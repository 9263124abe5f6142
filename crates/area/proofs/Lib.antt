pub mod PartLaws
pub mod FillLaws
pub mod WipeLaws
pub mod LayoutLaws
pub mod SumLaws
pub mod ListLaws
pub mod ViewLaws
