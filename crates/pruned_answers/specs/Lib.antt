pub mod PruneLaws
pub mod PrunedTexts
