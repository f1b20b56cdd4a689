pub mod TreeTexts
