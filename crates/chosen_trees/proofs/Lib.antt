pub mod ChosenRows
