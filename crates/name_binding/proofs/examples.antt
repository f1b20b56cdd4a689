mod NumberRows
pub mod Types
mod FormulaRows
