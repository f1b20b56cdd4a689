pub mod LowestSpelling
