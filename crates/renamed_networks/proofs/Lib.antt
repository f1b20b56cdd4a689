pub mod RenamedTrees
pub mod RenamedRuns
