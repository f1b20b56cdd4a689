-- One compiled value, and there is one.
pub mod OneCompiled
pub mod SomeLine
pub mod SomeCompiled
-- One pair of texts.
pub mod OneText
-- One bound and one named cycle.
pub mod OneGraph
