pub mod OneStack
pub mod Once
pub mod Somehow
pub mod AlikeStacks
pub mod Alike
