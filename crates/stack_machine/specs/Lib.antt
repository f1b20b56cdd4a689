pub mod Stack
pub mod StackMachine
pub mod StackLaws
