-- That a list of steps of a stack is decoded to one thing, to something, and alike.
pub mod StackOnce
pub mod StackSomehow
pub mod StackAlike
pub mod ShownAlike
