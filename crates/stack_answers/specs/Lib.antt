pub mod StackDecodeLaws
