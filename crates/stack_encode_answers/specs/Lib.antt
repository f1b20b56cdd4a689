pub mod StackEncodeLaws
