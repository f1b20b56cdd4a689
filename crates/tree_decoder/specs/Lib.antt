pub mod Decoded
pub mod Decoding
pub mod Acts
pub mod Taking
pub mod AtTip
