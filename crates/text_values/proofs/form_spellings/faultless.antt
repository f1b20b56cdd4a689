mod Lists
mod Seconds
mod Uses
mod Parts
mod Formulas
mod Effects
mod Networks
mod NetworkUses
mod Types
mod Sound
mod Declarations
mod Domains
mod Fresh
mod Filled
mod Tokens
pub mod Depth
pub mod Reading
