pub mod KeptWords
pub mod SubtaskWords
pub mod Lists
pub mod PrintedTypes
pub mod SpelledNetworks
pub mod NumberedSpells
pub mod WithIds
pub mod SameTexts
pub mod PrintedIds
pub mod PrintedHddlSpells
pub mod DomainNames
mod Pieces
mod Bundles
mod Within
pub mod examples
