pub mod Forms
mod Places
mod Definitions
mod Texts
mod PddlTexts
mod Seen
