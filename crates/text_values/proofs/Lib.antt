pub mod FaultWords
pub mod DomainTexts
pub mod ProblemTexts
pub mod Refusals
pub mod HddlTexts
pub mod Spelled
pub mod PddlTexts
mod PddlExactly
mod Alike
pub mod Pairs
mod TermPairs
mod ListPairs
mod FormulaPairs
mod EffectPairs
mod NetworkPairs
mod PartPairs
mod SectionPairs
mod DefinitionPairs
mod Lists
mod Uses
mod NameFaults
pub mod OneFault
