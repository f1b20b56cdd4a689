mod WordTests
mod RowTests
mod Bundled
mod NetworksSpelled
mod NetworksWhole
mod WholeNetworks
mod PartTables
mod Pieces
mod PartsListed
mod WholeParts
mod Topics
mod SectionTables
mod SectionsListed
mod WholeDefinitions
mod SpelledSome
mod Unions
mod Freshness
mod Known
mod ListsWhole
mod ListsSpelled
mod ListValues
mod PartsWhole
mod FormulaWhole
mod EffectWhole
mod FormulaSpelled
mod EffectSpelled
mod WholeForms
mod KeptWords
mod Facts
mod TermsIn
mod ListsIn
pub mod FormulasIn
pub mod EffectsIn
mod NamesIn
mod TermsBound
mod NetworksIn
mod PartsIn
mod SectionsIn
mod DefinitionsIn
mod PlacesSeen
mod PlacesRead
mod PlacesWhole
mod UnionsBound
mod ListsBound
mod FormulasBound
mod EffectsBound
mod BoundForms
mod TermsSaid
mod ListsSaid
mod Opened
mod FormulasSaid
mod EffectsSaid
mod SaidForms
mod TermsExact
mod ItemsExact
mod SubtasksExact
mod PairsExact
mod ConstraintsExact
mod ReadFields
mod PartsExact
mod SchemasExact
mod FactsExact
mod SectionsExact
mod TextsExact
mod NoSections
mod NetworksRead
mod SchemasRead
pub mod TextsRead
mod OnePddlOrder
pub mod order
pub mod seen
pub mod examples
pub mod faultless
