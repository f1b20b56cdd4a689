-- Too many types (22), over the numbers of names.
-- Source: this project's.
use Rattle.std.specs.Prelude.{ℕ, ◌≡◌, ◌≢◌, ◌<◌, ◌↔◌, List, length, take, slice_index_or as get_or, All, Contains, Option, Some}
use Rattle.htn_base.specs.Different.{AreDifferent}
use Rattle.name_binding.specs.Places.{first_place}
use Rattle.name_binding.specs.Spots.{AreLeastOf, noted}
use Rattle.name_binding.specs.declared.faults.Spot.{Spot}
use Rattle.gd_reader.specs.declared.term.RawTerm.{RawTerm}
use Rattle.gd_reader.specs.declared.typed_lists.RawParam.{RawParam}
use Rattle.name_binding.specs.Mentions.{mentioned}

-- no two different words stand at one offset
abbrev pub HaveOneWordAPlace : List RawTerm → Type 0
HaveOneWordAPlace words = (v w : RawTerm) → Contains words v → Contains words w → v.at ≡ w.at → v.name.number ≡ w.name.number

-- a word of this number stands in front of the offset
abbrev pub IsSaidBefore : List RawTerm → ℕ → ℕ → Type 0
IsSaidBefore words at number = (m : RawTerm) × Contains words m × (m.name.number ≡ number) × (m.at < at)

-- The types other than object that are mentioned in front of a place are these.
abbrev pub AreTypesBefore : ℕ → List RawTerm → ℕ → List ℕ → Type 0
AreTypesBefore object words at types = (n : ℕ) → Contains types n ↔ ((n ≢ object) × IsSaidBefore words at n)

-- At this place a further type other than object is mentioned, in front of which so many different ones are.
pub record IsOneTooMany (most object : ℕ) (words : List RawTerm) (at : ℕ) : Type 0 where
  pub word : RawTerm
  pub said : Contains words word
  pub here : word.at ≡ at
  pub not_object : word.name.number ≢ object
  pub earlier : List ℕ
  pub are_before : AreTypesBefore object words at earlier
  pub different : AreDifferent earlier
  pub most_stand : length earlier ≡ most
  pub new : Contains earlier word.name.number → ⊥

-- 22: the first word of the type that is one too many
abbrev pub IsTooManyTypes : ℕ → ℕ → List RawParam → Spot → Type 0
IsTooManyTypes most object xs s = (s.code ≡ 22) × IsOneTooMany most object (mentioned xs) s.at

-- the least of these faults is noted
abbrev pub NotesLeast : (Spot → Type 0) → Option Spot → Option Spot → Type 0
NotesLeast IsFault old new = (spots : List Spot) × AreLeastOf IsFault spots × (new ≡ noted old spots)

-- no word has this place among the types
abbrev pub NoneIsOfType : List ℕ → ℕ → List RawTerm → Type 0
NoneIsOfType types place words = All (λ w. first_place w.name.number types ≢ Some place) words

-- The first word that has this place among the types stands at this offset.
pub record IsFirstOfType (types : List ℕ) (place : ℕ) (words : List RawTerm) (at : ℕ) : Type 0 where
  pub index : ℕ
  pub word : RawTerm
  pub below : index < length words
  pub read : word ≡ get_or words index word
  pub here : word.at ≡ at
  pub is : first_place word.name.number types ≡ Some place
  pub none_before : NoneIsOfType types place (take index words)
