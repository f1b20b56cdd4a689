-- The words by which faults are named in lines: one for each code from 1 to 22, and from 30 to 36.
-- Source: this project's.
use Rattle.std.specs.Prelude.{ℕ, List, [], ◌∷◌, codes, slice_index_or}

-- the words of the codes, from 0 on; no fault has a code from 23 to 29
abbrev pub fault_words : List (List ℕ)
fault_words =
    []
    ∷ codes "BadByte"
    ∷ codes "UnclosedParen"
    ∷ codes "StrayClose"
    ∷ codes "TooDeep"
    ∷ codes "NotADefine"
    ∷ codes "UnknownSection"
    ∷ codes "RepeatedSection"
    ∷ codes "BadForm"
    ∷ codes "ReservedName"
    ∷ codes "DuplicateName"
    ∷ codes "UnknownType"
    ∷ codes "TypeCycle"
    ∷ codes "UnknownPredicate"
    ∷ codes "UnknownTask"
    ∷ codes "UnknownObject"
    ∷ codes "UnknownVariable"
    ∷ codes "WrongArity"
    ∷ codes "DuplicateVariable"
    ∷ codes "UnknownSubtaskId"
    ∷ codes "CyclicOrder"
    ∷ codes "TooManySubtasks"
    ∷ codes "TooManyTypes"
    ∷ [] ∷ [] ∷ [] ∷ [] ∷ [] ∷ [] ∷ []
    ∷ codes "NoMarker"
    ∷ codes "BadLine"
    ∷ codes "RepeatedId"
    ∷ codes "UnknownId"
    ∷ codes "IdUsedTwice"
    ∷ codes "NoRoot"
    ∷ codes "Unreached"
    ∷ []

-- a code past the last has none
abbrev pub fault_word : ℕ → List ℕ
fault_word code = slice_index_or fault_words code []
