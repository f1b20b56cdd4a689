-- Ground atoms as rows of numbers: a row's head is the predicate, its rest the objects.
-- Source: this project's.
use Rattle.std.specs.Prelude.{ℕ, List, map}
use Rattle.htn_base.specs.Packed.{Row}
use Rattle.plan_model.specs.declared.terms.GroundAtom.{GroundAtom}

-- the ground atom of a predicate and objects
abbrev pub atom_of : ℕ → List ℕ → GroundAtom
atom_of predicate objects = record { predicate = predicate; args = objects }

abbrev pub facts : List Row → List GroundAtom
facts rows = map (λ row. atom_of row.head row.rest) rows
