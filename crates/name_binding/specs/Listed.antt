-- The types of two texts as a part of a value.
-- Source: this project's.
use Rattle.std.specs.Prelude.{ℕ, List, map}
use Rattle.htn_base.specs.declared.name.Name.{Name}
use Rattle.plan_model.specs.declared.types.Parent.{Parent}
use Rattle.plan_model.specs.declared.types.Types.{Types}
use Rattle.name_binding.specs.Kinds.{Kinds}

abbrev pub name_of : ℕ → Name
name_of n = record { number = n }

-- the types in the order of their numbers, with these pairs of types and parents
abbrev pub types_bound : Kinds → List Parent → Types
types_bound kinds parents = record { names = map name_of kinds.types; parents = parents; unions = kinds.unions }
