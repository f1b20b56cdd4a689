-- The term that a written term stands for, by the numbers of names; and its fault, where it stands for none.
-- Source: scopes as in PDDL 2.1 (Fox and Long, JAIR 20, 2003, level 1): an inner variable hides an outer one of the same name.
use Rattle.std.specs.Prelude.{ℕ, cond, List, [], ◌∷◌, map, flat_map, Option, Some, None, unwrap_or}
use Rattle.name_binding.specs.Places.{first_place, last_place}
use Rattle.name_binding.specs.Spots.{spot}
use Rattle.name_binding.specs.declared.faults.Spot.{Spot}
use Rattle.gd_reader.specs.declared.term.RawTerm.{RawTerm}
use Rattle.plan_model.specs.declared.terms.Term.{Term}
use Rattle.plan_model.specs.declared.terms.Term.TheVariants.{Var, Obj}

-- a name that none has is a fault; what then stands for it is nothing that is used
abbrev pub unless_found : ℕ → ℕ → Option ℕ → List Spot
unless_found code at None = spot at code ∷ []
unless_found code at (Some k) = []

module _ (objects scope : List ℕ) where
  -- a variable is the innermost in force of its name, another term the first object of its name
  abbrev pub term_bound : RawTerm → Term
  term_bound t = cond t.variable (Var (unwrap_or (last_place t.name.number scope) 0)) (Obj (unwrap_or (first_place t.name.number objects) 0))

  -- 16: no variable in force has the name; 15: no object has it
  abbrev pub term_faults : RawTerm → List Spot
  term_faults t = cond t.variable (unless_found 16 t.at (last_place t.name.number scope)) (unless_found 15 t.at (first_place t.name.number objects))

  abbrev pub terms_bound : List RawTerm → List Term
  terms_bound ts = map term_bound ts

  abbrev pub terms_faults : List RawTerm → List Spot
  terms_faults ts = flat_map term_faults ts
