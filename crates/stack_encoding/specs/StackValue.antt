-- The printed problem of a stack as a PDDL value.
-- Source: this project's encoding.
use Rattle.std.specs.Prelude.{ℕ, suc, ◌≡◌, cond, List, [], ◌∷◌, ◌++◌, map}
use Rattle.plan_model.specs.declared.options.Style.TheVariants.{Adl}
use Rattle.plan_model.specs.declared.terms.GroundAtom.{GroundAtom}
use Rattle.plan_model.specs.declared.formulas.Formula.TheVariants.{Holds, And}
use Rattle.plan_model.specs.declared.terms.Term.TheVariants.{Obj}
use Rattle.plan_model.specs.declared.schemas.ActionSchema.{ActionSchema}
use Rattle.plan_model.specs.declared.schemas.MethodPlan.{MethodPlan}
use Rattle.plan_model.specs.declared.values.Compiled.{Compiled}
use Rattle.plan_model.specs.declared.values.Pddl.{Pddl}
use Rattle.plan_model.specs.task_networks.Spelling.{numbers}
use Rattle.plan_model.specs.plan_meaning.Compilation.{once}
use Rattle.slot_encoding.specs.SourceParts.{renamed}
use Rattle.slot_encoding.specs.EncodedNames.{guard_types, top_predicate, encoded_types}
use Rattle.slot_encoding.specs.MethodParts.{condition_part}
use Rattle.slot_encoding.specs.EncodedValue.{atom, same_atom, AreGuardAtoms}
use Rattle.stack_encoding.specs.StackNames.{tip_predicate, up_predicate, cell_object, stack_objects, stack_predicates}
use Rattle.stack_encoding.specs.StackActions.{stack_method, stack_check, stack_action}

module _ (c : Compiled) (names : List (List ℕ)) (b : ℕ) where
  -- from number m on
  abbrev pub stack_methods : ℕ → List MethodPlan → List ActionSchema
  stack_methods m [] = []
  stack_methods m (plan ∷ plans) = stack_method c names b m plan ∷ stack_methods (suc m) plans

  abbrev pub stack_checks : ℕ → List MethodPlan → List ActionSchema
  stack_checks m [] = []
  stack_checks m (plan ∷ plans) = cond plan.checked (stack_check c names b m plan ∷ stack_checks (suc m) plans) (stack_checks (suc m) plans)

  abbrev pub stack_source : ℕ → List ActionSchema → List ActionSchema
  stack_source a [] = []
  stack_source a (s ∷ ss) = stack_action c names b a s ∷ stack_source (suc a) ss

  -- the methods, the top method first, the checks, the source actions
  abbrev pub stack_actions : List ActionSchema
  stack_actions = stack_methods 0 c.methods ++ stack_checks 0 c.methods ++ stack_source 0 c.hddl.actions

  -- cell k + 1 is the one above cell k
  abbrev pub up_fact : ℕ → GroundAtom
  up_fact k = record { predicate = up_predicate c; args = cell_object c k ∷ cell_object c (suc k) ∷ [] }

  -- cell 1 holds the top task and is the tip, the cells lie one above the other, and the source atoms are true, each written once
  abbrev pub first_atoms : List GroundAtom
  first_atoms = atom (top_predicate c) (cell_object c 1) ∷ atom (tip_predicate c) (cell_object c 1) ∷ map up_fact (numbers 0 b) ++ once same_atom c.hddl.init

  abbrev pub IsInitial : List GroundAtom → Type 0
  IsInitial init = (guards : List GroundAtom) × AreGuardAtoms c names b Adl (guard_types c) guards × (init ≡ first_atoms ++ guards)

-- the printed problem of a compiled one, with cells 0 to b
pub record IsStackEncoded (c : Compiled) (b : ℕ) (p : Pddl) : Type 0 where
  pub domain : p.domain ≡ renamed p.names c.hddl.names c.hddl.domain
  pub problem : p.problem ≡ renamed p.names c.hddl.names c.hddl.problem
  pub types : p.types ≡ encoded_types c p.names b
  pub objects : p.objects ≡ stack_objects c p.names b
  pub predicates : p.predicates ≡ stack_predicates c p.names b
  pub actions : p.actions ≡ stack_actions c p.names b
  pub init : IsInitial c p.names b p.init
  -- the source goal, and nothing left: the tip is cell 0
  pub goal : p.goal ≡ And (condition_part c p.names 0 c.hddl.goal ++ Holds (record { predicate = tip_predicate c; args = Obj (cell_object c 0) ∷ [] }) ∷ [])
