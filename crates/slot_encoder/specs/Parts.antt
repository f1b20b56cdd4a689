-- The parts of the printed problem, and the variables of a method's action.
-- Source: this project's encoding, after Alford et al., "Bound to Plan", ICAPS 2016.
use Rattle.std.specs.Prelude.{ℕ, suc, ◌+◌, ◌-◌, ◌≡◌, List, [], length}
use Rattle.plan_model.specs.declared.values.Compiled.{Compiled}
use Rattle.plan_model.specs.declared.schemas.MethodPlan.{MethodPlan}
use Rattle.slot_encoding.specs.EncodedActions.{slot_vars}
use Rattle.plan_model.specs.declared.options.Slots.{Slots}
use Rattle.plan_model.specs.declared.options.Style.{Style}
use Rattle.plan_model.specs.declared.values.Pddl.{Pddl}
use Rattle.slot_encoding.specs.SourceParts.{renamed}
use Rattle.slot_encoding.specs.EncodedNames.{encoded_types, encoded_objects}
use Rattle.slot_encoding.specs.EncodedValue.{IsInitial}
use Rattle.slot_encoder.specs.Pieces.{encoded_goal}
use Rattle.slot_encoder.specs.Rules as rules
use Rattle.slot_encoding.specs.declared.slot_declarations.declarations.Declarations.{Declarations}
use Rattle.slot_encoder.specs.declared.variables.Variables.{Variables}

-- the new slots of a method's action, the variables before its parameters, all its variables, and the slots of its children
pub record AreVariables (plan : MethodPlan) (v : Variables) : Type 0 where
  pub spare : v.spare ≡ length plan.schema.children - 1
  pub front : v.front ≡ suc (length plan.schema.children - 1)
  pub depth : v.depth ≡ suc (length plan.schema.children - 1) + length plan.schema.params
  pub slots : v.slots ≡ slot_vars plan.heir 0 1 (length plan.schema.children)

-- the declarations of the printed problem, at these words
pub record AreDeclared (rule : Slots) (c : Compiled) (names : List (List ℕ)) (b : ℕ) (style : Style) (v : Declarations) : Type 0 where
  pub types : v.types ≡ encoded_types c names b
  pub objects : v.objects ≡ encoded_objects c names b
  pub predicates : v.predicates ≡ rules.predicates rule c names b style

-- all of the printed problem but its actions and what is true of lower slots, at these words
pub record IsHead (rule : Slots) (c : Compiled) (names : List (List ℕ)) (b : ℕ) (style : Style) (v : Pddl) : Type 0 where
  pub words : v.names ≡ names
  pub domain : v.domain ≡ renamed names c.hddl.names c.hddl.domain
  pub problem : v.problem ≡ renamed names c.hddl.names c.hddl.problem
  pub types : v.types ≡ encoded_types c names b
  pub objects : v.objects ≡ encoded_objects c names b
  pub predicates : v.predicates ≡ rules.predicates rule c names b style
  pub no_actions : v.actions ≡ []
  pub init : IsInitial c names b style v.init
  pub goal : v.goal ≡ encoded_goal c names b style
