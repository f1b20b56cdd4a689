-- The parts of the printed problem of a stack that stand before its actions and behind them.
-- Source: this project's encoding.
use Rattle.std.specs.Prelude.{ℕ, ◌≡◌, ◌<◌, ◌^◌, None, List, [], ◌∷◌, ◌++◌, length}
use Rattle.plan_model.specs.declared.formulas.Formula.{Formula}
use Rattle.plan_model.specs.declared.formulas.Formula.TheVariants.{Holds, And}
use Rattle.plan_model.specs.declared.terms.Term.TheVariants.{Obj}
use Rattle.plan_model.specs.declared.schemas.ActionSchema.{ActionSchema}
use Rattle.plan_model.specs.declared.values.Compiled.{Compiled}
use Rattle.plan_model.specs.declared.values.Pddl.{Pddl}
use Rattle.pddl_printer.specs.Texts.{actions_text}
use Rattle.slot_encoding.specs.SourceParts.{renamed}
use Rattle.slot_encoding.specs.EncodedNames.{encoded_types}
use Rattle.slot_encoding.specs.MethodParts.{condition_part}
use Rattle.slot_encoding.specs.slot_declarations.Frames.{IsBasis}
use Rattle.slot_encoding.specs.declared.slot_declarations.declarations.Declarations.{Declarations}
use Rattle.slot_encoder.specs.Encodings.{with_actions}
use Rattle.stack_encoding.specs.StackNames.{tip_predicate, cell_object, stack_objects, stack_predicates}
use Rattle.stack_encoding.specs.StackValue.{stack_actions, IsInitial, IsStackEncoded}
use Rattle.stack_encoding.specs.StackWords.{HasStackWords}
use Rattle.stack_encoder.specs.declared.encoding.StackEncoding.{StackEncoding}

module _ (c : Compiled) (names : List (List ℕ)) where
  abbrev pub stack_goal : Formula
  stack_goal = And (condition_part c names 0 c.hddl.goal ++ Holds (record { predicate = tip_predicate c; args = Obj (cell_object c 0) ∷ [] }) ∷ [])

  -- with cells 0 to b
  module _ (b : ℕ) where
    pub record AreDeclared (v : Declarations) : Type 0 where
      pub types : v.types ≡ encoded_types c names b
      pub objects : v.objects ≡ stack_objects c names b
      pub predicates : v.predicates ≡ stack_predicates c names b

    -- all of the printed problem but its actions, at these words
    pub record IsHead (v : Pddl) : Type 0 where
      pub words : v.names ≡ names
      pub domain : v.domain ≡ renamed names c.hddl.names c.hddl.domain
      pub problem : v.problem ≡ renamed names c.hddl.names c.hddl.problem
      pub declared : AreDeclared (record { types = v.types; objects = v.objects; predicates = v.predicates })
      pub no_actions : v.actions ≡ []
      pub init : IsInitial c names b v.init
      pub goal : v.goal ≡ stack_goal

-- all actions, and the head with them
abbrev pub all_actions : Compiled → StackEncoding → List ActionSchema
all_actions c e = stack_actions c e.names e.cells

abbrev pub value_of : Compiled → StackEncoding → Pddl
value_of c e = with_actions e.head (all_actions c e)

-- the encoding of a compiled problem: with its actions the head is the encoded value, and its table has the head's words, which are all
pub record IsStackEncoding (c : Compiled) (e : StackEncoding) : Type 0 where
  pub encoded : IsStackEncoded c e.cells (value_of c e)
  pub no_actions : e.head.actions ≡ []
  pub words : HasStackWords c e.cells e.head.names
  pub short : length e.head.names < 2 ^ 32
  pub table : e.names ≡ e.head.names
  pub basis : IsBasis c e.names e.cells e.basis

-- the lines of some actions
abbrev pub actions_put : StackEncoding → List ActionSchema → List ℕ
actions_put e actions = actions_text e.head None actions
