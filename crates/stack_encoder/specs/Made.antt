-- The parts of the printed problem of a stack, as they are made from the frame, whose slots are the cells 1 to b.
-- Source: this project's encoding.
use Rattle.std.specs.Prelude.{ℕ, suc, ◌-◌, ◌≡◌, Option, None, Some, List, [], ◌∷◌, ◌++◌, map, length, slice_get}
use Rattle.htn_base.specs.declared.name.Name.{Name}
use Rattle.plan_model.specs.declared.terms.Param.{Param}
use Rattle.plan_model.specs.declared.terms.Term.{Term}
use Rattle.plan_model.specs.declared.terms.Atom.{Atom}
use Rattle.plan_model.specs.declared.terms.GroundAtom.{GroundAtom}
use Rattle.plan_model.specs.declared.formulas.Formula.{Formula}
use Rattle.plan_model.specs.declared.formulas.Formula.TheVariants.{And}
use Rattle.plan_model.specs.declared.effects.Effect.{Effect}
use Rattle.plan_model.specs.declared.effects.Effect.TheVariants as E
use Rattle.plan_model.specs.declared.schemas.ActionSchema.{ActionSchema}
use Rattle.plan_model.specs.declared.schemas.MethodPlan.{MethodPlan}
use Rattle.plan_model.specs.declared.schemas.Predicate.{Predicate}
use Rattle.plan_model.specs.declared.types.Object.{Object}
use Rattle.plan_model.specs.declared.values.Pddl.{Pddl}
use Rattle.plan_model.specs.task_networks.Spelling.{numbers}
use Rattle.slot_encoding.specs.EncodedNames as encoded
use Rattle.slot_encoding.specs.MethodParts as parts
use Rattle.slot_encoding.specs.EncodedValue.{atom}
use Rattle.stack_machine.specs.Stack.{behind}
use Rattle.slot_encoder.specs.Made as slots
use Rattle.stack_encoding.specs.StackNames as names
use Rattle.stack_encoding.specs.StackActions as actions
use Rattle.stack_encoding.specs.StackValue as value
use Rattle.slot_encoding.specs.declared.slot_declarations.declarations.Declarations.{Declarations}
use Rattle.slot_encoding.specs.declared.slot_declarations.frame.Frame.{Frame}
use Rattle.stack_encoder.specs.Pieces.{held_from_1}
use Rattle.stack_encoder.specs.Heads as heads

module _ (f : Frame) where
  -- the compiled problem, the words of the source and of the printed problem, the number of the highest cell
  open f use {compiled.{now as c, now.{hddl.{names as own}}}, printed.{now as words}, slots as b}

  -- declarations
  abbrev pub objects : List Object
  objects = names.stack_objects c words b

  abbrev pub predicates : List Predicate
  predicates = names.stack_predicates c words b

  abbrev pub AreDeclared : Declarations → Type 0
  AreDeclared = heads.AreDeclared c words b

  -- atoms of cells
  abbrev pub tip : Term → Atom
  tip cell = record { predicate = names.tip_predicate c; args = cell ∷ [] }

  abbrev pub up : ℕ → Atom
  up v = actions.is_up c words b v (suc v)

  -- the first state, before what the source has of it, and all of it
  abbrev pub cell_atoms : List GroundAtom
  cell_atoms = atom (encoded.top_predicate c) (names.cell_object c 1) ∷ atom (names.tip_predicate c) (names.cell_object c 1) ∷ map (value.up_fact c words b) (numbers 0 b)

  abbrev pub IsInitial : List GroundAtom → Type 0
  IsInitial = value.IsInitial c words b

  abbrev pub goal : Formula
  goal = heads.stack_goal c words

  abbrev pub IsHead : Pddl → Type 0
  IsHead = heads.IsHead c words b

  -- where nothing comes in the place of what is taken
  abbrev pub falling_params : List Param → List Param
  falling_params = actions.falling_params c words b

  abbrev pub at_tip : Atom → List Formula
  at_tip = actions.at_tip c words b

  abbrev pub falling : Atom → List Effect
  falling = actions.falling c words b

  -- a source action or a check, in whose place nothing comes; the change of a source action, a check has none
  abbrev pub changes : Option Effect → List Effect
  changes None = []
  changes (Some e) = parts.change_part c words 2 e

  abbrev pub tip_condition : ℕ → ℕ → Formula → List Formula
  tip_condition predicate count pre = at_tip (held_from_1 predicate count) ++ parts.condition_part c words 2 pre

  abbrev pub tip_effects : ℕ → ℕ → Option Effect → List Effect
  tip_effects predicate count change = falling (held_from_1 predicate count) ++ changes change

  abbrev pub tip_action : Name → ℕ → List Param → Formula → Option Effect → ActionSchema
  tip_action name predicate params pre change = record {
    name = name;
    params = falling_params params;
    pre = And (tip_condition predicate (length params) pre);
    eff = E.And (tip_effects predicate (length params) change);
  }

  abbrev pub source_action : ℕ → ActionSchema → ActionSchema
  source_action = actions.stack_action c words b

  -- a method with so many children
  abbrev pub task : ℕ → ℕ → MethodPlan → Atom
  task front v plan = parts.task_in c words front v plan

  abbrev pub method_params : ℕ → MethodPlan → List Param
  method_params count plan = actions.method_params c words b 0 plan count

  abbrev pub method_condition : ℕ → MethodPlan → List Formula
  method_condition count plan = actions.method_pre c words b 0 plan count

  abbrev pub climbing : ℕ → List Effect
  climbing = actions.climbing c words b

  -- check: the predicate of its check; cells: of how many children; to: the variable of the highest cell
  abbrev pub effects_with : (check count cells : ℕ) → MethodPlan → (to : ℕ) → List Effect
  effects_with check count cells plan to =
      E.Delete (task count 0 plan) ∷ map E.Add (slots.child_atoms f count check (map (behind plan.line) (numbers 0 cells)) plan.schema.children) ++ climbing to

  abbrev pub climbing_effects : (check count : ℕ) → MethodPlan → List Effect
  climbing_effects check count plan = effects_with check count count plan (count - 1)

  abbrev pub falling_method : Name → MethodPlan → ActionSchema
  falling_method name plan = record {
    name = name;
    params = method_params 0 plan;
    pre = And (method_condition 0 plan);
    eff = E.And (falling (task 2 1 plan));
  }

  abbrev pub climbing_method : Name → (check count : ℕ) → MethodPlan → ActionSchema
  climbing_method name check count plan = record {
    name = name;
    params = method_params count plan;
    pre = And (method_condition count plan);
    eff = E.And (climbing_effects check count plan);
  }

  -- one of the methods, and one of the checks
  abbrev pub IsMethod : ℕ → ActionSchema → Type 0
  IsMethod m a = slice_get (value.stack_methods c words b 0 c.methods) m ≡ Some a

  abbrev pub IsCheck : ℕ → ActionSchema → Type 0
  IsCheck j a = slice_get (value.stack_checks c words b 0 c.methods) j ≡ Some a
