-- What the printed problem declares, each part as it is made from the frame.
-- Source: this project's encoding, after Alford et al., "Bound to Plan", ICAPS 2016.
use Rattle.std.specs.Prelude.{ℕ, true, List, [], ◌∷◌, ◌++◌, map, drop, length, codes, decimal}
use Rattle.htn_base.specs.Escapes.{slot_word}
use Rattle.htn_base.specs.declared.name.Name.{Name}
use Rattle.plan_model.specs.declared.types.Types.{Types}
use Rattle.plan_model.specs.declared.types.Object.{Object}
use Rattle.plan_model.specs.declared.terms.Param.{Param}
use Rattle.plan_model.specs.declared.schemas.Predicate.{Predicate}
use Rattle.plan_model.specs.declared.schemas.TaskSchema.{TaskSchema}
use Rattle.plan_model.specs.declared.schemas.ActionSchema.{ActionSchema}
use Rattle.plan_model.specs.declared.schemas.MethodPlan.{MethodPlan}
use Rattle.slot_encoding.specs.SourceParts as source
use Rattle.slot_encoding.specs.EncodedNames as encoded
use Rattle.slot_encoding.specs.slot_declarations.Pieces.{checked, if_checked}
use Rattle.slot_encoding.specs.slot_declarations.Frames as frames
use Rattle.slot_encoding.specs.declared.slot_declarations.declarations.Declarations.{Declarations}
use Rattle.slot_encoding.specs.declared.slot_declarations.frame.Frame.{Frame}

module _ (f : Frame) where
  -- the compiled problem, the words of the source and of the printed problem, the number of slots
  open f use {compiled.{now as c, now.{hddl.{names as own}}}, printed.{now as words}, slots as b}

  -- names
  abbrev pub renamed : Name → Name
  renamed = source.renamed words own

  abbrev pub prefixed : List ℕ → Name → Name
  prefixed prefix n = source.name words (prefix ++ source.source_word own n)

  abbrev pub guard_name : ℕ → Name
  guard_name ty = source.name words (encoded.guard_word c words 0 ty)

  -- a parameter of the source, with the name and type that it has in the printed problem
  abbrev pub param : Param → Param
  param = source.source_param words own

  -- types
  abbrev pub types : Types
  types = encoded.encoded_types c words b

  -- of the source's types, the first of which is `object`
  abbrev pub type_names : List Name → List Name
  type_names names =
      source.name words (codes "object")
      ∷ source.name words (codes "htn_slot")
      ∷ source.name words (codes "htn_object")
      ∷ map renamed (drop 1 names)

  -- objects
  abbrev pub objects : List Object
  objects = encoded.encoded_objects c words b

  abbrev pub object : Object → Object
  object x = record { name = renamed x.name; ty = source.retyped x.ty; constant = true }

  abbrev pub slot : ℕ → Object
  slot k = record { name = source.name words (slot_word k); ty = encoded.slot_type; constant = true }

  -- predicates
  abbrev pub predicates : List Predicate
  predicates = encoded.encoded_predicates c words b

  abbrev pub predicate : Predicate → Predicate
  predicate p = record { name = renamed p.name; params = map param p.params }

  abbrev pub slot_param : List ℕ → Param
  slot_param = encoded.slot_param c words 0

  abbrev pub slot_predicate : List ℕ → Predicate
  slot_predicate word = record { name = source.name words word; params = slot_param (codes "htn_h") ∷ [] }

  abbrev pub order_predicate : Predicate
  order_predicate = record {
    name = source.name words (codes "htn_before");
    params = slot_param (codes "htn_x") ∷ slot_param (codes "htn_h") ∷ [];
  }

  -- the three predicates of the slots
  abbrev pub slot_predicates : List Predicate
  slot_predicates = slot_predicate (codes "htn_top") ∷ slot_predicate (codes "htn_free") ∷ order_predicate ∷ []

  -- a slot holds what has so many parameters
  abbrev pub held : List ℕ → Name → ℕ → Predicate
  held prefix n count = record { name = prefixed prefix n; params = encoded.held_params c words 0 count }

  abbrev pub task_held : TaskSchema → Predicate
  task_held s = held (codes "htn_t_") s.name (length s.params)

  abbrev pub action_held : ActionSchema → Predicate
  action_held s = held (codes "htn_a_") s.name (length s.params)

  abbrev pub check_held : MethodPlan → Predicate
  check_held plan = held (codes "htn_c_") plan.schema.name (length plan.schema.params)

  abbrev pub checks_held : List MethodPlan → List Predicate
  checks_held methods = map check_held (checked methods)

  -- the one of the method's check, if it has one
  abbrev pub checking_held : MethodPlan → List Predicate
  checking_held plan = if_checked plan (check_held plan)

  abbrev pub argument : ℕ → Param
  argument k = record { name = source.name words (codes "htn_a" ++ decimal k); ty = encoded.object_type }

  abbrev pub guard_tested : ℕ → Predicate
  guard_tested ty = record { name = guard_name ty; params = record { name = source.name words (codes "htn_a1"); ty = encoded.object_type } ∷ [] }

  -- the first and the other half of the predicates
  abbrev pub front_predicates : List Predicate
  front_predicates = map predicate c.hddl.predicates ++ (slot_predicates ++ map task_held c.hddl.tasks)

  abbrev pub work_predicates : List Predicate
  work_predicates = map action_held c.hddl.actions ++ (checks_held c.methods ++ map guard_tested (encoded.guard_types c))

  -- types, objects and predicates
  abbrev pub AreDeclarations : Declarations → Type 0
  AreDeclarations = frames.AreDeclarations c words b
