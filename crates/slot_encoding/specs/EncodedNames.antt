-- The types, objects and predicates of the printed problem.
-- Source: this project's encoding, after Alford et al., "Bound to Plan", ICAPS 2016.
use Rattle.std.specs.Prelude.{ℕ, ◌+◌, ◌-◌, ◌==◌, nat_eq, nat_lt, true, cond, List, [], ◌∷◌, ◌++◌, map, filter, take, length, slice_index_or, unwrap_or, position, codes, decimal}
use Rattle.htn_base.specs.Escapes.{slot_word}
use Rattle.htn_base.specs.declared.name.Name.{Name}
use Rattle.plan_model.specs.declared.terms.Param.{Param}
use Rattle.plan_model.specs.declared.types.Parent.{Parent}
use Rattle.plan_model.specs.declared.types.Types.{Types}
use Rattle.plan_model.specs.declared.types.Object.{Object}
use Rattle.plan_model.specs.declared.networks.Guard.{Guard}
use Rattle.plan_model.specs.declared.schemas.Predicate.{Predicate}
use Rattle.plan_model.specs.declared.schemas.TaskSchema.{TaskSchema}
use Rattle.plan_model.specs.declared.schemas.ActionSchema.{ActionSchema}
use Rattle.plan_model.specs.declared.schemas.MethodPlan.{MethodPlan}
use Rattle.plan_model.specs.declared.values.Compiled.{Compiled}
use Rattle.plan_model.specs.task_networks.Spelling.{numbers}
use Rattle.plan_model.specs.plan_meaning.Compilation.{once}
use Rattle.slot_encoding.specs.SourceParts.{name, source_word, renamed, retyped, source_param}
use Rattle.order_encoder.specs.OrderFormulas.{OrderNumbers}

abbrev pub joined : {A : Type 0} → List (List A) → List A
joined [] = []
joined (xs ∷ rest) = xs ++ joined rest

-- the generated types: `object` is 0
abbrev pub slot_type : ℕ
slot_type = 1

abbrev pub object_type : ℕ
object_type = 2

module _ (c : Compiled) where
  -- the types of guards, in order of first use, the top method first
  abbrev pub guard_types : List ℕ
  guard_types = once nat_eq (joined (map (λ (plan : MethodPlan). map (λ (g : Guard). g.ty) plan.guards) c.methods))

  abbrev pub checked_methods : List MethodPlan
  checked_methods = filter (λ (plan : MethodPlan). plan.checked) c.methods

  -- the numbers of the predicates: the source's, three generated ones, tasks, actions, checks, guards
  abbrev pub top_predicate : ℕ
  top_predicate = length c.hddl.predicates

  abbrev pub free_predicate : ℕ
  free_predicate = length c.hddl.predicates + 1

  abbrev pub before_predicate : ℕ
  before_predicate = length c.hddl.predicates + 2

  abbrev pub first_task : ℕ
  first_task = length c.hddl.predicates + 3

  abbrev pub first_action : ℕ
  first_action = first_task + length c.hddl.tasks

  abbrev pub first_check : ℕ
  first_check = first_action + length c.hddl.actions

  abbrev pub first_guard : ℕ
  first_guard = first_check + length checked_methods

  -- the top task is the one after the last declared task
  abbrev pub task_predicate : ℕ → ℕ
  task_predicate t = cond (t == length c.hddl.tasks) top_predicate (first_task + t)

  abbrev pub action_predicate : ℕ → ℕ
  action_predicate a = first_action + a

  abbrev pub check_predicate : ℕ → ℕ
  check_predicate m = first_check + length (filter (λ (plan : MethodPlan). plan.checked) (take m c.methods))

  abbrev pub guard_predicate : ℕ → ℕ
  guard_predicate ty = first_guard + unwrap_or (position (λ u. u == ty) guard_types) 0

  -- the first slot comes after the source objects
  abbrev pub first_slot : ℕ
  first_slot = length c.hddl.objects

  -- names: the words of the printed problem; b slots
  module _ (names : List (List ℕ)) (b : ℕ) where
    abbrev pub generated : List ℕ → Name
    generated word = name names word

    abbrev pub own : Name → Name
    own n = renamed names c.hddl.names n

    abbrev pub slot_param : List ℕ → Param
    slot_param word = record { name = generated word; ty = slot_type }

    abbrev pub encoded_types : Types
    encoded_types = record {
      names = generated (codes "object") ∷ generated (codes "htn_slot") ∷ generated (codes "htn_object") ∷ map (λ (n : Name). own n) (own_names c.hddl.types.names);
      parents = record { child = slot_type; parent = 0 } ∷ record { child = object_type; parent = 0 } ∷ map (λ (p : Parent). record { child = retyped p.child; parent = retyped p.parent }) c.hddl.types.parents;
      unions = map (map retyped) c.hddl.types.unions;
    }
      where
        -- the source's types other than `object`
        own_names : List Name → List Name
        own_names [] = []
        own_names (object ∷ others) = others

    -- the source objects, and then the slots; all are constants
    abbrev pub encoded_objects : List Object
    encoded_objects =
        map (λ (x : Object). record { name = own x.name; ty = retyped x.ty; constant = true }) c.hddl.objects
        ++ map (λ k. record { name = generated (slot_word k); ty = slot_type; constant = true }) (numbers 1 b)

    -- a slot, and an object for each parameter
    abbrev pub held_params : ℕ → List Param
    held_params n = slot_param (codes "htn_h") ∷ map (λ k. record { name = generated (codes "htn_a" ++ decimal k); ty = object_type }) (numbers 1 n)

    abbrev pub held : List ℕ → Name → List Param → Predicate
    held prefix n params = record { name = generated (prefix ++ source_word c.hddl.names n); params = held_params (length params) }

    -- `htn_is_` and the type's word, or `htn_in_` and the number of the union from 1
    abbrev pub guard_word : ℕ → List ℕ
    guard_word ty = cond (nat_lt ty (length c.hddl.types.names)) (codes "htn_is_" ++ type_word ty) (codes "htn_in_" ++ decimal (ty - length c.hddl.types.names + 1))
      where
        type_word : ℕ → List ℕ
        type_word t = source_word c.hddl.names (slice_index_or c.hddl.types.names t (record { number = 0 }))

    abbrev pub encoded_predicates : List Predicate
    encoded_predicates =
        map (λ (p : Predicate). record { name = own p.name; params = map (source_param names c.hddl.names) p.params }) c.hddl.predicates
        ++ record { name = generated (codes "htn_top"); params = slot_param (codes "htn_h") ∷ [] }
        ∷ record { name = generated (codes "htn_free"); params = slot_param (codes "htn_h") ∷ [] }
        ∷ record { name = generated (codes "htn_before"); params = slot_param (codes "htn_x") ∷ slot_param (codes "htn_h") ∷ [] }
        ∷ map (λ (s : TaskSchema). held (codes "htn_t_") s.name s.params) c.hddl.tasks
        ++ map (λ (s : ActionSchema). held (codes "htn_a_") s.name s.params) c.hddl.actions
        ++ map (λ (plan : MethodPlan). held (codes "htn_c_") plan.schema.name plan.schema.params) checked_methods
        ++ map (λ ty. record { name = generated (guard_word ty); params = record { name = generated (codes "htn_a1"); ty = object_type } ∷ [] }) guard_types

    abbrev pub order_numbers : OrderNumbers
    order_numbers = record { before = before_predicate; slot_type = slot_type; x = generated (codes "htn_x"); first_slot = first_slot }
