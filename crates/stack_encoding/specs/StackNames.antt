-- The cells and the predicates of the printed problem of a stack.
-- Types, guards and source parts are those of the encoding with slots.
-- Source: this project's encoding.
use Rattle.std.specs.Prelude.{ℕ, suc, ◌+◌, true, List, [], ◌∷◌, ◌++◌, map, codes}
use Rattle.htn_base.specs.Escapes.{slot_word}
use Rattle.plan_model.specs.declared.types.Object.{Object}
use Rattle.plan_model.specs.declared.schemas.Predicate.{Predicate}
use Rattle.plan_model.specs.declared.schemas.TaskSchema.{TaskSchema}
use Rattle.plan_model.specs.declared.schemas.ActionSchema.{ActionSchema}
use Rattle.plan_model.specs.declared.schemas.MethodPlan.{MethodPlan}
use Rattle.plan_model.specs.declared.values.Compiled.{Compiled}
use Rattle.plan_model.specs.task_networks.Spelling.{numbers}
use Rattle.slot_encoding.specs.SourceParts.{retyped, source_param}
use Rattle.slot_encoding.specs.EncodedNames.{slot_type, object_type, free_predicate, before_predicate, first_slot, checked_methods, guard_types, generated, own, slot_param, held, guard_word}

module _ (c : Compiled) where
  -- which cell is the tip; it has the number that the predicate of free slots has there
  abbrev pub tip_predicate : ℕ
  tip_predicate = free_predicate c

  -- which cell is the one above which; it has the number of the order pairs' predicate
  abbrev pub up_predicate : ℕ
  up_predicate = before_predicate c

  -- cell k, from 0 on, as an object; the cells come after the source objects
  abbrev pub cell_object : ℕ → ℕ
  cell_object k = first_slot c + k

  module _ (names : List (List ℕ)) (b : ℕ) where
    -- the source objects, and then the cells 0 to b; all are constants
    abbrev pub stack_objects : List Object
    stack_objects =
        map (λ (x : Object). record { name = own c names b x.name; ty = retyped x.ty; constant = true }) c.hddl.objects
        ++ map (λ k. record { name = generated c names b (slot_word k); ty = slot_type; constant = true }) (numbers 0 (suc b))

    abbrev pub stack_predicates : List Predicate
    stack_predicates =
        map (λ (p : Predicate). record { name = own c names b p.name; params = map (source_param names c.hddl.names) p.params }) c.hddl.predicates
        ++ record { name = generated c names b (codes "htn_top"); params = slot_param c names b (codes "htn_h") ∷ [] }
        ∷ record { name = generated c names b (codes "htn_tip"); params = slot_param c names b (codes "htn_h") ∷ [] }
        ∷ record { name = generated c names b (codes "htn_up"); params = slot_param c names b (codes "htn_x") ∷ slot_param c names b (codes "htn_h") ∷ [] }
        ∷ map (λ (s : TaskSchema). held c names b (codes "htn_t_") s.name s.params) c.hddl.tasks
        ++ map (λ (s : ActionSchema). held c names b (codes "htn_a_") s.name s.params) c.hddl.actions
        ++ map (λ (plan : MethodPlan). held c names b (codes "htn_c_") plan.schema.name plan.schema.params) (checked_methods c)
        ++ map (λ ty. record { name = generated c names b (guard_word c names b ty); params = record { name = generated c names b (codes "htn_a1"); ty = object_type } ∷ [] }) (guard_types c)
