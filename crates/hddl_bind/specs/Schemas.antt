-- The predicates and the tasks that a domain declares, and the faults of their types.
-- Source: Höller et al., "HDDL", AAAI 2020, which declares tasks as PDDL does predicates.
use Rattle.std.specs.Prelude.{List, map, flat_map}
use Rattle.name_binding.specs.declared.faults.Spot.{Spot}
use Rattle.name_binding.specs.Kinds.{Kinds}
use Rattle.name_binding.specs.Typed.{params_bound, params_faults}
use Rattle.hddl_reader.specs.declared.sections.RawHead.{RawHead}
use Rattle.plan_model.specs.declared.schemas.Predicate.{Predicate}
use Rattle.plan_model.specs.declared.schemas.TaskSchema.{TaskSchema}

module _ (kinds : Kinds) where
  abbrev pub predicate_bound : RawHead → Predicate
  predicate_bound h = record { name = h.name.name; params = params_bound kinds h.params }

  abbrev pub predicates_bound : List RawHead → List Predicate
  predicates_bound hs = map predicate_bound hs

  abbrev pub task_bound : RawHead → TaskSchema
  task_bound h = record { name = h.name.name; params = params_bound kinds h.params }

  abbrev pub tasks_bound : List RawHead → List TaskSchema
  tasks_bound hs = map task_bound hs

  -- 11: at a parameter stands a name that no type has
  abbrev pub head_faults : RawHead → List Spot
  head_faults h = params_faults kinds h.params

  abbrev pub heads_faults : List RawHead → List Spot
  heads_faults hs = flat_map head_faults hs
