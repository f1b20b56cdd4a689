-- All that a domain declares but its types, and the faults in it.
use Rattle.std.specs.Prelude.{ℕ, ◌≡◌, true, List, ◌++◌, Option}
use Rattle.plan_texts.specs.Together.{Together}
use Rattle.name_binding.specs.declared.faults.Spot.{Spot}
use Rattle.name_binding.specs.Spots.{noted}
use Rattle.name_binding.specs.Kinds.{Kinds}
use Rattle.name_binding.specs.Typed.{objects_bound, params_faults}
use Rattle.name_binding.specs.declared.known.Known.{Known}
use Rattle.hddl_bind.specs.Callables.{Declared}
use Rattle.plan_model.specs.declared.schemas.ActionSchema.{ActionSchema}
use Rattle.plan_model.specs.declared.schemas.MethodSchema.{MethodSchema}
use Rattle.hddl_reader.specs.declared.sections.RawDomain.{RawDomain}
use Rattle.hddl_bind.specs.declared.domain_schemas.DomainSchemas.{DomainSchemas}
use Rattle.hddl_bind.specs.declared.domain_schemas.Typed.{Typed}
use Rattle.hddl_bind.specs.Schemas.{predicates_bound, tasks_bound, heads_faults}
use Rattle.hddl_bind.specs.Actions.{actions_bound, actions_faults}
use Rattle.hddl_bind.specs.Methods.{IsCycleOf, methods_bound, methods_faults}

-- 11: the types of constants, predicates and tasks
abbrev pub typed_faults : Kinds → RawDomain → List Spot
typed_faults kinds d = params_faults kinds d.constants ++ (heads_faults kinds d.predicates ++ heads_faults kinds d.tasks)

abbrev pub typed_bound : Kinds → RawDomain → Typed
typed_bound kinds d = record { objects = objects_bound kinds true d.constants; predicates = predicates_bound kinds d.predicates; tasks = tasks_bound kinds d.tasks }

abbrev pub together : Typed → List ActionSchema → List MethodSchema → DomainSchemas
together typed actions methods = record { objects = typed.objects; predicates = typed.predicates; tasks = typed.tasks; actions = actions; methods = methods }

module _ (known : Known) (callables : Declared) where
  abbrev pub schemas_bound : RawDomain → DomainSchemas
  schemas_bound d = together (typed_bound known.types d) (actions_bound known d.actions) (methods_bound known callables d.methods)

  -- where `ats` has the place of the cycle of each method
  abbrev pub schemas_faults : RawDomain → List (Option ℕ) → List Spot
  schemas_faults d ats = typed_faults known.types d ++ (actions_faults known d.actions ++ methods_faults known callables d.methods ats)

  abbrev pub AreSchemasNoted : RawDomain → Option Spot → Option Spot → Type 0
  AreSchemasNoted d old new = (ats : List (Option ℕ)) × Together IsCycleOf d.methods ats × (new ≡ noted old (schemas_faults d ats))
