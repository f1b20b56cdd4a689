-- The actions that a domain declares, and their faults.
-- Source: PDDL 2.1 (Fox and Long, JAIR 20, 2003, level 1): an action's parameters are in force in its condition and its effect.
use Rattle.std.specs.Prelude.{ℕ, List, ◌++◌, map, flat_map}
use Rattle.name_binding.specs.declared.faults.Spot.{Spot}
use Rattle.name_binding.specs.Entered.{variables_of}
use Rattle.name_binding.specs.Typed.{params_bound, params_faults}
use Rattle.name_binding.specs.declared.known.Known.{Known}
use Rattle.name_binding.specs.Formulas.{formula_bound, formula_faults}
use Rattle.name_binding.specs.Effects.{effect_bound, effect_faults}
use Rattle.hddl_reader.specs.declared.sections.RawHead.{RawHead}
use Rattle.hddl_reader.specs.declared.sections.RawAction.{RawAction}
use Rattle.plan_model.specs.declared.schemas.ActionSchema.{ActionSchema}

-- the variables in force in what a head declares: its parameters
abbrev pub scope_of : RawHead → List ℕ
scope_of h = variables_of h.params

module _ (known : Known) where
  abbrev pub action_bound : RawAction → ActionSchema
  action_bound a = record { name = a.head.name.name; params = params_bound known.types a.head.params; pre = formula_bound known (scope_of a.head) a.pre; eff = effect_bound known (scope_of a.head) a.eff }

  abbrev pub actions_bound : List RawAction → List ActionSchema
  actions_bound actions = map action_bound actions

  abbrev pub action_faults : RawAction → List Spot
  action_faults a = params_faults known.types a.head.params ++ (formula_faults known (scope_of a.head) a.pre ++ effect_faults known (scope_of a.head) a.eff)

  abbrev pub actions_faults : List RawAction → List Spot
  actions_faults actions = flat_map action_faults actions
