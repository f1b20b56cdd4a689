-- A prefix of an executable list is executable.
use Rattle.std.proofs.Common.{List, [], ◌∷◌, ◌++◌, Contains}
use Rattle.plan_model.specs.declared.steps.GroundAction.{GroundAction}
use Rattle.plan_model.specs.declared.values.Pddl.{Pddl}
use Rattle.plan_model.specs.plan_meaning.Truth.{State, after}
use Rattle.plan_model.specs.plan_meaning.ClassicalPlan.{InTypeOf, EndsIn}
use Rattle.plan_model.specs.plan_meaning.Laws.{PrefixIsExecutable}

leads_on : (p : Pddl) (S : State) (steps more : List GroundAction) → EndsIn p (λ T. Unit {0}) S (steps ++ more) → EndsIn p (λ T. Unit {0}) S steps
leads_on p S [] more l = tt
leads_on p S (step ∷ steps) more (a, objects, i, l) = (a, objects, i, leads_on p (after (InTypeOf p) S a.eff objects) steps more l)

pub prefix_is_executable : (p : Pddl) → PrefixIsExecutable p
prefix_is_executable p steps more l = leads_on p (Contains p.init) steps more l
