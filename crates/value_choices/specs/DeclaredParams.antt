-- The parameters that are declared for a task, an action or the check of a method.
-- Source: this project's.
use Rattle.std.specs.Prelude.{ℕ, MatchOption, List, Option}
use Rattle.plan_model.specs.declared.networks.Head.{Head}
use Rattle.plan_model.specs.declared.networks.Head.TheVariants.{Task, Action, Check}
use Rattle.plan_model.specs.declared.terms.Param.{Param}
use Rattle.plan_model.specs.declared.values.Compiled.{Compiled}
use Rattle.plan_model.specs.plan_meaning.Network.{Work, action, check, task, AreParamsOf}

-- what is of this kind, with these objects; of checks that of the first method
abbrev pub work_of : Head → List ℕ → Work
work_of (Task t) objects = task t objects
work_of (Action a) objects = action a objects
work_of Check objects = check 0 objects

-- the declared parameters of what is of this kind, where it is there
abbrev pub HasParams : Compiled → Head → List ℕ → Option (List Param) → Type 0
HasParams c head objects found = MatchOption found
    ((params : List Param) → AreParamsOf c (work_of head objects) params → ⊥)
    (AreParamsOf c (work_of head objects))
