-- Works by their kinds and objects, and the children of methods.
-- Source: this project's.
use Rattle.std.specs.Prelude.{ℕ, List, Option, slice_get}
use Rattle.std.specs.Option.{option_and_then}
use Rattle.plan_model.specs.declared.networks.Child.{Child}
use Rattle.plan_model.specs.declared.schemas.MethodPlan.{MethodPlan}
use Rattle.plan_model.specs.declared.values.Compiled.{Compiled}
use Rattle.plan_model.specs.plan_meaning.Network.{Work, action, check, task}
use Rattle.kept_front.specs.declared.works.WorkKind.{WorkKind}
use Rattle.kept_front.specs.declared.works.WorkKind.TheVariants.{Task, Action, Check}

-- what is of this kind, with these objects
abbrev pub work_of : WorkKind → List ℕ → Work
work_of (Task t) objects = task t objects
work_of (Action a) objects = action a objects
work_of (Check m) objects = check m objects

-- child i of method m
abbrev pub child_at : Compiled → ℕ → ℕ → Option Child
child_at c m i = option_and_then (λ (plan : MethodPlan). slice_get plan.schema.children i) (slice_get c.methods m)
