-- Parts of small problems, written out by hand.
use Rattle.std.proofs.Common.{ℕ, Bool, false, List, [], ◌∷◌, Option, None}
use Rattle.plan_model.specs.declared.formulas.Formula.{Formula}
use Rattle.plan_model.specs.declared.formulas.Formula.TheVariants.{And}
use Rattle.plan_model.specs.declared.effects.Effect.{Effect}
use Rattle.plan_model.specs.declared.effects.Effect.TheVariants as E
use Rattle.plan_model.specs.declared.networks.Head.{Head}
use Rattle.plan_model.specs.declared.networks.Child.{Child}
use Rattle.plan_model.specs.declared.networks.Pair.{Pair}
use Rattle.plan_model.specs.declared.schemas.Predicate.{Predicate}
use Rattle.plan_model.specs.declared.schemas.TaskSchema.{TaskSchema}
use Rattle.plan_model.specs.declared.schemas.ActionSchema.{ActionSchema}
use Rattle.plan_model.specs.declared.schemas.MethodSchema.{MethodSchema}
use Rattle.plan_model.specs.declared.schemas.MethodPlan.{MethodPlan}
use Rattle.plan_model.specs.declared.values.Hddl.{Hddl}
use Rattle.plan_model.specs.plan_meaning.Network.{GroundMethod}

abbrev pub always : Formula
always = And []

abbrev pub nothing : Effect
nothing = E.And []

abbrev pub child : Head → Child
child head = record { id = None; head = head; args = [] }

-- tasks, actions and methods without parameters, by the number of their name
abbrev pub task_schema : ℕ → TaskSchema
task_schema n = record { name = record { number = n }; params = [] }

abbrev pub action_schema : ℕ → Formula → Effect → ActionSchema
action_schema n pre eff = record { name = record { number = n }; params = []; pre = pre; eff = eff }

abbrev pub method_schema : ℕ → ℕ → Formula → List Child → List Pair → MethodSchema
method_schema n task pre children pairs = record { name = record { number = n }; params = []; task = task; task_args = []; pre = pre; children = children; pairs = pairs; constraints = [] }

abbrev pub method_plan : MethodSchema → Bool → List ℕ → Option ℕ → List ℕ → MethodPlan
method_plan schema checked line heir copiers = record { schema = schema; checked = checked; tested = false; line = line; heir = heir; copiers = copiers; guards = [] }

abbrev pub problem : List (List ℕ) → List Predicate → List TaskSchema → List ActionSchema → List MethodSchema → MethodSchema → Hddl
problem names predicates tasks actions methods top = record {
  names = names;
  domain = record { number = 1 };
  problem = record { number = 2 };
  types = record { names = record { number = 0 } ∷ []; parents = []; unions = [] };
  objects = [];
  predicates = predicates;
  tasks = tasks;
  actions = actions;
  methods = methods;
  top = top;
  init = [];
  goal = always;
}

-- a method without parameters, where it is used
abbrev pub uses : ℕ → GroundMethod
uses n = record { number = n; values = [] }
