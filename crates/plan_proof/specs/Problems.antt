-- Two problems with one task t, one action a and one method m of t, with t on top, without parameters, conditions and effects.
-- Source: this project's.
use Rattle.std.specs.Prelude.{ℕ, List, [], ◌∷◌, None, codes}
use Rattle.plan_model.specs.declared.formulas.Formula.TheVariants.{And}
use Rattle.plan_model.specs.declared.effects.Effect.TheVariants as Effects
use Rattle.plan_model.specs.declared.networks.Head.{Head}
use Rattle.plan_model.specs.declared.networks.Head.TheVariants.{Task, Action}
use Rattle.plan_model.specs.declared.schemas.MethodSchema.{MethodSchema}
use Rattle.plan_model.specs.declared.values.Hddl.{Hddl}

-- the words of the names, by number
abbrev pub words : List (List ℕ)
words = codes "object" ∷ codes "d" ∷ codes "p" ∷ codes "htn_start" ∷ codes "t" ∷ codes "a" ∷ codes "m" ∷ []

-- the method with this name, of this task, with one subtask
abbrev pub method : ℕ → ℕ → Head → MethodSchema
method name task head = record {
  name = record { number = name };
  params = [];
  task = task;
  task_args = [];
  pre = And [];
  children = record { id = None; head = head; args = [] } ∷ [];
  pairs = [];
  constraints = [];
}

-- m has this subtask; the top task is number 1, behind t
abbrev pub with_subtask : Head → Hddl
with_subtask head = record {
  names = words;
  domain = record { number = 1 };
  problem = record { number = 2 };
  types = record { names = record { number = 0 } ∷ []; parents = []; unions = [] };
  objects = [];
  predicates = [];
  tasks = record { name = record { number = 4 }; params = [] } ∷ [];
  actions = record { name = record { number = 5 }; params = []; pre = And []; eff = Effects.And [] } ∷ [];
  methods = method 6 0 head ∷ [];
  top = method 3 1 (Task 0);
  init = [];
  goal = And [];
}

-- m: t -> a
abbrev pub smallest : Hddl
smallest = with_subtask (Action 0)

-- m: t -> t
abbrev pub calls_itself : Hddl
calls_itself = with_subtask (Task 0)
