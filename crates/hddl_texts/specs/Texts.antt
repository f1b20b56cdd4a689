-- The texts of the parts of a printed problem p. One part stands behind a space, and of several each does, where no other place is named.
-- Source: the full syntax definition of HDDL, Höller et al., "HDDL: An Extension to PDDL for Expressing Hierarchical Planning Problems", AAAI 2020; the layout is this project's.
use Rattle.std.specs.Prelude.{ℕ, Bool, true, false, not, List, filter, map, codes}
use Rattle.text_forms.specs.Lists.{name, part}
use Rattle.text_forms.specs.Printing.{bytes_behind}
use Rattle.plan_texts.specs.Printed.{all_parts}
use Rattle.plan_model.specs.declared.types.Object.{Object}
use Rattle.plan_model.specs.declared.networks.Child.{Child}
use Rattle.plan_model.specs.declared.networks.Pair.{Pair}
use Rattle.plan_model.specs.declared.networks.Constraint.{Constraint}
use Rattle.plan_model.specs.declared.schemas.TaskSchema.{TaskSchema}
use Rattle.plan_model.specs.declared.schemas.MethodSchema.{MethodSchema}
use Rattle.plan_model.specs.declared.scope.Scope.{Scope}
use Rattle.plan_model.specs.declared.values.Hddl.{Hddl}
use Rattle.plan_model.specs.declared.values.Pddl.{Pddl}
use Rattle.pddl_printer.specs.Behind.{behind, line, of_each}
use Rattle.pddl_printer.specs.Scopes.{words_in_force}
use Rattle.pddl_printer.specs.Texts.{object_text}
use Rattle.hddl_texts.specs.PrintedHddl.{subtasks_parts, order_part, constraint_part, variables_part, network_parts, task_part, method_part}
use Rattle.hddl_texts.specs.declared.problem.PrintedProblem.{PrintedProblem}

-- the problem that is printed
abbrev pub hddl_of : PrintedProblem → Hddl
hddl_of p = record {
  names = p.pddl.names;
  domain = p.pddl.domain;
  problem = p.pddl.problem;
  types = p.pddl.types;
  objects = p.pddl.objects;
  predicates = p.pddl.predicates;
  tasks = p.tasks;
  actions = p.pddl.actions;
  methods = p.methods;
  top = p.top;
  init = p.pddl.init;
  goal = p.pddl.goal;
}

-- the constants, or the other objects
abbrev pub is_listed : Bool → Object → Bool
is_listed true x = x.constant
is_listed false x = not x.constant

abbrev pub objects_text : Pddl → Bool → List Object → List ℕ
objects_text p constants xs = of_each (object_text p) (filter (is_listed constants) xs)

abbrev pub orderings_text : List Pair → List ℕ
orderings_text xs = bytes_behind (all_parts (map order_part xs))

module _ (p : PrintedProblem) where
  -- on a line of its own
  abbrev pub task_text : TaskSchema → List ℕ
  task_text t = line (task_part (hddl_of p) t)

  -- on a line of its own
  abbrev pub method_text : MethodSchema → List ℕ
  method_text s = line (method_part (hddl_of p) s)

  -- the subtasks, the orderings and the constraints
  abbrev pub network_text : MethodSchema → List ℕ
  network_text s = bytes_behind (network_parts (hddl_of p) s)

  -- the parameters, and behind them the network
  abbrev pub top_text : MethodSchema → List ℕ
  top_text s = bytes_behind (part (name (codes ":parameters")) (part (variables_part (hddl_of p) s.params) (network_parts (hddl_of p) s)))

  -- scope: the variables in force
  module _ (scope : Scope) where
    abbrev pub subtasks_text : List Child → List ℕ
    subtasks_text cs = bytes_behind (subtasks_parts (hddl_of p) (words_in_force p.pddl scope) 0 cs)

    abbrev pub constraint_text : Constraint → List ℕ
    constraint_text x = behind (constraint_part (hddl_of p) (words_in_force p.pddl scope) x)

    abbrev pub constraints_text : List Constraint → List ℕ
    constraints_text xs = bytes_behind (all_parts (map (constraint_part (hddl_of p) (words_in_force p.pddl scope)) xs))
