-- What values have in common.
-- Source: this project's.
use Rattle.plan_model.specs.declared.values.Hddl.{Hddl}
use Rattle.plan_model.specs.declared.values.Pddl.{Pddl}

-- what a value says without its tasks and methods
abbrev pub without_tasks : Hddl → Pddl
without_tasks h = record {
  names = h.names;
  domain = h.domain;
  problem = h.problem;
  types = h.types;
  objects = h.objects;
  predicates = h.predicates;
  actions = h.actions;
  init = h.init;
  goal = h.goal;
}
