-- The unions that a domain and a problem write, in the order of the raw values.
-- Source: PDDL 2.1 (Fox and Long, JAIR 20, 2003, level 1) for `either`; an object has one type.
use Rattle.std.specs.Prelude.{List, ◌++◌, flat_map}
use Rattle.name_binding.specs.Kinds.{Kinds}
use Rattle.name_binding.specs.Unions.{params_unions, formula_unions, effect_unions}
use Rattle.name_binding.specs.declared.unions.Either.{Either}
use Rattle.hddl_reader.specs.declared.sections.RawAction.{RawAction}
use Rattle.hddl_reader.specs.declared.sections.RawDomain.{RawDomain}
use Rattle.hddl_reader.specs.declared.sections.RawHead.{RawHead}
use Rattle.hddl_reader.specs.declared.sections.RawMethod.{RawMethod}
use Rattle.hddl_reader.specs.declared.sections.RawProblem.{RawProblem}

module _ (kinds : Kinds) where
  abbrev pub head_unions : RawHead → List Either
  head_unions h = params_unions kinds h.params

  abbrev pub heads_unions : List RawHead → List Either
  heads_unions hs = flat_map head_unions hs

  abbrev pub action_unions : RawAction → List Either
  action_unions a = params_unions kinds a.head.params ++ (formula_unions kinds a.pre ++ effect_unions kinds a.eff)

  abbrev pub actions_unions : List RawAction → List Either
  actions_unions actions = flat_map action_unions actions

  abbrev pub method_unions : RawMethod → List Either
  method_unions m = params_unions kinds m.head.params ++ formula_unions kinds m.pre

  abbrev pub methods_unions : List RawMethod → List Either
  methods_unions methods = flat_map method_unions methods

  abbrev pub domain_unions : RawDomain → List Either
  domain_unions d = heads_unions d.predicates ++ (heads_unions d.tasks ++ (actions_unions d.actions ++ methods_unions d.methods))

  -- the variables of its network, and those of its goal
  abbrev pub problem_unions : RawProblem → List Either
  problem_unions p = params_unions kinds p.params ++ formula_unions kinds p.goal
