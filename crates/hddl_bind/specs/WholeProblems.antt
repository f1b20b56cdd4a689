-- What a whole problem is bound to over its domain, and all of its faults.
-- Source: this project's.
use Rattle.std.specs.Prelude.{ℕ, ◌≡◌, List, [], ◌++◌, length, Option, Some, None, codes}
use Rattle.htn_base.specs.Table.{number_of, with_word}
use Rattle.htn_base.specs.declared.name.Name.{Name}
use Rattle.name_binding.specs.Spots.{spot, noted}
use Rattle.name_binding.specs.declared.faults.Spot.{Spot}
use Rattle.gd_reader.specs.Terms.{Names}
use Rattle.hddl_reader.specs.declared.sections.RawProblem.{RawProblem}
use Rattle.plan_model.specs.declared.types.Object.{Object}
use Rattle.plan_model.specs.declared.values.Hddl.{Hddl}
use Rattle.name_binding.specs.Listed.{name_of}
use Rattle.name_binding.specs.Unions.{AreWith}
use Rattle.name_binding.specs.declared.known.Known.{Known}
use Rattle.hddl_bind.specs.Cycle.{IsCycle}
use Rattle.hddl_bind.specs.declared.bound_domain.BoundDomain.{BoundDomain}
use Rattle.hddl_bind.specs.declared.errors.BindError.{BindError}
use Rattle.hddl_bind.specs.declared.errors.BindError.TheVariants.{Bad, Memory}
use Rattle.hddl_bind.specs.declared.problem_parts.ProblemParts.{ProblemParts}
use Rattle.hddl_bind.specs.DeclaredNames.{objects_declared, second_objects}
use Rattle.hddl_bind.specs.ProblemParts.{parts_bound, parts_faults}
use Rattle.hddl_bind.specs.WholeUnions.{problem_unions}

-- the words of both texts, and that of the top method
abbrev pub with_start : Names → Names
with_start names = with_word names (codes "htn_start")

-- what a problem looks up: its domain's names, and its own objects behind the constants
abbrev pub known_with : Known → List (List ℕ) → RawProblem → Known
known_with known unions p = record {
  objects = known.objects ++ objects_declared p.objects;
  predicates = known.predicates;
  types = record { types = known.types.types; unions = unions };
}

-- a domain with these unions, with these objects behind its constants, and with these names to look up
abbrev pub extended : BoundDomain → List (List ℕ) → List Object → Known → BoundDomain
extended d unions own known = record {
  domain = d.domain;
  types = record { names = d.types.names; parents = d.types.parents; unions = unions };
  objects = d.objects ++ own;
  predicates = d.predicates;
  tasks = d.tasks;
  actions = d.actions;
  methods = d.methods;
  names = record { known = known; callables = d.names.callables };
}

-- the value of a domain that has the problem's objects, and of the other parts of the problem
abbrev pub together : Names → BoundDomain → Name → ProblemParts → Hddl
together names d problem parts = record {
  names = names;
  domain = d.domain;
  problem = problem;
  types = d.types;
  objects = d.objects;
  predicates = d.predicates;
  tasks = d.tasks;
  actions = d.actions;
  methods = d.methods;
  top = parts.top;
  init = parts.init;
  goal = parts.goal;
}

module _ (d : BoundDomain) (unions : List (List ℕ)) (p : RawProblem) where
  abbrev pub known_by : Known
  known_by = known_with d.names.known unions p

  -- where the name of the top method has this number; its task is one behind all others
  abbrev pub parts_by : ℕ → ProblemParts
  parts_by start = parts_bound known_by d.names.callables (name_of start) (length d.tasks) p

  abbrev pub hddl_bound : Names → ℕ → Hddl
  hddl_bound names start = together (with_start names) (extended d unions (parts_by start).objects known_by) p.name (parts_by start)

  -- 10, 11, 13 to 17 and 19 to 21, where `cycle` is the place of the cycle of the network
  abbrev pub problem_faults : Option ℕ → List Spot
  problem_faults cycle = second_objects d.names.known.objects p.objects ++ parts_faults known_by d.names.callables p cycle

abbrev pub IsStart : Names → ℕ → Type 0
IsStart names start = number_of names (codes "htn_start") ≡ Some start

-- By what a problem is bound: the unions of both texts, and the cycle of the network.
pub record ProblemBinding (d : BoundDomain) (p : RawProblem) : Type 0 where
  pub unions : List (List ℕ)
  pub are_unions : AreWith (problem_unions d.names.known.types p) d.names.known.types.unions unions
  pub cycle : Option ℕ
  pub is_cycle : IsCycle p.net cycle

module _ (d : BoundDomain) (p : RawProblem) where
  abbrev pub faults_by : ProblemBinding d p → List Spot
  faults_by x = problem_faults d x.unions p x.cycle

  -- the problem is bound, its faults are noted, and its domain is extended
  abbrev pub IsProblemNoted : ℕ → Option Spot → Option Spot → BoundDomain → ProblemParts → Type 0
  IsProblemNoted start old new more parts = (x : ProblemBinding d p)
      × (new ≡ noted old (faults_by x))
      × (parts ≡ parts_by d x.unions p start)
      × (more ≡ extended d x.unions parts.objects (known_by d x.unions p))

  abbrev pub IsNotedWithStart : Names → Option Spot → Option Spot → BoundDomain → ProblemParts → Type 0
  IsNotedWithStart names old new more parts = (start : ℕ) × IsStart names start × IsProblemNoted start old new more parts

  -- the problem has no fault, and this is the value of both texts, where these are the words of both
  abbrev pub IsProblemBound : Names → Hddl → Type 0
  IsProblemBound names h = (start : ℕ) × IsStart (with_start names) start
      × ((x : ProblemBinding d p) × (faults_by x ≡ []) × (h ≡ hddl_bound d x.unions p names start))

  -- this is the least of its faults, by offset and then by code, in the second file; or memory ran out
  abbrev pub IsProblemRefused : BindError → Type 0
  IsProblemRefused (Bad f) = (f.file ≡ 1) × ((x : ProblemBinding d p) × (noted None (faults_by x) ≡ Some (spot f.at f.code)))
  IsProblemRefused Memory = Unit {0}
