-- What a problem says beyond its domain, and the faults in it.
-- Source: Höller et al., "HDDL", AAAI 2020: the initial network has parameters, subtasks, an ordering and constraints, as a method.
use Rattle.std.specs.Prelude.{ℕ, ◌≡◌, false, List, [], ◌++◌, Option}
use Rattle.htn_base.specs.declared.name.Name.{Name}
use Rattle.name_binding.specs.declared.faults.Spot.{Spot}
use Rattle.name_binding.specs.Entered.{variables_of}
use Rattle.name_binding.specs.Spots.{noted}
use Rattle.name_binding.specs.Typed.{objects_bound, params_bound, params_faults}
use Rattle.name_binding.specs.declared.known.Known.{Known}
use Rattle.name_binding.specs.Formulas.{formula_bound, formula_faults}
use Rattle.hddl_bind.specs.Callables.{Declared}
use Rattle.hddl_bind.specs.Cycle.{IsCycle}
use Rattle.hddl_bind.specs.Networks.{network_bound, network_faults}
use Rattle.hddl_reader.specs.declared.sections.RawProblem.{RawProblem}
use Rattle.plan_model.specs.declared.formulas.Formula.TheVariants.{And}
use Rattle.plan_model.specs.declared.schemas.MethodSchema.{MethodSchema}
use Rattle.hddl_bind.specs.declared.problem_parts.ProblemParts.{ProblemParts}
use Rattle.hddl_bind.specs.Methods.{joined}
use Rattle.hddl_bind.specs.Facts.{facts_bound, facts_faults}

-- the variables in force in the initial network
abbrev pub top_scope : RawProblem → List ℕ
top_scope p = variables_of p.params

module _ (known : Known) (callables : Declared) where
  -- the initial network as a method of the task of this number, without arguments or precondition
  abbrev pub top_bound : Name → ℕ → RawProblem → MethodSchema
  top_bound name task p = joined name (record { params = params_bound known.types p.params; task = task; task_args = []; pre = And [] }) (network_bound callables known.objects (top_scope p) p.net)

  -- where `at` is the place of the cycle
  abbrev pub top_faults : RawProblem → Option ℕ → List Spot
  top_faults p at = params_faults known.types p.params ++ network_faults callables known.objects (top_scope p) p.net at

  abbrev pub IsTopNoted : RawProblem → Option Spot → Option Spot → Type 0
  IsTopNoted p old new = (at : Option ℕ) × IsCycle p.net at × (new ≡ noted old (top_faults p at))

  abbrev pub parts_bound : Name → ℕ → RawProblem → ProblemParts
  parts_bound name task p = record {
    objects = objects_bound known.types false p.objects;
    init = facts_bound known p.init;
    goal = formula_bound known [] p.goal;
    top = top_bound name task p;
  }

  abbrev pub parts_faults : RawProblem → Option ℕ → List Spot
  parts_faults p at = params_faults known.types p.objects ++ (facts_faults known p.init ++ (formula_faults known [] p.goal ++ top_faults p at))

  abbrev pub ArePartsNoted : RawProblem → Option Spot → Option Spot → Type 0
  ArePartsNoted p old new = (at : Option ℕ) × IsCycle p.net at × (new ≡ noted old (parts_faults p at))
