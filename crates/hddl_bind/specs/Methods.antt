-- The methods that a domain declares, and their faults.
-- Source: Höller et al., "HDDL", AAAI 2020: a method's parameters are in force in its task, its condition and its network.
use Rattle.std.specs.Prelude.{ℕ, ◌≡◌, List, [], ◌∷◌, ◌++◌, map, Option}
use Rattle.htn_base.specs.declared.name.Name.{Name}
use Rattle.plan_texts.specs.Together.{Together}
use Rattle.name_binding.specs.declared.faults.Spot.{Spot}
use Rattle.name_binding.specs.Spots.{noted}
use Rattle.name_binding.specs.Terms.{terms_bound, terms_faults}
use Rattle.name_binding.specs.Typed.{params_bound, params_faults}
use Rattle.name_binding.specs.declared.known.Known.{Known}
use Rattle.name_binding.specs.Formulas.{formula_bound, formula_faults}
use Rattle.hddl_bind.specs.declared.networks.BoundNet.{BoundNet}
use Rattle.hddl_bind.specs.Callables.{Declared}
use Rattle.hddl_bind.specs.Calls.{method_task, head_called, task_number, call_faults}
use Rattle.hddl_bind.specs.Cycle.{IsCycle}
use Rattle.hddl_bind.specs.Networks.{network_bound, network_faults}
use Rattle.gd_reader.specs.declared.term.RawAtom.{RawAtom}
use Rattle.hddl_reader.specs.declared.sections.RawMethod.{RawMethod}
use Rattle.plan_model.specs.declared.schemas.MethodSchema.{MethodSchema}
use Rattle.hddl_bind.specs.declared.methods.Front.{Front}
use Rattle.hddl_bind.specs.Actions.{scope_of}

-- where the pairs of a method close a cycle
abbrev pub IsCycleOf : RawMethod → Option ℕ → Type 0
IsCycleOf m at = IsCycle m.net at

abbrev pub joined : Name → Front → BoundNet → MethodSchema
joined name front net = record {
  name = name;
  params = front.params;
  task = front.task;
  task_args = front.task_args;
  pre = front.pre;
  children = net.children;
  pairs = net.pairs;
  constraints = net.constraints;
}

module _ (known : Known) (callables : Declared) where
  -- the number of the task that a method decomposes
  abbrev pub task_decomposed : RawAtom → ℕ
  task_decomposed a = task_number (head_called (method_task callables a))

  -- what stands in front of the network
  abbrev pub front_bound : RawMethod → Front
  front_bound m = record {
    params = params_bound known.types m.head.params;
    task = task_decomposed m.task;
    task_args = terms_bound known.objects (scope_of m.head) m.task.args;
    pre = formula_bound known (scope_of m.head) m.pre;
  }

  abbrev pub method_bound : RawMethod → MethodSchema
  method_bound m = joined m.head.name.name (front_bound m) (network_bound callables known.objects (scope_of m.head) m.net)

  abbrev pub methods_bound : List RawMethod → List MethodSchema
  methods_bound methods = map method_bound methods

  -- the faults in front of a method's network
  abbrev pub front_faults : RawMethod → List Spot
  front_faults m = params_faults known.types m.head.params ++ (call_faults (method_task callables m.task) m.task ++ (terms_faults known.objects (scope_of m.head) m.task.args ++ formula_faults known (scope_of m.head) m.pre))

  -- where `at` is the place of the cycle
  abbrev pub method_faults : RawMethod → Option ℕ → List Spot
  method_faults m at = front_faults m ++ network_faults callables known.objects (scope_of m.head) m.net at

  abbrev pub methods_faults : List RawMethod → List (Option ℕ) → List Spot
  methods_faults [] ats = []
  methods_faults (m ∷ ms) [] = []
  methods_faults (m ∷ ms) (at ∷ ats) = method_faults m at ++ methods_faults ms ats

  abbrev pub IsMethodNoted : RawMethod → Option Spot → Option Spot → Type 0
  IsMethodNoted m old new = (at : Option ℕ) × IsCycleOf m at × (new ≡ noted old (method_faults m at))

  -- each method has its own place of the cycle
  abbrev pub AreMethodsNoted : List RawMethod → Option Spot → Option Spot → Type 0
  AreMethodsNoted ms old new = (ats : List (Option ℕ)) × Together IsCycleOf ms ats × (new ≡ noted old (methods_faults ms ats))
