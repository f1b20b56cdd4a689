-- What is called by a subtask, and what the task of a method is.
-- Source: Höller et al., "HDDL", AAAI 2020: a method decomposes a task, never an action.
use Rattle.std.specs.Prelude.{ℕ, ◌==◌, cond, List, [], ◌∷◌, length, Option, Some, None}
use Rattle.plan_model.specs.declared.networks.Head.{Head}
use Rattle.plan_model.specs.declared.networks.Head.TheVariants.{Task, Action, Check}
use Rattle.gd_reader.specs.declared.term.RawAtom.{RawAtom}
use Rattle.name_binding.specs.Spots.{spot}
use Rattle.name_binding.specs.declared.faults.Spot.{Spot}
use Rattle.hddl_bind.specs.declared.callables.Callable.{Callable}
use Rattle.hddl_bind.specs.Callables.{Declared, stands_for}

-- a name that none has is a fault; what then stands for it is nothing that is used
abbrev pub head_called : Option Callable → Head
head_called None = Task 0
head_called (Some x) = x.head

-- 14: none has the name; 17: it has more or fewer parameters than terms stand here
abbrev pub call_faults : Option Callable → RawAtom → List Spot
call_faults None a = spot a.head.at 14 ∷ []
call_faults (Some x) a = cond (x.arity == length a.args) [] (spot a.head.at 17 ∷ [])

abbrev pub only_task : Head → Callable → Option Callable
only_task (Task k) x = Some x
only_task (Action k) x = None
only_task Check x = None

-- a method's task is no action
abbrev pub if_task : Option Callable → Option Callable
if_task None = None
if_task (Some x) = only_task x.head x

abbrev pub task_number : Head → ℕ
task_number (Task k) = k
task_number (Action k) = 0
task_number Check = 0

module _ (d : Declared) where
  abbrev pub called : RawAtom → Option Callable
  called a = stands_for d a.head.name.number

  abbrev pub method_task : RawAtom → Option Callable
  method_task a = if_task (called a)
