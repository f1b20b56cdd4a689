-- The tasks and actions of a domain, in one space of names.
-- Source: Höller et al., "HDDL", AAAI 2020: a subtask is a task or an action; that the two share their names is this project's.
use Rattle.std.specs.Prelude.{ℕ, suc, nat_lt, ◌==◌, Bool, false, cond, List, [], ◌∷◌, ◌++◌, map, flat_map, length, Option, Some, None}
use Rattle.plan_model.specs.declared.networks.Head.{Head}
use Rattle.plan_model.specs.declared.networks.Head.TheVariants.{Task, Action}
use Rattle.hddl_reader.specs.declared.sections.RawHead.{RawHead}
use Rattle.hddl_reader.specs.declared.sections.RawAction.{RawAction}
use Rattle.name_binding.specs.Spots.{spot}
use Rattle.name_binding.specs.declared.faults.Spot.{Spot}
use Rattle.hddl_bind.specs.declared.callables.Callable.{Callable}

abbrev pub number : Callable → ℕ
number x = x.name.number

-- what a declared head stands for
abbrev pub callable : Head → RawHead → Callable
callable head h = record { name = h.name.name; head = head; arity = length h.params; at = h.name.at }

-- these declarations, the first with this number
abbrev pub callables_from : (ℕ → Head) → ℕ → List RawHead → List Callable
callables_from head k [] = []
callables_from head k (h ∷ hs) = callable (head k) h ∷ callables_from head (suc k) hs

pub record Declared : Type 0 where
  pub tasks : List Callable
  pub actions : List Callable

abbrev pub heads : List RawAction → List RawHead
heads actions = map (λ (a : RawAction). a.head) actions

abbrev pub declared : List RawHead → List RawAction → Declared
declared tasks actions = record { tasks = callables_from Task 0 tasks; actions = callables_from Action 0 (heads actions) }

-- the first of these with the name
abbrev pub first_called : ℕ → List Callable → Option Callable
first_called n [] = None
first_called n (x ∷ xs) = cond (n == number x) (Some x) (first_called n xs)

-- the one that stands first in the text
abbrev pub sooner_called : Option Callable → Option Callable → Option Callable
sooner_called None other = other
sooner_called (Some x) None = Some x
sooner_called (Some x) (Some y) = cond (nat_lt y.at x.at) (Some y) (Some x)

-- a name stands for its first declaration in the text
abbrev pub stands_for : Declared → ℕ → Option Callable
stands_for d n = sooner_called (first_called n d.tasks) (first_called n d.actions)

abbrev pub is_behind : Option Callable → ℕ → Bool
is_behind None at = false
is_behind (Some x) at = nat_lt x.at at

-- 10: a declaration behind the one for which its name stands
abbrev pub second_in : Declared → Callable → List Spot
second_in d x = cond (is_behind (stands_for d (number x)) x.at) (spot x.at 10 ∷ []) []

abbrev pub second_callables : Declared → List Spot
second_callables d = flat_map (second_in d) d.tasks ++ flat_map (second_in d) d.actions
