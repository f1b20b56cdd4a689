-- Faults of a network as a whole: a cycle (20), too many subtasks (21).
-- Source: Höller et al., "HDDL", AAAI 2020, ordering of a task network; the limit is this project's.
use Rattle.std.specs.Prelude.{ℕ, suc, ◌≡◌, ◌<◌, ◌≤◌, ◌⊎◌, true, List, [], ◌∷◌, ◌++◌, flat_map, Option, Some, None, length, slice_get}
use Rattle.htn_base.specs.Limits.{most_subtasks}
use Rattle.plan_model.specs.task_networks.Order.{Precedes}
use Rattle.hddl_reader.specs.declared.networks.RawNet.{RawNet}
use Rattle.hddl_reader.specs.declared.networks.RawPair.{RawPair}
use Rattle.hddl_reader.specs.declared.networks.RawSub.{RawSub}
use Rattle.htn_base.specs.Lists.{One, IsFirst}
use Rattle.name_binding.specs.Spots.{spot, noted}
use Rattle.name_binding.specs.declared.faults.Spot.{Spot}
use Rattle.hddl_bind.specs.Ids.{second_ids}
use Rattle.hddl_bind.specs.Pairs.{first_of, second_of, pair_faults}

module _ (n : RawNet) where
  -- the two numbers are those of a pair
  abbrev pub IsPair : RawPair → ℕ → ℕ → Type 0
  IsPair x i j = (first_of n.subs x ≡ Some i) × (second_of n.subs x ≡ Some j)

  -- each subtask before the next, where the network is ordered
  abbrev pub IsChained : ℕ → ℕ → Type 0
  IsChained i j = (n.ordered ≡ true) × (j ≡ suc i) × (j < length n.subs)

  -- the chain and these written pairs; a pair with an unknown id is of no two subtasks
  abbrev pub IsOrdered : List RawPair → ℕ → ℕ → Type 0
  IsOrdered pairs i j = IsChained i j ⊎ One (λ x. IsPair x i j) pairs

  -- a pair closes a cycle with the chain and the earlier pairs
  abbrev pub ClosesOrder : List RawPair → RawPair → Type 0
  ClosesOrder earlier x = (i : ℕ) × (j : ℕ) × IsPair x i j × ((i ≡ j) ⊎ Precedes (IsOrdered earlier) j i)

  -- 20: the parenthesis of the first pair that closes one, in a network within the limit
  abbrev pub CyclicOrder : ℕ → Type 0
  CyclicOrder at = (length n.subs ≤ most_subtasks) × ((x : RawPair) × (x.at ≡ at) × IsFirst ClosesOrder n.pairs x)

  -- the place of a pair that closes a cycle as the first, or none where there is no cycle
  abbrev pub IsCycle : Option ℕ → Type 0
  IsCycle None = (at : ℕ) → CyclicOrder at → ⊥
  IsCycle (Some at) = CyclicOrder at

abbrev pub cycle_faults : Option ℕ → List Spot
cycle_faults None = []
cycle_faults (Some at) = spot at 20 ∷ []

abbrev pub limit_at : Option RawSub → List Spot
limit_at None = []
limit_at (Some s) = spot s.at 21 ∷ []

-- 21: the parenthesis of the first subtask past the limit
abbrev pub limit_faults : List RawSub → List Spot
limit_faults subs = limit_at (slice_get subs most_subtasks)

-- 10, 19 to 21, where `at` is the place of the cycle
abbrev pub order_faults : RawNet → Option ℕ → List Spot
order_faults n at = second_ids n.subs ++ (flat_map (pair_faults n.subs) n.pairs ++ (cycle_faults at ++ limit_faults n.subs))

abbrev pub IsOrderNoted : RawNet → Option Spot → Option Spot → Type 0
IsOrderNoted n old new = (at : Option ℕ) × IsCycle n at × (new ≡ noted old (order_faults n at))
