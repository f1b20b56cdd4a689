-- Pairs of subtasks by their places behind a check, and pairs that were seen.
use Rattle.std.specs.Prelude.{ℕ, suc, Bool, true, List, [], map, slice_set}
use Rattle.std.specs.List.{slice_index_or}
use Rattle.plan_model.specs.task_networks.Spelling.{numbers}
use Rattle.plan_model.specs.declared.networks.Pair.{Pair}
use Rattle.plan_model.specs.Pairs.{pair}

abbrev pub shifted : Pair → Pair
shifted p = pair (suc p.first) (suc p.then)

-- the check before each of so many subtasks
abbrev pub pairs_of_check : ℕ → List Pair
pairs_of_check count = map (λ k. pair 0 (suc k)) (numbers 0 count)

-- the first child of the pair is in the set of the second one too
abbrev pub with_pair : List (List Bool) → Pair → List (List Bool)
with_pair seen p = slice_set seen p.then (slice_set (slice_index_or seen p.then []) p.first true)
