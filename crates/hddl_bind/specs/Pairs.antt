-- The pairs of a network, by the numbers of its subtasks.
-- Source: Höller et al., "HDDL", AAAI 2020, ordering of a task network.
use Rattle.std.specs.Prelude.{ℕ, List, [], ◌∷◌, ◌++◌, flat_map, length, Option, Some, None}
use Rattle.plan_model.specs.declared.networks.Pair.{Pair}
use Rattle.plan_model.specs.Pairs.{pair}
use Rattle.plan_texts.specs.Networks.{chain_if}
use Rattle.hddl_reader.specs.declared.networks.RawNet.{RawNet}
use Rattle.hddl_reader.specs.declared.networks.RawPair.{RawPair}
use Rattle.hddl_reader.specs.declared.networks.RawSub.{RawSub}
use Rattle.name_binding.specs.Terms.{unless_found}
use Rattle.name_binding.specs.declared.faults.Spot.{Spot}
use Rattle.hddl_bind.specs.Ids.{subtask_of}

-- a pair with an unknown id is of no two subtasks
abbrev pub if_both : Option ℕ → Option ℕ → Option Pair
if_both None then = None
if_both (Some i) None = None
if_both (Some i) (Some j) = Some (pair i j)

abbrev pub if_pair : {X : Type 0} → (Pair → X) → Option Pair → List X
if_pair f None = []
if_pair f (Some p) = f p ∷ []

-- 19: an id that no subtask has
abbrev pub unknown_ids : (ℕ → Option ℕ) → RawPair → List Spot
unknown_ids subtask x = unless_found 19 x.first.at (subtask x.first.name.number) ++ unless_found 19 x.then.at (subtask x.then.name.number)

module _ (subs : List RawSub) where
  abbrev pub first_of : RawPair → Option ℕ
  first_of x = subtask_of x.first.name.number subs

  abbrev pub second_of : RawPair → Option ℕ
  second_of x = subtask_of x.then.name.number subs

  abbrev pub pair_bound : RawPair → Option Pair
  pair_bound x = if_both (first_of x) (second_of x)

  abbrev pub written : RawPair → List Pair
  written x = if_pair (λ p. p) (pair_bound x)

  -- the parenthesis of a pair of two subtasks
  abbrev pub written_at : RawPair → List ℕ
  written_at x = if_pair (λ p. x.at) (pair_bound x)

  abbrev pub pair_faults : RawPair → List Spot
  pair_faults x = unknown_ids (λ n. subtask_of n subs) x

-- each subtask before the next where the network is ordered, and then the written pairs
abbrev pub pairs_bound : RawNet → List Pair
pairs_bound n = chain_if n.ordered (length n.subs) ++ flat_map (written n.subs) n.pairs

abbrev pub pairs_at : RawNet → List ℕ
pairs_at n = flat_map (written_at n.subs) n.pairs
