-- The strata of a compiled problem: tasks numbered by their groups, so that no edge goes up.
-- Source: this project's, after the tail-recursive problems of Alford et al., "Bound to Plan", ICAPS 2016.
use Rattle.std.specs.Prelude.{ℕ, suc, ◌≡◌, ◌≤◌, ◌↔◌, List, map, length, slice_index_or}
use Rattle.plan_model.specs.declared.values.Compiled.{Compiled}
use Rattle.plan_model.specs.plan_meaning.Network.{top_task}
use Rattle.plan_model.specs.plan_meaning.Schemas.{Schema, action, check, task}
use Rattle.plan_model.specs.plan_meaning.Strata.{Edge, IsEdge, source, target, IsRanking, IsOneGroup}
use Rattle.bound_calc.specs.declared.stratifier.ranks.Ranks.{Ranks}
use Rattle.bound_calc.specs.declared.stratifier.ranks.StratError.{StratError}
use Rattle.bound_calc.specs.declared.stratifier.ranks.StratError.TheVariants.{Cycle, Memory}
use Rattle.bound_calc.specs.stratifier.Listed.{edge_of}
use Rattle.bound_calc.specs.stratifier.NamedCycle.{AreGroupNumbers, IsNamed}

abbrev pub number_in : List ℕ → Schema → ℕ
number_in numbers (action a) = 0
number_in numbers (check m) = 0
number_in numbers (task t) = slice_index_or numbers t 0

-- numbers of the groups of the tasks and the top task, so that no edge goes up
pub record AreStrata (c : Compiled) (numbers : List ℕ) : Type 0 where
  pub groups : AreGroupNumbers c numbers
  pub small : (t : ℕ) → slice_index_or numbers t 0 ≤ top_task c
  pub not_up : (e : Edge) → IsEdge c e → number_in numbers (target c e) ≤ number_in numbers (source c e)

-- the number of a task, both its rank and its group's
abbrev pub number_of : Ranks → ℕ → ℕ
number_of ranks t = slice_index_or ranks.numbers.items t 0

abbrev pub rank_by : Ranks → Schema → ℕ
rank_by ranks = number_in ranks.numbers.items

-- the numbers, one for each task and the top task, make a lawful ranking, and tasks of one group share theirs with no other
pub record IsStratified (c : Compiled) (ranks : Ranks) : Type 0 where
  pub room : length ranks.numbers.items ≡ suc (top_task c)
  pub small : (t : ℕ) → number_of ranks t ≤ top_task c
  pub ranking : IsRanking c (rank_by ranks)
  pub groups : (t u : ℕ) → t ≤ top_task c → u ≤ top_task c → (number_of ranks t ≡ number_of ranks u) ↔ IsOneGroup c (task t) (task u)

-- a cycle is answered where it is the named one
abbrev pub IsRefused : Compiled → StratError → Type 0
IsRefused c (Cycle edges) = IsNamed c (map edge_of edges)
IsRefused c Memory = Unit {0}
